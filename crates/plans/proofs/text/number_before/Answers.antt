use Rattle.std.proofs.Common.{arith, rules}
use Rattle.std.proofs.lemmas.Fmt.{IsAscii-decimal, length-decimal-le}
use Rattle.std.proofs.lemmas.Str.{IsAscii-append}
use Rattle.std.specs.Fmt.{decimal}
use Rattle.plans.proofs.text.number_before.Goals as goal

pub write_digits-requires : goal.write_digits-requires
write_digits-requires c =
    (omega (arith, length-decimal-le 20 c.args.n (omega arith) (omega arith) (omega arith)), search rules)

pub returns-clause-short : goal.returns-clause-short
returns-clause-short c =
    omega (arith, length-decimal-le 20 c.args.n (omega arith) (omega arith) (omega arith))

pub returns-clause-ascii : goal.returns-clause-ascii
returns-clause-ascii c h =
    rw c.write_digits.ensures.written (IsAscii-append (decimal c.args.n) _ (IsAscii-decimal c.args.n (omega arith)) h)
