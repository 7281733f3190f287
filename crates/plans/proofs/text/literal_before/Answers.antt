use Rattle.std.proofs.Common.{arith}
use Rattle.std.proofs.lemmas.Fmt.{length-decimal-le}
use Rattle.plans.proofs.text.literal_before.Goals as goal

pub returns-then-x-ge0-clause-short : goal.returns-then-x-ge0-clause-short
returns-then-x-ge0-clause-short c =
    omega (arith, length-decimal-le 10 c.unsigned_abs.result (omega arith) (omega arith) (omega arith))

pub returns-clause-short : goal.returns-clause-short
returns-clause-short c =
    omega (arith, length-decimal-le 10 c.unsigned_abs.result (omega arith) (omega arith) (omega arith))
