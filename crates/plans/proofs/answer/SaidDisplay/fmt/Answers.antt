use Rattle.std.proofs.Common.{arith, ◌≡◌, ℕ, List, ◌∷◌, [], ◌++◌, ap, sym}
use Rattle.std.proofs.Output.{has_written_of_eq}
use Rattle.std.proofs.lemmas.Fmt.{decimal_digit}
use Rattle.std.specs.Fmt.{decimal, signed_decimal}
use Rattle.paper.specs.Numbers.{number_of}
use Rattle.plans.specs.Heads.{value_of}
use Rattle.plans.proofs.answer.SaidDisplay.fmt.Goals as goal

zero : 48 ∷ [] ≡ decimal 0
zero = sym (decimal_digit 0 (omega arith))

pub returns-in-Ok-clause-writes : goal.returns-in-Ok-clause-writes
returns-in-Ok-clause-writes g c p ok =
    has_written_of_eq _ _ _ _ _ (rw c.in-Ok.is (ap (λ (ds : List ℕ). ds ++ 32 ∷ signed_decimal (value_of c.in-Ok.given)) zero)) (c.write.ensures.writes p ok)

pub returns-in-Err-clause-writes : goal.returns-in-Err-clause-writes
returns-in-Err-clause-writes g c p ok =
    has_written_of_eq _ _ _ _ _ (rw (c.in-Err.is, c.from.ensures) (ap (λ (ds : List ℕ). decimal (number_of c.in-Err.why) ++ 32 ∷ ds) zero)) (c.write-in-Err.ensures.writes p ok)
