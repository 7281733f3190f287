use Rattle.std.proofs.Common.{◌≡◌, ◌∙◌, List, [], ◌∷◌, ◌++◌, ap, append_assoc, arith, drop, sym, ℕ}
use Rattle.std.proofs.lemmas.Fmt.{decimal_digit}
use Rattle.std.specs.Fmt.{decimal, signed_decimal}
use Rattle.paper.specs.Numbers.{number_of}
use Rattle.plans.specs.Heads.{value_of}
use Rattle.plans_turns.proofs.answers.said_before.Goals as goal

zero : 48 ∷ [] ≡ decimal 0
zero = sym (decimal_digit 0 (omega arith))

pub returns-in-Ok-clause-written : goal.returns-in-Ok-clause-written
returns-in-Ok-clause-written c =
    let given = signed_decimal (value_of c.in-Ok.given) in
    let rest = drop c.args.at c.args.text.now in
    rw c.in-Ok.is (c.bytes_before.ensures.written ∙ ap (λ (ds : List ℕ). 48 ∷ 32 ∷ ds) c.given_before-start.ensures.written ∙ ap (λ (ds : List ℕ). (ds ++ 32 ∷ given) ++ rest) zero)

pub returns-in-Err-clause-written : goal.returns-in-Err-clause-written
returns-in-Err-clause-written c =
    let number = decimal (number_of c.in-Err.why) in
    let rest = drop c.args.at c.args.text.now in
    rw c.in-Err.is (c.number_before.ensures.written ∙ ap (λ (ds : List ℕ). decimal c.from.result ++ ds) c.bytes_before-start.ensures.written ∙ ap (λ n. decimal n ++ 32 ∷ 48 ∷ rest) c.from.ensures ∙ ap (λ (ds : List ℕ). number ++ 32 ∷ (ds ++ rest)) zero ∙ sym (append_assoc number (32 ∷ decimal 0) rest))
