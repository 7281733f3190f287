use Rattle.std.proofs.Common.{◌≡◌, ◌∙◌, ◌≤◌, ◌++◌, ℕ, List, ap, drop, length, min, replicate, take}
use Rattle.std.proofs.Math.Nat.{min-eq_left}
use Rattle.std.proofs.lemmas.List.{length-replicate, length-take-le, take_at}
use Rattle.plans_rows.proofs.db.clear.Goals as goal

filled : {A : Type 0} → (n m : ℕ) (z : A) (f row : List A) → f ≡ replicate (length (take m row)) z → m ≡ min n (length row) → n ≤ length row → take n (f ++ drop m row) ≡ replicate n z
filled n m z f row ef em le =
    let e : m ≡ n = em ∙ min-eq_left le in
    let len : length (take m row) ≡ n = ap (λ k. length (take k row)) e ∙ length-take-le n row le in
    let fe : f ≡ replicate n z = ef ∙ ap (λ k. replicate k z) len in
    take_at f (drop m row) n (ap length fe ∙ length-replicate n z) ∙ fe

pub returns-clause-zeros : goal.returns-clause-zeros
returns-clause-zeros g c same le =
    filled c.args.n c.min-most.result c.args.zero c.fill.new.self c.args.row.now (c.fill.ensures.after same) c.min-most.ensures le
