use Rattle.std.proofs.Common.{ℕ, Bool, true, false, ◌≡◌, rules}
use Rattle.std.proofs.lemmas.Iterator.{first_from_Range}
use Rattle.paper.specs.Rows.{node_at, is_dummy}
use Rattle.choose.proofs.Search.{first_of}
use Rattle.choose.proofs.find_dummy.Goals as goal

pub returns : goal.returns
returns c =
    let p : ℕ → Bool = λ k. is_dummy (node_at c.args.nodes.now k) in
    first_of c.args.count p _ (first_from_Range _ _ _ _ (λ k. p k ≡ true) (λ k. p k ≡ false) c.find.ensures.ran (λ x q r. search rules) (λ x q r. search rules))
