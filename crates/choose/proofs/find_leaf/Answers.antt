use Rattle.std.proofs.Common.{ℕ, Bool, true, false, ◌≡◌, rules}
use Rattle.std.proofs.lemmas.Iterator.{first_from_Range}
use Rattle.paper.specs.Rows.{node_at}
use Rattle.paper.specs.Grow.{leaf_here}
use Rattle.choose.proofs.Search.{first_of}
use Rattle.choose.proofs.find_leaf.Goals as goal

pub returns : goal.returns
returns c =
    let p : ℕ → Bool = λ k. leaf_here c.args.inputs.now (node_at c.args.nodes.now k) c.args.x in
    first_of c.args.count p _ (first_from_Range _ _ _ _ (λ k. p k ≡ true) (λ k. p k ≡ false) c.find.ensures.ran (λ x q r. search rules) (λ x q r. search rules))
