use Prim.Native.Nat.{ℕ, ◌+◌}
use Rattle.std.proofs.Common.{refl, rules, Bool, arith, ◌∙◌}
use Rattle.std.proofs.lemmas.Iterator.{YieldsList-from_range}
use Rattle.std.proofs.lemmas.Iterator.Search.{all_from_yields_List}
use borrow.Author.Tests.{tests}
use lib.Dec.{eqb}
use Rattle.paper.specs.Rows.{word_from}
use Rattle.rows.proofs.Chains.{all_range}
use Rattle.rows.proofs.keys_count.Goals as goal

pub returns : goal.returns
returns c =
    let q : ℕ → Bool = λ (j : ℕ). eqb (word_from c.args.keys.now c.args.first j) (j + 1) in
    all_from_yields_List q _ _ _ c.all.ensures.ran (YieldsList-from_range 0 c.args.count c.args.count refl (omega arith)) (λ x b r k. search (rules, tests))
    ∙ all_range c.args.count q
