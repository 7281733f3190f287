use native.Mathlib.Omega.{arith}
use mathlib.Core.Path.{sym, ◌∙◌}
use Rattle.paper.specs.Rows.{value_at}
use Rattle.rows.proofs.value_at.Goals as goal

pub returns-then-is_leaf : goal.returns-then-is_leaf
unfolding value_at
returns-then-is_leaf c = (simp (sym c.is_leaf.ensures ∙ c.if-is_leaf.true), omega arith)

pub returns-else-is_leaf : goal.returns-else-is_leaf
unfolding value_at
returns-else-is_leaf c = (simp (sym c.is_leaf.ensures ∙ c.if-is_leaf.false) c.word_from.ensures.0, c.word_from.ensures.1)
