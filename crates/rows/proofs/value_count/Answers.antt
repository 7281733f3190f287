use mathlib.Core.Path.{sym, ◌∙◌}
use Rattle.paper.specs.Rows.{value_count}
use Rattle.rows.proofs.value_count.Goals as goal

-- `rows::value_count` meets its contract. Assumes nothing.

pub returns-then-is_leaf : goal.returns-then-is_leaf
unfolding value_count
returns-then-is_leaf c = simp (sym c.is_leaf.ensures ∙ c.if-is_leaf.true)

pub returns-then-is_dummy : goal.returns-then-is_dummy
unfolding value_count
returns-then-is_dummy c = simp (sym c.is_leaf.ensures ∙ c.if-is_leaf.false, sym c.is_dummy.ensures ∙ c.if-is_dummy.true)

pub returns-else-is_dummy : goal.returns-else-is_dummy
unfolding value_count
returns-else-is_dummy c = simp (sym c.is_leaf.ensures ∙ c.if-is_leaf.false, sym c.is_dummy.ensures ∙ c.if-is_dummy.false)
