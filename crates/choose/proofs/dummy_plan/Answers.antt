use mathlib.Core.Path.{refl, sym, ◌∙◌}
use Rattle.paper.specs.Grow.{dummy_plan}
use Rattle.choose.proofs.Choose.{table_fails, found, new_or_full}
use Rattle.choose.proofs.dummy_plan.Goals as goal

pub returns-then-not-table_ok : goal.returns-then-not-table_ok
unfolding dummy_plan
returns-then-not-table_ok c = table_fails _ _ _ _ _ (sym c.table_ok.ensures ∙ c.if-not-table_ok.true)

pub returns-in-Some : goal.returns-in-Some
unfolding dummy_plan
returns-in-Some c = found _ _ _ _ _ _ (sym c.table_ok.ensures ∙ c.if-not-table_ok.false) refl c.in-Some.ensures

pub returns-in-None : goal.returns-in-None
unfolding dummy_plan
returns-in-None c = new_or_full _ _ _ _ _ _ (sym c.table_ok.ensures ∙ c.if-not-table_ok.false) refl c.in-None.ensures (rw c.room_for_node.ensures at c.new_if.ensures)
