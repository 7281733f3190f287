use mathlib.Core.Path.{◌∙◌}
use Rattle.paper.specs.Kinds.{not_unit}
use Rattle.count.proofs.Plan.{plan_is_unit, plan_not_unit}
use Rattle.count.proofs.precond_unweighted.Goals as goal

pub returns-in-Unit : goal.returns-in-Unit
returns-in-Unit c =
    c.precond_unit.ensures ∙ plan_is_unit _ _ _ _ _ _ _ c.node_at-n.ensures c.in-Unit.ensures c.missing-todo.ensures

pub returns-in_default : goal.returns-in_default
returns-in_default c = plan_not_unit _ _ _ _ _ _ c.node_at-n.ensures (not_unit _ _ c.kind_of.ensures c.in_default.not-Unit)
