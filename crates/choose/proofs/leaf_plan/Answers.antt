use Rattle.std.specs.Prelude.{Some, None}
use mathlib.Core.Path.{sym, ap, subst, ◌∙◌}
use lib.IntN.{ℤ}
use mir.Syntax.{w32}
use mir.ValLaws.{to_z-of_z}
use Rattle.paper.specs.Rows.{lit_ok, node_at}
use Rattle.paper.specs.Grow.{leaf_here, leaf_plan}
use Rattle.choose.specs.First.{First}
use Rattle.choose.proofs.Choose.{table_fails, literal_fails, found, new_or_full}
use Rattle.choose.proofs.leaf_plan.Goals as goal

pub returns-then-not-table_ok : goal.returns-then-not-table_ok
unfolding leaf_plan
returns-then-not-table_ok c = table_fails _ _ _ _ _ (sym c.table_ok.ensures ∙ c.if-not-table_ok.true)

pub returns-then-not-literal_ok : goal.returns-then-not-literal_ok
unfolding leaf_plan
returns-then-not-literal_ok c =
    let a = c.args in
    literal_fails _ _ _ _ _ (sym c.table_ok.ensures ∙ c.if-not-table_ok.false) (sym (c.literal_ok.ensures ∙ ap (λ (z : ℤ). lit_ok z a.c.first) (to_z-of_z w32 a.x c.ranges.x)) ∙ c.if-not-literal_ok.true)

pub returns-in-Some : goal.returns-in-Some
unfolding leaf_plan
returns-in-Some c =
    let a = c.args in
    let q = to_z-of_z w32 a.x c.ranges.x in
    found _ _ _ _ _ _ (sym c.table_ok.ensures ∙ c.if-not-table_ok.false) (sym (c.literal_ok.ensures ∙ ap (λ (z : ℤ). lit_ok z a.c.first) q) ∙ c.if-not-literal_ok.false)
    (subst (λ (z : ℤ). First a.c.nodes (λ k. leaf_here a.inputs.now (node_at a.nodes.now k) z) (Some c.in-Some.id)) q c.in-Some.ensures)

pub returns-in-None : goal.returns-in-None
unfolding leaf_plan
returns-in-None c =
    let a = c.args in
    let q = to_z-of_z w32 a.x c.ranges.x in
    new_or_full _ _ _ _ _ _ (sym c.table_ok.ensures ∙ c.if-not-table_ok.false) (sym (c.literal_ok.ensures ∙ ap (λ (z : ℤ). lit_ok z a.c.first) q) ∙ c.if-not-literal_ok.false)
    (subst (λ (z : ℤ). First a.c.nodes (λ k. leaf_here a.inputs.now (node_at a.nodes.now k) z) None) q c.in-None.ensures) (rw c.room_for_node.ensures at c.new_if.ensures)
