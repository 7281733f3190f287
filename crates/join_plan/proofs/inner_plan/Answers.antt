use Rattle.std.proofs.Common.{sym, ◌∙◌}
use Rattle.join_plan.proofs.Plans.{mul_facts, child_facts}
use Rattle.join_plan.proofs.inner_plan.Goals as goal

pub unit_plan-requires : goal.unit_plan-requires
unit_plan-requires c =
    let f = child_facts _ _ _ _ _ _ _ _ _ (sym c.table_ok.ensures ∙ c.if-not-table_ok.false) c.if-c-j.false _ _ c.node_at-l.ensures c.node_at-r.ensures in
    (f.left_few, f.right_few)

pub general_plan-requires-clause-lmul_le_mul_limit : goal.general_plan-requires-clause-lmul_le_mul_limit
general_plan-requires-clause-lmul_le_mul_limit c =
    let f = child_facts _ _ _ _ _ _ _ _ _ (sym c.table_ok.ensures ∙ c.if-not-table_ok.false) c.if-c-j.false _ _ c.node_at-l.ensures c.node_at-r.ensures in
    let m = mul_facts _ _ (sym c.muls_ok.ensures ∙ c.if-not-muls_ok.false) in
    (m.lmul_high, m.rmul_high, f.cell_few)

pub general_plan-requires-clause-mono : goal.general_plan-requires-clause-mono
general_plan-requires-clause-mono c =
    let f = child_facts _ _ _ _ _ _ _ _ _ (sym c.table_ok.ensures ∙ c.if-not-table_ok.false) c.if-c-j.false _ _ c.node_at-l.ensures c.node_at-r.ensures in
    (f.left_mono, f.right_mono)
