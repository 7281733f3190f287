use Rattle.std.proofs.Common.{arith, sym, ◌∙◌}
use Rattle.join_plan.proofs.Plans.{make_facts}
use Rattle.join.proofs.inner.Goals as goal

pub write_row-requires : goal.write_row-requires
write_row-requires c = (make_facts _ _ _ _ _ _ _ _ _ (sym c.inner_plan.ensures ∙ c.in_ok-n.was)).ready

pub clear-requires : goal.clear-requires
clear-requires c = (make_facts _ _ _ _ _ _ _ _ _ (sym c.inner_plan.ensures ∙ c.in_ok-n.was)).lit_row

pub clear-requires-2 : goal.clear-requires-2
clear-requires-2 c = (make_facts _ _ _ _ _ _ _ _ _ (sym c.inner_plan.ensures ∙ c.in_ok-n.was)).mark_row

pub put_node-requires : goal.put_node-requires
put_node-requires c =
    let f = make_facts _ _ _ _ _ _ _ _ _ (sym c.inner_plan.ensures ∙ c.in_ok-n.was) in
    (f.node_row, f.small)

pub overflow_add-result : goal.overflow_add-result
overflow_add-result c = omega (arith, (make_facts _ _ _ _ _ _ _ _ _ (sym c.inner_plan.ensures ∙ c.in_ok-n.was)).node_few)
