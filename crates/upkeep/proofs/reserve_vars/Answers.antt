use Rattle.std.proofs.Common.{◌+◌, arith, refl, sym, ap, ◌∙◌}
use borrow.Author.Tests.{lt-ltb}
use Rattle.paper.specs.Upkeep.{Stock, reserve_of}
use Rattle.reserve.proofs.Dry.{shape_more, dry_some, no_room}
use Rattle.upkeep.proofs.Answers.{table_gives, work_gives, enough, reserve_no_vars, reserved}
use Rattle.upkeep.proofs.reserve_vars.Goals as goal

pub dry_run-d-requires-clause-id_lt_count : goal.dry_run-d-requires-clause-id_lt_count
dry_run-d-requires-clause-id_lt_count c =
    let g = table_gives _ _ _ _ _ _ _ (sym c.table_ok.ensures ∙ c.if-not-table_ok.false) in
    let k = work_gives _ _ _ (sym c.work_ok.ensures ∙ c.if-not-work_ok.false) in
    (c.if-count-id.false, k.nodes, g.row, k.cells, g.few)

pub dry_run-d-requires-clause-shape : goal.dry_run-d-requires-clause-shape
dry_run-d-requires-clause-shape c = (table_gives _ _ _ _ _ _ _ (sym c.table_ok.ensures ∙ c.if-not-table_ok.false)).shape

pub overflow_add-c : goal.overflow_add-c
overflow_add-c c = omega (arith, (table_gives _ _ _ _ _ _ _ (sym c.table_ok.ensures ∙ c.if-not-table_ok.false)).last_high)

pub overflow_sub-c : goal.overflow_sub-c
overflow_sub-c c = omega (arith, (table_gives _ _ _ _ _ _ _ (sym c.table_ok.ensures ∙ c.if-not-table_ok.false)).next_high)

pub overflow_sub-d : goal.overflow_sub-d
overflow_sub-d c = omega (arith, dry_some c.args.nodes.now c.args.lits.now c.args.id c.dry_run-d.result c.dry_run-d.ensures)

pub returns-then-c-from : goal.returns-then-c-from
unfolding reserve_of
returns-then-c-from c =
    let checked = sym c.table_ok.ensures ∙ c.if-not-table_ok.false in
    let g = table_gives _ _ _ _ _ _ _ checked in (
      reserve_no_vars _ _ _ _ _ checked (sym c.work_ok.ensures ∙ c.if-not-work_ok.false) (lt-ltb _ _ c.if-count-id.false)
          (no_room c.args.nodes.now c.args.lits.now c.args.id c.args.c.next c.dry_run-d.result c.args.c.last g.some g.next_high c.if-c-from.true c.dry_run-d.ensures),
      refl,
    )

pub clear-requires : goal.clear-requires
clear-requires c = omega (arith, (work_gives _ _ _ (sym c.work_ok.ensures ∙ c.if-not-work_ok.false)).nodes, c.dry_run-d.auto.flags)

pub reserve_node-next-requires-clause-id_lt_count : goal.reserve_node-next-requires-clause-id_lt_count
reserve_node-next-requires-clause-id_lt_count c =
    let g = table_gives _ _ _ _ _ _ _ (sym c.table_ok.ensures ∙ c.if-not-table_ok.false) in
    let k = work_gives _ _ _ (sym c.work_ok.ensures ∙ c.if-not-work_ok.false) in
    (c.if-count-id.false, omega (arith, k.nodes, c.dry_run-d.auto.flags, c.clear.auto.row), g.some)

pub reserve_node-next-requires-clause-shape : goal.reserve_node-next-requires-clause-shape
reserve_node-next-requires-clause-shape c =
    let g = table_gives _ _ _ _ _ _ _ (sym c.table_ok.ensures ∙ c.if-not-table_ok.false) in
    shape_more c.args.nodes.now c.args.c.nodes c.args.c.cells _ g.row g.shape

pub reserve_node-next-requires-clause-room : goal.reserve_node-next-requires-clause-room
reserve_node-next-requires-clause-room c =
    let g = table_gives _ _ _ _ _ _ _ (sym c.table_ok.ensures ∙ c.if-not-table_ok.false) in
    let m = enough c.args.nodes.now c.args.lits.now c.args.c c.args.id c.dry_run-d.result g (omega (arith, c.if-c-from.false)) c.dry_run-d.ensures in
    record { fuel = c.args.id + 1; above = omega arith; low = omega (arith, m, g.last_high) }

pub returns : goal.returns
unfolding reserve_of
returns c =
    let checked = sym c.table_ok.ensures ∙ c.if-not-table_ok.false in
    let g = table_gives _ _ _ _ _ _ _ checked in
    let m = enough c.args.nodes.now c.args.lits.now c.args.c c.args.id c.dry_run-d.result g (omega (arith, c.if-c-from.false)) c.dry_run-d.ensures in
    let is = c.reserve_node-next.ensures.is (c.args.id + 1) (omega arith) in
    (reserved _ _ _ c.args.c _ _ _ checked (sym c.work_ok.ensures ∙ c.if-not-work_ok.false) (lt-ltb _ _ c.if-count-id.false) m is, ap (λ (u : Stock). u.lits) is)
