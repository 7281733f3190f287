use Rattle.std.specs.Prelude.{Some}
use native.Mathlib.Omega.{arith}
use mathlib.Core.Path.{◌≡◌, sym, ap, ◌∙◌}
use lib.ListN.{length}
use Rattle.paper.specs.Weighted.{output_of}
use Rattle.paper.specs.Demand.{cells_used, sum_place}
use Rattle.paper.specs.declared.Node.{Node}
use Rattle.facts.proofs.Facts.{table_facts, words_fit, used_length}
use Rattle.find.proofs.Laws.{sorted_by}
use Rattle.sums.proofs.Laws.{sorted_of, ready_of, here_at, work_cells, fails_table, fails_work, fails_node, fails_output, met_answer}
use Rattle.sums.proofs.define_weighted.Goals as goal

pub returns-then-not-table_ok-clause-value : goal.returns-then-not-table_ok-clause-value
returns-then-not-table_ok-clause-value c = fails_table c.args.nodes.now c.args.inputs.now c.args.keys.now c.args.lits.now c.args.marks.now (length c.args.clauses.now) (length c.args.ints.now) (length c.args.bytes.now) c.args.c c.args.id c.args.v (sym c.table_ok.ensures ∙ c.if-not-table_ok.true)

pub returns-then-not-work_ok-clause-value : goal.returns-then-not-work_ok-clause-value
returns-then-not-work_ok-clause-value c = let t = sym c.table_ok.ensures ∙ c.if-not-table_ok.false in fails_work c.args.nodes.now c.args.inputs.now c.args.keys.now c.args.lits.now c.args.marks.now (length c.args.clauses.now) (length c.args.ints.now) (length c.args.bytes.now) c.args.c c.args.id c.args.v t (sym c.work_ok.ensures ∙ c.if-not-work_ok.true)

pub returns-then-c-id-clause-value : goal.returns-then-c-id-clause-value
returns-then-c-id-clause-value c = let t = sym c.table_ok.ensures ∙ c.if-not-table_ok.false in
    let w = sym c.work_ok.ensures ∙ c.if-not-work_ok.false in fails_node c.args.nodes.now c.args.inputs.now c.args.keys.now c.args.lits.now c.args.marks.now (length c.args.clauses.now) (length c.args.ints.now) (length c.args.bytes.now) c.args.c c.args.id c.args.v t w (omega (arith, c.if-c-id.true))

pub overflow_mul-words : goal.overflow_mul-words
overflow_mul-words c = let t = sym c.table_ok.ensures ∙ c.if-not-table_ok.false in
    let f = table_facts _ _ _ _ _ _ _ _ t in
    record { fits = omega (arith, f.counters.node_limit_met) }

pub slice_bounds-output_of-end : goal.slice_bounds-output_of-end
slice_bounds-output_of-end c = let t = sym c.table_ok.ensures ∙ c.if-not-table_ok.false in
    let f = table_facts _ _ _ _ _ _ _ _ t in
    sym (used_length _ _ f.counters.cell_row)

pub output_of-requires : goal.output_of-requires
output_of-requires c = let t = sym c.table_ok.ensures ∙ c.if-not-table_ok.false in
    let f = table_facts _ _ _ _ _ _ _ _ t in
    sorted_by _ _ _ c.node_at-n.ensures (sorted_of c.args.nodes.now f (omega (arith, c.well_formed.1.1.1.1.1.0)) c.args.id (omega (arith, c.if-c-id.false)))

pub returns-in_default-clause-value : goal.returns-in_default-clause-value
returns-in_default-clause-value c = let t = sym c.table_ok.ensures ∙ c.if-not-table_ok.false in
    let w = sym c.work_ok.ensures ∙ c.if-not-work_ok.false in fails_output c.args.nodes.now c.args.inputs.now c.args.keys.now c.args.lits.now c.args.marks.now (length c.args.clauses.now) (length c.args.ints.now) (length c.args.bytes.now) c.args.c c.args.id c.args.v t w (omega (arith, c.if-c-id.false)) (sym (c.output_of.ensures ∙ ap (λ (n : Node). output_of (cells_used c.args.keys.now c.args.c) n c.args.v) c.node_at-n.ensures) ∙ c.in_default.is)

pub slice_bounds-tree-end : goal.slice_bounds-tree-end
slice_bounds-tree-end c = let t = sym c.table_ok.ensures ∙ c.if-not-table_ok.false in
    let f = table_facts _ _ _ _ _ _ _ _ t in
    sym (used_length _ _ (words_fit f.counters))

pub slice_bounds-tree-end-2 : goal.slice_bounds-tree-end-2
slice_bounds-tree-end-2 c = let t = sym c.table_ok.ensures ∙ c.if-not-table_ok.false in
    let f = table_facts _ _ _ _ _ _ _ _ t in
    sym (used_length _ _ f.input_row)

pub slice_bounds-tree-end-3 : goal.slice_bounds-tree-end-3
slice_bounds-tree-end-3 c = let t = sym c.table_ok.ensures ∙ c.if-not-table_ok.false in
    let f = table_facts _ _ _ _ _ _ _ _ t in
    sym (used_length _ _ f.counters.cell_row)

pub slice_bounds-copy_and_meet-end : goal.slice_bounds-copy_and_meet-end
slice_bounds-copy_and_meet-end c = let t = sym c.table_ok.ensures ∙ c.if-not-table_ok.false in
    let f = table_facts _ _ _ _ _ _ _ _ t in
    f.lit_row

pub slice_bounds-copy_and_meet-end-2 : goal.slice_bounds-copy_and_meet-end-2
slice_bounds-copy_and_meet-end-2 c = let t = sym c.table_ok.ensures ∙ c.if-not-table_ok.false in
    let f = table_facts _ _ _ _ _ _ _ _ t in
    sym (used_length _ _ f.lit_row)

pub slice_bounds-copy_and_meet-end-3 : goal.slice_bounds-copy_and_meet-end-3
slice_bounds-copy_and_meet-end-3 c = let t = sym c.table_ok.ensures ∙ c.if-not-table_ok.false in
    let f = table_facts _ _ _ _ _ _ _ _ t in
    f.mark_row

pub slice_bounds-copy_and_meet-end-4 : goal.slice_bounds-copy_and_meet-end-4
slice_bounds-copy_and_meet-end-4 c = let t = sym c.table_ok.ensures ∙ c.if-not-table_ok.false in
    let f = table_facts _ _ _ _ _ _ _ _ t in
    sym (used_length _ _ f.mark_row)

pub slice_bounds-copy_and_meet-end-5 : goal.slice_bounds-copy_and_meet-end-5
slice_bounds-copy_and_meet-end-5 c = let w = sym c.work_ok.ensures ∙ c.if-not-work_ok.false in
    (work_cells _ _ _ w).0

pub slice_bounds-copy_and_meet-end-6 : goal.slice_bounds-copy_and_meet-end-6
slice_bounds-copy_and_meet-end-6 c = let w = sym c.work_ok.ensures ∙ c.if-not-work_ok.false in
    sym (used_length _ _ (work_cells _ _ _ w).0)

pub slice_bounds-copy_and_meet-end-7 : goal.slice_bounds-copy_and_meet-end-7
slice_bounds-copy_and_meet-end-7 c = let w = sym c.work_ok.ensures ∙ c.if-not-work_ok.false in
    (work_cells _ _ _ w).1

pub slice_bounds-copy_and_meet-end-8 : goal.slice_bounds-copy_and_meet-end-8
slice_bounds-copy_and_meet-end-8 c = let w = sym c.work_ok.ensures ∙ c.if-not-work_ok.false in
    sym (used_length _ _ (work_cells _ _ _ w).1)

pub copy_and_meet-requires-clause-ready : goal.copy_and_meet-requires-clause-ready
copy_and_meet-requires-clause-ready c = let t = sym c.table_ok.ensures ∙ c.if-not-table_ok.false in
    let w = sym c.work_ok.ensures ∙ c.if-not-work_ok.false in
    let f = table_facts _ _ _ _ _ _ _ _ t in
    let e : sum_place c.args.nodes.now c.args.keys.now c.args.c c.args.id c.args.v ≡ Some c.in-Some.j = sym (c.output_of.ensures ∙ ap (λ (n : Node). output_of (cells_used c.args.keys.now c.args.c) n c.args.v) c.node_at-n.ensures) ∙ c.in-Some.is in
    let a = work_cells _ _ _ w in ready_of c.args.nodes.now f (omega (arith, c.well_formed.1.1.1.1.1.0))

pub copy_and_meet-requires-clause-here : goal.copy_and_meet-requires-clause-here
copy_and_meet-requires-clause-here c = let t = sym c.table_ok.ensures ∙ c.if-not-table_ok.false in
    let w = sym c.work_ok.ensures ∙ c.if-not-work_ok.false in
    let f = table_facts _ _ _ _ _ _ _ _ t in
    let e : sum_place c.args.nodes.now c.args.keys.now c.args.c c.args.id c.args.v ≡ Some c.in-Some.j = sym (c.output_of.ensures ∙ ap (λ (n : Node). output_of (cells_used c.args.keys.now c.args.c) n c.args.v) c.node_at-n.ensures) ∙ c.in-Some.is in
    let a = work_cells _ _ _ w in here_at c.args.nodes.now f (omega (arith, c.well_formed.1.1.1.1.1.0)) c.args.id c.args.v _ (omega (arith, c.if-c-id.false)) e

pub copy_and_meet-requires-clause-ints_len : goal.copy_and_meet-requires-clause-ints_len
copy_and_meet-requires-clause-ints_len c = let t = sym c.table_ok.ensures ∙ c.if-not-table_ok.false in
    let w = sym c.work_ok.ensures ∙ c.if-not-work_ok.false in
    let f = table_facts _ _ _ _ _ _ _ _ t in
    let a = work_cells _ _ _ w in (used_length _ _ a.0 ∙ sym (used_length _ _ f.lit_row), used_length _ _ a.1 ∙ sym (used_length _ _ f.mark_row))

pub returns-clause-value : goal.returns-clause-value
returns-clause-value c = let t = sym c.table_ok.ensures ∙ c.if-not-table_ok.false in
    let w = sym c.work_ok.ensures ∙ c.if-not-work_ok.false in
    let e : sum_place c.args.nodes.now c.args.keys.now c.args.c c.args.id c.args.v ≡ Some c.in-Some.j = sym (c.output_of.ensures ∙ ap (λ (n : Node). output_of (cells_used c.args.keys.now c.args.c) n c.args.v) c.node_at-n.ensures) ∙ c.in-Some.is in met_answer c.args.nodes.now c.args.inputs.now c.args.keys.now c.args.lits.now c.args.marks.now c.args.clauses.now (length c.args.ints.now) (length c.args.bytes.now) c.args.c c.args.id c.args.v _ t w (omega (arith, c.if-c-id.false)) e _ _ _ _ c.copy_and_meet.ensures
