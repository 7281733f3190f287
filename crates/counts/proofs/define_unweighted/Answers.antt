use borrow.Author.Tests.{eqb-true}
use Rattle.std.proofs.lemmas.Bool.{eqb-false}
use Rattle.paper.specs.Rows.{is_general}
use mathlib.Core.Path.{sym, ap, ◌∙◌}
use Prim.Native.Nat.{◌≤◌, ◌<◌, ◌^◌}
use native.Mathlib.Omega.{arith}
use lib.ListN.{length}
use Rattle.paper.specs.Rows.{node_at, value_count}
use Rattle.facts.proofs.Facts.{table_facts, used_length, words_fit}
use Rattle.runs.proofs.Used.{fit_of}
use Rattle.counts.proofs.Answer.{no_table, no_work, no_node, no_unit, no_output, answered, here, room, bounds}
use Rattle.counts.proofs.define_unweighted.Goals as goal

pub returns-then-not-table_ok-clause-value : goal.returns-then-not-table_ok-clause-value
returns-then-not-table_ok-clause-value c =
    sym (no_table _ _ _ _ _ c.args.clauses.now _ _ _ _ _ _ (sym c.table_ok.ensures ∙ c.if-not-table_ok.true))

pub returns-then-not-work_ok-clause-value : goal.returns-then-not-work_ok-clause-value
returns-then-not-work_ok-clause-value c =
    let t = sym c.table_ok.ensures ∙ c.if-not-table_ok.false in
    sym (no_work _ _ _ _ _ c.args.clauses.now _ _ _ _ _ _ t (sym c.work_ok.ensures ∙ c.if-not-work_ok.true))

pub returns-then-c-id-clause-value : goal.returns-then-c-id-clause-value
returns-then-c-id-clause-value c =
    let t = sym c.table_ok.ensures ∙ c.if-not-table_ok.false in
    let w = sym c.work_ok.ensures ∙ c.if-not-work_ok.false in
    sym (no_node _ _ _ _ _ c.args.clauses.now _ _ _ _ _ _ t w c.if-c-id.true)

pub returns-then-is_general-clause-value : goal.returns-then-is_general-clause-value
returns-then-is_general-clause-value c =
    let t = sym c.table_ok.ensures ∙ c.if-not-table_ok.false in
    let w = sym c.work_ok.ensures ∙ c.if-not-work_ok.false in
    sym (no_unit _ _ _ _ _ c.args.clauses.now _ _ _ _ _ _ t w c.if-c-id.false (eqb-true _ 2 (ap is_general (sym c.node_at-n.ensures) ∙ sym c.is_general.ensures ∙ c.if-is_general.true)))

pub returns-then-value_count-i-clause-value : goal.returns-then-value_count-i-clause-value
returns-then-value_count-i-clause-value c =
    let t = sym c.table_ok.ensures ∙ c.if-not-table_ok.false in
    let w = sym c.work_ok.ensures ∙ c.if-not-work_ok.false in
    let o : value_count (node_at c.args.nodes.now c.args.id) ≤ c.args.i = omega (arith, c.if-value_count-i.true, c.value_count.ensures, ap value_count c.node_at-n.ensures) in
    sym (no_output _ _ _ _ _ c.args.clauses.now _ _ _ _ _ _ t w c.if-c-id.false (eqb-false _ 2 (ap is_general (sym c.node_at-n.ensures) ∙ sym c.is_general.ensures ∙ c.if-is_general.false)) o)

pub overflow_mul-words : goal.overflow_mul-words
overflow_mul-words c =
    let t = sym c.table_ok.ensures ∙ c.if-not-table_ok.false in
    let f = table_facts _ _ _ _ _ _ _ _ t in
    omega (arith, words_fit f.counters, c.well_formed)

pub slice_bounds-tree-end : goal.slice_bounds-tree-end
slice_bounds-tree-end c =
    let t = sym c.table_ok.ensures ∙ c.if-not-table_ok.false in
    let f = table_facts _ _ _ _ _ _ _ _ t in
    sym (used_length _ _ (words_fit f.counters))

pub slice_bounds-tree-end-2 : goal.slice_bounds-tree-end-2
slice_bounds-tree-end-2 c =
    let t = sym c.table_ok.ensures ∙ c.if-not-table_ok.false in
    let f = table_facts _ _ _ _ _ _ _ _ t in
    sym (used_length _ _ f.input_row)

pub slice_bounds-meet-end : goal.slice_bounds-meet-end
slice_bounds-meet-end c =
    let t = sym c.table_ok.ensures ∙ c.if-not-table_ok.false in
    let f = table_facts _ _ _ _ _ _ _ _ t in
    f.lit_row

pub slice_bounds-meet-end-2 : goal.slice_bounds-meet-end-2
slice_bounds-meet-end-2 c =
    let t = sym c.table_ok.ensures ∙ c.if-not-table_ok.false in
    let f = table_facts _ _ _ _ _ _ _ _ t in
    sym (used_length _ _ f.lit_row)

pub slice_bounds-meet-end-3 : goal.slice_bounds-meet-end-3
slice_bounds-meet-end-3 c =
    let t = sym c.table_ok.ensures ∙ c.if-not-table_ok.false in
    let f = table_facts _ _ _ _ _ _ _ _ t in
    f.mark_row

pub slice_bounds-meet-end-4 : goal.slice_bounds-meet-end-4
slice_bounds-meet-end-4 c =
    let t = sym c.table_ok.ensures ∙ c.if-not-table_ok.false in
    let f = table_facts _ _ _ _ _ _ _ _ t in
    sym (used_length _ _ f.mark_row)

pub meet-requires-clause-fit : goal.meet-requires-clause-fit
meet-requires-clause-fit c =
    let t = sym c.table_ok.ensures ∙ c.if-not-table_ok.false in
    let f = table_facts _ _ _ _ _ _ _ _ t in
    let small : length c.args.clauses.now ≤ 2 ^ 62 = omega (arith, c.well_formed) in
    fit_of c.args.nodes.now f small

pub meet-requires-clause-here : goal.meet-requires-clause-here
meet-requires-clause-here c =
    let t = sym c.table_ok.ensures ∙ c.if-not-table_ok.false in
    let f = table_facts _ _ _ _ _ _ _ _ t in
    let o : c.args.i < value_count (node_at c.args.nodes.now c.args.id) = omega (arith, c.if-value_count-i.false, c.value_count.ensures, ap value_count c.node_at-n.ensures) in
    here c.args.nodes.now f c.if-c-id.false o

pub meet-requires-clause-asked : goal.meet-requires-clause-asked
meet-requires-clause-asked c =
    let t = sym c.table_ok.ensures ∙ c.if-not-table_ok.false in
    let f = table_facts _ _ _ _ _ _ _ _ t in
    let o : c.args.i < value_count (node_at c.args.nodes.now c.args.id) = omega (arith, c.if-value_count-i.false, c.value_count.ensures, ap value_count c.node_at-n.ensures) in
    here c.args.nodes.now f c.if-c-id.false o

pub meet-requires-clause-lits_in_bounds : goal.meet-requires-clause-lits_in_bounds
meet-requires-clause-lits_in_bounds c =
    let t = sym c.table_ok.ensures ∙ c.if-not-table_ok.false in
    let f = table_facts _ _ _ _ _ _ _ _ t in
    room c.args.nodes.now f (sym c.work_ok.ensures ∙ c.if-not-work_ok.false)

pub meet-requires-clause-lits_len_bound : goal.meet-requires-clause-lits_len_bound
meet-requires-clause-lits_len_bound c =
    let t = sym c.table_ok.ensures ∙ c.if-not-table_ok.false in
    let f = table_facts _ _ _ _ _ _ _ _ t in
    bounds c.args.nodes.now f

pub returns-clause-value : goal.returns-clause-value
returns-clause-value c =
    let t = sym c.table_ok.ensures ∙ c.if-not-table_ok.false in
    let w = sym c.work_ok.ensures ∙ c.if-not-work_ok.false in
    let o : c.args.i < value_count (node_at c.args.nodes.now c.args.id) = omega (arith, c.if-value_count-i.false, c.value_count.ensures, ap value_count c.node_at-n.ensures) in
    (answered _ _ _ _ _ c.args.clauses.now _ _ _ _ _ _ t w c.if-c-id.false (eqb-false _ 2 (ap is_general (sym c.node_at-n.ensures) ∙ sym c.is_general.ensures ∙ c.if-is_general.false)) o _ c.from.ensures _ _ _ _ c.meet.ensures).0
