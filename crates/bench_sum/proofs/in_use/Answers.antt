use mathlib.Core.Path.{sym, ◌∙◌}
use Prim.Native.Nat.{◌≤◌, ◌^◌}
use native.Mathlib.Omega.{arith}
use lib.ListN.{length}
use Rattle.facts.proofs.Facts.{table_facts, words_fit, used_length}
use Rattle.runs.specs.Used.{run_of}
use Rattle.sums.proofs.Laws.{ready_of}
use Rattle.bench_sum.proofs.Laws.{moved}
use Rattle.bench_sum.proofs.in_use.Goals as goal

pub overflow_mul-words : goal.overflow_mul-words
overflow_mul-words c = let t = sym c.table_ok.ensures ∙ c.if-not-table_ok.false in
    let f = table_facts _ _ _ _ _ _ _ _ t in
    record { fits = omega (arith, f.counters.node_limit_met) }

pub slice_bounds-tree-end : goal.slice_bounds-tree-end
slice_bounds-tree-end c = let t = sym c.table_ok.ensures ∙ c.if-not-table_ok.false in
    let f = table_facts _ _ _ _ _ _ _ _ t in
    sym (used_length _ _ (words_fit f.counters))

pub slice_bounds-tree-end-2 : goal.slice_bounds-tree-end-2
slice_bounds-tree-end-2 c = let t = sym c.table_ok.ensures ∙ c.if-not-table_ok.false in
    let f = table_facts _ _ _ _ _ _ _ _ t in
    sym (used_length _ _ f.input_row)

pub slice_bounds-tree-end-3 : goal.slice_bounds-tree-end-3
slice_bounds-tree-end-3 c = let t = sym c.table_ok.ensures ∙ c.if-not-table_ok.false in
    let f = table_facts _ _ _ _ _ _ _ _ t in
    sym (used_length _ _ f.counters.cell_row)

pub slice_bounds-encoder-end : goal.slice_bounds-encoder-end
slice_bounds-encoder-end c = let t = sym c.table_ok.ensures ∙ c.if-not-table_ok.false in
    let f = table_facts _ _ _ _ _ _ _ _ t in
    f.lit_row

pub slice_bounds-encoder-end-2 : goal.slice_bounds-encoder-end-2
slice_bounds-encoder-end-2 c = let t = sym c.table_ok.ensures ∙ c.if-not-table_ok.false in
    let f = table_facts _ _ _ _ _ _ _ _ t in
    sym (used_length _ _ f.lit_row)

pub slice_bounds-encoder-end-3 : goal.slice_bounds-encoder-end-3
slice_bounds-encoder-end-3 c = let t = sym c.table_ok.ensures ∙ c.if-not-table_ok.false in
    let f = table_facts _ _ _ _ _ _ _ _ t in
    f.mark_row

pub slice_bounds-encoder-end-4 : goal.slice_bounds-encoder-end-4
slice_bounds-encoder-end-4 c = let t = sym c.table_ok.ensures ∙ c.if-not-table_ok.false in
    let f = table_facts _ _ _ _ _ _ _ _ t in
    sym (used_length _ _ f.mark_row)

pub weighed-requires-clause-fit : goal.weighed-requires-clause-fit
weighed-requires-clause-fit c = let t = sym c.table_ok.ensures ∙ c.if-not-table_ok.false in
    let f = table_facts _ _ _ _ _ _ _ _ t in
    let small : length c.args.row.now ≤ 2 ^ 62 = omega (arith, c.well_formed.1.1.1.1.1.0) in
    let r = ready_of c.args.nodes.now f small in moved _ _ _ _ (run_of c.args.c) c.args.from (omega (arith, small, c.if-row-from.false)) r.fit

pub weighed-requires-clause-generals : goal.weighed-requires-clause-generals
weighed-requires-clause-generals c = let t = sym c.table_ok.ensures ∙ c.if-not-table_ok.false in
    let f = table_facts _ _ _ _ _ _ _ _ t in
    let small : length c.args.row.now ≤ 2 ^ 62 = omega (arith, c.well_formed.1.1.1.1.1.0) in
    let r = ready_of c.args.nodes.now f small in r.generals
