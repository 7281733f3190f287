use borrow.Author.Rules.{rules}
use mathlib.Core.Path.{refl, ap, ap₂, ◌∙◌}
use mathlib.Core.List.{List}
use lib.IntN.{ℤ}
use Prim.Native.Nat.{ℕ, ◌+◌, ◌<◌}
use native.Mathlib.Omega.{arith}
use lib.ListN.{length, length-set, set}
use mir.Syntax.{w32}
use mir.Val.{SFits, to_z, of_z}
use mir.Facts.{to_z-of_z}
use Rattle.paper.specs.Rows.{con_lits}
use Rattle.paper.specs.Plain.{lit_at, emit_both}
use Rattle.clause.specs.Row.{lay, at_row}
use Rattle.count.specs.Run.{state}
use Rattle.count.proofs.Laws.{cell_in, fit_after, finish_is, finish_next}
use Rattle.count.proofs.Encoder.encode_unweighted.Goals as goal

pub overflow_add-at : goal.overflow_add-at
overflow_add-at c = omega (arith, cell_in _ _ _ _ _ _ c.node_at-n.ensures c.requires.fit.ok c.requires.cell, c.well_formed)

pub take_lit-requires : goal.take_lit-requires
take_lit-requires c =
    let n = c.node_at-n in
    (cell_in _ _ _ _ _ _ n.ensures c.requires.fit.ok c.requires.cell, finish_next c.args.tree.now.nodes.now c.args.tree.now.inputs.now c.args.id c.args.i c.args.todo _ _ _ c.args.self.now.run n.result n.ensures c.requires.run_bound)

pub bounds-self-at : goal.bounds-self-at
bounds-self-at c = omega (arith, cell_in _ _ _ _ _ _ c.node_at-n.ensures c.requires.fit.ok c.requires.cell, c.requires.fit.same, c.take_lit.ensures.same.marks_long)

pub offset_bounds-self-at : goal.offset_bounds-self-at
offset_bounds-self-at c = omega (arith, cell_in _ _ _ _ _ _ c.node_at-n.ensures c.requires.fit.ok c.requires.cell, c.well_formed)

pub bounds-self-at-2 : goal.bounds-self-at-2
bounds-self-at-2 c = omega (arith, cell_in _ _ _ _ _ _ c.node_at-n.ensures c.requires.fit.ok c.requires.cell, c.take_lit.ensures.same.lits_long)

pub own_clauses-words-requires-clause-i_bound : goal.own_clauses-words-requires-clause-i_bound
own_clauses-words-requires-clause-i_bound c =
    let n = c.node_at-n in
    let t = c.take_lit.ensures in
    let e = c.args.self.now in
    let at = n.result.first + c.args.i in
    let inl = cell_in _ _ _ _ _ _ n.ensures c.requires.fit.ok c.requires.cell in
    let within = finish_next c.args.tree.now.nodes.now c.args.tree.now.inputs.now c.args.id c.args.i c.args.todo _ _ _ e.run n.result n.ensures c.requires.run_bound in
    let g = fit_after c.args.tree.now.nodes.now c.args.tree.now.inputs.now e.lits.now e.marks.now e.marks.now e.run at e.run.words c.requires.fit inl refl c.requires.fit.counted within _ _ t.taken.0 t.taken.1 in
    let f : SFits w32 (lit_at c.take_lit.new.self.lits.now at) = search rules in
    let k : at < length c.take_lit.new.self.lits.now = omega (arith, t.same.lits_long, inl) in
    (omega (arith, inl, c.well_formed), rw t.kept.2 c.requires.fit.counted, rw (to_z-of_z f) (g.neg_lits at k))

pub returns-clause-done : goal.returns-clause-done
returns-clause-done c =
    let n = c.node_at-n in
    let t = c.take_lit.ensures in
    let q = c.own_clauses-words in
    let e = c.args.self.now in
    let ns = c.args.tree.now.nodes.now in
    let ins = c.args.tree.now.inputs.now in
    let at = n.result.first + c.args.i in
    let lits = c.take_lit.new.self.lits.now in
    let inl = cell_in _ _ _ _ _ _ n.ensures c.requires.fit.ok c.requires.cell in
    let within = finish_next ns ins c.args.id c.args.i c.args.todo _ _ _ e.run n.result n.ensures c.requires.run_bound in
    let f : SFits w32 (lit_at lits at) = search rules in
    let b = to_z-of_z f in
    record {
      is =
          ap (λ (m : List ℕ). state lits (set m at c.args.todo.mark) q.new.row (record { next = c.take_lit.new.self.run.next; words = q.result })) t.kept.0
          ∙ finish_is ns ins c.args.id c.args.i c.args.todo e.lits.now e.marks.now e.row.now e.run
          n.result lits q.new.row c.take_lit.new.self.run.next q.result _ n.ensures t.taken.0 t.taken.1 b
          (q.ensures.is ∙ ap₂ (λ (r : List ℤ) (w : ℕ). emit_both lay (con_lits ns ins lits n.result.left) (con_lits ns ins lits n.result.right) c.args.i (to_z w32 (of_z w32 (lit_at lits at))) c.args.todo.want (at_row r w)) t.kept.1 t.kept.2);
      fit =
          fit_after ns ins e.lits.now e.marks.now (set c.take_lit.new.self.marks.now at c.args.todo.mark) e.run at q.result
          c.requires.fit inl (length-set _ at c.args.todo.mark ∙ ap length t.kept.0) q.ensures.counted within _ _ t.taken.0 t.taken.1;
    }
