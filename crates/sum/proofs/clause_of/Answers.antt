use borrow.Author.Rules.{rules}
use Rattle.std.specs.Int.{w32}
use mir.Val.{SFits}
use native.Mathlib.Omega.{arith}
use mathlib.Core.Path.{sym, ap, ◌∙◌}
use Rattle.paper.specs.Plain.{lit_at, if_clause}
use Rattle.clause.specs.Row.{lay, at_row}
use mir.Facts.{to_z-of_z}
use Rattle.clause.proofs.Laws.{if_len, counted_after}
use Rattle.count.proofs.Laws.{neg_lits_of}
use Rattle.sum.proofs.Laws.{outs_few, length_con_lits, way_none, way_some, laid_back}
use Rattle.sum.proofs.clause_of.Goals as goal

pub overflow_add-p : goal.overflow_add-p
overflow_add-p c = let g = c.requires.sides in
    omega (arith, g.x, g.y, outs_few c.args.tree.now.nodes.now _ _ c.args.n.left g.ok g.left_below, outs_few c.args.tree.now.nodes.now _ _ c.args.n.right g.ok g.right_below, c.well_formed)

pub returns-then-p-eq0 : goal.returns-then-p-eq0
returns-then-p-eq0 c = record { is = sym (way_none _ _ c.args.p _ _ c.if-p-eq0.true); counted = c.requires.words_bound }

pub if_clause-c-requires-clause-x_in_bounds : goal.if_clause-c-requires-clause-x_in_bounds
if_clause-c-requires-clause-x_in_bounds c = let g = c.requires.sides in
    let ll = length_con_lits c.args.tree.now.nodes.now c.args.tree.now.inputs.now c.args.lits.now c.args.n.left g.ok g.left_below in
    let lr = length_con_lits c.args.tree.now.nodes.now c.args.tree.now.inputs.now c.args.lits.now c.args.n.right g.ok g.right_below in (rw (c.children_lits.ensures.left, ll) g.x, rw (c.children_lits.ensures.right, lr) g.y)

pub if_clause-c-requires-clause-neg : goal.if_clause-c-requires-clause-neg
if_clause-c-requires-clause-neg c = let g = c.requires.sides in
    rw c.children_lits.ensures.left (neg_lits_of c.args.tree.now.nodes.now c.args.tree.now.inputs.now c.args.lits.now c.args.n.left g.neg_ins g.neg_lits)

pub if_clause-c-requires-clause-neg_2 : goal.if_clause-c-requires-clause-neg_2
if_clause-c-requires-clause-neg_2 c = let g = c.requires.sides in
    rw c.children_lits.ensures.right (neg_lits_of c.args.tree.now.nodes.now c.args.tree.now.inputs.now c.args.lits.now c.args.n.right g.neg_ins g.neg_lits)

pub append-requires : goal.append-requires
append-requires c = (c.requires.words_bound, rw c.if_clause-c.ensures (if_len _ _ _ _ _))

pub returns : goal.returns
returns c = let a = c.append.ensures in
    let f : SFits w32 (lit_at c.args.lits.now c.args.at) = search rules in
    let z = to_z-of_z f in
    let e = a.laid ∙ ap (lay (at_row c.args.row.now c.args.words)) (c.if_clause-c.ensures
    ∙ (λ j. if_clause (c.children_lits.ensures.left j) (c.children_lits.ensures.right j) c.args.p.x c.args.p.y (z j))) in
    laid_back (search rules)
    (record {
      is = e ∙ sym (way_some _ _ c.args.p _ _ c.if-p-eq0.false);
      counted = counted_after _ _ _ _ a.laid;
    })
