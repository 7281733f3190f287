use mathlib.Core.Path.{sym, subst}
use mathlib.Core.List.{List}
use lib.IntN.{ℤ}
use Rattle.clause.specs.Row.{Neg}
use Rattle.count.proofs.Laws.{neg_lits_of}
use Rattle.count.proofs.own_clauses.Goals as goal

pub emit-requires-clause-neg : goal.emit-requires-clause-neg
emit-requires-clause-neg c =
    let n : List ℤ → Type 0 = Neg in
    let l = neg_lits_of c.args.tree.now.nodes.now c.args.tree.now.inputs.now c.args.lits.now c.args.n.left c.requires.neg c.requires.neg_2 in
    subst n (sym c.children_lits.ensures.left) l

pub emit-requires-clause-neg_2 : goal.emit-requires-clause-neg_2
emit-requires-clause-neg_2 c =
    let n : List ℤ → Type 0 = Neg in
    let r = neg_lits_of c.args.tree.now.nodes.now c.args.tree.now.inputs.now c.args.lits.now c.args.n.right c.requires.neg c.requires.neg_2 in
    subst n (sym c.children_lits.ensures.right) r
