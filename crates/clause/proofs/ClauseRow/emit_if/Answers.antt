use borrow.Author.Rules.{rules}
use mathlib.Core.Path.{◌≡◌, ◌∙◌}
use Prim.Native.Nat.{◌+◌, ◌-◌}
use mir.Syntax.{w32}
use mir.Val.{to_z, of_z}
use mir.Facts.{to_z-of_z}
use Rattle.paper.specs.Plain.{if_clause}
use Rattle.clause.specs.Filling.{row_of}
use Rattle.clause.proofs.Laws.{if_len, if_is}
use Rattle.clause.proofs.ClauseRow.emit_if.Goals as goal

pub emit_ways-requires-clause-short : goal.emit_ways-requires-clause-short
emit_ways-requires-clause-short c =
    λ x d p q t.
    let e : d ≡ if_clause c.args.left.now c.args.right.now x (c.args.i + 1 - x) (to_z w32 (of_z w32 c.args.o)) = search rules in
    rw e (if_len _ _ _ _ _)

pub returns-clause-laid : goal.returns-clause-laid
returns-clause-laid c =
    let l = c.args.left.now in
    let r = c.args.right.now in
    let z = to_z w32 (of_z w32 c.args.o) in
    let fi = c.emit_ways.ensures.laid (λ x y. if_clause l r x y z) (λ x d p q t. search rules) in
    record {
      is = fi.is ∙ if_is l r c.args.i c.args.o z (row_of c.args.self.now) (to_z-of_z c.ranges.o);
      counted = fi.counted;
    }
