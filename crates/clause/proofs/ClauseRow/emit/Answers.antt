use mathlib.Core.Path.{ap, sym, ◌∙◌}
use lib.IntN.{ℤ}
use mir.Facts.{to_z-of_z}
use Rattle.paper.specs.Plain.{emit_if, emit_only}
use Rattle.clause.specs.Row.{lay}
use Rattle.clause.specs.Filling.{row_of}
use Rattle.clause.proofs.Laws.{both_2, both_if, both_only, both_none}
use Rattle.clause.proofs.ClauseRow.emit.Goals.{then-want, else-want}
use Rattle.clause.proofs.ClauseRow.emit.Goals as goal

pub emit_only-requires-clause-i_bound : goal.emit_only-requires-clause-i_bound
emit_only-requires-clause-i_bound c = (
  c.requires.i_bound.0,
  elim c.if-want.branch [
    | then-want w ↦ rw w.self-is w.emit_if.ensures.laid.counted
    | else-want w ↦ rw w.self-is c.requires.i_bound.1
  ],
)

pub returns-then-want-2-clause-laid : goal.returns-then-want-2-clause-laid
returns-then-want-2-clause-laid c =
    let l = c.args.left.now in
    let r = c.args.right.now in
    let b = to_z-of_z c.ranges.o in
    let only = c.emit_only.ensures.laid in
    let e = only.is ∙ ap (λ (z : ℤ). emit_only lay l r c.args.i z (row_of c.if-want.self)) b in
    record {
      is =
          elim c.if-want.branch [
            | then-want w ↦
                e
                ∙ ap (emit_only lay l r c.args.i c.args.o) (ap row_of w.self-is ∙ w.emit_if.ensures.laid.is ∙ ap (λ (z : ℤ). emit_if lay l r c.args.i z (row_of c.args.self.now)) b)
                ∙ sym (both_2 _ _ _ _ _ _ w.if-want.true c.if-want-2.true)
            | else-want w ↦ e ∙ ap (λ t. emit_only lay l r c.args.i c.args.o (row_of t)) w.self-is ∙ sym (both_only _ _ _ _ _ _ w.if-want.false c.if-want-2.true)
          ];
      counted = only.counted;
    }

pub returns-else-want-2-clause-laid : goal.returns-else-want-2-clause-laid
returns-else-want-2-clause-laid c =
    let l = c.args.left.now in
    let r = c.args.right.now in
    elim c.if-want.branch [
      | then-want w ↦
          let fi = w.emit_if.ensures.laid in
          record {
            is =
                ap row_of w.self-is ∙ fi.is ∙ ap (λ (z : ℤ). emit_if lay l r c.args.i z (row_of c.args.self.now)) (to_z-of_z c.ranges.o)
                ∙ sym (both_if _ _ _ _ _ _ w.if-want.true c.if-want-2.false);
            counted = rw w.self-is fi.counted;
          }
      | else-want w ↦
          record {
            is = ap row_of w.self-is ∙ sym (both_none _ _ _ _ _ _ w.if-want.false c.if-want-2.false);
            counted = rw w.self-is c.requires.i_bound.1;
          }
    ]
