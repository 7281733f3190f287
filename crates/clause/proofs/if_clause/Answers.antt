use Prim.Native.Nat.{◌-◌}
use Rattle.clause.proofs.Laws.{clause3_eq}
use Rattle.clause.proofs.Laws.{told, neg_back, if_1, if_r, if_l, if_2}
use mathlib.Core.Path.{sym, ap, ap₂, ◌∙◌}
use mir.Facts.{to_z-of_z}
use Rattle.paper.specs.Plain.{clause1, clause2, lit_at}
use native.Mathlib.Omega.{arith}
use Rattle.clause.proofs.if_clause.Goals as goal

pub returns-then-y-eq0 : goal.returns-then-y-eq0
returns-then-y-eq0 c = ap clause1 (to_z-of_z c.ranges.o) ∙ sym (if_1 _ _ _ _ _ c.if-x-eq0.true c.if-y-eq0.true)

pub returns-then-x-eq0 : goal.returns-then-x-eq0
returns-then-x-eq0 c =
    ap₂ clause2 (neg_back (lit_at c.args.right.now (c.args.y - 1)) (told c.q-1.given) (c.requires.neg_2 (c.args.y - 1) (omega (arith, c.requires.x_in_bounds)))) (to_z-of_z c.ranges.o) ∙ sym (if_r _ _ _ _ _ c.if-x-eq0.true c.if-y-eq0.false)

pub returns-then-y-eq0-2 : goal.returns-then-y-eq0-2
returns-then-y-eq0-2 c =
    ap₂ clause2 (neg_back (lit_at c.args.left.now (c.args.x - 1)) (told c.p-1.given) (c.requires.neg (c.args.x - 1) (omega (arith, c.requires.x_in_bounds)))) (to_z-of_z c.ranges.o) ∙ sym (if_l _ _ _ _ _ c.if-x-eq0.false c.if-y-eq0-2.true)

pub returns : goal.returns
returns c =
    clause3_eq (neg_back (lit_at c.args.left.now (c.args.x - 1)) (told c.p-1.given) (c.requires.neg (c.args.x - 1) (omega (arith, c.requires.x_in_bounds)))) (neg_back (lit_at c.args.right.now (c.args.y - 1)) (told c.q-2-1.given) (c.requires.neg_2 (c.args.y - 1) (omega (arith, c.requires.x_in_bounds)))) (to_z-of_z c.ranges.o)
    ∙ sym (if_2 _ _ _ _ _ c.if-x-eq0.false c.if-y-eq0-2.false)
