use Rattle.clause.proofs.Laws.{clause3_eq}
use Rattle.clause.proofs.Laws.{told, neg_back, only_1, only_r, only_l, only_2}
use mathlib.Core.Path.{sym, ap, ap₂, ◌∙◌}
use mir.Facts.{to_z-of_z}
use Rattle.paper.specs.Plain.{clause1, clause2}
use Rattle.clause.proofs.only_clause.Goals as goal

pub returns-then-y-right : goal.returns-then-y-right
returns-then-y-right c = ap clause1 (neg_back _ c.ranges.o c.requires.sfits) ∙ sym (only_1 _ _ _ _ _ c.if-x-left.true c.if-y-right.true)

pub returns-then-x-left : goal.returns-then-x-left
returns-then-x-left c =
    ap₂ clause2 (to_z-of_z (told c.q-1.given)) (neg_back _ c.ranges.o c.requires.sfits) ∙ sym (only_r _ _ _ _ _ c.if-x-left.true c.if-y-right.false)

pub returns-then-y-right-2 : goal.returns-then-y-right-2
returns-then-y-right-2 c =
    ap₂ clause2 (to_z-of_z (told c.p-1.given)) (neg_back _ c.ranges.o c.requires.sfits) ∙ sym (only_l _ _ _ _ _ c.if-x-left.false c.if-y-right-2.true)

pub returns : goal.returns
returns c =
    clause3_eq (to_z-of_z (told c.p-1.given)) (to_z-of_z (told c.q-2-1.given)) (neg_back _ c.ranges.o c.requires.sfits)
    ∙ sym (only_2 _ _ _ _ _ c.if-x-left.false c.if-y-right-2.false)
