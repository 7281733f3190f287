use mathlib.Core.Path.{sym, ap, ◌∙◌}
use borrow.Author.Tests.{not-true, not-false}
use Rattle.paper.specs.declared.Node.{Node}
use Rattle.records.specs.Table.{passed_of}
use Rattle.records.proofs.Laws.{takes_made, step_failed, step_past, step_not, step_passed}
use Rattle.records.proofs.step.Goals as goal

pub returns-then-not-s : goal.returns-then-not-s
returns-then-not-s c = step_failed _ _ _ _ _ _ _ _ _ _ _ (not-true _ c.if-not-s.true)

pub returns-then-s-eq0 : goal.returns-then-s-eq0
returns-then-s-eq0 c = step_past _ _ _ _ _ _ _ _ _ _ _ (not-false _ c.if-not-s.false) c.if-s-eq0.true

pub returns-then-not-good-few : goal.returns-then-not-good-few
returns-then-not-good-few c = step_not _ _ _ _ _ _ _ _ _ _ _ (not-false _ c.if-not-s.false) c.if-s-eq0.false (sym (takes_made c.args.n c.args.l c.args.r c.args.id c.args.s c.args.keys.now c.args.marks.now c.args.c _ _ _ _ _ c.from-node.ensures c.from.ensures c.from-2.ensures c.node_ok-good.ensures c.fits_in-fits.ensures) ∙ c.if-not-good-few.true)

pub returns : goal.returns
returns c = c.passed.ensures ∙ ap (λ (m : Node). passed_of c.args.s m) c.from-node.ensures ∙ step_passed _ _ _ _ _ _ _ _ _ _ _ (not-false _ c.if-not-s.false) c.if-s-eq0.false (sym (takes_made c.args.n c.args.l c.args.r c.args.id c.args.s c.args.keys.now c.args.marks.now c.args.c _ _ _ _ _ c.from-node.ensures c.from.ensures c.from-2.ensures c.node_ok-good.ensures c.fits_in-fits.ensures) ∙ c.if-not-good-few.false)
