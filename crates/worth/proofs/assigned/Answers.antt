use Prim.Native.Nat.{ℕ, ◌<◌}
use Rattle.std.proofs.Common.{sym, ap, arith, leb}
use Rattle.std.proofs.lemmas.List.{length-take-le, get_or-take}
use borrow.Author.Tests.{le-leb, lt-leb}
use Rattle.paper.specs.Below.{and_then, and_else, all_none, all_step, all_end}
use Rattle.paper.specs.Upkeep.{assigned_ok}
use Rattle.worth.proofs.assigned.Goals as goal

pub loop-b-init : goal.loop-b-init
loop-b-init c = sym (all_none _)

pub loop-b-preserved : goal.loop-b-preserved
loop-b-preserved c =
    let a = c.args in
    let k = c.loop-b.b-index in
    let low : k < a.n = omega (arith, c.loop-b-test.true, length-take-le a.n a.assign.now (omega arith)) in
    all_step _ _ k _ c.loop-b.invariant (ap (λ (b : ℕ). leb b 1) (get_or-take a.n a.assign.now k 0 low))

pub returns-then-assign-n : goal.returns-then-assign-n
unfolding assigned_ok
returns-then-assign-n c = and_else _ _ (lt-leb _ _ c.if-assign-n.true)

pub returns : goal.returns
unfolding assigned_ok
returns c =
    let a = c.args in
    and_then _ _ _ (le-leb _ _ c.if-assign-n.false)
    (all_end _ c.loop-b.b-index a.n _ c.loop-b.invariant (omega (arith, c.loop-b.auto.b-index-end, length-take-le a.n a.assign.now (omega arith))) (omega (arith, c.loop-b-test.false, length-take-le a.n a.assign.now (omega arith))))
