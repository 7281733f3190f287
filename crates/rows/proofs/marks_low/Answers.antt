use Prim.Native.Nat.{ℕ, ◌+◌}
use Rattle.std.proofs.Common.{sym, ap, arith, leb}
use Rattle.std.proofs.lemmas.List.Edits.{length-between, get_or-between}
use Rattle.paper.specs.Below.{all_none, all_step}
use Rattle.rows.proofs.marks_low.Goals as goal

pub loop-m-init : goal.loop-m-init
loop-m-init c = sym (all_none _)

pub loop-m-preserved : goal.loop-m-preserved
loop-m-preserved c =
    let a = c.args in
    let k = c.loop-m.m-index in
    let end = a.first + a.count in
    all_step _ _ k _ c.loop-m.invariant
    (ap (λ (m : ℕ). leb m 1) (get_or-between a.marks.now a.first end k 0 (omega (arith, c.loop-m-test.true, length-between a.marks.now a.first end (omega arith)))))
