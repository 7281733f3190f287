use Prim.Native.Nat.{◌≤◌}
use Rattle.bench_sum.proofs.Rows.checks.Given as goal

abbrev pub invariant-loop-i : goal.invariant-loop-i
invariant-loop-i l = l.ok ≤ l.i
