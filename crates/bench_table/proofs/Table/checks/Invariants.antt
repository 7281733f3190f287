use Prim.Native.Nat.{◌≤◌}
use Rattle.bench_table.proofs.Table.checks.Given as goal

abbrev pub invariant-loop-i : goal.invariant-loop-i
invariant-loop-i l = l.passed ≤ l.i
