use Prim.Native.Nat.{◌≤◌, ◌^◌}
use Rattle.count.specs.Encoding.{FitFor}
use Rattle.bench_sum.proofs.weighed.Given as goal

abbrev pub invariant-loop : goal.invariant-loop
invariant-loop l = FitFor l.tree l.encoder × (l.from ≤ 2 ^ 62)
