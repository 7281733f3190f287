use Rattle.count.specs.Encoding.{FitFor}
use Rattle.bench_count.proofs.demand_all.Given as goal

abbrev pub invariant-loop-i : goal.invariant-loop-i
invariant-loop-i l = FitFor l.tree l.encoder
