use mathlib.Core.Path.{◌≡◌}
use Rattle.bench_count.specs.Ready.{fit_at}
use Rattle.paper.specs.Below.{all_below}
use Rattle.bench_count.proofs.nodes_fit.Given as goal

abbrev pub invariant-loop-k : goal.invariant-loop-k
invariant-loop-k l = l.ok ≡ all_below l.k (fit_at l.nodes l.ni l.nc)
