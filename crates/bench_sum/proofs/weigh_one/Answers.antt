use native.Mathlib.Omega.{arith}
use Prim.Native.Nat.{◌+◌}
use Rattle.runs.specs.Counts.{weighing}
use Rattle.runs.proofs.Counts.{weighing_runs}
use Rattle.runs.proofs.Dry.{few_ends}
use Rattle.bench_sum.proofs.weigh_one.Goals as goal

pub weigh-requires-clause-ends : goal.weigh-requires-clause-ends
weigh-requires-clause-ends c =
    let t = c.args.tree.now in
    few_ends (weighing t.nodes.now t.inputs.now t.keys.now c.args.id c.args.y) (weighing_runs t.nodes.now t.inputs.now t.keys.now c.args.id c.args.y) (c.args.id + 1) _ _ _ (omega (arith, c.well_formed)) _ c.requires.fit.counted c.requires.fit.some
    (omega arith)
