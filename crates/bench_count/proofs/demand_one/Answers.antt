use native.Mathlib.Omega.{arith}
use Rattle.runs.specs.Counts.{counting}
use Rattle.runs.proofs.Counts.{counting_runs}
use Rattle.runs.proofs.Dry.{few_ends}
use Rattle.bench_count.proofs.demand_one.Goals as goal

pub define_unweighted_rec-requires-clause-ends : goal.define_unweighted_rec-requires-clause-ends
define_unweighted_rec-requires-clause-ends c =
    let t = c.args.tree.now in
    few_ends (counting t.nodes.now t.inputs.now 8190 c.args.i c.args.want) (counting_runs t.nodes.now t.inputs.now 8190 c.args.i c.args.want) 8191 _ _ _ (omega (arith, c.well_formed)) _ c.requires.counted c.requires.some
    (omega arith)
