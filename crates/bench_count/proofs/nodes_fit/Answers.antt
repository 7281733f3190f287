use mathlib.Core.Path.{sym, ◌∙◌}
use Rattle.bench_count.specs.Ready.{fit_at}
use Rattle.bench_count.proofs.Fits.{node_is}
use Rattle.paper.specs.Below.{all_none, all_step}
use Rattle.bench_count.proofs.nodes_fit.Goals as goal

pub loop-k-init : goal.loop-k-init
loop-k-init c = sym (all_none _)

pub loop-k-preserved : goal.loop-k-preserved
loop-k-preserved c = let l = c.loop-k in
    let e = c.node_fit-ok.ensures ∙ node_is c.args.nodes.now c.args.ni c.args.nc l.k _ _ _ c.node_at-n.ensures c.node_at-l.ensures c.node_at-r.ensures in
    all_step _ _ _ (fit_at c.args.nodes.now c.args.ni c.args.nc) l.invariant e
