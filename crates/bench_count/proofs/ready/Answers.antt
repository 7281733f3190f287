use Rattle.bench_count.proofs.Fits.{fit_made}
use Rattle.bench_count.proofs.ready.Goals as goal

pub returns : goal.returns
returns c = λ e. fit_made c.args.tree.now.nodes.now c.args.tree.now.inputs.now c.args.lits.now c.args.marks.now _ _ _ c.nodes_fit-a.ensures c.inputs_ok-b.ensures c.cells_ok-c.ensures c.if-lits-marks.false e
