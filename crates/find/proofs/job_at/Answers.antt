use native.Mathlib.Omega.{arith}
use Rattle.find.proofs.Laws.{cell_at}
use Rattle.find.proofs.job_at.Goals as goal

pub overflow_add-at : goal.overflow_add-at
overflow_add-at c = omega (arith, cell_at c.args.nodes.now _ c.args.id c.args.y _ c.node_at-n.ensures c.requires c.in-General.ensures c.if-y-eq0.false, c.well_formed)

pub bounds-marks-at : goal.bounds-marks-at
bounds-marks-at c = cell_at c.args.nodes.now _ c.args.id c.args.y _ c.node_at-n.ensures c.requires c.in-General.ensures c.if-y-eq0.false
