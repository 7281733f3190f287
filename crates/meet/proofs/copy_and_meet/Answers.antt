use native.Mathlib.Omega.{arith}
use Rattle.sum.proofs.Laws.{outs_few}
use Rattle.meet.proofs.copy_and_meet.Goals as goal

pub overflow_add-demand : goal.overflow_add-demand
overflow_add-demand c =
    omega (arith, c.requires.here.out, outs_few c.args.tree.now.nodes.now _ _ c.args.id c.requires.ready.fit.ok c.requires.here.below, c.requires.ready.few)
