use mathlib.Core.Path.{ap}
use native.Mathlib.Omega.{arith}
use lib.ListN.{length}
use Rattle.runs.proofs.Long.{lits_long}
use Rattle.runs.proofs.literal_at.Goals as goal

pub offset_bounds-con_lits-i : goal.offset_bounds-con_lits-i
offset_bounds-con_lits-i c =
    omega (arith, ap length c.con_lits.ensures, lits_long c.args.tree.now.nodes.now c.args.tree.now.inputs.now c.args.lits.now c.args.id c.requires.ok c.requires.here.below, c.requires.here.out, c.con_lits.type_inv)

pub bounds-con_lits-i : goal.bounds-con_lits-i
bounds-con_lits-i c =
    omega (arith, ap length c.con_lits.ensures, lits_long c.args.tree.now.nodes.now c.args.tree.now.inputs.now c.args.lits.now c.args.id c.requires.ok c.requires.here.below, c.requires.here.out)
