use Prim.Native.Nat.{◌+◌}
use native.Mathlib.Omega.{arith}
use Rattle.reserve.proofs.Dry.{room_dry, dry_count}
use Rattle.reserve.proofs.dry_run.Goals as goal

pub reserve_node-requires-clause-room : goal.reserve_node-requires-clause-room
reserve_node-requires-clause-room c =
    room_dry c.args.nodes.now c.args.count c.args.cells c.args.id _ c.requires.shape c.requires.id_lt_count.4 c.requires.id_lt_count.0

pub returns : goal.returns
returns c =
    let cp = c.copy_lits in
    dry_count c.args.nodes.now c.args.count c.args.cells c.args.id c.args.lits.now cp.new.work _ _ c.requires.shape c.requires.id_lt_count.0 c.requires.id_lt_count.2 (omega (arith, cp.auto.work, c.requires.id_lt_count.3)) cp.ensures
    (c.reserve_node.ensures.is (c.args.id + 1) (omega arith))
