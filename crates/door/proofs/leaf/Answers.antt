use mir.Syntax.{w32}
use mir.ValLaws.{to_z-of_z}
use Rattle.door.proofs.Laws.{leaf_met}
use Rattle.door.proofs.leaf.Goals as goal

pub returns : goal.returns
returns c =
    let e = c.leaf.ensures in
    leaf_met _ c.args.x _ _ _ _ (to_z-of_z w32 c.args.x c.ranges.x) e.0 e.1 e.2
