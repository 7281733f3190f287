use mir.Syntax.{w32}
use mir.ValLaws.{to_z-of_z}
use Rattle.totdb.proofs.Telling.{leaf_told}
use Rattle.totdb.proofs.totdb_leaf.Goals as goal

pub returns : goal.returns
returns c = leaf_told _ _ _ _ _ _ _ _ _ _ _ _ _ _ _ _ c.from-c.ensures (to_z-of_z w32 c.args.x c.ranges.x) c.leaf-said.ensures c.say_added.ensures
