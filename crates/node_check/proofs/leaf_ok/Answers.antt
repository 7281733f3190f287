use mathlib.Core.Path.{refl}
use Rattle.paper.specs.Table.{leaf_ok}
use Rattle.node_check.proofs.leaf_ok.Goals as goal

pub returns : goal.returns
unfolding leaf_ok
returns c = refl
