use mathlib.Core.Path.{refl}
use Prim.Native.Nat.{◌*◌}
use Rattle.std.proofs.Common.{add-zero}
use Rattle.paper.specs.Rows.{node_at}
use Rattle.paper.specs.Limits.{node_words}
use Rattle.rows.proofs.node_at.Goals as goal

pub returns : goal.returns
unfolding node_at
returns c = rw (add-zero (c.args.id * node_words)) refl
