use mathlib.Core.Path.{ap₂}
use mathlib.Core.Bool.{Bool, ◌&&◌}
use lib.Dec.{ltb, eqb}
use Rattle.paper.specs.Table.{inner_ok}
use Rattle.node_check.proofs.inner_ok.Goals as goal

pub returns : goal.returns
unfolding inner_ok
returns c =
    let a = c.args in
    ap₂ (λ (f : Bool) (d : Bool). (((ltb a.n.left a.id && ltb a.n.right a.id) && eqb a.n.first a.cells) && f) && d) c.fits_in-fits.ensures c.depth_ok-deep.ensures
