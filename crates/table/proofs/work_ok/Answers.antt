use Prim.Native.Nat.{ℕ}
use mathlib.Core.Path.{ap}
use mathlib.Core.Bool.{◌&&◌}
use lib.Dec.{leb}
use Rattle.paper.specs.Table.{work_ok}
use Rattle.table.proofs.work_ok.Goals as goal

pub returns : goal.returns
unfolding work_ok
returns c =
    let a = c.args in
    ap (λ (m : ℕ). leb m a.ints && leb m a.bytes) c.max-need.ensures
