use mathlib.Core.Path.{ap, ap₂}
use mathlib.Core.Bool.{Bool, ◌&&◌}
use Rattle.records.specs.declared.Seen.{Seen}
use Rattle.records.specs.Table.{begin_of}
use Rattle.records.proofs.begin.Goals as goal

pub returns : goal.returns
unfolding begin_of
returns c = let both : Bool → Bool → Bool = λ a b. a && b in
    ap {B = Seen} (λ (v : Bool). record { ok = v; leaves = 0; cells = 0; todo = c.args.c.nodes }) (ap₂ both (ap₂ both c.counters_ok-fit.ensures c.inputs_ok-ins.ensures) c.cells_ok-cells.ensures)
