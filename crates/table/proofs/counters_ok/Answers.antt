use mathlib.Core.Path.{ap}
use mathlib.Core.Bool.{Bool, ◌&&◌}
use lib.Dec.{leb}
use Rattle.paper.specs.Table.{counters_ok}
use Rattle.paper.specs.Limits.{node_limit, cell_limit}
use Rattle.table.proofs.counters_ok.Goals as goal

pub returns : goal.returns
unfolding counters_ok
returns c =
    let a = c.args in
    ap (λ (r : Bool). ((((leb a.c.nodes node_limit && leb a.c.nodes a.holds) && r) && leb a.c.cells cell_limit) && leb a.c.cells a.keys) && leb a.c.words a.clauses) c.range_ok.ensures
