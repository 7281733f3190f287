use Prim.Native.Nat.{◌*◌, ◌≤◌}
use mathlib.Core.Path.{◌≡◌}
use mathlib.Core.Bool.{true}
use Rattle.paper.specs.Below.{all_below}
use Rattle.paper.specs.Rows.{node_at}
use Rattle.paper.specs.Table.{node_ok_at, leaves_before, cells_before}
use Rattle.table.proofs.nodes_ok.Given as goal

abbrev pub invariant-loop-i : goal.invariant-loop-i
invariant-loop-i l = (all_below l.i (node_ok_at (node_at l.nodes) l.keys l.marks l.c.cells) ≡ true) × (l.inputs ≡ leaves_before (node_at l.nodes) l.i) × (l.cells ≡ cells_before (node_at l.nodes) l.i) × (l.inputs ≤ l.i) × (l.cells ≤ l.i * 4294967296)
