use Prim.Native.Nat.{◌+◌, ◌-◌}
use mathlib.Core.Path.{◌≡◌}
use lib.ListN.{length}
use Rattle.paper.specs.Upkeep.{stock, give_all, cells_from}
use Rattle.reserve.proofs.fill.Given as goal

abbrev pub invariant-loop-i : goal.invariant-loop-i
invariant-loop-i l = (length l.lits ≡ length l.initial.lits) × (give_all (cells_from (l.first + l.i) (l.count - l.i)) (stock l.lits l.n) ≡ give_all (cells_from l.first l.count) (stock l.initial.lits l.next))
