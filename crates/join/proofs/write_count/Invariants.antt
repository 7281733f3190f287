use Prim.Native.Nat.{◌≤◌}
use mathlib.Core.Path.{◌≡◌}
use lib.Seq.{paste}
use Rattle.paper.specs.Join.{count_up}
use Rattle.join.proofs.write_count.Given as goal

abbrev pub invariant-loop-i : goal.invariant-loop-i
invariant-loop-i l = (l.i ≤ l.count) × (l.keys ≡ paste l.initial.keys l.at (count_up l.count) l.i)
