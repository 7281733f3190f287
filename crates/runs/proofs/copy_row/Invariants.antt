use mathlib.Core.Path.{◌≡◌}
use Prim.Native.Nat.{◌≤◌}
use lib.ListN.{length, take}
use Rattle.runs.proofs.copy_row.Given as goal

abbrev pub invariant-loop-k : goal.invariant-loop-k
invariant-loop-k g l = (l.k ≤ length l.src) × (length l.dst ≡ length l.initial.dst) × (take l.k l.dst ≡ take l.k l.src)
