use Prim.Native.Nat.{ℕ, ◌<◌, ◌≤◌}
use mathlib.Core.Path.{◌≡◌}
use lib.ListN.{length, get_or}
use lib.IntN.{pos}
use Rattle.reserve.proofs.copy_lits.Given as goal

abbrev pub invariant-loop-i : goal.invariant-loop-i
invariant-loop-i l = (l.i ≤ l.count) × (length l.work ≡ length l.initial.work) × ((j : ℕ) → j < l.i → get_or l.work j (pos 0) ≡ get_or l.lits j (pos 0))
