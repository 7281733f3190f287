use mathlib.Core.Path.{◌≡◌}
use Prim.Native.Nat.{ℕ}
use lib.Dec.{leb}
use lib.ListN.{get_or}
use Rattle.paper.specs.Below.{all_below}
use Rattle.worth.proofs.assigned.Given as goal

abbrev pub invariant-loop-b : goal.invariant-loop-b
invariant-loop-b l = l.ok ≡ all_below l.b-index (λ (i : ℕ). leb (get_or l.assign i 0) 1)
