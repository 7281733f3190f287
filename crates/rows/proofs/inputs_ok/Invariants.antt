use mathlib.Core.Path.{◌≡◌}
use Prim.Native.Nat.{ℕ}
use lib.ListN.{get_or}
use lib.IntN.{pos}
use Rattle.paper.specs.Rows.{lit_ok}
use Rattle.paper.specs.Below.{all_below}
use Rattle.rows.proofs.inputs_ok.Given as goal

abbrev pub invariant-loop-x : goal.invariant-loop-x
invariant-loop-x l = l.ok ≡ all_below l.x-index (λ (j : ℕ). lit_ok (get_or l.inputs j (pos 0)) l.f)
