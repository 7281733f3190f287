use mathlib.Core.Path.{◌≡◌}
use Prim.Native.Nat.{ℕ, ◌+◌}
use lib.Dec.{leb}
use lib.ListN.{get_or}
use Rattle.paper.specs.Below.{all_below}
use Rattle.rows.proofs.marks_low.Given as goal

abbrev pub invariant-loop-m : goal.invariant-loop-m
invariant-loop-m l = l.ok ≡ all_below l.m-index (λ (j : ℕ). leb (get_or l.marks (l.first + j) 0) 1)
