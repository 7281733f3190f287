use Prim.Native.Nat.{ℕ}
use mathlib.Core.Path.{◌≡◌}
use lib.ListN.{get_or, length}
use lib.IntN.{pos}
use Rattle.paper.specs.Rows.{cell_ok}
use Rattle.paper.specs.Below.{all_below}
use Rattle.rows.proofs.cells_ok.Given as goal

abbrev pub invariant-loop-x : goal.invariant-loop-x
invariant-loop-x l = l.ok ≡ all_below (length l.yielded) (λ (j : ℕ). cell_ok (get_or l.lits j (pos 0)) (get_or l.marks j 0) l.f l.next)
