use Prim.Native.Nat.{ℕ, ◌<◌, ◌≤◌}
use Rattle.paper.specs.Rows.{value_at}
use Rattle.keys.specs.Least.{Mono}
use Rattle.keys.proofs.Child.ascending.Given as goal

abbrev pub invariant-loop-i : goal.invariant-loop-i
invariant-loop-i l = Mono l.i (λ (k : ℕ). value_at l.keys l.self.node k) × ((k : ℕ) → k < l.i → value_at l.keys l.self.node k ≤ l.last)
