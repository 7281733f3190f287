use Prim.Native.Nat.{ℕ, ◌+◌}
use mathlib.Core.Path.{◌≡◌}
use Rattle.paper.specs.Rows.{con_val}
use Rattle.keys.specs.Least.{least_all}
use Rattle.keys.proofs.Child.least_row.Given as goal

abbrev pub invariant-loop-j : goal.invariant-loop-j
invariant-loop-j l = l.b ≡ least_all l.j (λ (k : ℕ). l.l + con_val l.keys l.self.node l.self.mul k) l.a l.best
