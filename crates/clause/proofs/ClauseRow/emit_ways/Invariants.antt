use mathlib.Core.Path.{◌≡◌}
use Prim.Native.Nat.{ℕ, ◌-◌, ◌≤◌, ◌^◌}
use Rattle.paper.specs.Span.{span}
use Rattle.paper.specs.declared.Clause.{Clause}
use Rattle.clause.specs.Row.{lay}
use Rattle.clause.specs.Filling.{row_of, SameRow, Gives}
use Rattle.clause.proofs.ClauseRow.emit_ways.Given as goal

abbrev pub invariant-loop-x : goal.invariant-loop-x
invariant-loop-x g l =
    SameRow l.initial.self l.self × (l.self.words ≤ 2 ^ 62)
    × ((of : ℕ → ℕ → Clause) → Gives l.a l.b l.n (goal.F-post g l.clause) of
    → span l.x l.end (λ x t. lay t (of x (l.n - x))) (row_of l.self) ≡ span l.initial.x l.end (λ x t. lay t (of x (l.n - x))) (row_of l.initial.self))
