use mathlib.Core.Path.{◌≡◌}
use mathlib.Core.List.{List}
use Prim.Native.Nat.{ℕ, ◌+◌, ◌*◌, ◌≤◌}
use lib.IntN.{ℤ}
use Rattle.paper.specs.Span.{span}
use Rattle.paper.specs.Plain.{define, St}
use Rattle.clause.specs.Row.{lay, Row}
use Rattle.count.specs.Encoding.{state_of, SameRows, FitFor}
use Rattle.paper.specs.declared.Want.{Want}
use Rattle.count.proofs.Encoder.+unweighted.Given as goal

abbrev pub each : ℕ → List ℕ → List ℤ → ℕ → Want → ℕ → St Row → St Row
each f ns ins child w j t = define lay f ns ins child j w t

abbrev pub decreases-define_unweighted_rec : goal.decreases-define_unweighted_rec
decreases-define_unweighted_rec l = 3 * l.id + 2

abbrev pub decreases-recurse_span : goal.decreases-recurse_span
decreases-recurse_span l = 3 * l.child + 3

abbrev pub decreases-recurse_unweighted : goal.decreases-recurse_unweighted
decreases-recurse_unweighted l = 3 * l.id + 1

abbrev pub invariant-recurse_span-loop-k : goal.invariant-recurse_span-loop-k
invariant-recurse_span-loop-k l =
    FitFor l.tree l.self × SameRows l.initial.self l.self
    × ((f : ℕ) → l.child + 1 ≤ f → span l.k l.k-end (each f l.tree.nodes.now l.tree.inputs.now l.child l.want) (state_of l.self) ≡ span l.initial.k l.k-end (each f l.tree.nodes.now l.tree.inputs.now l.child l.want) (state_of l.initial.self))
