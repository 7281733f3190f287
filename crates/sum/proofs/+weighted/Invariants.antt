use mathlib.Core.Path.{◌≡◌}
use mathlib.Core.List.{List}
use Prim.Native.Nat.{ℕ, ◌+◌, ◌*◌, ◌≤◌}
use lib.IntN.{ℤ}
use Rattle.paper.specs.Plain.{St}
use Rattle.clause.specs.Row.{Row, lay}
use Rattle.paper.specs.Span.{span}
use Rattle.paper.specs.Weighted.{weigh, way_of, link_of}
use Rattle.count.specs.Encoding.{state_of, SameRows, FitFor}
use Rattle.sum.specs.Ways.{pairs_of}
use Rattle.sum.proofs.+weighted.Given as goal

abbrev pub each : ℕ → List ℕ → List ℤ → List ℕ → ℕ → ℕ → ℕ → ℕ → St Row → St Row
each f ns ins keys k at v j t = link_of lay (weigh lay f ns ins keys) ns ins k at (way_of ns keys k v j) t

abbrev pub decreases-link : goal.decreases-link
decreases-link l = 4 * l.id

abbrev pub decreases-links : goal.decreases-links
decreases-links l = 4 * l.id + 2

abbrev pub decreases-pairs : goal.decreases-pairs
decreases-pairs l = 4 * l.id + 1

abbrev pub decreases-weigh : goal.decreases-weigh
decreases-weigh l = 4 * l.id + 3

abbrev pub invariant-pairs-loop-k : goal.invariant-pairs-loop-k
invariant-pairs-loop-k l =
    FitFor l.tree l.encoder × SameRows l.initial.encoder l.encoder
    × ((f : ℕ) → l.id ≤ f → span l.k l.k-end (each f l.tree.nodes.now l.tree.inputs.now l.tree.keys.now l.id l.at l.v) (state_of l.encoder) ≡ pairs_of (weigh lay f l.tree.nodes.now l.tree.inputs.now l.tree.keys.now) l.tree.nodes.now l.tree.inputs.now l.tree.keys.now l.id l.at l.v (state_of l.initial.encoder))
