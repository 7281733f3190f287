-- The run of a weighted demand, over rows and as the plain run.
use Rattle.std.specs.Prelude.{List, ℕ, ◌+◌, ℤ}
use Rattle.paper.specs.Plain.{St}
use Rattle.paper.specs.Weighted.{weigh, weigh_run}
use Rattle.paper.specs.declared.Tree.{Tree}
use Rattle.clause.specs.Row.{Row, lay}
use Rattle.runs.specs.Counts.{weighing}
use Rattle.runs.proofs.Counts.{weighing_runs}
use Rattle.runs.specs.Dry.{Twice}
use Rattle.runs.proofs.Dry.{twice}
use Rattle.meet.specs.declared.Weighted.{Weighted}

abbrev pub weighed_at : Weighted → Tree → ℕ → St Row → St Row
weighed_at d t f s = weigh lay f t.nodes.now t.inputs.now t.keys.now d.id d.y s

abbrev pub weighed : Weighted → Tree → List ℤ → List ℕ → ℕ → St (List ℤ)
weighed d t lits marks n = weigh_run t.nodes.now t.inputs.now t.keys.now lits marks n d.id d.y

-- a dry run of it counts what the run in earnest takes
pub weighed_twice : (d : Weighted) (t : Tree) → Twice (weighed_at d t) (weighed d t) (d.id + 1)
unfolding weigh_run
weighed_twice d t =
    twice (weighing t.nodes.now t.inputs.now t.keys.now d.id d.y) (weighing_runs t.nodes.now t.inputs.now t.keys.now d.id d.y) (d.id + 1)
