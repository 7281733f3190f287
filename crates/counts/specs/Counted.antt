-- The run of an unweighted demand, over rows and as the plain run.
use Rattle.std.specs.Prelude.{List, ℕ, ◌+◌, ℤ}
use Rattle.paper.specs.Plain.{St, define, plain_run}
use Rattle.paper.specs.declared.Tree.{Tree}
use Rattle.clause.specs.Row.{Row, lay}
use Rattle.runs.specs.Counts.{counting}
use Rattle.runs.proofs.Counts.{counting_runs}
use Rattle.runs.specs.Dry.{Twice}
use Rattle.runs.proofs.Dry.{twice}
use Rattle.counts.specs.declared.Unweighted.{Unweighted}

abbrev pub counted_at : Unweighted → Tree → ℕ → St Row → St Row
counted_at d t f s = define lay f t.nodes.now t.inputs.now d.id d.i d.want s

abbrev pub counted : Unweighted → Tree → List ℤ → List ℕ → ℕ → St (List ℤ)
counted d t lits marks n = plain_run t.nodes.now t.inputs.now lits marks n d.id d.i d.want

-- a dry run of it counts what the run in earnest takes
pub counted_twice : (d : Unweighted) (t : Tree) → Twice (counted_at d t) (counted d t) (d.id + 1)
unfolding plain_run
counted_twice d t =
    twice (counting t.nodes.now t.inputs.now d.id d.i d.want) (counting_runs t.nodes.now t.inputs.now d.id d.i d.want) (d.id + 1)
