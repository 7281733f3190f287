-- The tree and the encoder of the code, read as the rows and the state of the definitions.
use Rattle.std.specs.Prelude.{◌≡◌, ℕ, length}
use Rattle.paper.specs.Plain.{St}
use Rattle.paper.specs.declared.Tree.{Tree}
use Rattle.clause.specs.Row.{Row}
use Rattle.count.specs.Run.{Fit, state, Done, Ran}
use Rattle.count.specs.declared.Encoder.{Encoder}

abbrev pub state_of : Encoder → St Row
state_of e = state e.lits.now e.marks.now e.row.now e.run

-- the same rows are lent to both, and they keep their lengths
pub record SameRows (e d : Encoder) : Type 0 where
  pub lits : d.lits.ghost_name ≡ e.lits.ghost_name
  pub marks : d.marks.ghost_name ≡ e.marks.ghost_name
  pub row : d.row.ghost_name ≡ e.row.ghost_name
  pub lits_long : length d.lits.now ≡ length e.lits.now
  pub marks_long : length d.marks.now ≡ length e.marks.now
  pub row_long : length d.row.now ≡ length e.row.now

-- ---- what a run over a tree keeps and leaves

abbrev pub FitFor : Tree → Encoder → Type 0
FitFor t e = Fit t.nodes.now t.inputs.now e.lits.now e.marks.now e.run

abbrev pub DoneBy : Tree → St Row → Encoder → Type 0
DoneBy t s e = Done t.nodes.now t.inputs.now s e.lits.now e.marks.now e.row.now e.run

abbrev pub RanBy : Tree → ℕ → (ℕ → St Row) → Encoder → Type 0
RanBy t k s e = Ran t.nodes.now t.inputs.now k s e.lits.now e.marks.now e.row.now e.run
