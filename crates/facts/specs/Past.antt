-- "Nothing but 0 changes anything outside the working area"; "A done call leaves every entry past the new counts as it stood"; and no row changes its length.
-- Assumes nothing.
use Rattle.std.specs.Prelude.{ℕ, ◌*◌, ◌<◌, ◌≤◌, List, [], ◌∷◌, ◌≡◌, length, get_or, pos}
use Rattle.paper.specs.Limits.{node_words}
use Rattle.paper.specs.Calls.{Db}

-- ---- what a call leaves alone

-- the rows have their lengths, and past the counts of e they are as they stood in d
pub record Past (d e : Db) : Type 0 where
  pub nodes_size : length e.nodes ≡ length d.nodes
  pub inputs_size : length e.inputs ≡ length d.inputs
  pub keys_size : length e.keys ≡ length d.keys
  pub lits_size : length e.lits ≡ length d.lits
  pub marks_size : length e.marks ≡ length d.marks
  pub clauses_size : length e.clauses ≡ length d.clauses
  pub nodes_past : (j : ℕ) → e.counters.nodes * node_words ≤ j → get_or e.nodes j 0 ≡ get_or d.nodes j 0
  pub inputs_past : (j : ℕ) → e.counters.inputs ≤ j → get_or e.inputs j (pos 0) ≡ get_or d.inputs j (pos 0)
  pub keys_past : (j : ℕ) → e.counters.cells ≤ j → get_or e.keys j 0 ≡ get_or d.keys j 0
  pub lits_past : (j : ℕ) → e.counters.cells ≤ j → get_or e.lits j (pos 0) ≡ get_or d.lits j (pos 0)
  pub marks_past : (j : ℕ) → e.counters.cells ≤ j → get_or e.marks j 0 ≡ get_or d.marks j 0
  pub clauses_past : (j : ℕ) → e.counters.words ≤ j → get_or e.clauses j (pos 0) ≡ get_or d.clauses j (pos 0)

-- ---- reserve: the cells of a node and of those below it lie in the cells in use

abbrev pub AllBelow : ℕ → List ℕ → Type 0
AllBelow n [] = Unit {0}
AllBelow n (k ∷ ks) = (k < n) × AllBelow n ks
