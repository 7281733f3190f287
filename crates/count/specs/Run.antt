-- What the unweighted run needs of a table, what it keeps, and its state as rows and counters.
use Rattle.std.specs.Prelude.{◌≡◌, List, ℕ, ◌+◌, ◌/◌, ◌<◌, ◌≤◌, ◌^◌, ℤ, length}
use Rattle.paper.specs.Limits.{node_words}
use Rattle.paper.specs.Rows.{node_at, con_len}
use Rattle.paper.specs.Plain.{St}
use Rattle.paper.specs.declared.Run.{Run}
use Rattle.paper.specs.declared.Ranges.{Ranges}
use Rattle.paper.specs.declared.Precond.{Precond}
use Rattle.paper.specs.declared.Precond.TheVariants.{Return, Pass, Continue}
use Rattle.clause.specs.Row.{Row, Neg}

-- how many outputs node k has
abbrev pub outs : List ℕ → ℕ → ℕ
outs ns k = con_len (node_at ns k)

-- ---- what the table check gives: the ids that are there, and where their cells lie

pub record UnitOk (ns : List ℕ) (k : ℕ) : Type 0 where
  pub left_below : (node_at ns k).left < k
  pub right_below : (node_at ns k).right < k
  pub sum : (node_at ns k).count ≡ outs ns (node_at ns k).left + outs ns (node_at ns k).right

-- with ni input literals and nc cells
pub record Ok (ns : List ℕ) (ni nc : ℕ) : Type 0 where
  pub unit : (k : ℕ) → k < length ns / node_words → (node_at ns k).kind ≡ 1 → UnitOk ns k
  pub leaf : (k : ℕ) → k < length ns / node_words → (node_at ns k).kind ≡ 0 → (node_at ns k).first < ni
  pub cells : (k : ℕ) → k < length ns / node_words → ((node_at ns k).kind ≡ 0 → ⊥) → (node_at ns k).first + outs ns k ≤ nc

-- output i of node k is there
pub record Here (ns : List ℕ) (k i : ℕ) : Type 0 where
  pub below : k < length ns / node_words
  pub out : i < outs ns k

-- .. and k is a unit
pub record Cell (ns : List ℕ) (k i : ℕ) : Type 0 where
  pub below : k < length ns / node_words
  pub unit : (node_at ns k).kind ≡ 1
  pub out : i < (node_at ns k).count

-- what is asked of the children is there, and their ids are smaller
pub record PassOk (ns : List ℕ) (k i c : ℕ) : Type 0 where
  pub cell : Cell ns k i
  pub falls : c < k
  pub out : i < outs ns c

pub record WalkOk (ns : List ℕ) (k : ℕ) (rs : Ranges) : Type 0 where
  pub below : k < length ns / node_words
  pub left_falls : rs.left < k
  pub right_falls : rs.right < k
  pub left_if_to : rs.left_if.to ≤ outs ns rs.left
  pub right_if_to : rs.right_if.to ≤ outs ns rs.right
  pub left_only_to : rs.left_only.to ≤ outs ns rs.left
  pub right_only_to : rs.right_only.to ≤ outs ns rs.right

abbrev pub Planned : List ℕ → ℕ → ℕ → Precond → Type 0
Planned ns k i Return = Unit {0}
Planned ns k i (Pass c t) = PassOk ns k i c
Planned ns k i (Continue rs t) = Cell ns k i × WalkOk ns k rs

-- ---- what a run keeps

pub record Fit (ns : List ℕ) (ins lits : List ℤ) (marks : List ℕ) (run : Run) : Type 0 where
  pub ok : Ok ns (length ins) (length lits)
  pub same : length marks ≡ length lits
  pub neg_ins : Neg ins
  pub neg_lits : Neg lits
  pub some : 1 ≤ run.next
  pub counted : run.words ≤ 2 ^ 62

-- ---- the state of a run over rows

abbrev pub state : List ℤ → List ℕ → List ℤ → Run → St Row
state ls ms r u = record { lits = ls; marks = ms; next = u.next; out = record { row = r; words = u.words } }

-- the rows and counters are those of s, and what a run keeps is kept
pub record Done (ns : List ℕ) (ins : List ℤ) (s : St Row) (ls : List ℤ) (ms : List ℕ) (r : List ℤ) (u : Run) : Type 0 where
  pub is : state ls ms r u ≡ s
  pub fit : Fit ns ins ls ms u

-- the same at each fuel from k on
pub record Ran (ns : List ℕ) (ins : List ℤ) (k : ℕ) (s : ℕ → St Row) (ls : List ℤ) (ms : List ℕ) (r : List ℤ) (u : Run) : Type 0 where
  pub is : (f : ℕ) → k ≤ f → state ls ms r u ≡ s f
  pub fit : Fit ns ins ls ms u

-- at some fuel from k on the variables that the run takes are literals
pub record Ends {S : Type 0} (k : ℕ) (s : ℕ → St S) : Type 0 where
  pub fuel : ℕ
  pub enough : k ≤ fuel
  pub within : (s fuel).next ≤ 2 ^ 31
