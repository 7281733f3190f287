-- The rows of a run, and the table that they show. Taking a literal, appending own clauses and marking keep the invariant.
use Rattle.std.specs.Prelude.{◌≡◌, Bool, false, ℤ, pos, nat_abs, length, get_or, set}
use Rattle.std.proofs.Math.Bool.{true}
use mathlib.Core.List.{List, ◌++◌, Memᴰ}
use Prim.Native.Nat.{ℕ, ◌+◌, ◌<◌, ◌≤◌}
use Rattle.paper.specs.Rows.{is_neg}
use Rattle.paper.specs.Plain.{St, mark_of, has_if, has_only, taken_lits, taken_next}
use Rattle.meaning.specs.Table.{Kind, leaf, dummy, unit, general, Dir, If, OnlyIf, Node, Tab, Marks, Inner, History, Inv}
use Rattle.meaning.specs.Keep.{Ext}

-- what a run does not change
pub record Net : Type 0 where
  pub size : ℕ
  pub node : ℕ → Node
  pub first : ℕ → ℕ
  pub keys : List ℕ
  pub from : ℕ

-- what it changes; out is every clause appended since the fresh call
abbrev pub State : Type 0
State = St History

abbrev pub key_in : Kind → ℕ → ℕ
key_in leaf k = 1
key_in dummy k = 0
key_in unit k = k
key_in general k = k

abbrev pub held_in : Kind → ℕ → ℕ
held_in leaf v = 0
held_in dummy v = 0
held_in unit v = v
held_in general v = v

abbrev pub has_mark : Dir → ℕ → Bool
has_mark If k = has_if (mark_of k)
has_mark OnlyIf k = has_only (mark_of k)

abbrev pub mark_in : Kind → Dir → ℕ → Bool
mark_in leaf d k = false
mark_in dummy d k = false
mark_in unit d k = has_mark d k
mark_in general d k = has_mark d k

-- the table that the rows show
abbrev pub tab_of : Net → State → Tab
tab_of g σ =
    record {
      size = g.size;
      node = g.node;
      key = λ n j. key_in (g.node n).kind (get_or g.keys (g.first n + j) 0);
      held = λ n j. held_in (g.node n).kind (nat_abs (get_or σ.lits (g.first n + j) (pos 0)));
      from = g.from;
      next = σ.next;
    }

abbrev pub marks_of : Net → State → Marks
marks_of g σ d n j = mark_in (g.node n).kind d (get_or σ.marks (g.first n + j) 0)

-- the cells of inner nodes lie in the rows, apart from one another
pub record Room (g : Net) (len : ℕ) : Type 0 where
  pub fits : (n j : ℕ) → n < g.size → j < (g.node n).count → Inner (g.node n).kind → g.first n + j < len
  pub apart : (n j k i : ℕ) → n < g.size → j < (g.node n).count → Inner (g.node n).kind → k < g.size → i < (g.node k).count → Inner (g.node k).kind
      → g.first n + j ≡ g.first k + i → (n ≡ k) × (j ≡ i)

pub record Good (g : Net) (len : ℕ) (σ : State) : Type 0 where
  pub lits_len : len ≤ length σ.lits
  pub marks_len : len ≤ length σ.marks
  pub plain : (c : ℕ) → c < len → is_neg (get_or σ.lits c (pos 0)) ≡ false
  pub inv : Inv (tab_of g σ) (marks_of g σ) σ.out

-- marks, literals and clauses stay
pub record Grow (g : Net) (σ σ' : State) : Type 0 where
  pub marks : (d : Dir) (n j : ℕ) → n < g.size → j < (g.node n).count → marks_of g σ d n j ≡ true → marks_of g σ' d n j ≡ true
  pub ext : Ext (tab_of g σ) (tab_of g σ')
  pub sub : (c : List ℤ) → Memᴰ c σ.out → Memᴰ c σ'.out

-- the cells of the nodes from n on keep their marks
pub record Still (g : Net) (n : ℕ) (σ σ' : State) : Type 0 where
  pub same : (k j : ℕ) → n ≤ k → k < g.size → j < (g.node k).count → Inner (g.node k).kind → get_or σ'.marks (g.first k + j) 0 ≡ get_or σ.marks (g.first k + j) 0

-- the elementary operations
unfoldable pub ensure : State → ℕ → State
ensure σ c = record { lits = taken_lits σ.lits c σ.next; marks = σ.marks; next = taken_next σ.lits c σ.next; out = σ.out }

unfoldable pub put : ℕ → State → ℕ → State
put b σ c = record { lits = σ.lits; marks = set σ.marks c b; next = σ.next; out = σ.out }

unfoldable pub append : State → History → State
append σ g = record { lits = σ.lits; marks = σ.marks; next = σ.next; out = σ.out ++ g }
