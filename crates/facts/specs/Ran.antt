-- What a run of a demand does to the literals, the marks and the next variable, whatever becomes of its clauses. Assumes nothing.
use Rattle.std.specs.Prelude.{ℕ, ◌+◌, ◌<◌, ◌≤◌, List, true, false, ◌≡◌, ◌⊎◌, ℤ}
use Rattle.std.proofs.Math.ListN.{length, get_or}
use Rattle.paper.specs.Rows.{node_at, is_zero}
use Rattle.paper.specs.Plain.{mark_of, has_if, has_only, St}
use Rattle.paper.specs.declared.Node.{Node}
use Rattle.facts.specs.Taken.{cell_lit, InOrder}
use Rattle.facts.specs.Rel.{Falls, CellOf}

abbrev pub Inner : Node → Type 0
Inner n = (n.kind ≡ 1) ⊎ (n.kind ≡ 2)

-- the cells of the inner nodes lie within nc, and apart
pub record Laid (ns : List ℕ) (nodes nc : ℕ) : Type 0 where
  pub falling : Falls ns nodes
  pub within : (k : ℕ) → k < nodes → Inner (node_at ns k) → (node_at ns k).first + (node_at ns k).count ≤ nc
  pub apart : (i k : ℕ) → i < k → k < nodes → Inner (node_at ns i) → Inner (node_at ns k) → (node_at ns i).first + (node_at ns i).count ≤ (node_at ns k).first

-- what becomes of the mark of cell j: it stays; or the cell, which then has a literal, is a unit's and gets a mark of at most 3, or a general node's and gets 1
pub data Move (ns : List ℕ) (nodes j m m' : ℕ) (x' : ℤ) : Type 0 where
  same : m' ≡ m → Move ns nodes j m m' x'
  by_unit : (k i : ℕ) → CellOf 1 ns nodes k i → j ≡ (node_at ns k).first + i → m' ≤ 3 → is_zero x' ≡ false → Move ns nodes j m m' x'
  by_sum : (k i : ℕ) → CellOf 2 ns nodes k i → j ≡ (node_at ns k).first + i → m' ≡ 1 → is_zero x' ≡ false → Move ns nodes j m m' x'

-- ---- the relation: from literals l, marks m, next variable n to l', m', n', through nodes below b

pub record Ran (ns : List ℕ) (nodes b : ℕ) (l : List ℤ) (m : List ℕ) (n : ℕ) (l' : List ℤ) (m' : List ℕ) (n' : ℕ) : Type 0 where
  pub order : InOrder l n l' n'
  pub lit_far : (k i : ℕ) → b ≤ k → k < nodes → Inner (node_at ns k) → i < (node_at ns k).count → cell_lit l' ((node_at ns k).first + i) ≡ cell_lit l ((node_at ns k).first + i)
  pub size : length m' ≡ length m
  pub mark : (j : ℕ) → Move ns nodes j (get_or m j 0) (get_or m' j 0) (cell_lit l' j)
  pub far : (k i : ℕ) → b ≤ k → k < nodes → Inner (node_at ns k) → i < (node_at ns k).count → get_or m' ((node_at ns k).first + i) 0 ≡ get_or m ((node_at ns k).first + i) 0
  pub if_kept : (j : ℕ) → has_if (mark_of (get_or m j 0)) ≡ true → has_if (mark_of (get_or m' j 0)) ≡ true
  pub only_kept : (j : ℕ) → has_only (mark_of (get_or m j 0)) ≡ true → has_only (mark_of (get_or m' j 0)) ≡ true

-- what a run may start from: nc cells, and a variable that is no 0
pub record Good {S : Type 0} (nc : ℕ) (s : St S) : Type 0 where
  pub some : 1 ≤ s.next
  pub lit_row : nc ≤ length s.lits
  pub mark_row : nc ≤ length s.marks

abbrev pub RanFrom : {S : Type 0} → List ℕ → ℕ → ℕ → ℕ → St S → St S → Type 0
RanFrom ns nodes nc b s t = Good nc s → Ran ns nodes b s.lits s.marks s.next t.lits t.marks t.next
