-- One induction over a run: a relation between states, bounded by node ids, that a finished cell of a unit keeps is kept by the whole unweighted run;
-- one that a clause and a cell of a general node keep too is kept by the weighted run. Every demand on the way is of an output that is there.
-- Assumes nothing.
use Prim.Native.Nat.{ℕ, ◌+◌, ◌<◌, ◌≤◌}
use Rattle.std.specs.Prelude.{List, ◌≡◌, ◌⊎◌, get_or, ℤ}
use Rattle.std.proofs.Math.Bool.{false}
use Rattle.paper.specs.Rows.{node_at, con_len}
use Rattle.paper.specs.Plain.{missing_of, St, finish_of}
use Rattle.paper.specs.Weighted.{take_lit_at, mark_at}
use Rattle.paper.specs.declared.Want.{Want}
use Rattle.paper.specs.declared.Clause.{Clause}
use Rattle.paper.specs.declared.Way.{Way}

-- what the runs rest on
pub record Falls (ns : List ℕ) (nodes : ℕ) : Type 0 where
  pub left : (k : ℕ) → k < nodes → ((node_at ns k).kind ≡ 1) ⊎ ((node_at ns k).kind ≡ 2) → (node_at ns k).left < k
  pub right : (k : ℕ) → k < nodes → ((node_at ns k).kind ≡ 1) ⊎ ((node_at ns k).kind ≡ 2) → (node_at ns k).right < k
  pub sum : (k : ℕ) → k < nodes → (node_at ns k).kind ≡ 1 → (node_at ns k).count ≡ con_len (node_at ns (node_at ns k).left) + con_len (node_at ns (node_at ns k).right)

-- cell i of the unit, or of the general node, k
pub record CellOf (kind : ℕ) (ns : List ℕ) (nodes k i : ℕ) : Type 0 where
  pub below : k < nodes
  pub is : (node_at ns k).kind ≡ kind
  pub out : i < (node_at ns k).count

-- the outputs of a way
pub record WayFits (w : Way) (a b : ℕ) : Type 0 where
  pub left : w.x ≤ a
  pub right : w.y ≤ b

-- ---- the induction

-- what a demand of a unit's cell comes to: nothing is missing; or the children are asked, which leads to t, and the cell is finished
pub data Stepped {S : Type 0} (put : S → Clause → S) (ns : List ℕ) (ins : List ℤ) (R : ℕ → St S → St S → Type 0) (k i : ℕ) (w : Want) (s out : St S) : Type 0 where
  idle : (missing_of (get_or s.marks ((node_at ns k).first + i) 0) w).want.fi ≡ false → (missing_of (get_or s.marks ((node_at ns k).first + i) 0) w).want.fo ≡ false → out ≡ s
      → Stepped put ns ins R k i w s out
  finished : (t : St S) → R k s t → out ≡ finish_of put ns ins k i (missing_of (get_or s.marks ((node_at ns k).first + i) 0) w) t → Stepped put ns ins R k i w s out

-- what a weighted demand of a general node's cell comes to: it is marked; or it takes its literal, the children are asked, which leads to t, and it is marked
pub data Summed {S : Type 0} (put : S → Clause → S) (ns : List ℕ) (R : ℕ → St S → St S → Type 0) (k i : ℕ) (s out : St S) : Type 0 where
  marked : (get_or s.marks ((node_at ns k).first + i) 0 ≡ 0 → ⊥) → out ≡ s → Summed put ns R k i s out
  summed : (t : St S) → get_or s.marks ((node_at ns k).first + i) 0 ≡ 0 → R k (take_lit_at put ((node_at ns k).first + i) s) t → out ≡ mark_at put ((node_at ns k).first + i) t
      → Summed put ns R k i s out
