-- Children before parents, over a whole unweighted run: a unit's output that takes a literal takes it after those of the children's outputs that its demand
-- asks for. Assumes nothing.
use Prim.Native.Nat.{ℕ, ◌+◌, ◌<◌, ◌≤◌}
use Rattle.std.specs.Prelude.{List, ◌||◌, ◌≡◌, get_or, ℤ, pos, nat_abs}
use Rattle.std.proofs.Math.Bool.{true, false}
use Rattle.paper.specs.Rows.{node_at, is_zero, con_len}
use Rattle.paper.specs.Plain.{if_span, only_span}
use Rattle.paper.specs.declared.Want.{Want}
use Rattle.facts.specs.Taken.{cell_lit}
use Rattle.facts.specs.Rel.{CellOf}

-- output j of node c is asked for by a demand w of output i of the unit k: the ranges of step 3, which with one child dummy come down to step 2
pub data Asked (ns : List ℕ) (k i : ℕ) (w : Want) (c j : ℕ) : Type 0 where
  asked_left_if : w.fi ≡ true → c ≡ (node_at ns k).left → (if_span (con_len (node_at ns (node_at ns k).left)) (con_len (node_at ns (node_at ns k).right)) i).from ≤ j
      → j < (if_span (con_len (node_at ns (node_at ns k).left)) (con_len (node_at ns (node_at ns k).right)) i).to → Asked ns k i w c j
  asked_right_if : w.fi ≡ true → c ≡ (node_at ns k).right → (if_span (con_len (node_at ns (node_at ns k).right)) (con_len (node_at ns (node_at ns k).left)) i).from ≤ j
      → j < (if_span (con_len (node_at ns (node_at ns k).right)) (con_len (node_at ns (node_at ns k).left)) i).to → Asked ns k i w c j
  asked_left_only : w.fo ≡ true → c ≡ (node_at ns k).left → (only_span (con_len (node_at ns (node_at ns k).left)) (con_len (node_at ns (node_at ns k).right)) i).from ≤ j
      → j < (only_span (con_len (node_at ns (node_at ns k).left)) (con_len (node_at ns (node_at ns k).right)) i).to → Asked ns k i w c j
  asked_right_only : w.fo ≡ true → c ≡ (node_at ns k).right → (only_span (con_len (node_at ns (node_at ns k).right)) (con_len (node_at ns (node_at ns k).left)) i).from ≤ j
      → j < (only_span (con_len (node_at ns (node_at ns k).right)) (con_len (node_at ns (node_at ns k).left)) i).to → Asked ns k i w c j

-- a part of a demand, that asks for something
pub record Part (v w : Want) : Type 0 where
  pub fi : v.fi ≡ true → w.fi ≡ true
  pub fo : v.fo ≡ true → w.fo ≡ true

-- the cell has a literal in l', and one below u if it had none in l
pub record Before (l l' : List ℤ) (at u : ℕ) : Type 0 where
  pub some : is_zero (cell_lit l' at) ≡ false
  pub lower : cell_lit l at ≡ pos 0 → nat_abs (cell_lit l' at) < u

-- output i of the unit k took its literal u for a part of the demand w, and what that part asks of units below had theirs before
pub record AfterChildren (ns : List ℕ) (nodes : ℕ) (w : Want) (l l' : List ℤ) (k i u : ℕ) : Type 0 where
  pub part : Want
  pub within : Part part w
  pub asks : (part.fi || part.fo) ≡ true
  pub before : (c j : ℕ) → Asked ns k i part c j → CellOf 1 ns nodes c j → Before l l' ((node_at ns c).first + j) u

-- .. for each unit's output that has none in l and one in l'
abbrev pub ChildrenFirst : List ℕ → ℕ → Want → List ℤ → List ℤ → Type 0
ChildrenFirst ns nodes w l l' =
    (k i : ℕ) → CellOf 1 ns nodes k i → cell_lit l ((node_at ns k).first + i) ≡ pos 0 → (u : ℕ) → 1 ≤ u → cell_lit l' ((node_at ns k).first + i) ≡ pos u → AfterChildren ns nodes w l l' k i u

-- ---- what a run starts from: a mark only where there is a literal

abbrev pub Bare : List ℤ → List ℕ → Type 0
Bare l m = (j : ℕ) → cell_lit l j ≡ pos 0 → get_or m j 0 ≡ 0
