-- Laws of the demands: what a done demand does to the rows, that it answers a literal, and that a demand that is already met does nothing.
-- Assumes nothing.
use Prim.Native.Nat.{ℕ}
use Rattle.std.specs.Prelude.{true, ◌≡◌}
use Rattle.paper.specs.Plain.{mark_of, has_if, has_only}
use Rattle.paper.specs.declared.Want.{Want}
use Rattle.std.specs.Prelude.{suc, ◌+◌, ◌-◌, ◌≤◌, List, ◌||◌, get_or, ℤ, pos}
use Rattle.paper.specs.Rows.{node_at}
use Rattle.paper.specs.Plain.{St, define}
use Rattle.paper.specs.Weighted.{weigh}
use Rattle.paper.specs.declared.Clause.{Clause}
use Rattle.facts.specs.Taken.{cell_lit}
use Rattle.facts.specs.Rel.{CellOf}

-- ---- a demand that is met

-- the mark m has all that w asks
pub record Met (m : ℕ) (w : Want) : Type 0 where
  pub fi : w.fi ≡ true → has_if (mark_of m) ≡ true
  pub fo : w.fo ≡ true → has_only (mark_of m) ≡ true

-- the statement of `unit_last`: a unit's output takes its literal after its children: where it had none, it has the last one that the run takes
abbrev pub UnitLast : {S : Type 0} → (S → Clause → S) → List ℕ → List ℤ → ℕ → St S → Type 0
UnitLast put ns ins nodes s = (f k i : ℕ) (w : Want) → CellOf 1 ns nodes k i → (w.fi || w.fo) ≡ true
    → cell_lit s.lits ((node_at ns k).first + i) ≡ pos 0 → get_or s.marks ((node_at ns k).first + i) 0 ≡ 0
    → (v : ℕ) × (cell_lit (define put (suc f) ns ins k i w s).lits ((node_at ns k).first + i) ≡ pos v) × ((define put (suc f) ns ins k i w s).next ≡ v + 1)

-- the statement of `sum_first`: a general node's output takes its literal before its children: where it had none, it has the first one that the run takes
abbrev pub SumFirst : {S : Type 0} → (S → Clause → S) → List ℕ → List ℤ → ℕ → St S → Type 0
SumFirst put ns ins nodes s = (keys : List ℕ) (f k y : ℕ) → 1 ≤ y → CellOf 2 ns nodes k (y - 1)
    → cell_lit s.lits ((node_at ns k).first + (y - 1)) ≡ pos 0 → get_or s.marks ((node_at ns k).first + (y - 1)) 0 ≡ 0
    → cell_lit (weigh put (suc f) ns ins keys k y s).lits ((node_at ns k).first + (y - 1)) ≡ pos s.next
