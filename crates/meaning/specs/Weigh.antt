-- The plain run of a weighted demand keeps the invariant, and what was asked is done.
use Prim.Native.Nat.{ℕ, ◌<◌, ◌≤◌}
use Rattle.meaning.specs.Base.{AtPrev}
use Rattle.meaning.specs.Table.{If, Done}
use Rattle.meaning.specs.Rows.{Net, State, tab_of, marks_of, Good, Grow}

-- what a demand of the output at place y gives; place 0 is none
pub record Placed (g : Net) (len : ℕ) (σ σ' : State) (n y : ℕ) : Type 0 where
  pub good : Good g len σ'
  pub grow : Grow g σ σ'
  pub done : AtPrev (Done (tab_of g σ') (marks_of g σ') If n) y

abbrev pub Rec1 : Type 0
Rec1 = ℕ → ℕ → State → State

abbrev pub RecOk1 : Net → ℕ → Rec1 → ℕ → Type 0
RecOk1 g len r n = (c : ℕ) → c < n → (τ : State) → Good g len τ → (y : ℕ) → y ≤ (g.node c).count → Placed g len τ (r c y τ) c y
