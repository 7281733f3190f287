-- What a demand gives, what a loop of demands gives, and the marks once a demand is met.
use Rattle.std.specs.Prelude.{◌≡◌, Bool, true, ℕ, suc, ◌+◌, ◌<◌, ◌≤◌}
use Rattle.paper.specs.declared.Want.{Want}
use Rattle.meaning.specs.Table.{Dir, If, OnlyIf, Done, NotGeneral}
use Rattle.meaning.specs.Rows.{Net, State, tab_of, marks_of, Good, Grow, Still}

abbrev pub wants : Dir → Want → Bool
wants If w = w.fi
wants OnlyIf w = w.fo

-- what a demand gives
pub record Asked (g : Net) (len : ℕ) (σ σ' : State) (n i : ℕ) (w : Want) : Type 0 where
  pub good : Good g len σ'
  pub grow : Grow g σ σ'
  pub still : Still g (suc n) σ σ'
  pub done : (d : Dir) → wants d w ≡ true → Done (tab_of g σ') (marks_of g σ') d n i

abbrev pub Rec : Type 0
Rec = ℕ → ℕ → Want → State → State

abbrev pub RecOk : Net → ℕ → Rec → ℕ → Type 0
RecOk g len r n = (c : ℕ) → c < n → NotGeneral (g.node c).kind → (τ : State) → Good g len τ → (p : ℕ) → p < (g.node c).count → (w : Want)
    → Asked g len τ (r c p w τ) c p w

pub record Walked (g : Net) (len n : ℕ) (w : Want) (c p k : ℕ) (σ σ' : State) : Type 0 where
  pub good : Good g len σ'
  pub grow : Grow g σ σ'
  pub still : Still g n σ σ'
  pub done : (d : Dir) → wants d w ≡ true → (q : ℕ) → p ≤ q → q < p + k → Done (tab_of g σ') (marks_of g σ') d c q
