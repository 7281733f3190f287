-- Theorem 2: every assignment of the inputs extends to satisfy the history, each output that has a literal being true exactly when the value reaches its key.
use Rattle.std.specs.Prelude.{◌≡◌, Bool, true, false, ◌&&◌, ◌||◌, cond, ◌↔◌, ℕ, zero, suc, ◌<◌, ◌≤◌, ltb, leb, eqb}
use Rattle.meaning.specs.Base.{litv}
use Rattle.meaning.specs.Table.{Tab, lit, Held, Values, History, AllSat}

-- some i below n passes the test
abbrev pub anyb : ℕ → (ℕ → Bool) → Bool
anyb zero f = false
anyb (suc n) f = f n || anyb n f

-- the extended assignment: below F as given; from F on, true if some output that holds the variable is reached
unfoldable pub extended : Tab → (ℕ → Bool) → (ℕ → ℕ) → ℕ → Bool
extended t α w v =
    cond (ltb v t.from) (α v) (anyb t.size (λ n. anyb (t.node n).count (λ j. eqb (t.held n j) v && leb (t.key n j) (w n))))

abbrev pub Exactly : Tab → (ℕ → Bool) → (ℕ → ℕ) → Type 0
Exactly t β w = (n j : ℕ) → n < t.size → j < (t.node n).count → Held t n j → (litv β (lit t n j) ≡ true) ↔ (t.key n j ≤ w n)

-- what theorem 2 gives
pub record Extension (t : Tab) (h : History) (α : ℕ → Bool) (w : ℕ → ℕ) : Type 0 where
  pub assignment : ℕ → Bool
  pub inputs : (v : ℕ) → v < t.from → assignment v ≡ α v
  pub values : Values t (litv assignment) w
  pub all : AllSat assignment h
  pub exactly : Exactly t assignment w
