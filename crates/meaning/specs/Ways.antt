-- The ways in which a weighted demand makes up a value are just the pairs of the output's own clauses.
use Rattle.std.specs.Prelude.{◌≡◌, None, Option, Some}
use Prim.Native.Nat.{ℕ, suc, ◌*◌, ◌<◌, ◌≤◌}
use Rattle.meaning.specs.Base.{AtPrev}

-- what a search finds: the key of index q is v; or no key is
abbrev pub Finds : (ℕ → ℕ) → ℕ → ℕ → Option ℕ → Type 0
Finds key count v (Some q) = (q < count) × (key q ≡ v)
Finds key count v None = (q : ℕ) → q < count → key q ≡ v → ⊥

-- the place that a share has: no more than there are, its key times m is v, and it is found if it is there
pub record Share (key : ℕ → ℕ) (count m v y : ℕ) : Type 0 where
  pub low : y ≤ count
  pub is : AtPrev (λ q. m * key q ≡ v) y
  pub all : (q : ℕ) → q < count → m * key q ≡ v → y ≡ suc q
