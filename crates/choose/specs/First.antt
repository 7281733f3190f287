-- The least number below a bound at which a test holds, or none.
use Rattle.std.specs.Prelude.{ℕ, ◌<◌, Bool, true, false, ◌≡◌, Option, MatchOption}

abbrev pub First : ℕ → (ℕ → Bool) → Option ℕ → Type 0
First n test r =
    MatchOption r ((k : ℕ) → k < n → test k ≡ false) (λ i. (i < n) × (test i ≡ true) × ((k : ℕ) → k < i → test k ≡ false))
