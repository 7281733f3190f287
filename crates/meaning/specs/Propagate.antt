-- 02, item 14, first statement: unit propagation alone gives the outputs that the decided inputs force.
use Rattle.std.specs.Prelude.{◌≡◌, Bool, true, ℤ, neg_ℤ}
use mathlib.Core.List.{List, Memᴰ}
use Rattle.meaning.specs.Table.{History}

-- what unit propagation makes true, from the clauses h and the literals that K fixes
pub data Derives (h : History) (K : ℤ → Bool) : ℤ → Type 0 where
  given : (z : ℤ) → K z ≡ true → Derives h K z
  step : (c : List ℤ) (z : ℤ) → Memᴰ c h → Memᴰ z c → ((y : ℤ) → Memᴰ y c → (y ≡ z → ⊥) → Derives h K (neg_ℤ y)) → Derives h K z
