-- A chain of an iterator that ends in `all` makes the test at every number below a bound. Assumes nothing.
use Rattle.std.proofs.Common.{◌≡◌, ℕ, zero, suc, ◌<◌, zero-add, Bool, ◌&&◌, List, [], ◌∷◌, length, get_or, refl, sym, ap, ap₂, ◌∙◌, arith}
use Rattle.std.proofs.Math.Bool.{and_assoc, and-true}
use Rattle.std.specs.List.{list_all, range_with_len}
use Rattle.std.proofs.lemmas.List.FromFn.{length-range_with_len, get_or-range_with_len}
use Rattle.paper.specs.Below.{all_below}

-- `all_below` tests the last number last; a list is tested from its head
all_first : (n : ℕ) (q : ℕ → Bool) → all_below (suc n) q ≡ (q 0 && all_below n (λ k. q (suc k)))
unfolding all_below
all_first zero q = sym (and-true (q 0))
all_first (suc n) q = ap (λ (t : Bool). t && q (suc n)) (all_first n q) ∙ and_assoc (q 0) (all_below n (λ k. q (suc k))) (q (suc n))

pub all_is : {X : Type 0} (p : X → Bool) (d : X) (xs : List X) (n : ℕ) (q : ℕ → Bool) → length xs ≡ n → ((k : ℕ) → k < n → p (get_or xs k d) ≡ q k)
    → list_all p xs ≡ all_below n q
unfolding all_below
all_is p d [] zero q e h = refl
all_is p d [] (suc n) q e h = absurd (omega arith)
all_is p d (x ∷ xs) zero q e h = absurd (omega arith)
all_is p d (x ∷ xs) (suc n) q e h =
    ap₂ (λ (s : Bool) (t : Bool). s && t) (h 0 (omega arith))
    (all_is p d xs n (λ k. q (suc k)) (omega arith) (λ k l. h (suc k) (omega arith)))
    ∙ sym (all_first n q)

-- `(0..n).all(..)`
pub all_range : (n : ℕ) (q : ℕ → Bool) → list_all q (range_with_len 0 n) ≡ all_below n q
all_range n q = all_is q 0 (range_with_len 0 n) n q (length-range_with_len 0 n) (λ k l. ap q (get_or-range_with_len 0 n k 0 l ∙ zero-add k))
