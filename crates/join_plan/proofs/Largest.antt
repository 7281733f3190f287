-- 8 from the two counts, and 9 from the two largest values: where the children's values do not fall, the largest key is the sum of their
-- last ones. And the values of a node of a checked table do not fall. Assumes nothing.
use Prim.Native.Nat.{ℕ, zero, suc, ◌+◌, ◌<◌, ◌≤◌}
use mathlib.Core.List.{List}
use mathlib.Core.Bool.{false, ◌&&◌}
use mathlib.Core.Path.{◌≡◌, refl, sym, ◌∙◌}
use mathlib.Core.Logic.{⊎_elim}
use native.Mathlib.Nat.{zero-add, add-zero}
use native.Mathlib.Omega.{arith}
use lib.ListN.{length, get_or}
use lib.Dec.{eqb, leb}
use borrow.Author.Tests.{le-leb, lt-leb, eq-eqb, ne_eqb}
use Rattle.paper.specs.Limits.{key_limit}
use Rattle.paper.specs.Below.{all_made, all_fails, side}
use Rattle.paper.specs.Rows.{con_len, con_val, value_at}
use Rattle.paper.specs.Keys.{put_all, keys_of, node_keys}
use Rattle.paper.specs.Join.{within_limit}
use Rattle.paper.specs.declared.Node.{Node}
use Rattle.facts.specs.Facts.{NodeFacts, a_leaf, a_dummy, a_unit, a_general}
use Rattle.facts.proofs.Facts.{dummy_outputs, unit_outputs, general_outputs}
use Rattle.facts.specs.Members.{In, KeyIs, from_right, from_left, from_sum}
use Rattle.facts.proofs.Members.{right_in, left_in, sum_in, keys_only, in_at, at_in, key_ascend}
use Rattle.keys.specs.Least.{Mono, last_of, largest_of}
use Rattle.keys.proofs.Laws.{last_none, last_most, mono_times}

-- the last l and the last r make a key, if there is one of them
top_in : (nl : ℕ) (l : ℕ → ℕ) (nr : ℕ) (r : ℕ → ℕ) → 0 < nl + nr → In (last_of nl l + last_of nr r) (keys_of nl l nr r)
unfolding last_of
top_in zero l zero r h = absurd (omega arith)
top_in zero l (suc n) r h = rw (zero-add (r n)) (right_in l (suc n) r 0 n (omega arith))
top_in (suc m) l zero r h = rw (add-zero (l m)) (left_in l 0 r (suc m) m (omega arith))
top_in (suc m) l (suc n) r h = sum_in l (suc n) r (suc m) m n (omega arith) (omega arith)

-- and no key is above it
key_most : (nl : ℕ) (l : ℕ → ℕ) (nr : ℕ) (r : ℕ → ℕ) → Mono nl l → Mono nr r → (y : ℕ) → KeyIs nl l nr r y → y ≤ last_of nl l + last_of nr r
key_most nl l nr r ml mr y (from_right a) = omega (arith, a.is, last_most nr r mr a.index a.low)
key_most nl l nr r ml mr y (from_left a) = omega (arith, a.is, last_most nl l ml a.index a.low)
key_most nl l nr r ml mr y (from_sum i h a) = omega (arith, a.is, last_most nl l ml i h, last_most nr r mr a.index a.low)

no_keys : (l r : ℕ → ℕ) → length (keys_of 0 l 0 r) ≡ 0
unfolding keys_of put_all
no_keys l r = refl

some_key : (nl : ℕ) (l : ℕ → ℕ) (nr : ℕ) (r : ℕ → ℕ) → 0 < nl + nr → eqb (length (keys_of nl l nr r)) 0 ≡ false
some_key nl l nr r h = let w = in_at _ (keys_of nl l nr r) (top_in nl l nr r h) in ne_eqb (length (keys_of nl l nr r)) 0 (λ e. omega (arith, w.1))

-- 8: there is no key exactly if there is no value
pub none_counts : (nl : ℕ) (l : ℕ → ℕ) (nr : ℕ) (r : ℕ → ℕ) → eqb (length (keys_of nl l nr r)) 0 ≡ (eqb nl 0 && eqb nr 0)
none_counts zero l zero r = rw (no_keys l r)
none_counts zero l (suc n) r = rw (some_key zero l (suc n) r (omega arith), ne_eqb (suc n) 0 (λ e. omega arith))
none_counts (suc m) l nr r = rw (some_key (suc m) l nr r (omega arith), ne_eqb (suc m) 0 (λ e. omega arith))

-- 9: every key is within the limit exactly if the two last values together are
pub within_last : (nl : ℕ) (l : ℕ → ℕ) (nr : ℕ) (r : ℕ → ℕ) → Mono nl l → Mono nr r → within_limit (keys_of nl l nr r) ≡ leb (last_of nl l + last_of nr r) key_limit
within_last nl l nr r ml mr =
    let ks = keys_of nl l nr r in
    let top = last_of nl l + last_of nr r in
    ⊎_elim
    (λ (h : key_limit < top).
    let some : 0 < nl + nr = ⊎_elim (λ (p : 0 < nl + nr). p) (λ (p : nl + nr ≤ 0). absurd (omega (arith, last_none nl l (omega arith), last_none nr r (omega arith)))) (side 0 (nl + nr)) in
    let w = in_at top ks (top_in nl l nr r some) in
    all_fails (length ks) _ w.0 w.1 (lt-leb (get_or ks w.0 0) key_limit (omega (arith, w.2))) ∙ sym (lt-leb top key_limit h))
    (λ (h : top ≤ key_limit).
    all_made (length ks) _ (λ k p. le-leb (get_or ks k 0) key_limit (let q : get_or ks k 0 ≤ top = key_most nl l nr r ml mr (get_or ks k 0) (keys_only nl l nr r (get_or ks k 0) (at_in ks k p)) in omega arith))
    ∙ sym (le-leb top key_limit h))
    (side key_limit top)

pub within_largest : (keys : List ℕ) (l : Node) (lm : ℕ) (r : Node) (rm : ℕ) → Mono (con_len l) (λ k. value_at keys l k) → Mono (con_len r) (λ k. value_at keys r k)
    → within_limit (node_keys keys l lm r rm) ≡ leb (largest_of keys l lm + largest_of keys r rm) key_limit
within_largest keys l lm r rm ml mr =
    within_last (con_len l) (con_val keys l lm) (con_len r) (con_val keys r rm) (mono_times (con_len l) (λ k. value_at keys l k) lm ml) (mono_times (con_len r) (λ k. value_at keys r k) rm mr)

-- the values of a node of a checked table do not fall
pub node_mono : {keys marks : List ℕ} {n l r : Node} {id inputs cells limit : ℕ} → NodeFacts keys marks n l r id inputs cells limit → Mono (con_len n) (λ k. value_at keys n k)
unfolding value_at
node_mono {n = n} (a_leaf e f) i k h g = rw (eq-eqb n.kind 0 e) (omega arith)
node_mono {n = n} (a_dummy e f) i k h g = absurd (omega (arith, dummy_outputs n e))
node_mono {n = n} (a_unit e f u) i k h g =
    rw (ne_eqb n.kind 0 (λ q. omega arith)) (omega (arith, u.key i (omega (arith, unit_outputs n e)), u.key k (omega (arith, unit_outputs n e))))
node_mono {n = n} (a_general e f u) i k h g =
    rw (ne_eqb n.kind 0 (λ q. omega arith))
    (⊎_elim (λ (p : i < k). omega (arith, key_ascend u i k p (omega (arith, general_outputs n e)))) (λ (p : k ≤ i). let q : i ≡ k = omega arith in rw q (omega arith)) (side i k))
