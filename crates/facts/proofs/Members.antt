-- What the keys of a general node are: exactly the l's, the r's and the sums l + r; and they ascend strictly. Assumes nothing.
use Prim.Native.Nat.{ℕ, zero, suc, ◌+◌, ◌*◌, ◌<◌, ◌≤◌}
use mathlib.Core.List.{List, [], ◌∷◌}
use Rattle.std.specs.Prelude.{Bool, true, false, cond, ◌≡◌, refl, ◌⊎◌, length, get_or, eqb}
use Rattle.std.proofs.Common.{ap, ap₂, ◌∙◌, inl, inr, lt-ltb, le-ltb, eq-eqb, ne_eqb}
use Rattle.std.proofs.Math.Logic.{⊎_elim}
use native.Mathlib.Omega.{arith}
use Rattle.paper.specs.Below.{side}
use Rattle.paper.specs.Rows.{word_from, value_count, value_at, con_len, con_val}
use Rattle.paper.specs.Keys.{put, put_all, keys_of, node_keys}
use Rattle.paper.specs.declared.Node.{Node}
use Rattle.facts.specs.Facts.{Under, GeneralFacts}
use Rattle.facts.specs.Members.{At, In, KeyAt, KeyIs, Rising, from_left, from_right, from_sum, here, there}

-- three ways for two numbers
pub three : {G : Type 0} (x y : ℕ) → (x < y → G) → (x ≡ y → G) → (y < x → G) → G
three x y less same more = ⊎_elim less (λ (g : y ≤ x). ⊎_elim more (λ (k : x ≤ y). same (omega arith)) (side y x)) (side x y)

-- what put does, by cases
pub put_less : (x y : ℕ) (ys : List ℕ) → x < y → put x (y ∷ ys) ≡ x ∷ y ∷ ys
unfolding put
put_less x y ys h = rw (lt-ltb x y h)

pub put_same : (x y : ℕ) (ys : List ℕ) → x ≡ y → put x (y ∷ ys) ≡ y ∷ ys
unfolding put
put_same x y ys h = rw (le-ltb x y (omega arith), eq-eqb x y h)

pub put_more : (x y : ℕ) (ys : List ℕ) → y < x → put x (y ∷ ys) ≡ y ∷ put x ys
unfolding put
put_more x y ys h = rw (le-ltb x y (omega arith), ne_eqb x y (λ e. omega arith))

-- x stands in put x s, and so does what stood in s
pub put_in : (x : ℕ) (s : List ℕ) → In x (put x s)
unfolding put
put_in x [] = here
put_in x (y ∷ ys) = three x y (λ l. rw (put_less x y ys l) here) (λ e. rw (put_same x y ys e, e) here) (λ l. rw (put_more x y ys l) (there (put_in x ys)))

pub put_keeps : (x y : ℕ) (s : List ℕ) → In y s → In y (put x s)
put_keeps x y [] i = elim i [ ]
put_keeps x y (z ∷ zs) here = three x y (λ l. rw (put_less x y zs l) (there here)) (λ e. rw (put_same x y zs e) here) (λ l. rw (put_more x y zs l) here)
put_keeps x y (z ∷ zs) (there i) = three x z (λ l. rw (put_less x z zs l) (there (there i))) (λ e. rw (put_same x z zs e) (there i)) (λ l. rw (put_more x z zs l) (there (put_keeps x y zs i)))

pub all_in : (n : ℕ) (f : ℕ → ℕ) (s : List ℕ) (j : ℕ) → j < n → In (f j) (put_all n f s)
unfolding put_all
all_in zero f s j l = absurd (omega arith)
all_in (suc n) f s j l =
    ⊎_elim (λ (h : j < n). put_keeps (f n) (f j) (put_all n f s) (all_in n f s j h))
    (λ (h : n ≤ j). let q : j ≡ n = omega arith in rw q (put_in (f n) (put_all n f s))) (side j n)

pub all_keeps : (n : ℕ) (f : ℕ → ℕ) (s : List ℕ) (y : ℕ) → In y s → In y (put_all n f s)
unfolding put_all
all_keeps zero f s y i = i
all_keeps (suc n) f s y i = put_keeps (f n) y (put_all n f s) (all_keeps n f s y i)

module _ (l : ℕ → ℕ) (nr : ℕ) (r : ℕ → ℕ) where
  step : (i : ℕ) (y : ℕ) → In y (keys_of i l nr r) → In y (keys_of (suc i) l nr r)
  unfolding keys_of
  step i y h = all_keeps nr (λ j. l i + r j) (put (l i) (keys_of i l nr r)) y (put_keeps (l i) y (keys_of i l nr r) h)

  -- every r is a key
  pub right_in : (n : ℕ) (j : ℕ) → j < nr → In (r j) (keys_of n l nr r)
  unfolding keys_of
  right_in zero j h = all_in nr r [] j h
  right_in (suc n) j h = step n (r j) (right_in n j h)

  -- every l is a key
  pub left_in : (n i : ℕ) → i < n → In (l i) (keys_of n l nr r)
  unfolding keys_of
  left_in zero i h = absurd (omega arith)
  left_in (suc n) i h =
      ⊎_elim (λ (k : i < n). step n (l i) (left_in n i k))
      (λ (k : n ≤ i). let q : i ≡ n = omega arith in rw q (all_keeps nr (λ j. l n + r j) (put (l n) (keys_of n l nr r)) (l n) (put_in (l n) (keys_of n l nr r)))) (side i n)

  -- every sum is a key
  pub sum_in : (n i j : ℕ) → i < n → j < nr → In (l i + r j) (keys_of n l nr r)
  unfolding keys_of
  sum_in zero i j h g = absurd (omega arith)
  sum_in (suc n) i j h g =
      ⊎_elim (λ (k : i < n). step n (l i + r j) (sum_in n i j k g))
      (λ (k : n ≤ i). let q : i ≡ n = omega arith in rw q (all_in nr (λ j. l n + r j) (put (l n) (keys_of n l nr r)) j g)) (side i n)

-- and nothing else is a key
in_cons : {y x : ℕ} {s : List ℕ} → In y (x ∷ s) → (y ≡ x) ⊎ In y s
in_cons here = inl refl
in_cons (there i) = inr i

pub put_only : (x y : ℕ) (s : List ℕ) → In y (put x s) → (y ≡ x) ⊎ In y s
unfolding put
put_only x y [] h = in_cons h
put_only x y (z ∷ zs) h =
    three x z
    (λ l. let k : In y (x ∷ z ∷ zs) = rw (put_less x z zs l) at h in in_cons k)
    (λ e. let k : In y (z ∷ zs) = rw (put_same x z zs e) at h in inr k)
    (λ l. let k : In y (z ∷ put x zs) = rw (put_more x z zs l) at h in
    ⊎_elim (λ (e : y ≡ z). inr (rw e here)) (λ (i : In y (put x zs)). ⊎_elim (λ (e : y ≡ x). inl e) (λ (m : In y zs). inr (there m)) (put_only x y zs i)) (in_cons k))

pub all_only : (n : ℕ) (f : ℕ → ℕ) (s : List ℕ) (y : ℕ) → In y (put_all n f s) → At n f y ⊎ In y s
unfolding put_all
all_only zero f s y h = inr h
all_only (suc n) f s y h =
    ⊎_elim (λ (e : y ≡ f n). inl (record { index = n; low = omega arith; is = e }))
    (λ (i : In y (put_all n f s)). ⊎_elim (λ (a : At n f y). inl (record { index = a.index; low = omega (arith, a.low); is = a.is })) (λ (m : In y s). inr m) (all_only n f s y i))
    (put_only (f n) y (put_all n f s) h)

pub keys_only : (nl : ℕ) (l : ℕ → ℕ) (nr : ℕ) (r : ℕ → ℕ) (y : ℕ) → In y (keys_of nl l nr r) → KeyIs nl l nr r y
unfolding keys_of
keys_only zero l nr r y h = ⊎_elim (λ (a : At nr r y). from_right a) (λ (i : In y []). elim i [ ]) (all_only nr r [] y h)
keys_only (suc n) l nr r y h =
    ⊎_elim (λ (a : At nr (λ j. l n + r j) y). from_sum n (omega arith) a)
    (λ (i : In y (put (l n) (keys_of n l nr r))). ⊎_elim
    (λ (e : y ≡ l n). from_left (record { index = n; low = omega arith; is = e }))
    (λ (m : In y (keys_of n l nr r)). more (keys_only n l nr r y m))
    (put_only (l n) y (keys_of n l nr r) i))
    (all_only nr (λ j. l n + r j) (put (l n) (keys_of n l nr r)) y h)
  where
    more : KeyIs n l nr r y → KeyIs (suc n) l nr r y
    more (from_right a) = from_right a
    more (from_left a) = from_left (record { index = a.index; low = omega (arith, a.low); is = a.is })
    more (from_sum i p a) = from_sum i (omega arith) a

-- by index
pub in_at : (y : ℕ) (s : List ℕ) → In y s → (i : ℕ) × (i < length s) × (get_or s i 0 ≡ y)
in_at y [] i = elim i [ ]
in_at y (x ∷ s) here = (0, omega arith, refl)
in_at y (x ∷ s) (there i) = let w = in_at y s i in (suc w.0, omega (arith, w.1), w.2)

put_rising : (lo x : ℕ) (s : List ℕ) → lo ≤ x → Rising lo s → Rising lo (put x s)
unfolding put
put_rising lo x [] h b = (h, tt)
put_rising lo x (y ∷ ys) h b =
    three x y
    (λ l. rw (put_less x y ys l) (h, (omega arith, b.1)))
    (λ e. rw (put_same x y ys e) b)
    (λ l. rw (put_more x y ys l) (b.0, put_rising (suc y) x ys (omega arith) b.1))

all_rising : (n : ℕ) (f : ℕ → ℕ) (s : List ℕ) → Rising 0 s → Rising 0 (put_all n f s)
unfolding put_all
all_rising zero f s b = b
all_rising (suc n) f s b = put_rising 0 (f n) (put_all n f s) (omega arith) (all_rising n f s b)

pub keys_rising : (nl : ℕ) (l : ℕ → ℕ) (nr : ℕ) (r : ℕ → ℕ) → Rising 0 (keys_of nl l nr r)
unfolding keys_of
keys_rising zero l nr r = all_rising nr r [] tt
keys_rising (suc i) l nr r = all_rising nr (λ j. l i + r j) (put (l i) (keys_of i l nr r)) (put_rising 0 (l i) (keys_of i l nr r) (omega arith) (keys_rising i l nr r))

from_low : (lo : ℕ) (s : List ℕ) (k : ℕ) → Rising lo s → k < length s → lo ≤ get_or s k 0
from_low lo [] k b l = absurd (omega arith)
from_low lo (x ∷ xs) zero b l = b.0
from_low lo (x ∷ xs) (suc k) b l = let g : suc x ≤ get_or xs k 0 = from_low (suc x) xs k b.1 (omega arith) in omega (arith, b.0)

pub rising_at : (lo : ℕ) (s : List ℕ) (i k : ℕ) → Rising lo s → i < k → k < length s → get_or s i 0 < get_or s k 0
rising_at lo [] i k b h l = absurd (omega arith)
rising_at lo (x ∷ xs) zero zero b h l = absurd (omega arith)
rising_at lo (x ∷ xs) (suc i) zero b h l = absurd (omega arith)
rising_at lo (x ∷ xs) zero (suc k) b h l = from_low (suc x) xs k b.1 (omega arith)
rising_at lo (x ∷ xs) (suc i) (suc k) b h l = rising_at (suc x) xs i k b.1 (omega arith) (omega arith)

-- "ascending, each once"
pub keys_ascend : (nl : ℕ) (l : ℕ → ℕ) (nr : ℕ) (r : ℕ → ℕ) (i k : ℕ) → i < k → k < length (keys_of nl l nr r) → get_or (keys_of nl l nr r) i 0 < get_or (keys_of nl l nr r) k 0
keys_ascend nl l nr r i k h g = rising_at 0 (keys_of nl l nr r) i k (keys_rising nl l nr r) h g

-- a key by its index is a member
pub at_in : (s : List ℕ) (i : ℕ) → i < length s → In (get_or s i 0) s
at_in [] i h = absurd (omega arith)
at_in (x ∷ s) zero h = here
at_in (x ∷ s) (suc i) h = there (at_in s i (omega arith))

-- ---- the keys see only the values below the counts

all_put_cong : (n : ℕ) (f g : ℕ → ℕ) (s : List ℕ) → ((j : ℕ) → j < n → f j ≡ g j) → put_all n f s ≡ put_all n g s
unfolding put_all
all_put_cong zero f g s h = refl
all_put_cong (suc n) f g s h = ap₂ put (h n (omega arith)) (all_put_cong n f g s (λ j l. h j (omega arith)))

pub keys_cong : (nl : ℕ) (l l' : ℕ → ℕ) (nr : ℕ) (r r' : ℕ → ℕ) → ((i : ℕ) → i < nl → l i ≡ l' i) → ((j : ℕ) → j < nr → r j ≡ r' j)
    → keys_of nl l nr r ≡ keys_of nl l' nr r'
unfolding keys_of
keys_cong zero l l' nr r r' hl hr = all_put_cong nr r r' [] hr
keys_cong (suc i) l l' nr r r' hl hr =
    all_put_cong nr (λ j. l i + r j) (λ j. l' i + r' j) _ (λ j k. ap₂ (λ (x : ℕ) (y : ℕ). x + y) (hl i (omega arith)) (hr j k))
    ∙ ap (put_all nr (λ j. l' i + r' j)) (ap₂ put (hl i (omega arith)) (keys_cong i l l' nr r r' (λ k p. hl k (omega arith)) hr))

pub value_same : (d e : List ℕ) (n : Node) (limit i : ℕ) → ((k : ℕ) → k < limit → get_or d k 0 ≡ get_or e k 0) → Under n limit → i < value_count n → value_at d n i ≡ value_at e n i
unfolding value_at
value_same d e n limit i h u l = go (eqb n.kind 0) refl
  where
    go : (t : Bool) → eqb n.kind 0 ≡ t → cond t 1 (word_from d n.first i) ≡ cond t 1 (word_from e n.first i)
    go true q = refl
    go false q = h (n.first + i) (let g : n.first + value_count n ≤ limit = u q in omega arith)

-- two rows that agree below a place have the same keys of nodes that lie below it
pub node_same : (d e : List ℕ) (l : Node) (lm : ℕ) (r : Node) (rm limit : ℕ) → ((k : ℕ) → k < limit → get_or d k 0 ≡ get_or e k 0) → Under l limit → Under r limit
    → node_keys d l lm r rm ≡ node_keys e l lm r rm
node_same d e l lm r rm limit h ul ur =
    keys_cong (value_count l) _ _ (value_count r) _ _
    (λ i k. ap (λ (v : ℕ). lm * v) (value_same d e l limit i h ul k)) (λ j k. ap (λ (v : ℕ). rm * v) (value_same d e r limit j h ur k))

module _ {keys marks : List ℕ} {n l r : Node} (f : GeneralFacts keys marks n l r) where
  key_at_in : (y : ℕ) → In y (node_keys keys l n.lmul r n.rmul) → KeyAt keys n y
  key_at_in y m =
      let w = in_at y (node_keys keys l n.lmul r n.rmul) m in
      let h : w.0 < n.count = omega (arith, w.1, f.size) in
      record { index = w.0; low = h; is = f.key w.0 h ∙ w.2 }

  pub left_key : (i : ℕ) → i < con_len l → KeyAt keys n (con_val keys l n.lmul i)
  left_key i h = key_at_in _ (left_in (con_val keys l n.lmul) (con_len r) (con_val keys r n.rmul) (con_len l) i h)

  pub right_key : (j : ℕ) → j < con_len r → KeyAt keys n (con_val keys r n.rmul j)
  right_key j h = key_at_in _ (right_in (con_val keys l n.lmul) (con_len r) (con_val keys r n.rmul) (con_len l) j h)

  pub sum_key : (i j : ℕ) → i < con_len l → j < con_len r → KeyAt keys n (con_val keys l n.lmul i + con_val keys r n.rmul j)
  sum_key i j h g = key_at_in _ (sum_in (con_val keys l n.lmul) (con_len r) (con_val keys r n.rmul) (con_len l) i j h g)

  pub key_only : (i : ℕ) → i < n.count → KeyIs (con_len l) (con_val keys l n.lmul) (con_len r) (con_val keys r n.rmul) (word_from keys n.first i)
  key_only i h =
      keys_only (con_len l) (con_val keys l n.lmul) (con_len r) (con_val keys r n.rmul) (word_from keys n.first i)
      (rw (f.key i h) (at_in (node_keys keys l n.lmul r n.rmul) i (omega (arith, f.size))))

  pub key_ascend : (i k : ℕ) → i < k → k < n.count → word_from keys n.first i < word_from keys n.first k
  key_ascend i k h g =
      let p = keys_ascend (con_len l) (con_val keys l n.lmul) (con_len r) (con_val keys r n.rmul) i k h (omega (arith, f.size)) in
      omega (arith, f.key i (omega arith), f.key k g, p)
