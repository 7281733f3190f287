-- The law of the keys: the least sum at least a is the first key at least a; and past key i - 1 that is key i.
-- Assumes nothing.
use Prim.Native.Nat.{ℕ, zero, suc, ◌+◌, ◌*◌, ◌<◌, ◌≤◌, ◌^◌, ◌-◌}
use mathlib.Core.List.{List, [], ◌∷◌, ◌++◌}
use mathlib.Core.Bool.{Bool, true, false, cond, ◌&&◌, and-false, and-true}
use mathlib.Core.Path.{◌≡◌, refl, sym, ap, ap₂, ◌∙◌, fun_ext, subst}
use mathlib.Core.Logic.{⊎_elim}
use native.Mathlib.Numerals.{add-one}
use native.Mathlib.Nat.{mul-le-mul, mul-le-mul_left, zero-add}
use native.Mathlib.Omega.{arith}
use lib.ListN.{length, get_or, take, drop, length-append, get_or-append}
use lib.Seq.{paste, length-take-le, get_or-take}
use lib.Dec.{eqb, leb, ltb}
use borrow.Author.Tests.{lt-ltb, le-ltb, le-leb, lt-leb, eq-eqb, ne_eqb, ltb-true, ltb-false}
use Rattle.paper.specs.Below.{all_below, all_cong, all_fails, side}
use Rattle.paper.specs.Rows.{word_from, con_len, con_val, value_at}
use Rattle.paper.specs.Limits.{mul_limit, key_limit}
use Rattle.paper.specs.declared.Node.{Node}
use Rattle.paper.specs.Keys.{node_keys, put, put_all, keys_of}
use Rattle.facts.specs.Facts.{Under}
use Rattle.facts.proofs.Members.{three, put_less, put_same, put_more, value_same, node_same}
use Rattle.keys.specs.Least.{Mono, last_of, picked_at, none, pick_of, least_all, least_sum, first_from, start_at, Cut}

-- ascending, from lo up to below hi
abbrev pub Between : ℕ → ℕ → List ℕ → Type 0
Between lo hi [] = Unit {0}
Between lo hi (x ∷ xs) = (lo ≤ x) × (x < hi) × Between (suc x) hi xs

-- what pick_of does, by cases
pick_low : (a x b : ℕ) → x < a → pick_of a x b ≡ b
pick_low a x b h = rw (lt-leb a x h)

pick_high : (a x b : ℕ) → b ≤ x → pick_of a x b ≡ b
pick_high a x b h = rw (le-ltb x b h, and-false)

pick_it : (a x b : ℕ) → a ≤ x → x < b → pick_of a x b ≡ x
pick_it a x b h g = rw (le-leb a x h, lt-ltb x b g)

from_hit : (a y : ℕ) (ys : List ℕ) → a ≤ y → first_from a (y ∷ ys) ≡ y
unfolding first_from
from_hit a y ys h = rw (le-leb a y h)

from_miss : (a y : ℕ) (ys : List ℕ) → y < a → first_from a (y ∷ ys) ≡ first_from a ys
unfolding first_from
from_miss a y ys h = rw (lt-leb a y h)

-- the first at least a of a list with x put in: the better of x and the first before
first_put : (a x : ℕ) (s : List ℕ) → x < none → first_from a (put x s) ≡ pick_of a x (first_from a s)
unfolding first_from put
first_put a x [] h = rw (lt-ltb x none h, and-true)
first_put a x (y ∷ ys) h = three x y less same (more (first_put a x ys h))
  where
    less : x < y → first_from a (put x (y ∷ ys)) ≡ pick_of a x (first_from a (y ∷ ys))
    less l = ⊎_elim
        (λ b. rw (put_less x y ys l, from_miss a x (y ∷ ys) b) (sym (pick_low a x _ b)))
        (λ b. rw (put_less x y ys l, from_hit a x (y ∷ ys) b, from_hit a y ys (omega arith)) (sym (pick_it a x y b l)))
        (side x a)

    same : x ≡ y → first_from a (put x (y ∷ ys)) ≡ pick_of a x (first_from a (y ∷ ys))
    same e = ⊎_elim
        (λ b. rw (put_same x y ys e) (sym (pick_low a x _ b)))
        (λ b. rw (put_same x y ys e, from_hit a y ys (omega arith)) (sym (pick_high a x y (omega arith))))
        (side x a)

    more : first_from a (put x ys) ≡ pick_of a x (first_from a ys) → y < x → first_from a (put x (y ∷ ys)) ≡ pick_of a x (first_from a (y ∷ ys))
    more ih l = ⊎_elim
        (λ b. rw (put_more x y ys l, from_miss a y (put x ys) b, from_miss a y ys b) ih)
        (λ b. rw (put_more x y ys l, from_hit a y (put x ys) b, from_hit a y ys b) (sym (pick_high a x y (omega arith))))
        (side y a)

first_all : (a n : ℕ) (f : ℕ → ℕ) (s : List ℕ) → ((j : ℕ) → f j < none) → first_from a (put_all n f s) ≡ least_all n f a (first_from a s)
unfolding put_all least_all
first_all a zero f s h = refl
first_all a (suc n) f s h = first_put a (f n) (put_all n f s) (h n) ∙ ap (pick_of a (f n)) (first_all a n f s h)

-- THE LAW, first half: the least sum at least a is the first key at least a
pub least_is_first : (a nl : ℕ) (l : ℕ → ℕ) (nr : ℕ) (r : ℕ → ℕ) → ((i : ℕ) → l i < 2 ^ 60) → ((j : ℕ) → r j < 2 ^ 60)
    → least_sum nl l nr r a ≡ first_from a (keys_of nl l nr r)
unfolding least_sum keys_of first_from
least_is_first a zero l nr r hl hr = sym (first_all a nr r [] (λ j. omega (arith, hr j)))
least_is_first a (suc i) l nr r hl hr =
    sym (first_all a nr (λ j. l i + r j) (put (l i) (keys_of i l nr r)) (λ j. omega (arith, hl i, hr j))
    ∙ ap (least_all nr (λ j. l i + r j) a) (first_put a (l i) (keys_of i l nr r) (omega (arith, hl i)) ∙ ap (pick_of a (l i)) (sym (least_is_first a i l nr r hl hr))))

put_between : (lo hi x : ℕ) (s : List ℕ) → lo ≤ x → x < hi → Between lo hi s → Between lo hi (put x s)
unfolding put
put_between lo hi x [] h g b = (h, g, tt)
put_between lo hi x (y ∷ ys) h g b =
    three x y
    (λ l. rw (put_less x y ys l) (h, g, (omega arith, b.1, b.2)))
    (λ e. rw (put_same x y ys e) b)
    (λ l. rw (put_more x y ys l) (b.0, b.1, put_between (suc y) hi x ys (omega arith) g b.2))

all_between : (hi n : ℕ) (f : ℕ → ℕ) (s : List ℕ) → ((j : ℕ) → f j < hi) → Between 0 hi s → Between 0 hi (put_all n f s)
unfolding put_all
all_between hi zero f s h b = b
all_between hi (suc n) f s h b = put_between 0 hi (f n) (put_all n f s) (omega arith) (h n) (all_between hi n f s h b)

-- the keys ascend, and are below none
pub keys_between : (nl : ℕ) (l : ℕ → ℕ) (nr : ℕ) (r : ℕ → ℕ) → ((i : ℕ) → l i < 2 ^ 60) → ((j : ℕ) → r j < 2 ^ 60) → Between 0 none (keys_of nl l nr r)
unfolding keys_of
keys_between zero l nr r hl hr = all_between none nr r [] (λ j. omega (arith, hr j)) tt
keys_between (suc i) l nr r hl hr =
    all_between none nr (λ j. l i + r j) _ (λ j. omega (arith, hl i, hr j))
    (put_between 0 none (l i) _ (omega arith) (omega (arith, hl i)) (keys_between i l nr r hl hr))

first_head : (a lo : ℕ) (s : List ℕ) → a ≤ lo → Between lo none s → first_from a s ≡ get_or s 0 none
unfolding first_from
first_head a lo [] h b = refl
first_head a lo (x ∷ xs) h b = from_hit a x xs (omega (arith, b.0))

at_least : (lo : ℕ) (s : List ℕ) (i : ℕ) → lo ≤ none → Between lo none s → lo ≤ get_or s i none
at_least lo [] i h b = h
at_least lo (x ∷ xs) zero h b = b.0
at_least lo (x ∷ xs) (suc i) h b = let g : suc x ≤ get_or xs i none = at_least (suc x) xs i b.1 b.2 in omega (arith, b.0)

first_next : (lo : ℕ) (s : List ℕ) (i : ℕ) → Between lo none s → first_from (get_or s i none + 1) s ≡ get_or s (suc i) none
unfolding first_from
first_next lo [] i b = refl
first_next lo (x ∷ xs) zero b = from_miss (x + 1) x xs (omega arith) ∙ first_head (x + 1) (suc x) xs (omega arith) b.2
first_next lo (x ∷ xs) (suc i) b =
    let g : suc x ≤ get_or xs i none = at_least (suc x) xs i b.1 b.2 in
    from_miss (get_or xs i none + 1) x xs (omega arith) ∙ first_next (suc x) xs i b.2

-- THE LAW, second half: from past key i - 1 on, the first key is key i
pub first_is_key : (s : List ℕ) (i : ℕ) → Between 0 none s → first_from (start_at s i) s ≡ get_or s i none
first_is_key s zero b = first_head 0 0 s (omega arith) b
first_is_key s (suc i) b = first_next 0 s i b

-- a default is not seen within the list
pub within : (s : List ℕ) (i d e : ℕ) → i < length s → get_or s i d ≡ get_or s i e
within [] i d e h = absurd (omega arith)
within (x ∷ xs) zero d e h = refl
within (x ∷ xs) (suc i) d e h = within xs i d e (omega arith)

pub past : (s : List ℕ) (i d : ℕ) → length s ≤ i → get_or s i d ≡ d
past [] i d h = refl
past (x ∷ xs) zero d h = absurd (omega arith)
past (x ∷ xs) (suc i) d h = past xs i d (omega arith)

pub key_below : (lo : ℕ) (s : List ℕ) (i d : ℕ) → Between lo none s → i < length s → get_or s i d < none
key_below lo [] i d b h = absurd (omega arith)
key_below lo (x ∷ xs) zero d b h = b.1
key_below lo (x ∷ xs) (suc i) d b h = key_below (suc x) xs i d b.2 (omega arith)

pub key_most : (lo : ℕ) (s : List ℕ) (i : ℕ) → Between lo none s → get_or s i none ≤ none
key_most lo s i b = ⊎_elim (λ l. omega (arith, key_below lo s i none b l)) (λ g. omega (arith, past s i none g)) (side i (length s))

-- a row's word is no `none`
no_none : (w : ℕ) → (eqb w none && leb w key_limit) ≡ false
no_none w = ⊎_elim (λ l. rw (lt-leb w key_limit l, and-false)) (λ g. rw (ne_eqb w none (λ e. omega arith))) (side key_limit w)

-- the code's test of a row against the keys, and row_equals
pub row_test : (s : List ℕ) (w : ℕ → ℕ) (n : ℕ) → Between 0 none s
    → (all_below n (λ i. eqb (w i) (get_or s i none) && leb (w i) key_limit) && eqb (get_or s n none) none)
    ≡ (eqb (length s) n && all_below n (λ i. eqb (w i) (get_or s i 0) && leb (w i) key_limit))
row_test s w n b =
    three (length s) n
    (λ l. rw (ne_eqb (length s) n (λ e. omega arith))
    (ap (λ (t : Bool). t && eqb (get_or s n none) none)
    (all_fails n _ (length s) l (ap (λ (k : ℕ). eqb (w (length s)) k && leb (w (length s)) key_limit) (past s (length s) none (omega arith)) ∙ no_none (w (length s))))))
    (λ e. rw (eq-eqb (length s) n e, eq-eqb (get_or s n none) none (past s n none (omega arith)), and-true)
    (all_cong n _ _ (λ k l. ap (λ (v : ℕ). eqb (w k) v && leb (w k) key_limit) (within s k none 0 (omega arith)))))
    (λ l. rw (ne_eqb (length s) n (λ e. omega arith), ne_eqb (get_or s n none) none (λ e. omega (arith, key_below 0 s n none b l)), and-false))

-- the bounds of products
pub prod_small : (m v : ℕ) → m ≤ mul_limit → v < 4294967296 → m * v < 2 ^ 48
prod_small m v h g =
    let g' : v ≤ 4294967295 = omega arith in
    let k : m * v ≤ mul_limit * 4294967295 = mul-le-mul h g' in
    omega arith

-- a word that is a value, and the keys of a node over a row of words
pub value_small : (keys : List ℕ) (n : Node) (i : ℕ) → ((k : ℕ) → get_or keys k 0 < 4294967296) → value_at keys n i < 4294967296
unfolding value_at
value_small keys n i h = go (eqb n.kind 0)
  where
    go : (t : Bool) → cond t 1 (word_from keys n.first i) < 4294967296
    go true = omega arith
    go false = h (n.first + i)

pub values_small : (keys : List ℕ) (n : Node) (m i : ℕ) → ((k : ℕ) → get_or keys k 0 < 4294967296) → m ≤ mul_limit → con_val keys n m i < 2 ^ 60
values_small keys n m i h g = omega (arith, prod_small m (value_at keys n i) g (value_small keys n i h))

pub node_between : (keys : List ℕ) (l : Node) (lm : ℕ) (r : Node) (rm : ℕ) → ((k : ℕ) → get_or keys k 0 < 4294967296) → lm ≤ mul_limit → rm ≤ mul_limit
    → Between 0 none (node_keys keys l lm r rm)
node_between keys l lm r rm h g k = keys_between (con_len l) _ (con_len r) _ (λ i. values_small keys l lm i h g) (λ j. values_small keys r rm j h k)

pub node_least : (a : ℕ) (keys : List ℕ) (l : Node) (lm : ℕ) (r : Node) (rm : ℕ) → ((k : ℕ) → get_or keys k 0 < 4294967296) → lm ≤ mul_limit → rm ≤ mul_limit
    → least_sum (con_len l) (con_val keys l lm) (con_len r) (con_val keys r rm) a ≡ first_from a (node_keys keys l lm r rm)
node_least a keys l lm r rm h g k = least_is_first a (con_len l) _ (con_len r) _ (λ i. values_small keys l lm i h g) (λ j. values_small keys r rm j h k)

-- one turn of the code's loops
pub all_least_none : (f : ℕ → ℕ) (a b : ℕ) → b ≡ least_all 0 f a b
unfolding least_all
all_least_none f a b = refl

pub all_least_more : (n : ℕ) (f : ℕ → ℕ) (a b : ℕ) → pick_of a (f n) (least_all n f a b) ≡ least_all (n + 1) f a b
unfolding least_all
all_least_more n f a b = rw (add-one n)

pub sum_least_none : (l : ℕ → ℕ) (nr : ℕ) (r : ℕ → ℕ) (a : ℕ) → least_all nr (λ j. 0 + r j) a none ≡ least_sum 0 l nr r a
unfolding least_sum
sum_least_none l nr r a = ap (λ (f : ℕ → ℕ). least_all nr f a none) (fun_ext (λ j. zero-add (r j)))

pub sum_least_more : (i : ℕ) (l : ℕ → ℕ) (nr : ℕ) (r : ℕ → ℕ) (a : ℕ)
    → least_all nr (λ j. l i + r j) a (pick_of a (l i) (least_sum i l nr r a)) ≡ least_sum (i + 1) l nr r a
unfolding least_sum
sum_least_more i l nr r a = rw (add-one i)

pub start_more : (s : List ℕ) (i : ℕ) → get_or s i none + 1 ≡ start_at s (i + 1)
start_more s i = rw (add-one i)

-- the keys of a list that ends at i: none there means that there are i keys
pub none_ends : (s : List ℕ) (i : ℕ) → Between 0 none s → get_or s i none ≡ none → length s ≤ i
none_ends s i b e = ⊎_elim (λ l. absurd (let k : get_or s i none < none = key_below 0 s i none b l in omega arith)) (λ g. g) (side i (length s))

pub some_goes : (s : List ℕ) (i : ℕ) → (get_or s i none ≡ none → ⊥) → i < length s
some_goes s i h = ⊎_elim (λ l. l) (λ g. absurd (h (past s i none g))) (side i (length s))

-- two rows that agree below a place: values that do not fall in the one do not fall in the other
pub mono_same : (d e : List ℕ) (n : Node) (at : ℕ) → ((k : ℕ) → k < at → get_or d k 0 ≡ get_or e k 0) → Under n at → Mono (con_len n) (λ k. value_at e n k)
    → Mono (con_len n) (λ k. value_at d n k)
mono_same d e n at h u m i k l g =
    let p : value_at d n i ≡ value_at e n i = value_same d e n at i h u (omega arith) in
    let q : value_at d n k ≡ value_at e n k = value_same d e n at k h u g in
    omega (arith, m i k l g)

-- below a paste, and its length
pub paste_below : (d : List ℕ) (at : ℕ) (s : List ℕ) (n k : ℕ) → at ≤ length d → k < at → get_or (paste d at s n) k 0 ≡ get_or d k 0
paste_below d at s n k h l =
    let q : length (take at d) ≡ at = length-take-le at d h in
    get_or-append (take at d ++ take n s) (drop (at + n) d) 0 k (omega (arith, length-append (take at d) (take n s)))
    ∙ get_or-append (take at d) (take n s) 0 k (omega arith)
    ∙ get_or-take at d k 0 l

-- P5: leaves times 3 and times 2 have the keys 2, 3, 5
p5 : keys_of 1 (λ _. 3) 1 (λ _. 2) ≡ 2 ∷ 3 ∷ 5 ∷ []
unfolding keys_of put_all put
p5 = refl

-- THE STAIRCASE: in a row of values that do not fall, the least at least a is the first that is
pick_twice : (a x y b : ℕ) → a ≤ x → x ≤ y → pick_of a y (pick_of a x b) ≡ pick_of a x b
pick_twice a x y b h g =
    ⊎_elim (λ (l : x < b). rw (pick_it a x b h l) (pick_high a y x g)) (λ (l : b ≤ x). rw (pick_high a x b l) (pick_high a y b (omega arith))) (side x b)

all_low : (n : ℕ) (f : ℕ → ℕ) (a b : ℕ) → ((k : ℕ) → k < n → f k < a) → least_all n f a b ≡ b
unfolding least_all
all_low zero f a b h = refl
all_low (suc n) f a b h = pick_low a (f n) (least_all n f a b) (h n (omega arith)) ∙ all_low n f a b (λ k l. h k (omega arith))

row_from : (n : ℕ) (f : ℕ → ℕ) (a b j : ℕ) → j < n → ((k : ℕ) → k < j → f k < a) → ((k : ℕ) → j ≤ k → k < n → f j ≤ f k) → a ≤ f j
    → least_all n f a b ≡ pick_of a (f j) b
unfolding least_all
row_from zero f a b j l h m g = absurd (omega arith)
row_from (suc n) f a b j l h m g =
    ⊎_elim
    (λ (k : j < n). ap (pick_of a (f n)) (row_from n f a b j k h (λ i p q. m i p (omega arith)) g) ∙ pick_twice a (f j) (f n) b g (m n (omega arith) (omega arith)))
    (λ (k : n ≤ j). let q : n ≡ j = omega arith in ap₂ (λ (i : ℕ) (x : ℕ). pick_of a (f i) x) q (all_low n f a b (λ i p. h i (omega arith))))
    (side j n)

pub row_least : (n : ℕ) (f : ℕ → ℕ) (a b j : ℕ) → j ≤ n → ((k : ℕ) → k < j → f k < a) → ((i k : ℕ) → i ≤ k → k < n → f i ≤ f k) → (j < n → a ≤ f j)
    → cond (ltb j n) (pick_of a (f j) b) b ≡ least_all n f a b
row_least n f a b j l h m g =
    ⊎_elim (λ (k : j < n). rw (lt-ltb j n k) (sym (row_from n f a b j k h (λ i p q. m j i p q) (g k))))
    (λ (k : n ≤ j). rw (le-ltb j n k) (sym (all_low n f a b (λ i p. h i (omega arith)))))
    (side j n)

pub mono_times : (n : ℕ) (f : ℕ → ℕ) (m : ℕ) → Mono n f → Mono n (λ k. m * f k)
mono_times n f m h i k l g = mul-le-mul_left m (h i k l g)

-- the last value is there, and no value is above it
pub last_none : (n : ℕ) (f : ℕ → ℕ) → n ≡ 0 → 0 ≡ last_of n f
unfolding last_of
last_none n f e = rw e

pub last_some : (n : ℕ) (f : ℕ → ℕ) → (n ≡ 0 → ⊥) → f (n - 1) ≡ last_of n f
unfolding last_of
last_some zero f h = absurd (h refl)
last_some (suc n) f h = ap f (let q : suc n - 1 ≡ n = omega arith in q)

pub last_most : (n : ℕ) (f : ℕ → ℕ) → Mono n f → (k : ℕ) → k < n → f k ≤ last_of n f
unfolding last_of
last_most zero f mono k l = absurd (omega arith)
last_most (suc n) f mono k l = mono k n (omega arith) (omega arith)

-- one row of the staircase: from j0 on all are at least a, j is where that begins
module _ (n : ℕ) (r : ℕ → ℕ) (mono : Mono n r) (x a j0 j : ℕ) (j0≤n : j0 ≤ n) (j≤j0 : j ≤ j0)
    (mid : (k : ℕ) → j ≤ k → k < j0 → a ≤ x + r k) (low : (k : ℕ) → suc k ≡ j → x + r k < a) (high : (k : ℕ) → j0 ≤ k → k < n → a ≤ x + r k) where
  pub stair_high : (k : ℕ) → j ≤ k → k < n → a ≤ x + r k
  stair_high k h g = ⊎_elim (λ (l : k < j0). mid k h l) (λ (l : j0 ≤ k). high k l g) (side k j0)

  stair_low : (p : ℕ) → p ≡ j → (k : ℕ) → k < p → x + r k < a
  stair_low zero e k l = absurd (omega arith)
  stair_low (suc p) e k l = let h : x + r p < a = low p e in let g : r k ≤ r p = mono k p (omega arith) (omega arith) in omega arith

  pub stair_row : (b : ℕ) → picked_at n (λ k. x + r k) a b j ≡ least_all n (λ k. x + r k) a b
  stair_row b =
      row_least n (λ k. x + r k) a b j (omega arith) (λ k l. stair_low j refl k l)
      (λ i k h g. let m : r i ≤ r k = mono i k h g in omega arith)
      (λ l. stair_high j (omega arith) l)

-- a turn of the halving: the place mid was looked at
module _ (n : ℕ) (f : ℕ → ℕ) (mono : Mono n f) (x a j lo mid hi : ℕ) (from : lo ≤ mid) (below : mid < hi) (j≤n : j ≤ n) (c : Cut f x a j lo hi) where
  pub cut_turn : (low : Bool) → low ≡ ltb (x + f mid) a → Cut f x a j (cond low (mid + 1) lo) (cond low hi mid)
  cut_turn true e =
      let h : x + f mid < a = ltb-true (x + f mid) a (sym e) in
      record { ends = omega arith; within = c.within; low = λ k s. (let z : k ≡ mid = omega arith in subst (λ (w : ℕ). x + f w < a) (sym z) h); high = c.high }
  cut_turn false e =
      let h : a ≤ x + f mid = ltb-false (x + f mid) a (sym e) in
      record { ends = from; within = omega (arith, c.within); low = c.low; high = λ k s t. (let m : f mid ≤ f k = mono mid k s (omega arith) in omega arith) }

pub cut_less : (lo mid hi : ℕ) → lo ≤ mid → mid < hi → (low : Bool) → cond low hi mid - cond low (mid + 1) lo < hi - lo
cut_less lo mid hi h g true = omega arith
cut_less lo mid hi h g false = omega arith

-- what is below the cut is low
pub cut_below : (n : ℕ) (f : ℕ → ℕ) → Mono n f → (x a j t : ℕ) → j ≤ n → Cut f x a j t t → (k : ℕ) → k < t → x + f k < a
cut_below n f mono x a j t h c k l = go t refl
  where
    go : (p : ℕ) → p ≡ t → x + f k < a
    go zero e = absurd (omega arith)
    go (suc p) e = let q : x + f p < a = c.low p e in let m : f k ≤ f p = mono k p (omega arith) (omega (arith, c.within)) in omega arith

-- rows that do not reach a are passed over
pub skip_rows : (n : ℕ) (l : ℕ → ℕ) (nr : ℕ) (r : ℕ → ℕ) (a most : ℕ) → ((k : ℕ) → k < nr → r k ≤ most) → ((k : ℕ) → k < n → most + l k < a)
    → least_sum 0 l nr r a ≡ least_sum n l nr r a
unfolding least_sum
skip_rows zero l nr r a most h g = refl
skip_rows (suc n) l nr r a most h g =
    skip_rows n l nr r a most h (λ k p. g k (omega arith))
    ∙ sym (all_low nr (λ j. l n + r j) a (pick_of a (l n) (least_sum n l nr r a)) (λ k p. omega (arith, h k p, g n (omega arith))) ∙ pick_low a (l n) (least_sum n l nr r a) (omega (arith, g n (omega arith))))

-- a itself cannot be bettered
pick_stays : (a x : ℕ) → pick_of a x a ≡ a
pick_stays a x = ⊎_elim (λ (h : x < a). pick_low a x a h) (λ (h : a ≤ x). pick_high a x a h) (side x a)

all_stays : (n : ℕ) (f : ℕ → ℕ) (a : ℕ) → least_all n f a a ≡ a
unfolding least_all
all_stays zero f a = refl
all_stays (suc n) f a = ap (pick_of a (f n)) (all_stays n f a) ∙ pick_stays a (f n)

pub sum_stays : (l : ℕ → ℕ) (nr : ℕ) (r : ℕ → ℕ) (a i : ℕ) → least_sum i l nr r a ≡ a → (d : ℕ) → least_sum (d + i) l nr r a ≡ a
unfolding least_sum
sum_stays l nr r a i e zero = ap (λ (k : ℕ). least_sum k l nr r a) (zero-add i) ∙ e
sum_stays l nr r a i e (suc d) =
    let q : suc d + i ≡ suc (d + i) = omega arith in
    ap (λ (k : ℕ). least_sum k l nr r a) q
    ∙ ap (λ (b : ℕ). least_all nr (λ j. l (d + i) + r j) a (pick_of a (l (d + i)) b)) (sum_stays l nr r a i e d)
    ∙ ap (least_all nr (λ j. l (d + i) + r j) a) (pick_stays a (l (d + i)))
    ∙ all_stays nr (λ j. l (d + i) + r j) a

-- ---- the loops of the code

-- a turn of a loop that goes through the keys: what is asked for from past key i - 1 on is key i, and `none` at most
pub turn_key : (keys : List ℕ) (l : Node) (lm : ℕ) (r : Node) (rm : ℕ) → ((k : ℕ) → get_or keys k 0 < 4294967296) → lm ≤ mul_limit → rm ≤ mul_limit
    → (x a i : ℕ) → x ≡ first_from a (node_keys keys l lm r rm) → a ≡ start_at (node_keys keys l lm r rm) i
    → (x ≡ get_or (node_keys keys l lm r rm) i none) × (x ≤ none)
turn_key keys l lm r rm h g k x a i e s =
    let b = node_between keys l lm r rm h g k in
    let key : x ≡ get_or (node_keys keys l lm r rm) i none = e ∙ ap (λ (v : ℕ). first_from v (node_keys keys l lm r rm)) s ∙ first_is_key (node_keys keys l lm r rm) i b in
    (key, omega (arith, key, key_most 0 (node_keys keys l lm r rm) i b))

-- .. and where the next one starts
pub turn_start : (s : List ℕ) (x i : ℕ) → x ≡ get_or s i none → x + 1 ≡ start_at s (i + 1)
turn_start s x i e = ap (λ (v : ℕ). v + 1) e ∙ start_more s i

-- while keys are written from `at` on, the row is as it was below `at`, and so are the children's values
pub pasted_below : (d now : List ℕ) (at : ℕ) (s : List ℕ) (i : ℕ) → now ≡ paste d at s i → at ≤ length d → (k : ℕ) → k < at → get_or now k 0 ≡ get_or d k 0
pasted_below d now at s i e h k l = ap (λ (row : List ℕ). get_or row k 0) e ∙ paste_below d at s i k h l

-- .. so that a turn asks as if nothing had been written
pub turn_write : (d now : List ℕ) (l : Node) (lm : ℕ) (r : Node) (rm at : ℕ) → ((k : ℕ) → get_or d k 0 < 4294967296) → lm ≤ mul_limit → rm ≤ mul_limit
    → (x a i : ℕ) → now ≡ paste d at (node_keys d l lm r rm) i → at ≤ length d → Under l at → Under r at
    → x ≡ first_from a (node_keys now l lm r rm) → a ≡ start_at (node_keys d l lm r rm) i
    → (x ≡ get_or (node_keys d l lm r rm) i none) × (x ≤ none)
turn_write d now l lm r rm at h g k x a i e t u v q s =
    turn_key d l lm r rm h g k x a i (q ∙ ap (first_from a) (node_same now d l lm r rm at (pasted_below d now at (node_keys d l lm r rm) i e t) u v)) s
