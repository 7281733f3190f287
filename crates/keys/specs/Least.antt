-- What the code computes, on the way to a general node's keys: the least of L, R and the sums that is at least a.
use Rattle.std.specs.Prelude.{ℕ, zero, suc, ◌+◌, ◌≤◌, ◌<◌, List, [], ◌∷◌, cond, ◌&&◌, ◌≡◌, get_or, leb, ltb}
use Rattle.paper.specs.Rows.{con_len, con_val, value_at}
use Rattle.paper.specs.declared.Node.{Node}

-- no number at least a: above every sum of two products of a multiplier and a word
abbrev pub none : ℕ
none = 4611686018427387904

abbrev pub pick_of : ℕ → ℕ → ℕ → ℕ
pick_of a x best = cond (leb a x && ltb x best) x best

unfoldable pub least_all : ℕ → (ℕ → ℕ) → ℕ → ℕ → ℕ
least_all zero f a best = best
least_all (suc n) f a best = pick_of a (f n) (least_all n f a best)

unfoldable pub least_sum : ℕ → (ℕ → ℕ) → ℕ → (ℕ → ℕ) → ℕ → ℕ
least_sum zero l nr r a = least_all nr r a none
least_sum (suc i) l nr r a = least_all nr (λ j. l i + r j) a (pick_of a (l i) (least_sum i l nr r a))

-- the first of an ascending list at least a
unfoldable pub first_from : ℕ → List ℕ → ℕ
first_from a [] = none
first_from a (x ∷ xs) = cond (leb a x) x (first_from a xs)

-- the first n of f do not fall
abbrev pub Mono : ℕ → (ℕ → ℕ) → Type 0
Mono n f = (i k : ℕ) → i ≤ k → k < n → f i ≤ f k

-- a node's values do not fall
abbrev pub Ascends : List ℕ → Node → Type 0
Ascends keys n = Mono (con_len n) (λ k. value_at keys n k)

-- the last of the first n of f, or 0: where they do not fall, the largest
unfoldable pub last_of : ℕ → (ℕ → ℕ) → ℕ
last_of zero f = 0
last_of (suc n) f = f n

-- .. of a node's values times a multiplier
abbrev pub largest_of : List ℕ → Node → ℕ → ℕ
largest_of keys n m = last_of (con_len n) (con_val keys n m)

-- below j: what is next below lo is low, and from hi on all is at least a
pub record Cut (f : ℕ → ℕ) (x a j lo hi : ℕ) : Type 0 where
  pub ends : lo ≤ hi
  pub within : hi ≤ j
  pub low : (k : ℕ) → suc k ≡ lo → x + f k < a
  pub high : (k : ℕ) → hi ≤ k → k < j → a ≤ x + f k

abbrev pub picked_at : ℕ → (ℕ → ℕ) → ℕ → ℕ → ℕ → ℕ
picked_at n f a best j = cond (ltb j n) (pick_of a (f j) best) best

-- where the search for key i starts: past the key before it
abbrev pub start_at : List ℕ → ℕ → ℕ
start_at s zero = 0
start_at s (suc i) = get_or s i none + 1
