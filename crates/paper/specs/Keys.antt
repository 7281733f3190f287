-- 01: "General otherwise: keys are L, R and all sums l + r, ascending, each once".
use Rattle.std.specs.Prelude.{ℕ, zero, suc, ◌+◌, List, [], ◌∷◌, Bool, cond, ◌&&◌, length, get_or, eqb, leb, ltb}
use Rattle.paper.specs.Limits.{key_limit}
use Rattle.paper.specs.Below.{all_below}
use Rattle.paper.specs.Rows.{word_from, con_len, con_val}
use Rattle.paper.specs.declared.Node.{Node}

-- x put into an ascending list, once
unfoldable pub put : ℕ → List ℕ → List ℕ
put x [] = x ∷ []
put x (y ∷ ys) = cond (ltb x y) (x ∷ y ∷ ys) (cond (eqb x y) (y ∷ ys) (y ∷ put x ys))

-- f 0, .., f (n - 1) put into it
unfoldable pub put_all : ℕ → (ℕ → ℕ) → List ℕ → List ℕ
put_all zero f s = s
put_all (suc n) f s = put (f n) (put_all n f s)

-- R; and for each l of L: l, and l + r for each r
unfoldable pub keys_of : ℕ → (ℕ → ℕ) → ℕ → (ℕ → ℕ) → List ℕ
keys_of zero l nr r = put_all nr r []
keys_of (suc i) l nr r = put_all nr (λ j. l i + r j) (put (l i) (keys_of i l nr r))

-- "Let L and R be the children's values times the multipliers."
abbrev pub node_keys : List ℕ → Node → ℕ → Node → ℕ → List ℕ
node_keys keys l lm r rm = keys_of (con_len l) (con_val keys l lm) (con_len r) (con_val keys r rm)

-- the row has exactly the list s, of numbers within the limit, in the count cells from first on
abbrev pub row_equals : List ℕ → ℕ → ℕ → List ℕ → Bool
row_equals keys first count s =
    eqb (length s) count && all_below count (λ i. eqb (word_from keys first i) (get_or s i 0) && leb (word_from keys first i) key_limit)
