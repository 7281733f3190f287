-- What the keys of a general node are: exactly the l's, the r's and the sums l + r; and they ascend strictly. Assumes nothing.
use Prim.Native.Nat.{ℕ, suc, ◌+◌, ◌<◌, ◌≤◌}
use mathlib.Core.List.{List, [], ◌∷◌}
use Rattle.std.specs.Prelude.{◌≡◌}
use Rattle.paper.specs.Rows.{word_from}
use Rattle.paper.specs.declared.Node.{Node}

-- y stands in the list
pub data In (y : ℕ) : List ℕ → Type 0 where
  here : {s : List ℕ} → In y (y ∷ s)
  there : {x : ℕ} {s : List ℕ} → In y s → In y (x ∷ s)

-- the numbers below n at which f is y
pub record At (n : ℕ) (f : ℕ → ℕ) (y : ℕ) : Type 0 where
  pub index : ℕ
  pub low : index < n
  pub is : y ≡ f index

pub data KeyIs (nl : ℕ) (l : ℕ → ℕ) (nr : ℕ) (r : ℕ → ℕ) (y : ℕ) : Type 0 where
  from_right : At nr r y → KeyIs nl l nr r y
  from_left : At nl l y → KeyIs nl l nr r y
  from_sum : (i : ℕ) → i < nl → At nr (λ j. l i + r j) y → KeyIs nl l nr r y

-- ascending, from lo on
abbrev pub Rising : ℕ → List ℕ → Type 0
Rising lo [] = Unit {0}
Rising lo (x ∷ xs) = (lo ≤ x) × Rising (suc x) xs

-- ---- the same of a general node that passes the check, by index: key i stands in the key row at first + i

pub record KeyAt (keys : List ℕ) (n : Node) (y : ℕ) : Type 0 where
  pub index : ℕ
  pub low : index < n.count
  pub is : word_from keys n.first index ≡ y
