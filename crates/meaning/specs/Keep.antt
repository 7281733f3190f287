-- Theorem 3: the steps of which every call is made keep the invariant.
use Rattle.std.specs.Prelude.{◌≡◌, true, ◌⊎◌, ℕ, ◌<◌, ◌≤◌, ℤ}
use mathlib.Core.List.{List, Memᴰ}
use Rattle.meaning.specs.Table.{Dir, Tab, Marks, Shape, History, Marked, Own, Cells}

-- t' has all of t: its nodes, keys and given literals, and perhaps more
pub record Ext (t t' : Tab) : Type 0 where
  pub size_le : t.size ≤ t'.size
  pub node_is : (n : ℕ) → n < t.size → t'.node n ≡ t.node n
  pub key_is : (n j : ℕ) → n < t.size → j < (t.node n).count → t'.key n j ≡ t.key n j
  pub held_is : (n j : ℕ) → n < t.size → j < (t.node n).count → 0 < t.held n j → t'.held n j ≡ t.held n j
  pub from_is : t'.from ≡ t.from

abbrev pub Below : Tab → ℕ → Type 0
Below t n = ((t.node n).left < n) × ((t.node n).right < n)

-- a step: what is new in table, marks and history
pub record Step (t : Tab) (m : Marks) (h : History) (t' : Tab) (m' : Marks) (h' : History) : Type 0 where
  pub ext : Ext t t'
  pub shape : Shape t'
  pub cells : Cells t'
  pub sub : (c : List ℤ) → Memᴰ c h → Memᴰ c h'
  pub new : (c : List ℤ) → Memᴰ c h' → Memᴰ c h ⊎ Own t' c
  pub kept : (d : Dir) (n j : ℕ) → n < t.size → j < (t.node n).count → m d n j ≡ true → m' d n j ≡ true
  pub marks : (d : Dir) (n j : ℕ) → n < t'.size → j < (t'.node n).count → m' d n j ≡ true
      → ((n < t.size) × (m d n j ≡ true)) ⊎ Marked t' m' h' d n j
