-- The own clauses as lists, in the order of the paper.
use Rattle.std.specs.Prelude.{ℕ, zero, suc, ◌+◌, ◌-◌, ℤ}
use mathlib.Core.List.{List, [], ◌∷◌}
use Rattle.facts.specs.Ranges.{x_from, x_count, Need}
use Rattle.meaning.specs.Table.{Dir, If, OnlyIf, Tab, Marks, Done, if_of, only_of, History}

-- f x, f (x + 1), .. , k of them
abbrev pub upto : (ℕ → List ℤ) → ℕ → ℕ → History
upto f x zero = []
upto f x (suc k) = f x ∷ upto f (suc x) k

abbrev pub left_count : Tab → ℕ → ℕ
left_count t n = (t.node (t.node n).left).count

abbrev pub right_count : Tab → ℕ → ℕ
right_count t n = (t.node (t.node n).right).count

-- the clauses that output i of the unit n appends for a direction
abbrev pub own_list : Dir → Tab → ℕ → ℕ → History
own_list If t n i = upto (λ x. if_of t n i x (i + 1 - x)) (x_from (right_count t n) (i + 1)) (x_count (left_count t n) (right_count t n) (i + 1))
own_list OnlyIf t n i = upto (λ x. only_of t n i x (i - x)) (x_from (right_count t n) i) (x_count (left_count t n) (right_count t n) i)

-- the children's outputs that output i reads are done
pub record Needs (t : Tab) (m : Marks) (d : Dir) (n i : ℕ) : Type 0 where
  pub lneed : (p : ℕ) → Need (left_count t n) (right_count t n) i p → Done t m d (t.node n).left p
  pub rneed : (q : ℕ) → Need (right_count t n) (left_count t n) i q → Done t m d (t.node n).right q
