-- The clause row of the code, read as the row and the count of the definitions.
use Rattle.std.specs.Prelude.{◌≡◌, ℕ, ◌+◌, ◌-◌, ◌≤◌, ◌^◌, min, length}
use Rattle.paper.specs.Span.{span}
use Rattle.paper.specs.declared.Clause.{Clause}
use Rattle.clause.specs.Row.{Row, at_row, lay}
use Rattle.clause.specs.declared.ClauseRow.{ClauseRow}

abbrev pub row_of : ClauseRow → Row
row_of c = at_row c.row.now c.words

-- the same row is lent to both, and it keeps its length
pub record SameRow (c d : ClauseRow) : Type 0 where
  pub lent : d.row.ghost_name ≡ c.row.ghost_name
  pub long : length d.row.now ≡ length c.row.now

-- the row and the count are those of s, and the count is within its bound
pub record LaidOut (s : Row) (c : ClauseRow) : Type 0 where
  pub is : row_of c ≡ s
  pub counted : c.words ≤ 2 ^ 62

-- ---- the ways to take n outputs of two children with a and b outputs: x of the left and n - x of the right

-- what is told of each way's clause is that it is the one of `of`
abbrev pub Gives : ℕ → ℕ → ℕ → (ℕ → ℕ → Clause → Type 0) → (ℕ → ℕ → Clause) → Type 0
Gives a b n told of = (x : ℕ) (c : Clause) → x ≤ a → n - x ≤ b → told x (n - x) c → c ≡ of x (n - x)

-- their clauses laid out, x ascending
abbrev pub ways : (ℕ → ℕ → Clause) → ℕ → ℕ → ℕ → Row → Row
ways of a b n s = span (n - min b n) (min a n + 1) (λ x t. lay t (of x (n - x))) s
