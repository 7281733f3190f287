-- "kind (0 leaf, 1 unit, 2 general, 3 dummy)": the number of each kind, and what a kind says of the tests in Rows.antt.
use Rattle.std.specs.Prelude.{◌≡◌, ℕ, ◌≤◌, refl}
use Rattle.std.proofs.Common.{arith}
use Rattle.paper.specs.declared.Kind.{Kind}
use Rattle.paper.specs.declared.Kind.TheVariants.{Leaf, Unit, General, Dummy, Other}

abbrev pub Names : ℕ → Kind → Type 0
Names k Leaf = k ≡ 0
Names k Unit = k ≡ 1
Names k General = k ≡ 2
Names k Dummy = k ≡ 3
Names k Other = 4 ≤ k

-- a word of another kind has another number
pub not_leaf : (k : ℕ) (r : Kind) → Names k r → ¬ (r ≡ Leaf) → ¬ (k ≡ 0)
not_leaf k Leaf h n = λ _. n refl
not_leaf k Unit h n = λ e. absurd (omega arith)
not_leaf k General h n = λ e. absurd (omega arith)
not_leaf k Dummy h n = λ e. absurd (omega arith)
not_leaf k Other h n = λ e. absurd (omega arith)

pub not_unit : (k : ℕ) (r : Kind) → Names k r → ¬ (r ≡ Unit) → ¬ (k ≡ 1)
not_unit k Leaf h n = λ e. absurd (omega arith)
not_unit k Unit h n = λ _. n refl
not_unit k General h n = λ e. absurd (omega arith)
not_unit k Dummy h n = λ e. absurd (omega arith)
not_unit k Other h n = λ e. absurd (omega arith)

pub not_general : (k : ℕ) (r : Kind) → Names k r → ¬ (r ≡ General) → ¬ (k ≡ 2)
not_general k Leaf h n = λ e. absurd (omega arith)
not_general k Unit h n = λ e. absurd (omega arith)
not_general k General h n = λ _. n refl
not_general k Dummy h n = λ e. absurd (omega arith)
not_general k Other h n = λ e. absurd (omega arith)

pub not_dummy : (k : ℕ) (r : Kind) → Names k r → ¬ (r ≡ Dummy) → ¬ (k ≡ 3)
not_dummy k Leaf h n = λ e. absurd (omega arith)
not_dummy k Unit h n = λ e. absurd (omega arith)
not_dummy k General h n = λ e. absurd (omega arith)
not_dummy k Dummy h n = λ _. n refl
not_dummy k Other h n = λ e. absurd (omega arith)
