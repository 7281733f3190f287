-- The ranges of x of the plain run, once, over the counts a and b of the children and a total t. Both directions have one range: If's "x runs from
-- i+1-min(b,i+1) to min(a,i+1)" is that of t = i + 1, OnlyIf's "x runs from i-min(b,i) to min(a,i)" that of t = i. The other child's part is y = t - x.
-- What is said of a direction is what is said of t, at its t.
-- Assumes nothing.
use Rattle.std.specs.Prelude.{◌≡◌, refl, Bool, true, false, cond, ℕ, suc, ◌+◌, ◌-◌, ◌≤◌, ◌<◌, min}
use Rattle.std.proofs.Common.{sym, ap, ◌∙◌, arith}
use Rattle.std.proofs.Math.Nat.{min-le_left, min-le_right}
use Rattle.paper.specs.Plain.{if_span, only_span, no_span}
use Rattle.paper.specs.declared.Span.{Span}
use Rattle.facts.specs.Ranges.{Need, Split, ask_span, if_own, only_own, x_count, x_from, x_to}

pub split : (a b t x : ℕ) → x_from b t ≤ x → x ≤ x_to a t → Split a b t x (t - x)
split a b t x h g = record { left = omega arith; right = omega arith; sum = omega arith }

pub split_back : (a b t x y : ℕ) → Split a b t x y → (x_from b t ≤ x) × (x ≤ x_to a t) × (y ≡ t - x)
split_back a b t x y s = (omega arith, omega arith, omega arith)

-- 01's two ranges
pub if_range : (a b i x : ℕ) → i + 1 - min b (i + 1) ≤ x → x ≤ min a (i + 1) → Split a b (i + 1) x (i + 1 - x)
if_range a b i x = split a b (i + 1) x

pub only_range : (a b i x : ℕ) → i - min b i ≤ x → x ≤ min a i → Split a b i x (i - x)
only_range a b i x = split a b i x

-- the same of a list with so many entries
pub list_split : (a b t x : ℕ) → x_from b t ≤ x → x < x_from b t + x_count a b t → Split a b t x (t - x)
list_split a b t x h g = split a b t x h (inside (x_from b t) (x_to a t) h g)
  where
    inside : (p q : ℕ) → p ≤ x → x < p + (q + 1 - p) → x ≤ q
    inside p q h g = omega arith

pub list_back : (a b t x y : ℕ) → Split a b t x y → (x_from b t ≤ x) × (x < x_from b t + x_count a b t) × (y ≡ t - x)
list_back a b t x y s = let (h, g, e) = split_back a b t x y s in (h, inside (x_from b t) (x_to a t) h g, e)
  where
    inside : (p q : ℕ) → p ≤ x → x ≤ q → x < p + (q + 1 - p)
    inside p q h g = omega arith

-- and of a loop from t - m to n, where m and n are what `min` answered
pub loop_low : (b t m : ℕ) → m ≡ min b t → m ≤ t
loop_low b t m e = rw e (min-le_right b t)

pub loop_split : (a b t m n x : ℕ) → m ≡ min b t → n ≡ min a t → t - m ≤ x → x ≤ n → Split a b t x (t - x)
loop_split a b t m n x e f h g = split a b t x (rw (sym e) h) (rw (sym f) g)

pub split_below : (a b t x y : ℕ) → Split a b t x y → x ≤ t
split_below a b t x y s = omega arith

-- either child may be called the left one
pub split_swap : (a b t x y : ℕ) → Split a b t x y → Split b a t y x
split_swap a b t x y s = record { left = s.right; right = s.left; sum = omega arith }

-- a total between u + v and a + b is split with x between u and a, y between v and b
pub split_some : (a b u v t : ℕ) → u ≤ a → v ≤ b → u + v ≤ t → t ≤ a + b → (x : ℕ) × (y : ℕ) × Split a b t x y × (u ≤ x) × (v ≤ y)
split_some a b u v t hu hv low high =
    let x : ℕ = min a (t - v) in
    (x, t - x, record { left = omega arith; right = omega arith; sum = omega arith }, omega arith, omega arith)

-- ---- how many x there are

pub count_is : (a b t : ℕ) → x_count a b t ≡ min a t + min b t + 1 - t
count_is a b t = let h : min b t ≤ t = min-le_right b t in turns (min a t) (min b t) h
  where
    turns : (p q : ℕ) → q ≤ t → p + 1 - (t - q) ≡ p + q + 1 - t
    turns p q h = omega arith

pub count_most : (a b t : ℕ) → x_count a b t ≤ min a b + 1
count_most a b t = omega arith

pub count_some : (a b t : ℕ) → t ≤ a + b → 1 ≤ x_count a b t
count_some a b t h = omega arith

pub count_none : (a b t : ℕ) → a + b < t → x_count a b t ≡ 0
count_none a b t h = omega arith

-- beside a child without outputs there is one x: 0, or the total
pub from_all : (b t : ℕ) → t ≤ b → x_from b t ≡ 0
from_all b t h = omega arith

pub from_none : (b t : ℕ) → b ≡ 0 → x_from b t ≡ t
from_none b t h = omega arith

pub to_all : (a t : ℕ) → t ≤ a → x_to a t ≡ t
to_all a t h = omega arith

pub to_none : (a t : ℕ) → a ≡ 0 → x_to a t ≡ 0
to_none a t h = omega arith

pub if_turns : (a b i : ℕ) → x_count a b (i + 1) ≡ if_own a b i
if_turns a b i = count_is a b (i + 1) ∙ less (min a (i + 1) + min b (i + 1))
  where
    less : (n : ℕ) → n + 1 - (i + 1) ≡ n - i
    less n = omega arith

pub only_turns : (a b i : ℕ) → x_count a b i ≡ only_own a b i
only_turns a b i = count_is a b i

-- at most min(a, b) + 1, in either direction
pub if_most : (a b i : ℕ) → if_own a b i ≤ min a b + 1
if_most a b i = rw (sym (if_turns a b i)) (count_most a b (i + 1))

pub only_most : (a b i : ℕ) → only_own a b i ≤ min a b + 1
only_most a b i = rw (sym (only_turns a b i)) (count_most a b i)

-- and at least one, for an output that there is
pub if_some : (a b i : ℕ) → i < a + b → 1 ≤ if_own a b i
if_some a b i h = rw (sym (if_turns a b i)) (count_some a b (i + 1) (omega arith))

pub only_some : (a b i : ℕ) → i < a + b → 1 ≤ only_own a b i
only_some a b i h = rw (sym (only_turns a b i)) (count_some a b i (omega arith))

-- ---- what is demanded of a child with a outputs beside one with b

pub span_eq : {a b c d : ℕ} → a ≡ c → b ≡ d → ◌≡◌ {A = Span} (record { from = a; to = b }) (record { from = c; to = d })
span_eq p q = λ i. record { from = p i; to = q i }

from_is : (b t : ℕ) → x_from b t ≡ t - b
from_is b t = omega arith

pub if_ask : (a b i : ℕ) → if_span a b i ≡ ask_span a b i
unfolding if_span
if_ask a b i = span_eq (ap (λ (n : ℕ). n - 1) (from_is b (i + 1)) ∙ less) refl
  where
    less : i + 1 - b - 1 ≡ i - b
    less = omega arith

pub only_ask : (a b i : ℕ) → only_span a b i ≡ ask_span a b i
unfolding only_span
only_ask a b i = span_eq (from_is b i) refl

-- OnlyIf reads output x for each x < a, If output x - 1 for each x > 0
pub only_need : (a b i x y : ℕ) → Split a b i x y → x < a → Need a b i x
only_need a b i x y s h = record { inside = h; low = omega arith; high = omega arith }

pub if_need : (a b i p y : ℕ) → Split a b (i + 1) (suc p) y → Need a b i p
if_need a b i p y s = only_need a b i p y (record { left = omega arith; right = s.right; sum = omega arith }) s.left

-- all that is read is demanded
pub need_asked : (a b i p : ℕ) → Need a b i p → ((ask_span a b i).from ≤ p) × (p < (ask_span a b i).to)
need_asked a b i p n = (omega arith, omega arith)

-- no more than that
pub asked_need : (a b i p : ℕ) → (ask_span a b i).from ≤ p → p < (ask_span a b i).to → Need a b i p
asked_need a b i p h g = record { inside = omega arith; low = omega arith; high = omega arith }

-- beside a child without outputs it is output i
pub need_alone : (a b i p : ℕ) → b ≡ 0 → Need a b i p → p ≡ i
need_alone a b i p z n = omega arith

pub need_none : (a b i p : ℕ) → a ≡ 0 → Need a b i p → ⊥
need_none a b i p z n = omega arith

-- it is among the child's outputs
pub ask_to : (a b i : ℕ) → (ask_span a b i).to ≤ a
ask_to a b i = min-le_left a (i + 1)

pub if_to : (a b i : ℕ) → (if_span a b i).to ≤ a
if_to a b i = rw (if_ask a b i) (ask_to a b i)

pub only_to : (a b i : ℕ) → (only_span a b i).to ≤ a
only_to a b i = rw (only_ask a b i) (ask_to a b i)

-- so too where a direction is not missing, and nothing is demanded
pub span_to : (b : Bool) (s : Span) (n : ℕ) → s.to ≤ n → (cond b s no_span).to ≤ n
span_to true s n h = h
span_to false s n h = omega arith
