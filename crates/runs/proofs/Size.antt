-- How many clauses of its own an output has, in each direction: 02's Item 14, second half.
use Rattle.std.specs.Prelude.{◌≡◌, Bool, true, false, cond, List, ℕ, zero, suc, ◌+◌, ◌-◌, ℤ, length}
use Rattle.std.proofs.Math.Path.{ap}
use Rattle.std.proofs.Common.{◌∙◌, arith}
use Rattle.paper.specs.Span.{over}
use Rattle.paper.specs.Plain.{emit_if, emit_only, emit_both, if_clause, only_clause}
use Rattle.paper.specs.declared.Clause.{Clause}
use Rattle.paper.specs.declared.Want.{Want}
use Rattle.facts.specs.Ranges.{if_own, only_own}
use Rattle.facts.proofs.Ranges.{if_turns, only_turns}
use Rattle.runs.specs.Size.{tick}

ticks : (c : ℕ → Clause) (n k a : ℕ) → over n (λ x t. tick t (c x)) k a ≡ a + n
unfolding over
ticks c zero k a = omega arith
ticks c (suc n) k a = ticks c n (k + 1) (a + 1) ∙ (let e : a + 1 + n ≡ a + suc n = omega arith in e)

module _ (l r : List ℤ) (i : ℕ) (o : ℤ) (n : ℕ) where
  pub if_size : emit_if tick l r i o n ≡ n + if_own (length l) (length r) i
  unfolding emit_if
  if_size = ticks (λ x. if_clause l r x (i + 1 - x) o) _ _ n ∙ ap (λ (m : ℕ). n + m) (if_turns (length l) (length r) i)

  pub only_size : emit_only tick l r i o n ≡ n + only_own (length l) (length r) i
  unfolding emit_only
  only_size = ticks (λ x. only_clause l r x (i - x) o) _ _ n ∙ ap (λ (m : ℕ). n + m) (only_turns (length l) (length r) i)

-- "the number is given exactly": over both directions
pub own_size : (l r : List ℤ) (i : ℕ) (o : ℤ) (w : Want) (n : ℕ)
    → emit_both tick l r i o w n ≡ n + cond w.fi (if_own (length l) (length r) i) 0 + cond w.fo (only_own (length l) (length r) i) 0
unfolding emit_both
own_size l r i o w n = go w.fi w.fo
  where
    go : (a b : Bool) → cond b (emit_only tick l r i o (cond a (emit_if tick l r i o n) n)) (cond a (emit_if tick l r i o n) n) ≡ n + cond a (if_own (length l) (length r) i) 0 + cond b (only_own (length l) (length r) i) 0
    go true true = only_size l r i o _ ∙ ap (λ (m : ℕ). m + only_own (length l) (length r) i) (if_size l r i o n)
    go true false = omega (arith, if_size l r i o n)
    go false true = omega (arith, only_size l r i o n)
    go false false = omega arith
