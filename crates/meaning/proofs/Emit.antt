-- The clauses that a run appends, as lists: those of the paper's clause values are the own clauses of the table, in the same order.
use Rattle.std.specs.Prelude.{◌≡◌, refl, Bool, not, List, [], ◌∷◌, ◌++◌, ℕ, zero, suc, ◌+◌, ◌-◌, ◌<◌, ◌≤◌, ℤ, pos, neg_ℤ, length, eqb, ltb}
use Rattle.std.proofs.Math.Path.{sym, ap}
use Rattle.std.proofs.Common.{◌∙◌, ap₂, append_assoc, append-nil, add-one, arith, ltb-true, ltb-false, eq-eqb, ne_eqb}
use Rattle.std.proofs.Math.Bool.{true, false, cond}
use Rattle.paper.specs.Span.{over}
use Rattle.paper.specs.Plain.{lit_at, if_clause, only_clause, words_of, emit_if, emit_only, emit_both}
use Rattle.paper.specs.declared.Clause.{Clause}
use Rattle.paper.specs.declared.Want.{Want}
use Rattle.meaning.specs.Base.{AtPrev, prev, keep}
use Rattle.meaning.specs.Table.{If, OnlyIf, Tab, History, lit}
use Rattle.facts.specs.Ranges.{x_from, x_count}
use Rattle.facts.proofs.Ranges.{list_split}
use Rattle.meaning.specs.Lists.{upto, left_count, right_count, own_list}
use Rattle.meaning.specs.Words.{flat}
use Rattle.meaning.proofs.Words.{flat_append}
use Rattle.meaning.specs.Emit.{gather, lits_in}

-- its words
pub gather_words : (h : History) (c : Clause) → flat (gather h c) ≡ flat h ++ words_of c
unfolding words_of
gather_words h c = flat_append h (lits_in c ∷ [])

some : (x : ℕ) → eqb (suc x) 0 ≡ false
some x = ne_eqb (suc x) 0 (λ e. let z : ⊥ = omega arith in z)

less : (x : ℕ) → suc x - 1 ≡ x
less x = omega arith

pub if_lits : (l r : List ℤ) (L R : ℕ → ℤ) (o : ℤ) (x y : ℕ) → AtPrev (λ p. lit_at l p ≡ L p) x → AtPrev (λ p. lit_at r p ≡ R p) y
    → lits_in (if_clause l r x y o) ≡ prev x L (prev y R (o ∷ []))
unfolding if_clause
if_lits l r L R o zero zero h k = refl
if_lits l r L R o zero (suc y) h k = rw (some y, less y) (ap (λ (z : ℤ). neg_ℤ z ∷ o ∷ []) k)
if_lits l r L R o (suc x) zero h k = rw (some x, less x) (ap (λ (z : ℤ). neg_ℤ z ∷ o ∷ []) h)
if_lits l r L R o (suc x) (suc y) h k = rw (some x, some y, less x, less y) (ap₂ (λ (z w : ℤ). neg_ℤ z ∷ neg_ℤ w ∷ o ∷ []) h k)

end_test : (x a : ℕ) → x ≤ a → (b : Bool) → ltb x a ≡ b → eqb x a ≡ not b
end_test x a h true e = ne_eqb x a (λ q. let k = ltb-true x a e in let z : ⊥ = omega arith in z)
end_test x a h false e = let k = ltb-false x a e in let q : x ≡ a = omega arith in eq-eqb x a q

pub only_lits : (l r : List ℤ) (L R : ℕ → ℤ) (o : ℤ) (x y : ℕ) → x ≤ length l → y ≤ length r
    → (x < length l → lit_at l x ≡ L x) → (y < length r → lit_at r y ≡ R y)
    → lits_in (only_clause l r x y o) ≡ keep (ltb x (length l)) (L x) (keep (ltb y (length r)) (R y) (neg_ℤ o ∷ []))
unfolding only_clause
only_lits l r L R o x y hx hy h k = go (ltb x (length l)) refl (ltb y (length r)) refl
  where
    go : (b : Bool) → ltb x (length l) ≡ b → (c : Bool) → ltb y (length r) ≡ c
        → lits_in (only_clause l r x y o) ≡ keep b (L x) (keep c (R y) (neg_ℤ o ∷ []))
    go true e true f = rw (end_test x (length l) hx true e, end_test y (length r) hy true f) (ap₂ (λ (z w : ℤ). z ∷ w ∷ neg_ℤ o ∷ []) (h (ltb-true x (length l) e)) (k (ltb-true y (length r) f)))
    go true e false f = rw (end_test x (length l) hx true e, end_test y (length r) hy false f) (ap (λ (z : ℤ). z ∷ neg_ℤ o ∷ []) (h (ltb-true x (length l) e)))
    go false e true f = rw (end_test x (length l) hx false e, end_test y (length r) hy true f) (ap (λ (z : ℤ). z ∷ neg_ℤ o ∷ []) (k (ltb-true y (length r) f)))
    go false e false f = rw (end_test x (length l) hx false e, end_test y (length r) hy false f)

-- a loop that appends
pub over_upto : (f : ℕ → List ℤ) (n k : ℕ) (h : History) → over n (λ x t. t ++ (f x ∷ [])) k h ≡ h ++ upto f k n
unfolding over
over_upto f zero k h = sym (append-nil h)
over_upto f (suc n) k h = over_upto f n (k + 1) (h ++ (f k ∷ [])) ∙ rw (append_assoc, add-one k)

pub upto_cong : (f g : ℕ → List ℤ) (n k : ℕ) → ((x : ℕ) → k ≤ x → x < k + n → f x ≡ g x) → upto f k n ≡ upto g k n
upto_cong f g zero k h = refl
upto_cong f g (suc n) k h = ap₂ (λ (c : List ℤ) (s : History). c ∷ s) (h k (omega arith) (omega arith)) (upto_cong f g n (suc k) (λ x a b. h x (omega arith) (omega arith)))

prev_of : (P : ℕ → Type 0) (a x : ℕ) → x ≤ a → ((p : ℕ) → p < a → P p) → AtPrev P x
prev_of P a zero h f = tt
prev_of P a (suc p) h f = f p h

-- l and r are the literals of n's children, and o its own at output i
module _ (t : Tab) (n i : ℕ) (l r : List ℤ) (o : ℤ) (la : length l ≡ left_count t n) (ra : length r ≡ right_count t n)
    (ll : (p : ℕ) → p < left_count t n → lit_at l p ≡ lit t (t.node n).left p) (rl : (p : ℕ) → p < right_count t n → lit_at r p ≡ lit t (t.node n).right p)
    (oo : o ≡ pos (t.held n i)) where
  pub emit_if_is : (h : History) → emit_if gather l r i o h ≡ h ++ own_list If t n i
  unfolding emit_if
  emit_if_is h =
      over_upto (λ x. lits_in (if_clause l r x (i + 1 - x) o)) _ _ h
      ∙ rw (la, ra, oo)
      (ap (λ (s : History). h ++ s) (upto_cong _ _ (x_count (left_count t n) (right_count t n) (i + 1)) (x_from (right_count t n) (i + 1)) (λ x a b.
      let s = list_split (left_count t n) (right_count t n) (i + 1) x a b in
      if_lits l r (lit t (t.node n).left) (lit t (t.node n).right) (pos (t.held n i)) x (i + 1 - x)
      (prev_of (λ p. lit_at l p ≡ lit t (t.node n).left p) (left_count t n) x s.left ll) (prev_of (λ p. lit_at r p ≡ lit t (t.node n).right p) (right_count t n) (i + 1 - x) s.right rl))))

  pub emit_only_is : (h : History) → emit_only gather l r i o h ≡ h ++ own_list OnlyIf t n i
  unfolding emit_only
  emit_only_is h =
      over_upto (λ x. lits_in (only_clause l r x (i - x) o)) _ _ h
      ∙ rw (la, ra, oo)
      (ap (λ (s : History). h ++ s) (upto_cong _ _ (x_count (left_count t n) (right_count t n) i) (x_from (right_count t n) i) (λ x a b.
      let s = list_split (left_count t n) (right_count t n) i x a b in
      rw (la, ra) at (only_lits l r (lit t (t.node n).left) (lit t (t.node n).right) (pos (t.held n i)) x (i - x) (rw la s.left) (rw ra s.right)
      (λ q. ll x (rw la at q)) (λ q. rl (i - x) (rw ra at q))))))

  abbrev pub when : Bool → History → History
  when b h = cond b h []

  pub emit_both_is : (w : Want) (h : History) → emit_both gather l r i o w h ≡ (h ++ when w.fi (own_list If t n i)) ++ when w.fo (own_list OnlyIf t n i)
  unfolding emit_both
  emit_both_is w h = go w.fi w.fo
    where
      go : (a b : Bool) → cond b (emit_only gather l r i o (cond a (emit_if gather l r i o h) h)) (cond a (emit_if gather l r i o h) h)
          ≡ (h ++ when a (own_list If t n i)) ++ when b (own_list OnlyIf t n i)
      go true true = emit_only_is (emit_if gather l r i o h) ∙ ap (λ (s : History). s ++ own_list OnlyIf t n i) (emit_if_is h)
      go true false = emit_if_is h ∙ sym (append-nil (h ++ own_list If t n i))
      go false true = emit_only_is h ∙ ap (λ (s : History). s ++ own_list OnlyIf t n i) (sym (append-nil h))
      go false false = sym (append-nil h) ∙ sym (append-nil (h ++ []))
