-- What a demand gives, what a loop of demands gives, and the marks once a demand is met.
use Rattle.std.specs.Prelude.{◌≡◌, refl, Bool, true, false, not, ◌&&◌, ◌||◌, List, ◌⊎◌, ℕ, zero, suc, ◌+◌, ◌<◌, ◌≤◌, eqb}
use Rattle.std.proofs.lemmas.Bool.{false≢true}
use Rattle.std.proofs.Common.{inl, inr, arith, eqb-true, ne_eqb}
use Rattle.std.proofs.Math.Decide.{ℕ_discrete}
use Rattle.paper.specs.Span.{over}
use Rattle.paper.specs.Rows.{node_at, value_count, is_dummy}
use Rattle.paper.specs.Plain.{mark_of, mark_byte, has_if, has_only, missing_of}
use Rattle.paper.specs.declared.Want.{Want}
use Rattle.meaning.specs.Table.{Kind, leaf, Dir, If, OnlyIf, Done, done_of, NotGeneral}
use Rattle.meaning.specs.Rows.{Net, State, tab_of, marks_of, has_mark, Good, Grow}
use Rattle.meaning.proofs.Rows.{grow_refl, grow_trans, still_refl, still_trans, still_from, still_done}
use Rattle.meaning.specs.Asked.{Rec, RecOk, Walked, wants}

-- a loop of demands
pub walk_good : (g : Net) (len n : ℕ) → n ≤ g.size → (r : Rec) → RecOk g len r n → (w : Want) (c : ℕ) → c < n → NotGeneral (g.node c).kind
    → (k p : ℕ) (τ : State) → (0 < k → p + k ≤ (g.node c).count) → Good g len τ → Walked g len n w c p k τ (over k (λ j t. r c j w t) p τ)
unfolding over
walk_good g len n sn r ok w c hc kc zero p τ h good =
    record { good = good; grow = grow_refl g τ; still = still_refl g n τ; done = λ d e q a b. absurd (let z : ⊥ = omega arith in z) }
walk_good g len n sn r ok w c hc kc (suc k) p τ h good =
    let hp : p < (g.node c).count = let x = h (omega arith) in omega arith in
    let a = ok c hc kc τ good p hp w in
    let ρ = r c p w τ in
    let b = walk_good g len n sn r ok w c hc kc k (p + 1) ρ (λ x. let y = h (omega arith) in omega arith) a.good in
    let υ = over k (λ j t. r c j w t) (p + 1) ρ in
    record {
      good = b.good;
      grow = grow_trans g τ ρ υ a.grow b.grow;
      still = still_trans g n τ ρ υ (still_from g (suc c) n τ ρ hc a.still) b.still;
      done = λ d e q lo up. at d q lo up b.grow (b.done d e) (a.done d e) hp (ℕ_discrete q p);
    }
  where
    at : (d : Dir) (q : ℕ) → p ≤ q → q < p + suc k → Grow g (r c p w τ) (over k (λ j t. r c j w t) (p + 1) (r c p w τ))
        → ((q : ℕ) → p + 1 ≤ q → q < p + 1 + k → Done (tab_of g τ) (marks_of g (over k (λ j t. r c j w t) (p + 1) (r c p w τ))) d c q)
        → Done (tab_of g τ) (marks_of g (r c p w τ)) d c p → p < (g.node c).count → Dec (q ≡ p)
        → Done (tab_of g τ) (marks_of g (over k (λ j t. r c j w t) (p + 1) (r c p w τ))) d c q
    at d q lo up gr rest this hp (yes e) = rw e (still_done g (r c p w τ) (over k (λ j t. r c j w t) (p + 1) (r c p w τ)) τ gr d c p (omega arith) hp this)
    at d q lo up gr rest this hp (no x) = rest q (omega arith) (omega arith)

-- ---- marks

pub mark_if : (a b : Bool) → has_if (mark_of (mark_byte a b)) ≡ a
unfolding mark_of mark_byte has_if
mark_if true true = refl
mark_if true false = refl
mark_if false true = refl
mark_if false false = refl

pub mark_only : (a b : Bool) → has_only (mark_of (mark_byte a b)) ≡ b
unfolding mark_of mark_byte has_only
mark_only true true = refl
mark_only true false = refl
mark_only false true = refl
mark_only false false = refl

-- the mark once a demand is met has what it had and what was wanted
pub met_is : (d : Dir) (m : ℕ) (w : Want) → has_mark d (missing_of m w).mark ≡ (wants d w || has_mark d m)
unfolding missing_of
met_is If m w = mark_if (w.fi || has_if (mark_of m)) (w.fo || has_only (mark_of m))
met_is OnlyIf m w = mark_only (w.fi || has_if (mark_of m)) (w.fo || has_only (mark_of m))

pub missing_is : (d : Dir) (m : ℕ) (w : Want) → wants d (missing_of m w).want ≡ (wants d w && not (has_mark d m))
unfolding missing_of
missing_is If m w = refl
missing_is OnlyIf m w = refl

pub or_right : (a b : Bool) → b ≡ true → (a || b) ≡ true
or_right true b e = refl
or_right false b e = e

pub or_left : (a b : Bool) → a ≡ true → (a || b) ≡ true
or_left true b e = refl
or_left false b e = absurd (false≢true e)

-- wanted: it is there, or it is missing
pub either : (a b : Bool) → (a || b) ≡ true → (b ≡ true) ⊎ ((a && not b) ≡ true)
either a true e = inl refl
either true false e = inr refl
either false false e = absurd (false≢true e)

-- a dummy has no outputs
pub no_outputs : (ns : List ℕ) (c : ℕ) → is_dummy (node_at ns c) ≡ true → value_count (node_at ns c) ≡ 0
unfolding value_count
no_outputs ns c e =
    let a = eqb-true (node_at ns c).kind 3 e in
    let b : eqb (node_at ns c).kind 0 ≡ false = ne_eqb (node_at ns c).kind 0 (λ q. let z : ⊥ = omega arith in z) in
    rw (b, e)

pub leaf_done : (k : Kind) → k ≡ leaf → (b : Bool) → done_of k b
leaf_done k e b = rw e tt
