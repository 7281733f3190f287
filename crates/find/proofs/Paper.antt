-- The definitions of the weighted run, read as the paper has them: what a lookup finds, the three parts of a step, and that a way that is none
-- does nothing.
use Rattle.std.specs.Prelude.{None, Option, Some}
use mathlib.Core.Path.{◌≡◌, refl, sym, ap, ap₂, ◌∙◌}
use mathlib.Core.Bool.{Bool, true, false, cond}
use mathlib.Core.List.{List}
use Prim.Native.Nat.{ℕ, zero, suc, ◌+◌, ◌-◌, ◌≤◌, ◌<◌}
use native.Mathlib.Omega.{arith}
use native.Mathlib.Decide.{ℕ_discrete}
use borrow.Author.Tests.{eq-eqb, ne_eqb, eqb-true, eqb-false, ltb-true, ltb-false}
use lib.Dec.{eqb, ltb}
use lib.IntN.{ℤ}
use lib.ListN.{get_or}
use Rattle.paper.specs.Span.{over, span}
use Rattle.paper.specs.Rows.{node_at, word_from, value_count, value_at, con_len}
use Rattle.paper.specs.Plain.{St}
use Rattle.paper.specs.Weighted.{key_from, output_of, share_of, no_way, way_of, turns_of, job_of, emit_way, clause_at, link_of, links_of, do_of, weigh}
use Rattle.paper.specs.declared.Node.{Node}
use Rattle.paper.specs.declared.Clause.{Clause}
use Rattle.paper.specs.declared.Way.{Way}
use Rattle.find.specs.Ways.{Rising}
use Rattle.find.proofs.Laws.{count_leaf, count_general, output_general, output_zero, output_past, output_at, way_left, way_right}

-- ---- what a lookup finds

-- what is known of a search of n keys from k on
abbrev Sought : List ℕ → ℕ → ℕ → ℕ → ℕ → Option ℕ → Type 0
Sought keys first v n k (Some j) = (j < k + n) × (get_or keys (first + j) 0 ≡ v)
Sought keys first v n k None = (j : ℕ) → k ≤ j → j < k + n → get_or keys (first + j) 0 ≡ v → ⊥

sought_step : (keys : List ℕ) (first v n k : ℕ) (f : Option ℕ) → (get_or keys (first + k) 0 ≡ v → ⊥) → Sought keys first v n (k + 1) f → Sought keys first v (suc n) k f
sought_step keys first v n k (Some j) e s = let a = s.0 in (omega arith, s.1)
sought_step keys first v n k None e s = λ j a b h. go j a b h (ℕ_discrete j k)
  where
    go : (j : ℕ) → k ≤ j → j < k + suc n → get_or keys (first + j) 0 ≡ v → Dec (j ≡ k) → ⊥
    go j a b h (yes x) = e (ap (λ (i : ℕ). get_or keys (first + i) 0) (sym x) ∙ h)
    go j a b h (no x) = s j (omega arith) (omega arith) h

sought : (keys : List ℕ) (first v n k : ℕ) → Sought keys first v n k (key_from keys first v n k)
unfolding key_from
sought keys first v zero k = λ j a b h. let z : ⊥ = omega arith in z
sought keys first v (suc n) k = go (eqb (get_or keys (first + k) 0) v) refl (sought keys first v n (k + 1))
  where
    go : (b : Bool) → eqb (get_or keys (first + k) 0) v ≡ b → Sought keys first v n (k + 1) (key_from keys first v n (k + 1)) → Sought keys first v (suc n) k (cond b (Some k) (key_from keys first v n (k + 1)))
    go true e s = (omega arith, eqb-true _ _ e)
    go false e s = sought_step keys first v n k (key_from keys first v n (k + 1)) (eqb-false _ _ e) s

-- ---- the search by halves

pub above : (a b : ℕ) → b ≤ a → (a ≡ b → ⊥) → b < a
above a b h e = omega arith

module _ (keys : List ℕ) (first v count : ℕ) where
  -- nothing is found where no key is v
  pub key_none : ((i : ℕ) → i < count → get_or keys (first + i) 0 ≡ v → ⊥) → None ≡ key_from keys first v count 0
  key_none none = go (key_from keys first v count 0) (sought keys first v count 0)
    where
      go : (f : Option ℕ) → Sought keys first v count 0 f → None ≡ f
      go (Some i) s = let a = s.0 in absurd (none i (omega arith) s.1)
      go None s = refl

  -- .. which none is, if each is below or above it
  pub none_left : (lo hi : ℕ) → hi ≤ lo → ((i : ℕ) → i < lo → get_or keys (first + i) 0 < v) → ((i : ℕ) → hi ≤ i → i < count → v < get_or keys (first + i) 0)
      → (i : ℕ) → i < count → get_or keys (first + i) 0 ≡ v → ⊥
  none_left lo hi h below over i l e = go (ltb i lo) refl
    where
      go : (b : Bool) → ltb i lo ≡ b → ⊥
      go true q = omega (arith, below i (ltb-true i lo q))
      go false q = let g = ltb-false i lo q in omega (arith, over i (omega arith) l)

  module _ (r : Rising keys first count) (j : ℕ) (h : j < count) where
    -- in keys that ascend, a key that is v is the one found
    pub key_is : get_or keys (first + j) 0 ≡ v → Some j ≡ key_from keys first v count 0
    key_is e = go (key_from keys first v count 0) (sought keys first v count 0)
      where
        same : (i : ℕ) → i < count → get_or keys (first + i) 0 ≡ v → (a b : Bool) → ltb i j ≡ a → ltb j i ≡ b → j ≡ i
        same i l q true b x y = absurd (let z : ⊥ = omega (arith, r.rise i j (ltb-true i j x) h) in z)
        same i l q false true x y = absurd (let z : ⊥ = omega (arith, r.rise j i (ltb-true j i y) l) in z)
        same i l q false false x y = omega (arith, ltb-false i j x, ltb-false j i y)

        go : (f : Option ℕ) → Sought keys first v count 0 f → Some j ≡ f
        go (Some i) s = let a = s.0 in ap Some (same i (omega arith) s.1 (ltb i j) (ltb j i) refl refl)
        go None s = absurd (s j (omega arith) (omega arith) e)

    -- below a key that is below v all are, and above one that is above v
    pub key_below : get_or keys (first + j) 0 < v → (i : ℕ) → i < j + 1 → get_or keys (first + i) 0 < v
    key_below g i l = go (ℕ_discrete i j)
      where
        go : Dec (i ≡ j) → get_or keys (first + i) 0 < v
        go (yes e) = rw e g
        go (no e) = omega (arith, r.rise i j (omega arith) h)

    pub key_above : v < get_or keys (first + j) 0 → (i : ℕ) → j ≤ i → i < count → v < get_or keys (first + i) 0
    key_above g i l k = go (ℕ_discrete i j)
      where
        go : Dec (i ≡ j) → v < get_or keys (first + i) 0
        go (yes e) = rw e g
        go (no e) = omega (arith, r.rise j i (omega arith) k)

  -- the search by halves ends where no key is v
  pub key_left : Rising keys first count → (at : ℕ) → at ≤ count → (0 < at → get_or keys (first + (at - 1)) 0 < v) → (at < count → v ≤ get_or keys (first + at) 0)
      → (at < count → get_or keys (first + at) 0 ≡ v → ⊥) → None ≡ key_from keys first v count 0
  key_left r at in-range before after other =
      key_none (none_left at at (omega arith) (λ i h. key_below r (at - 1) (omega arith) (before (omega arith)) i (omega arith))
      (λ i h k. key_above r at (omega arith) (above (get_or keys (first + at) 0) v (after (omega arith)) (other (omega arith))) i h k))

-- ---- the outputs by value

-- an output of value v, or none has it
abbrev pub Finds : List ℕ → Node → ℕ → Option ℕ → Type 0
Finds keys n v (Some j) = (j < value_count n) × (value_at keys n j ≡ v)
Finds keys n v None = (j : ℕ) → j < value_count n → value_at keys n j ≡ v → ⊥

finds_general : (keys : List ℕ) (n : Node) (v : ℕ) (f : Option ℕ) → n.kind ≡ 2 → Sought keys n.first v n.count 0 f → Finds keys n v f
unfolding value_at
finds_general keys n v (Some j) e s =
    let a = s.0 in
    (omega (arith, count_general n e), rw (ne_eqb n.kind 0 (λ z. omega arith)) s.1)
finds_general keys n v None e s = λ j h q. s j (omega arith) (omega (arith, count_general n e)) (rw (ne_eqb n.kind 0 (λ z. omega arith)) at q)

-- a leaf's value is 1, and a unit's are 1, 2, .., as the table check has it
pub value_counts : (keys : List ℕ) (n : Node) → ((n.kind ≡ 0 → ⊥) → (i : ℕ) → i < value_count n → word_from keys n.first i ≡ i + 1) → (j : ℕ) → j < value_count n → value_at keys n j ≡ j + 1
unfolding value_at
value_counts keys n units j h = go (ℕ_discrete n.kind 0)
  where
    go : Dec (n.kind ≡ 0) → cond (eqb n.kind 0) 1 (word_from keys n.first j) ≡ j + 1
    go (yes e) = rw (eq-eqb n.kind 0 e) (omega (arith, count_leaf n e))
    go (no e) = rw (ne_eqb n.kind 0 e) (units e j h)

pub finds : (keys : List ℕ) (n : Node) → ((n.kind ≡ 2 → ⊥) → (n.kind ≡ 0 → ⊥) → (i : ℕ) → i < value_count n → word_from keys n.first i ≡ i + 1)
    → (v : ℕ) → Finds keys n v (output_of keys n v)
finds keys n units v = go (ℕ_discrete n.kind 2) (ℕ_discrete v 0)
  where
    counts : (n.kind ≡ 2 → ⊥) → (j : ℕ) → j < value_count n → value_at keys n j ≡ j + 1
    counts e j h = value_counts keys n (units e) j h

    past : (n.kind ≡ 2 → ⊥) → (v ≡ 0 → ⊥) → (b : Bool) → ltb (value_count n) v ≡ b → Finds keys n v (output_of keys n v)
    past e z true h = let g : value_count n < v = ltb-true _ _ h in rw (output_past keys n v e z g) (λ j a q. let w : j + 1 ≡ v = sym (counts e j a) ∙ q in let y : ⊥ = omega arith in y)
    past e z false h =
        let g : v ≤ value_count n = ltb-false _ _ h in
        let l : v - 1 < value_count n = omega arith in
        rw (output_at keys n v e z g) (l, counts e (v - 1) l ∙ (let w : v - 1 + 1 ≡ v = omega arith in w))

    go : Dec (n.kind ≡ 2) → Dec (v ≡ 0) → Finds keys n v (output_of keys n v)
    go (yes e) d = rw (output_general keys n v e) (finds_general keys n v (key_from keys n.first v n.count 0) e (sought keys n.first v n.count 0))
    go (no e) (yes z) = rw (output_zero keys n v e z) (λ j a q. let w : j + 1 ≡ v = sym (counts e j a) ∙ q in let y : ⊥ = omega arith in y)
    go (no e) (no z) = past e z (ltb (value_count n) v) refl

-- ---- the three parts of a step: the pairs, left alone, right alone

over_last : {A : Type 0} (n : ℕ) (f : ℕ → A → A) (k : ℕ) (a : A) → over (suc n) f k a ≡ f (k + n) (over n f k a)
unfolding over
over_last zero f k a = let e : k ≡ k + 0 = omega arith in ap (λ (i : ℕ). f i a) e
over_last (suc n) f k a = let e : k + 1 + n ≡ k + suc n = omega arith in over_last n f (k + 1) (f k a) ∙ ap (λ (i : ℕ). f i (over n f (k + 1) (f k a))) e

module _ {S : Type 0} (put : S → Clause → S) (ns : List ℕ) (ins : List ℤ) (keys : List ℕ) where
  pub three_ways : (rec : ℕ → ℕ → St S → St S) (k at v : ℕ) (s : St S)
      → links_of put rec ns ins keys k at v s
      ≡ link_of put rec ns ins k at (way_of ns keys k v (con_len (node_at ns (node_at ns k).left) + 1))
      (link_of put rec ns ins k at (way_of ns keys k v (con_len (node_at ns (node_at ns k).left)))
      (span 0 (con_len (node_at ns (node_at ns k).left)) (λ j t. link_of put rec ns ins k at (way_of ns keys k v j) t) s))
  unfolding links_of
  three_ways rec k at v s =
      let a : ℕ = con_len (node_at ns (node_at ns k).left) in
      let f : ℕ → St S → St S = λ j t. link_of put rec ns ins k at (way_of ns keys k v j) t in
      let e : turns_of ns k - 0 ≡ suc (suc a) = omega arith in
      let b : a - 0 ≡ a = omega arith in
      let g : 0 + suc a ≡ a + 1 = omega arith in
      let h : 0 + a ≡ a = omega arith in
      ap (λ (m : ℕ). over m f 0 s) e ∙ over_last (suc a) f 0 s ∙ ap (f (0 + suc a)) (over_last a f 0 s)
      ∙ ap₂ (λ (i j : ℕ). f i (f j (over a f 0 s))) g h ∙ ap (λ (m : ℕ). f (a + 1) (f a (over m f 0 s))) (sym b)

  pub three_parts : (rec : ℕ → ℕ → St S → St S) (k at v : ℕ) (s : St S)
      → links_of put rec ns ins keys k at v s
      ≡ link_of put rec ns ins k at (record { x = 0; y = share_of keys (node_at ns (node_at ns k).right) (node_at ns k).rmul v })
      (link_of put rec ns ins k at (record { x = share_of keys (node_at ns (node_at ns k).left) (node_at ns k).lmul v; y = 0 })
      (span 0 (con_len (node_at ns (node_at ns k).left)) (λ j t. link_of put rec ns ins k at (way_of ns keys k v j) t) s))
  three_parts rec k at v s =
      let n = node_at ns k in
      let l = node_at ns n.left in
      let r = node_at ns n.right in
      let a : ℕ = con_len l in
      let f : ℕ → St S → St S = λ j t. link_of put rec ns ins k at (way_of ns keys k v j) t in
      let g = way_left keys n l r v a refl in
      let h = way_right keys n l r v (a + 1) (omega arith) (λ z. let y : ⊥ = omega arith in y) in
      three_ways rec k at v s ∙ ap₂ (λ (p q : Way). link_of put rec ns ins k at p (link_of put rec ns ins k at q (span 0 a f s))) h g

  -- place 0 asks for nothing
  pub weigh_zero : (f k : ℕ) (s : St S) → weigh put f ns ins keys k 0 s ≡ s
  unfolding weigh do_of job_of
  weigh_zero zero k s = refl
  weigh_zero (suc f) k s = refl

  pub link_none : (f k at : ℕ) (s : St S) → link_of put (weigh put f ns ins keys) ns ins k at no_way s ≡ s
  unfolding link_of clause_at emit_way
  link_none f k at s = rw (weigh_zero f (node_at ns k).right s, weigh_zero f (node_at ns k).left s) refl
