-- The window of the left outputs: outside it there is no pair, so that a run may leave those turns out.
use Rattle.std.specs.Prelude.{None, Option, Some}
use mathlib.Core.Path.{◌≡◌, refl, sym, ap, ◌∙◌}
use mathlib.Core.Bool.{Bool, true, false}
use mathlib.Core.List.{List}
use Prim.Native.Nat.{ℕ, zero, suc, ◌+◌, ◌-◌, ◌*◌, ◌/◌, ◌%◌, ◌≤◌, ◌<◌}
use native.Mathlib.Decide.{ℕ_discrete}
use native.Mathlib.Nat.{mod-add-div, mul-le-mul_left}
use native.Mathlib.Omega.{arith}
use borrow.Author.Tests.{ne_eqb, ltb-true, ltb-false}
use lib.Dec.{ltb}
use lib.IntN.{ℤ}
use Rattle.paper.specs.Span.{over, span}
use Rattle.paper.specs.Rows.{node_at, value_count, value_at, con_len, con_val}
use Rattle.paper.specs.Plain.{St}
use Rattle.paper.specs.Weighted.{output_of, share_of, no_way, joined, way_of, link_of, weigh}
use Rattle.paper.specs.declared.Node.{Node}
use Rattle.paper.specs.declared.Clause.{Clause}
use Rattle.paper.specs.declared.Span.{Span}
use Rattle.paper.specs.declared.Way.{Way}
use Rattle.keys.specs.Least.{largest_of}
use Rattle.keys.proofs.Laws.{last_most}
use Rattle.find.specs.Ways.{Sorted, Cut, Pairing}
use Rattle.find.proofs.Laws.{count_general, share_no, share_yes, way_both, way_over}
use Rattle.find.proofs.Paper.{Finds, finds, value_counts, link_none}

-- ---- values ascend

module _ (keys : List ℕ) (n : Node) (s : Sorted keys n) where
  general_rise : n.kind ≡ 2 → (i j : ℕ) → i < j → j < value_count n → value_at keys n i < value_at keys n j
  unfolding value_at
  general_rise e i j h b = rw (ne_eqb n.kind 0 (λ z. omega arith)) ((s.general e).rise i j h (omega (arith, count_general n e)))

  pub value_rise : (i j : ℕ) → i < j → j < value_count n → value_at keys n i < value_at keys n j
  value_rise i j h b = go (ℕ_discrete n.kind 2)
    where
      go : Dec (n.kind ≡ 2) → value_at keys n i < value_at keys n j
      go (yes e) = general_rise e i j h b
      go (no e) = omega (arith, value_counts keys n (s.counted e) i (omega arith), value_counts keys n (s.counted e) j b)

  pub value_upto : (i j : ℕ) → i ≤ j → j < value_count n → value_at keys n i ≤ value_at keys n j
  value_upto i j h b = go (ℕ_discrete i j)
    where
      go : Dec (i ≡ j) → value_at keys n i ≤ value_at keys n j
      go (yes e) = rw e (omega arith)
      go (no e) = omega (arith, value_rise i j (omega arith) b)

  -- so do they times m
  pub times_upto : (m i j : ℕ) → i ≤ j → j < value_count n → con_val keys n m i ≤ con_val keys n m j
  times_upto m i j h b = mul-le-mul_left m (value_upto i j h b)

  -- a rest above the largest value times m is no output's
  pub share_above : (m d : ℕ) → largest_of keys n m < d → share_of keys n m d ≡ 0
  share_above m d h = go (ℕ_discrete (d % m) 0)
    where
      absent : d % m ≡ 0 → (f : Option ℕ) → Finds keys n (d / m) f → f ≡ None
      absent e (Some j) q =
          let top = last_most (con_len n) (con_val keys n m) (λ i k g b. times_upto m i k g b) j q.0 in
          let is : con_val keys n m j ≡ m * (d / m) = ap (λ (x : ℕ). m * x) q.1 in
          absurd (let z : ⊥ = omega (arith, top, is, mod-add-div d m) in z)
      absent e None q = refl

      go : Dec (d % m ≡ 0) → share_of keys n m d ≡ 0
      go (no e) = share_no keys n m d e
      go (yes e) = sym (share_yes keys n m d None e (sym (absent e (output_of keys n (d / m)) (finds keys n s.counted (d / m)))))

-- ---- a place to cut at

module _ (keys : List ℕ) (n : Node) (s : Sorted keys n) (m more v j : ℕ) (h : j < value_count n) where
  pub cut_below : m * value_at keys n j + more < v → (i : ℕ) → i < j + 1 → con_val keys n m i + more < v
  cut_below g i l = omega (arith, times_upto keys n s m i j (omega arith) h)

  pub cut_above : v ≤ m * value_at keys n j + more → (i : ℕ) → j ≤ i → i < value_count n → v ≤ con_val keys n m i + more
  cut_above g i l k = omega (arith, times_upto keys n s m j i l k)

-- the place that a search by halves finds is one to cut at
module _ (keys : List ℕ) (n : Node) (s : Sorted keys n) (m more v at : ℕ) (in-range : at ≤ value_count n) where
  pub cut_of : (0 < at → con_val keys n m (at - 1) + more < v) → (at < value_count n → v ≤ con_val keys n m at + more) → Cut keys n m more v at
  cut_of before after =
      record {
        inside = in-range;
        below = λ i h. cut_below keys n s m more v (at - 1) (omega arith) (before (omega arith)) i (omega arith);
        above = λ i h k. cut_above keys n s m more v at (omega arith) (after (omega arith)) i h k;
      }

-- ---- no pair outside the window

pub pairing_of : (ns keys : List ℕ) (k v : ℕ) (n l r : Node) → n ≡ node_at ns k → l ≡ node_at ns n.left → r ≡ node_at ns n.right → (top : ℕ) → top ≡ largest_of keys r n.rmul → (from to : ℕ)
    → Cut keys l n.lmul top v from → Cut keys l n.lmul 0 v to → Pairing ns keys k v (record { from = from; to = to })
pairing_of ns keys k v n l r a b c top d from to low high = record { low = rw (← a, ← b, ← c, ← d) low; high = rw (← a, ← b) high }

joined_none : (x y : ℕ) → joined x y ≡ no_way → y ≡ 0
joined_none x y e = go (ℕ_discrete y 0)
  where
    some : (y ≡ 0 → ⊥) → joined x y ≡ record { x = x; y = y }
    some z = rw (ne_eqb y 0 z)

    go : Dec (y ≡ 0) → y ≡ 0
    go (yes z) = z
    go (no z) = ap (λ (q : Way). q.y) (sym (some z) ∙ e)

module _ (ns keys : List ℕ) (k v : ℕ) (w : Span) (c : Pairing ns keys k v w) where
  abbrev n : Node
  n = node_at ns k

  abbrev l : Node
  l = node_at ns (node_at ns k).left

  abbrev r : Node
  r = node_at ns (node_at ns k).right

  pub window_order : w.from ≤ w.to
  window_order = go (ltb w.to w.from) refl
    where
      go : (b : Bool) → ltb w.to w.from ≡ b → w.from ≤ w.to
      go true e =
          let h : w.to < w.from = ltb-true _ _ e in
          absurd (let z : ⊥ = omega (arith, c.low.below w.to h, c.high.above w.to (omega arith) (omega (arith, c.low.inside))) in z)
      go false e = ltb-false _ _ e

  pub none_before : Sorted keys r → (p : ℕ) → p < w.from → way_of ns keys k v p ≡ no_way
  none_before s p h =
      let a : con_val keys l n.lmul p + largest_of keys r n.rmul < v = c.low.below p h in
      let d : p < value_count l = omega (arith, c.low.inside) in
      way_both keys n l r v p d (omega arith) ∙ ap (joined (p + 1)) (share_above keys r s n.rmul (v - con_val keys l n.lmul p) (omega arith))

  pub none_after : (p : ℕ) → w.to ≤ p → p < con_len l → way_of ns keys k v p ≡ no_way
  none_after p h d = way_over keys n l r v p d (omega (arith, c.high.above p h d))

  -- .. and inside it only pairs, where the right child makes up every rest
  pub all_pairs : ((d : ℕ) → 1 ≤ d → d ≤ largest_of keys r n.rmul → share_of keys r n.rmul d ≡ 0 → ⊥) → (p : ℕ) → w.from ≤ p → p < w.to → way_of ns keys k v p ≡ no_way → ⊥
  all_pairs dense p h g e =
      let d : p < value_count l = omega (arith, c.high.inside) in
      let a : con_val keys l n.lmul p < v = omega (arith, c.high.below p g) in
      let b : v ≤ con_val keys l n.lmul p + largest_of keys r n.rmul = c.low.above p h d in
      dense (v - con_val keys l n.lmul p) (omega arith) (omega arith) (joined_none (p + 1) _ (sym (way_both keys n l r v p d a) ∙ e))

-- ---- turns that change nothing

module _ {A : Type 0} (f : ℕ → A → A) where
  over_still : (n k : ℕ) (a : A) → ((j : ℕ) (t : A) → k ≤ j → j < k + n → f j t ≡ t) → over n f k a ≡ a
  unfolding over
  over_still zero k a h = refl
  over_still (suc n) k a h = over_still n (k + 1) (f k a) (λ j t p q. h j t (omega arith) (omega arith)) ∙ h k a (omega arith) (omega arith)

  over_parts : (m n k : ℕ) (a : A) → over (m + n) f k a ≡ over n f (k + m) (over m f k a)
  unfolding over
  over_parts zero n k a =
      let e : k ≡ k + 0 = omega arith in
      let z : 0 + n ≡ n = omega arith in
      ap (λ (i : ℕ). over i f k a) z ∙ ap (λ (i : ℕ). over n f i a) e
  over_parts (suc m) n k a =
      let e : k + 1 + m ≡ k + suc m = omega arith in
      let z : suc m + n ≡ suc (m + n) = omega arith in
      ap (λ (i : ℕ). over i f k a) z ∙ over_parts m n (k + 1) (f k a) ∙ ap (λ (i : ℕ). over n f i (over m f (k + 1) (f k a))) e

  pub span_inner : (from to end : ℕ) (a : A) → from ≤ to → to ≤ end → ((j : ℕ) (t : A) → j < from → f j t ≡ t) → ((j : ℕ) (t : A) → to ≤ j → j < end → f j t ≡ t)
      → span from to f a ≡ span 0 end f a
  span_inner from to end a p q before after =
      let e : end - 0 ≡ from + ((to - from) + (end - to)) = omega arith in
      let o : 0 + from ≡ from = omega arith in
      let x : over from f 0 a ≡ a = over_still from 0 a (λ j t _ h. before j t (omega arith)) in
      let b : A = over (to - from) f from a in
      let g : from + (to - from) ≡ to = omega arith in
      let y : over (end - to) f (from + (to - from)) b ≡ b = over_still (end - to) (from + (to - from)) b (λ j t h i. after j t (omega arith) (omega arith)) in
      sym (ap (λ (i : ℕ). over i f 0 a) e ∙ over_parts from ((to - from) + (end - to)) 0 a ∙ ap (λ (i : ℕ). over ((to - from) + (end - to)) f i (over from f 0 a)) o
      ∙ ap (λ (u : A). over ((to - from) + (end - to)) f from u) x
      ∙ over_parts (to - from) (end - to) from a ∙ y)

module _ {S : Type 0} (put : S → Clause → S) (ns : List ℕ) (ins : List ℤ) (keys : List ℕ) (k at v : ℕ) where
  abbrev pub turn : ℕ → ℕ → St S → St S
  turn f j t = link_of put (weigh put f ns ins keys) ns ins k at (way_of ns keys k v j) t

  still : (f j : ℕ) (t : St S) → way_of ns keys k v j ≡ no_way → turn f j t ≡ t
  still f j t e = ap (λ (p : Way). link_of put (weigh put f ns ins keys) ns ins k at p t) e ∙ link_none put ns ins keys f k at t

  -- the turns of the window are all that do something
  pub in_window : (f : ℕ) (w : Span) (s : St S) → Pairing ns keys k v w → Sorted keys (node_at ns (node_at ns k).right)
      → span w.from w.to (turn f) s ≡ span 0 (con_len (node_at ns (node_at ns k).left)) (turn f) s
  in_window f w s c r =
      span_inner (turn f) w.from w.to (con_len (node_at ns (node_at ns k).left)) s (window_order ns keys k v w c) c.high.inside
      (λ j t h. still f j t (none_before ns keys k v w c r j h))
      (λ j t h b. still f j t (none_after ns keys k v w c j h b))
