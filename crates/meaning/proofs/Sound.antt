-- Theorem 1: whatever satisfies the history gives the marked outputs their meaning.
use Rattle.std.specs.Prelude.{◌≡◌, refl, Bool, true, false, [], ◌∷◌, ℕ, zero, suc, ◌+◌, ◌*◌, ◌<◌, ◌≤◌, ℤ, pos, neg_ℤ, ltb}
use Rattle.std.proofs.Common.{sym, ◌∙◌, ap, subst, inl, inr, arith, ltb-true}
use Rattle.std.proofs.Math.Decide.{dec_le}
use Rattle.facts.proofs.Ranges.{split_some}
use Rattle.meaning.specs.Base.{Nz, litv, AtPrev, Sat, prev, keep}
use Rattle.meaning.proofs.Base.{pass_prev, pass_keep, nz_pos, neg_true, lit_neg, in_sat}
use Rattle.meaning.specs.Table.{Kind, leaf, dummy, unit, general, Dir, If, OnlyIf, Tab, Marks, lit_of, lit, done_of, Done, key_at, NotGeneral, IfPair, if_of, only_of, UnitOk, GeneralOk, NodeOk, Shape, bit, ValueOf, Values, History, Marked, Inv, AllSat}
use Rattle.meaning.specs.Sound.{ReachOf}

pub strong : (P : ℕ → Type 0) → ((n : ℕ) → ((c : ℕ) → c < n → P c) → P n) → (n : ℕ) → P n
strong P f n = below (suc n) n (omega arith)
  where
    below : (k c : ℕ) → c < k → P c
    below zero c h = absurd (let z : ⊥ = omega arith in z)
    below (suc k) c h = f c (λ b hb. below k b (omega arith))

reach_of_le : (k : Kind) (v q : ℕ) → NotGeneral k → q ≤ v → ReachOf k v q
reach_of_le leaf v q g h = h
reach_of_le dummy v q g h = h
reach_of_le unit v q g h = h
reach_of_le general v q g h = absurd g

reach_of_eq : (k : Kind) (v q : ℕ) → q ≡ v → ReachOf k v q
reach_of_eq leaf v q h = omega arith
reach_of_eq dummy v q h = omega arith
reach_of_eq unit v q h = omega arith
reach_of_eq general v q h = omega arith

-- below a node that is not general, output x-1 tells of x
pub key_small : (t : Tab) (c : ℕ) (k : Kind) → NodeOk t c k → NotGeneral k → (x : ℕ) → x ≤ (t.node c).count → key_at t c x ≡ x
key_small t c k o g zero h = refl
key_small t c leaf o g (suc zero) h = o.key_is
key_small t c leaf o g (suc (suc p)) h = absurd (let e = o.count_is in let z : ⊥ = omega arith in z)
key_small t c dummy o g (suc p) h = absurd (let z : ⊥ = omega arith in z)
key_small t c unit o g (suc p) h = o.key_is p h
key_small t c general o g (suc p) h = absurd g

module _ (t : Tab) (shape : Shape t) (b : ℤ → Bool) (w : ℕ → ℕ) (vals : Values t b w) where
  -- the value of a node that is not general is at most its count
  bound_step : (n : ℕ) → n < t.size → ((c : ℕ) → c < n → NotGeneral (t.node c).kind → w c ≤ (t.node c).count)
      → (k : Kind) → NodeOk t n k → ValueOf b w (t.node n) n k → NotGeneral k → w n ≤ (t.node n).count
  bound_step n s ih leaf o v g = leaf_bound (b (t.node n).input) v
    where
      leaf_bound : (c : Bool) → w n ≡ bit c → w n ≤ (t.node n).count
      leaf_bound true e = let f = o.count_is in omega arith
      leaf_bound false e = omega arith
  bound_step n s ih dummy o v g = omega arith
  bound_step n s ih unit o v g =
      let a = ih (t.node n).left o.hl o.left_kind in
      let c = ih (t.node n).right o.hr o.right_kind in
      let e = o.count_is in
      omega arith
  bound_step n s ih general o v g = absurd g

  pub bound : (n : ℕ) → n < t.size → NotGeneral (t.node n).kind → w n ≤ (t.node n).count
  bound = strong (λ n. n < t.size → NotGeneral (t.node n).kind → w n ≤ (t.node n).count)
      (λ n ih s g. bound_step n s (λ c hc gc. ih c hc (omega arith) gc) (t.node n).kind (shape n s) (vals n s) g)

  -- every value is told of by some output, or is 0
  abbrev Told : ℕ → Type 0
  Told n = (x : ℕ) × (x ≤ (t.node n).count) × (key_at t n x ≡ w n)

  told_small : (n : ℕ) → n < t.size → NotGeneral (t.node n).kind → Told n
  told_small n s g = (w n, bound n s g, key_small t n (t.node n).kind (shape n s) g (w n) (bound n s g))

  told_general : (n : ℕ) → GeneralOk t n → w n ≡ (t.node n).lmul * w (t.node n).left + (t.node n).rmul * w (t.node n).right
      → (x y : ℕ) → x ≤ (t.node (t.node n).left).count → y ≤ (t.node (t.node n).right).count
      → key_at t (t.node n).left x ≡ w (t.node n).left → key_at t (t.node n).right y ≡ w (t.node n).right → Told n
  told_general n o v zero zero hx hy ex ey = (0, omega arith, rw (v, ← ex, ← ey) (omega arith))
  told_general n o v (suc x) y hx hy ex ey =
      let r = o.keys (suc x) y hx hy (omega arith) in
      (suc r.0, r.1, r.2 ∙ rw (v, ex, ey))
  told_general n o v zero (suc y) hx hy ex ey =
      let r = o.keys zero (suc y) hx hy (omega arith) in
      (suc r.0, r.1, r.2 ∙ rw (v, ← ex, ey))

  told_step : (n : ℕ) → n < t.size → ((c : ℕ) → c < n → Told c) → (k : Kind) → (t.node n).kind ≡ k → NodeOk t n k → ValueOf b w (t.node n) n k → Told n
  told_step n s ih leaf e o v = told_small n s (rw e tt)
  told_step n s ih dummy e o v = told_small n s (rw e tt)
  told_step n s ih unit e o v = told_small n s (rw e tt)
  told_step n s ih general e o v =
      let a = ih (t.node n).left o.hl in
      let c = ih (t.node n).right o.hr in
      told_general n o v a.0 c.0 a.1 c.1 a.2 c.2

  pub told : (n : ℕ) → n < t.size → Told n
  told = strong (λ n. n < t.size → Told n)
      (λ n ih s. told_step n s (λ c hc. ih c hc (omega arith)) (t.node n).kind refl (shape n s) (vals n s))

  -- the facts about ranges, over a, b, i: a pair for If when p + q > i, a pair for OnlyIf when p + q ≤ i < a + b
  abbrev pub Reached : ℕ → ℕ → Type 0
  Reached c p = ReachOf (t.node c).kind (w c) (t.key c p)

  reached_small : (c : ℕ) → c < t.size → NotGeneral (t.node c).kind → (x : ℕ) → x ≤ w c → AtPrev (Reached c) x
  reached_small c s g zero h = tt
  reached_small c s g (suc p) h =
      let f = bound c s g in
      let e = key_small t c (t.node c).kind (shape c s) g (suc p) (omega arith) in
      reach_of_le (t.node c).kind (w c) (t.key c p) g (omega arith)

  reached_told : (c x : ℕ) → key_at t c x ≡ w c → AtPrev (Reached c) x
  reached_told c zero e = tt
  reached_told c (suc p) e = reach_of_eq (t.node c).kind (w c) (t.key c p) e

  abbrev pub Choice : ℕ → ℕ → Type 0
  Choice n j = (x : ℕ) × (y : ℕ) × IfPair t n j x y × AtPrev (Reached (t.node n).left) x × AtPrev (Reached (t.node n).right) y

  pub choose_unit : (n j : ℕ) → n < t.size → UnitOk t n → w n ≡ w (t.node n).left + w (t.node n).right → j < (t.node n).count → t.key n j ≤ w n → Choice n j
  choose_unit n j s o v hj h =
      let l = (t.node n).left in
      let r = (t.node n).right in
      let sl : l < t.size = omega (arith, o.hl) in
      let sr : r < t.size = omega (arith, o.hr) in
      let bl = bound l sl o.left_kind in
      let br = bound r sr o.right_kind in
      let ek = o.key_is j hj in
      let (x, y, sp, low, high) = split_some (w l) (w r) 0 0 (suc j) (omega arith) (omega arith) (omega arith) (omega arith) in
      let hx : x ≤ w l = sp.left in
      let hy : y ≤ w r = sp.right in
      let e = sp.sum in
      let ex : key_at t l x ≡ x = key_small t l (t.node l).kind (shape l sl) o.left_kind x (omega arith) in
      let ey : key_at t r y ≡ y = key_small t r (t.node r).kind (shape r sr) o.right_kind y (omega arith) in (
        x,
        y,
        record { hx = omega arith; hy = omega arith; sum = rw (o.lmul_is, o.rmul_is, ex, ey) (omega arith) },
        reached_small l sl o.left_kind x hx,
        reached_small r sr o.right_kind y hy,
      )

  choose_general : (n j : ℕ) → n < t.size → GeneralOk t n → w n ≡ (t.node n).lmul * w (t.node n).left + (t.node n).rmul * w (t.node n).right
      → w n ≡ t.key n j → Choice n j
  choose_general n j s o v h =
      let a = told (t.node n).left (omega (arith, o.hl)) in
      let c = told (t.node n).right (omega (arith, o.hr)) in (
        a.0,
        c.0,
        record { hx = a.1; hy = c.1; sum = rw (a.2, c.2) (sym v ∙ h) },
        reached_told (t.node n).left a.0 a.2,
        reached_told (t.node n).right c.0 c.2,
      )

done_nz : (t : Tab) (m : Marks) (h : History) → Inv t m h → (d : Dir) (n j : ℕ) → n < t.size → j < (t.node n).count
    → (k : Kind) → NodeOk t n k → done_of k (m d n j) → Nz (lit_of k (t.node n).input (t.held n j))
done_nz t m h inv d n j s hj leaf o e = o.nonzero
done_nz t m h inv d n j s hj dummy o e = nz_pos (t.held n j) (inv.marked d n j s hj e).held
done_nz t m h inv d n j s hj unit o e = nz_pos (t.held n j) (inv.marked d n j s hj e).held
done_nz t m h inv d n j s hj general o e = nz_pos (t.held n j) (inv.marked d n j s hj e).held

one_left : (α : ℕ → Bool) (z : ℤ) → Sat α (z ∷ []) → litv α z ≡ true
one_left α z (inl e) = e
one_left α z (inr e) = absurd e

bit_true : (b : Bool) → 1 ≤ bit b → b ≡ true
bit_true true h = refl
bit_true false h = absurd (let z : ⊥ = omega arith in z)

module _ (t : Tab) (m : Marks) (h : History) (inv : Inv t m h) (α : ℕ → Bool) (w : ℕ → ℕ) (vals : Values t (litv α) w) (sat : AllSat α h) where
  abbrev Forced : ℕ → Type 0
  Forced n = n < t.size → (j : ℕ) → j < (t.node n).count → Done t m If n j → ReachOf (t.node n).kind (w n) (t.key n j) → litv α (lit t n j) ≡ true

  -- a child's outputs that are done and reached are true
  forced_child : (c : ℕ) → Forced c → c < t.size → (x : ℕ) → x ≤ (t.node c).count → AtPrev (Done t m If c) x
      → AtPrev (λ p. ReachOf (t.node c).kind (w c) (t.key c p)) x → AtPrev (λ p. Nz (lit t c p) × (litv α (lit t c p) ≡ true)) x
  forced_child c f s zero hx d r = tt
  forced_child c f s (suc p) hx d r = (done_nz t m h inv If c p s hx (t.node c).kind (inv.shape c s) d, f s p hx d r)

  forced_inner : (n j : ℕ) → n < t.size → (t.node n).left < n → (t.node n).right < n → ((c : ℕ) → c < n → Forced c) → Marked t m h If n j
      → (x y : ℕ) → IfPair t n j x y
      → AtPrev (λ p. ReachOf (t.node (t.node n).left).kind (w (t.node n).left) (t.key (t.node n).left p)) x
      → AtPrev (λ p. ReachOf (t.node (t.node n).right).kind (w (t.node n).right) (t.key (t.node n).right p)) y
      → litv α (pos (t.held n j)) ≡ true
  forced_inner n j s hl hr ih mk x y pr rx ry =
      let c = mk.closed x y pr in
      let l = (t.node n).left in
      let r = (t.node n).right in
      let o : ℤ = pos (t.held n j) in
      let a = in_sat α (if_of t n j x y) h sat c.there in
      let b = pass_prev α (lit t l) (prev y (lit t r) (o ∷ [])) x (forced_child l (ih l hl) (omega arith) x pr.hx c.ldone rx) a in
      let e = pass_prev α (lit t r) (o ∷ []) y (forced_child r (ih r hr) (omega arith) y pr.hy c.rdone ry) b in
      one_left α o e

  forced_step : (n : ℕ) → n < t.size → ((c : ℕ) → c < n → Forced c) → (j : ℕ) → j < (t.node n).count
      → (k : Kind) → NodeOk t n k → ValueOf (litv α) w (t.node n) n k → done_of k (m If n j) → ReachOf k (w n) (t.key n j)
      → litv α (lit_of k (t.node n).input (t.held n j)) ≡ true
  forced_step n s ih j hj leaf o v d r = at j o.count_is r hj
    where
      at : (i : ℕ) → (t.node n).count ≡ 1 → t.key n i ≤ w n → i < (t.node n).count → litv α (t.node n).input ≡ true
      at zero e q hi = let f = o.key_is in bit_true (litv α (t.node n).input) (omega arith)
      at (suc i) e q hi = absurd (let z : ⊥ = omega arith in z)
  forced_step n s ih j hj dummy o v d r = absurd (let z : ⊥ = omega arith in z)
  forced_step n s ih j hj unit o v d r =
      let (x, y, pr, rx, ry) = choose_unit t inv.shape (litv α) w vals n j s o v hj r in
      forced_inner n j s o.hl o.hr ih (inv.marked If n j s hj d) x y pr rx ry
  forced_step n s ih j hj general o v d r =
      let (x, y, pr, rx, ry) = choose_general t inv.shape (litv α) w vals n j s o v r in
      forced_inner n j s o.hl o.hr ih (inv.marked If n j s hj d) x y pr rx ry

  pub forced : (n : ℕ) → Forced n
  forced = strong Forced
      (λ n ih s j hj d r. forced_step n s ih j hj (t.node n).kind (inv.shape n s) (vals n s) d r)

  abbrev Honest : ℕ → Type 0
  Honest n = n < t.size → (j : ℕ) → j < (t.node n).count → Done t m OnlyIf n j → litv α (lit t n j) ≡ true → t.key n j ≤ w n

  honest_unit : (n j : ℕ) → n < t.size → UnitOk t n → w n ≡ w (t.node n).left + w (t.node n).right → ((c : ℕ) → c < n → Honest c)
      → j < (t.node n).count → Marked t m h OnlyIf n j → litv α (pos (t.held n j)) ≡ true → Dec (t.key n j ≤ w n) → t.key n j ≤ w n
  honest_unit n j s o v ih hj mk e (yes p) = p
  honest_unit n j s o v ih hj mk e (no q) =
      let l = (t.node n).left in
      let r = (t.node n).right in
      let cl = (t.node l).count in
      let cr = (t.node r).count in
      let sl : l < t.size = omega (arith, o.hl) in
      let sr : r < t.size = omega (arith, o.hr) in
      let bl = bound t inv.shape (litv α) w vals l sl o.left_kind in
      let br = bound t inv.shape (litv α) w vals r sr o.right_kind in
      let ek = o.key_is j hj in
      let ec = o.count_is in
      let (x, y, sp, lx, ly) = split_some cl cr (w l) (w r) j bl br (omega arith) (omega arith) in
      let c = mk.closed.1 x y (record { hx = sp.left; hy = sp.right; sum = sp.sum }) in
      let a = in_sat α (only_of t n j x y) h sat c.there in
      let b = pass_keep α (lit t l x) (keep (ltb y cr) (lit t r y) (neg_ℤ (pos (t.held n j)) ∷ [])) (ltb x cl)
      (λ eb et. child l sl o.left_kind x (ltb-true x cl eb) lx (ih l o.hl sl x (ltb-true x cl eb) (c.ldone (ltb-true x cl eb)) et)) a in
      let d = pass_keep α (lit t r y) (neg_ℤ (pos (t.held n j)) ∷ []) (ltb y cr)
      (λ eb et. child r sr o.right_kind y (ltb-true y cr eb) ly (ih r o.hr sr y (ltb-true y cr eb) (c.rdone (ltb-true y cr eb)) et)) b in
      absurd (neg_true (litv α (pos (t.held n j))) e (sym (lit_neg α (pos (t.held n j)) (nz_pos (t.held n j) mk.held)) ∙ one_left α (neg_ℤ (pos (t.held n j))) d))
    where
      child : (c : ℕ) → c < t.size → NotGeneral (t.node c).kind → (x : ℕ) → x < (t.node c).count → w c ≤ x → t.key c x ≤ w c → ⊥
      child c sc g x hx lx q =
          let f = key_small t c (t.node c).kind (inv.shape c sc) g (suc x) hx in
          omega arith

  honest_step : (n : ℕ) → n < t.size → ((c : ℕ) → c < n → Honest c) → (j : ℕ) → j < (t.node n).count
      → (k : Kind) → (t.node n).kind ≡ k → NodeOk t n k → ValueOf (litv α) w (t.node n) n k → done_of k (m OnlyIf n j)
      → litv α (lit_of k (t.node n).input (t.held n j)) ≡ true → t.key n j ≤ w n
  honest_step n s ih j hj leaf ek o v d e = at j o.count_is hj
    where
      at : (i : ℕ) → (t.node n).count ≡ 1 → i < (t.node n).count → t.key n i ≤ w n
      at zero ec hi = let f = o.key_is in let g : bit (litv α (t.node n).input) ≡ 1 = ap bit e in omega arith
      at (suc i) ec hi = absurd (let z : ⊥ = omega arith in z)
  honest_step n s ih j hj dummy ek o v d e = absurd (let z : ⊥ = omega arith in z)
  honest_step n s ih j hj unit ek o v d e =
      honest_unit n j s o v ih hj (inv.marked OnlyIf n j s hj d) e (dec_le (t.key n j) (w n))
  honest_step n s ih j hj general ek o v d e =
      let f = (inv.marked OnlyIf n j s hj d).closed.0 in
      let z : ◌≡◌ {A = ℕ} 0 1 = cc in
      absurd (let y : ⊥ = omega arith in y)

  pub honest : (n : ℕ) → Honest n
  honest = strong Honest
      (λ n ih s j hj d e. honest_step n s ih j hj (t.node n).kind refl (inv.shape n s) (vals n s) d e)

-- THEOREM 1, as the customer says it
pub sound_unit_if : (t : Tab) (m : Marks) (h : History) → Inv t m h → (α : ℕ → Bool) (w : ℕ → ℕ) → Values t (litv α) w → AllSat α h
    → (n j : ℕ) → n < t.size → j < (t.node n).count → (t.node n).kind ≡ unit → m If n j ≡ true → j < w n → litv α (pos (t.held n j)) ≡ true
sound_unit_if t m h inv α w vals sat n j s hj k e r =
    let o : UnitOk t n = subst (NodeOk t n) k (inv.shape n s) in
    let v : w n ≡ w (t.node n).left + w (t.node n).right = subst (ValueOf (litv α) w (t.node n) n) k (vals n s) in
    let f = o.key_is j hj in
    forced_step t m h inv α w vals sat n s (λ c hc. forced t m h inv α w vals sat c) j hj unit o v e (omega arith)

pub sound_unit_onlyif : (t : Tab) (m : Marks) (h : History) → Inv t m h → (α : ℕ → Bool) (w : ℕ → ℕ) → Values t (litv α) w → AllSat α h
    → (n j : ℕ) → n < t.size → j < (t.node n).count → (t.node n).kind ≡ unit → m OnlyIf n j ≡ true → litv α (pos (t.held n j)) ≡ true → j < w n
sound_unit_onlyif t m h inv α w vals sat n j s hj k e r =
    let o : UnitOk t n = subst (NodeOk t n) k (inv.shape n s) in
    let v : w n ≡ w (t.node n).left + w (t.node n).right = subst (ValueOf (litv α) w (t.node n) n) k (vals n s) in
    let f = o.key_is j hj in
    let g = honest_step t m h inv α w vals sat n s (λ c hc. honest t m h inv α w vals sat c) j hj unit k o v e r in
    omega arith

pub sound_general : (t : Tab) (m : Marks) (h : History) → Inv t m h → (α : ℕ → Bool) (w : ℕ → ℕ) → Values t (litv α) w → AllSat α h
    → (n j : ℕ) → n < t.size → j < (t.node n).count → (t.node n).kind ≡ general → m If n j ≡ true → w n ≡ t.key n j → litv α (pos (t.held n j)) ≡ true
sound_general t m h inv α w vals sat n j s hj k e r =
    let o : GeneralOk t n = subst (NodeOk t n) k (inv.shape n s) in
    let v : w n ≡ (t.node n).lmul * w (t.node n).left + (t.node n).rmul * w (t.node n).right = subst (ValueOf (litv α) w (t.node n) n) k (vals n s) in
    forced_step t m h inv α w vals sat n s (λ c hc. forced t m h inv α w vals sat c) j hj general o v e r
