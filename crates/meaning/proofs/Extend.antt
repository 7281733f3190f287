-- Theorem 2: every assignment of the inputs extends to satisfy the history, each output that has a literal being true exactly when the value reaches its key.
use Rattle.std.specs.Prelude.{◌≡◌, refl, Bool, true, false, not, ◌&&◌, ◌||◌, List, ◌⊎◌, ◌↔◌, ℕ, zero, suc, ◌+◌, ◌*◌, ◌<◌, ◌≤◌, ℤ, pos, negsuc, ltb, leb, eqb}
use Rattle.std.proofs.Common.{sym, ◌∙◌, ap, subst, inl, inr, mul-le-mul_left, arith, leb-true, eqb-true, lt-ltb, le-ltb, le-leb, eq-eqb}
use Rattle.std.proofs.lemmas.Bool.{false≢true}
use Rattle.std.proofs.Math.Decide.{dec_le, dec_lt}
use Rattle.meaning.specs.Base.{Nz, litv, var, AtPrev, Sat, prev}
use Rattle.meaning.proofs.Base.{nz_pos, neg_false, lit_neg, bool_cases, sat_prev, sat_keep, sat_keep_at, same_sat, same_sym}
use Rattle.meaning.specs.Table.{Kind, leaf, dummy, unit, general, Tab, Marks, lit_of, lit, held_of, Held, key_at, Inner, IfPair, OnlyPair, if_of, only_of, UnitOk, NodeOk, Shape, bit, ValueOf, Values, History, Cell, Own, own_if, own_only, Cells, Inv}
use Rattle.meaning.proofs.Sound.{bound, key_small}
use Rattle.meaning.specs.Extend.{Exactly, Extension, anyb, extended}

or_left : (a b : Bool) → a ≡ true → (a || b) ≡ true
or_left true b e = refl
or_left false b e = absurd (false≢true e)

or_right : (a b : Bool) → b ≡ true → (a || b) ≡ true
or_right true b e = refl
or_right false b e = e

or_cases : (a b : Bool) → (a || b) ≡ true → (a ≡ true) ⊎ (b ≡ true)
or_cases true b e = inl refl
or_cases false b e = inr e

and_both : (a b : Bool) → (a && b) ≡ true → (a ≡ true) × (b ≡ true)
and_both true b e = (refl, e)
and_both false b e = absurd (false≢true e)

any_intro : (n : ℕ) (f : ℕ → Bool) (i : ℕ) → i < n → f i ≡ true → anyb n f ≡ true
any_intro zero f i h e = absurd (let z : ⊥ = omega arith in z)
any_intro (suc n) f i h e = go (λ p. any_intro n f i p e) (dec_lt i n)
  where
    go : (i < n → anyb n f ≡ true) → Dec (i < n) → (f n || anyb n f) ≡ true
    go ih (yes p) = or_right (f n) (anyb n f) (ih p)
    go ih (no q) = or_left (f n) (anyb n f) (ap f (let s : n ≡ i = omega arith in s) ∙ e)

any_elim : (n : ℕ) (f : ℕ → Bool) → anyb n f ≡ true → (i : ℕ) × (i < n) × (f i ≡ true)
any_elim zero f e = absurd (false≢true e)
any_elim (suc n) f e = go (λ b. any_elim n f b) (or_cases (f n) (anyb n f) e)
  where
    go : (anyb n f ≡ true → (i : ℕ) × (i < n) × (f i ≡ true)) → (f n ≡ true) ⊎ (anyb n f ≡ true) → (i : ℕ) × (i < suc n) × (f i ≡ true)
    go ih (inl a) = (n, omega arith, a)
    go ih (inr b) = let r = ih b in (r.0, omega arith, r.2)

ext_below : (t : Tab) (α : ℕ → Bool) (w : ℕ → ℕ) (v : ℕ) → v < t.from → extended t α w v ≡ α v
unfolding extended
ext_below t α w v h = rw (lt-ltb v t.from h)

ext_above : (t : Tab) (α : ℕ → Bool) (w : ℕ → ℕ) (v : ℕ) → t.from ≤ v
    → extended t α w v ≡ anyb t.size (λ n. anyb (t.node n).count (λ j. eqb (t.held n j) v && leb (t.key n j) (w n)))
unfolding extended
ext_above t α w v h = rw (le-ltb v t.from h)

agree : (t : Tab) (α : ℕ → Bool) (w : ℕ → ℕ) (z : ℤ) → var z < t.from → litv (extended t α w) z ≡ litv α z
agree t α w (pos v) h = ext_below t α w v h
agree t α w (negsuc v) h = ap not (ext_below t α w (suc v) h)

and_intro : (a b : Bool) → a ≡ true → b ≡ true → (a && b) ≡ true
and_intro true b e f = f
and_intro false b e f = absurd (false≢true e)

moved : (P : ℕ → ℕ → Type 0) (n k j i : ℕ) → n ≡ k → j ≡ i → P k i → P n j
moved P n k j i e f p = rw (e, f) p

module _ (t : Tab) (shape : Shape t) (cells : Cells t) (α : ℕ → Bool) (w : ℕ → ℕ) (vals : Values t (litv α) w) where
  abbrev β : ℕ → Bool
  β = extended t α w

  cell_true : (n j : ℕ) → n < t.size → j < (t.node n).count → 0 < t.held n j → t.key n j ≤ w n → β (t.held n j) ≡ true
  cell_true n j s hj p h =
      ext_above t α w (t.held n j) (cells.range n j s hj p).0
      ∙ any_intro t.size _ n s (any_intro (t.node n).count _ j hj
      (and_intro (eqb (t.held n j) (t.held n j)) (leb (t.key n j) (w n)) (eq-eqb (t.held n j) (t.held n j) refl) (le-leb (t.key n j) (w n) h)))

  cell_only : (n j : ℕ) → n < t.size → j < (t.node n).count → 0 < t.held n j → β (t.held n j) ≡ true → t.key n j ≤ w n
  cell_only n j s hj p e =
      let v = t.held n j in
      let (k, sk, ek) = any_elim t.size _ (sym (ext_above t α w v (cells.range n j s hj p).0) ∙ e) in
      let (i, hi, ei) = any_elim (t.node k).count _ ek in
      let (ev, el) = and_both (eqb (t.held k i) v) (leb (t.key k i) (w k)) ei in
      let (en, ej) = cells.distinct n j k i s hj sk hi p (sym (eqb-true (t.held k i) v ev)) in
      moved (λ a b. t.key a b ≤ w a) n k j i en ej (leb-true (t.key k i) (w k) el)

  -- the values are the same under the extended assignment
  same_value : (n : ℕ) (k : Kind) → NodeOk t n k → ValueOf (litv α) w (t.node n) n k → ValueOf (litv β) w (t.node n) n k
  same_value n leaf o v = v ∙ ap bit (sym (agree t α w (t.node n).input o.below))
  same_value n dummy o v = v
  same_value n unit o v = v
  same_value n general o v = v

  pub ext_values : Values t (litv β) w
  ext_values n s = same_value n (t.node n).kind (shape n s) (vals n s)

  -- each output that has a literal is true exactly when its value reaches its key
  true_step : (n j : ℕ) → n < t.size → j < (t.node n).count → (k : Kind) → NodeOk t n k → ValueOf (litv β) w (t.node n) n k → held_of k (t.held n j)
      → t.key n j ≤ w n → litv β (lit_of k (t.node n).input (t.held n j)) ≡ true
  true_step n j s hj leaf o v p h = at j h hj
    where
      up : (b : Bool) → w n ≡ bit b → 1 ≤ w n → b ≡ true
      up true e q = refl
      up false e q = absurd (let z : ⊥ = omega arith in z)

      at : (i : ℕ) → t.key n i ≤ w n → i < (t.node n).count → litv β (t.node n).input ≡ true
      at zero q hi = let f = o.key_is in up (litv β (t.node n).input) v (omega arith)
      at (suc i) q hi = absurd (let f = o.count_is in let z : ⊥ = omega arith in z)
  true_step n j s hj dummy o v p h = cell_true n j s hj p h
  true_step n j s hj unit o v p h = cell_true n j s hj p h
  true_step n j s hj general o v p h = cell_true n j s hj p h

  only_step : (n j : ℕ) → n < t.size → j < (t.node n).count → (k : Kind) → NodeOk t n k → ValueOf (litv β) w (t.node n) n k → held_of k (t.held n j)
      → litv β (lit_of k (t.node n).input (t.held n j)) ≡ true → t.key n j ≤ w n
  only_step n j s hj leaf o v p h = at j hj
    where
      at : (i : ℕ) → i < (t.node n).count → t.key n i ≤ w n
      at zero hi = let f = o.key_is in let g : bit (litv β (t.node n).input) ≡ 1 = ap bit h in omega arith
      at (suc i) hi = absurd (let f = o.count_is in let z : ⊥ = omega arith in z)
  only_step n j s hj dummy o v p h = cell_only n j s hj p h
  only_step n j s hj unit o v p h = cell_only n j s hj p h
  only_step n j s hj general o v p h = cell_only n j s hj p h

  pub exact : (n j : ℕ) → n < t.size → j < (t.node n).count → Held t n j → (litv β (lit t n j) ≡ true) ↔ (t.key n j ≤ w n)
  exact n j s hj p = (
    only_step n j s hj (t.node n).kind (shape n s) (ext_values n s) p,
    true_step n j s hj (t.node n).kind (shape n s) (ext_values n s) p,
  )

-- any assignment under which each output that has a literal is true exactly when its value reaches its key satisfies every own clause (02, item 6)
module _ (t : Tab) (shape : Shape t) (β : ℕ → Bool) (w : ℕ → ℕ) (vals : Values t (litv β) w) (exact : Exactly t β w) where
  cell_exact : (n j : ℕ) → Cell t n j → (β (t.held n j) ≡ true) ↔ (t.key n j ≤ w n)
  cell_exact n j c = go (t.node n).kind c.inner (exact n j c.hn c.hj)
    where
      go : (k : Kind) → Inner k → (held_of k (t.held n j) → (litv β (lit_of k (t.node n).input (t.held n j)) ≡ true) ↔ (t.key n j ≤ w n))
          → (β (t.held n j) ≡ true) ↔ (t.key n j ≤ w n)
      go leaf i f = absurd i
      go dummy i f = absurd i
      go unit i f = f c.held
      go general i f = f c.held

  held_nz : (n j : ℕ) → (k : Kind) → NodeOk t n k → held_of k (t.held n j) → Nz (lit_of k (t.node n).input (t.held n j))
  held_nz n j leaf o p = o.nonzero
  held_nz n j dummy o p = nz_pos (t.held n j) p
  held_nz n j unit o p = nz_pos (t.held n j) p
  held_nz n j general o p = nz_pos (t.held n j) p

  -- an output that is not reached: its negated literal is true
  unreached : (c x : ℕ) (d : List ℤ) → c < t.size → x ≤ (t.node c).count → AtPrev (Held t c) x → ¬ (key_at t c x ≤ w c) → Sat β (prev x (lit t c) d)
  unreached c zero d s hx p h = absurd (h (omega arith))
  unreached c (suc q) d s hx p h = inl (lit_neg β (lit t c q) (held_nz c q (t.node c).kind (shape c s) p) ∙ neg_false _ (go (bool_cases (litv β (lit t c q)))))
    where
      go : (litv β (lit t c q) ≡ true) ⊎ (litv β (lit t c q) ≡ false) → litv β (lit t c q) ≡ false
      go (inl e) = absurd (h ((exact c q s hx p).0 e))
      go (inr e) = e

  inner_value : (n : ℕ) (k : Kind) → Inner k → NodeOk t n k → ValueOf (litv β) w (t.node n) n k
      → ((t.node n).left < n) × ((t.node n).right < n) × (w n ≡ (t.node n).lmul * w (t.node n).left + (t.node n).rmul * w (t.node n).right)
  inner_value n leaf i o v = absurd i
  inner_value n dummy i o v = absurd i
  inner_value n unit i o v = (o.hl, o.hr, rw (o.lmul_is, o.rmul_is) (omega arith))
  inner_value n general i o v = (o.hl, o.hr, v)

  sat_if : (n j x y : ℕ) → Cell t n j → IfPair t n j x y → AtPrev (Held t (t.node n).left) x → AtPrev (Held t (t.node n).right) y
      → Dec (key_at t (t.node n).left x ≤ w (t.node n).left) → Dec (key_at t (t.node n).right y ≤ w (t.node n).right) → Sat β (if_of t n j x y)
  sat_if n j x y c pr lh rh (no p) q =
      let v = inner_value n (t.node n).kind c.inner (shape n c.hn) (vals n c.hn) in
      unreached (t.node n).left x _ (omega (arith, v.0, c.hn)) pr.hx lh p
  sat_if n j x y c pr lh rh (yes p) (no q) =
      let v = inner_value n (t.node n).kind c.inner (shape n c.hn) (vals n c.hn) in
      sat_prev β (lit t (t.node n).left) _ x (unreached (t.node n).right y _ (omega (arith, v.1, c.hn)) pr.hy rh q)
  sat_if n j x y c pr lh rh (yes p) (yes q) =
      let v = inner_value n (t.node n).kind c.inner (shape n c.hn) (vals n c.hn) in
      let a = mul-le-mul_left (t.node n).lmul p in
      let b = mul-le-mul_left (t.node n).rmul q in
      let e = pr.sum in
      let f = v.2 in
      sat_prev β (lit t (t.node n).left) _ x (sat_prev β (lit t (t.node n).right) _ y (inl ((cell_exact n j c).1 (omega arith))))

  sat_only : (n j x y : ℕ) → Cell t n j → UnitOk t n → w n ≡ w (t.node n).left + w (t.node n).right → OnlyPair t n j x y
      → (x < (t.node (t.node n).left).count → Held t (t.node n).left x) → (y < (t.node (t.node n).right).count → Held t (t.node n).right y)
      → Dec (j < w n) → Dec (x < w (t.node n).left) → Sat β (only_of t n j x y)
  sat_only n j x y c o v pr lh rh (no d) e =
      let k = o.key_is j c.hj in
      sat_keep β _ _ (ltb x (t.node (t.node n).left).count) (sat_keep β _ _ (ltb y (t.node (t.node n).right).count)
      (inl (lit_neg β (pos (t.held n j)) (nz_pos (t.held n j) c.held) ∙ neg_false _ (go (bool_cases (β (t.held n j)))))))
    where
      go : (β (t.held n j) ≡ true) ⊎ (β (t.held n j) ≡ false) → β (t.held n j) ≡ false
      go (inl e) = absurd (d (let a = (cell_exact n j c).0 e in let b = o.key_is j c.hj in omega arith))
      go (inr e) = e
  sat_only n j x y c o v pr lh rh (yes d) (yes e) =
      let l = (t.node n).left in
      let sl : l < t.size = omega (arith, o.hl, c.hn) in
      let b = bound t shape (litv β) w vals l sl o.left_kind in
      let hx : x < (t.node l).count = omega arith in
      let k = key_small t l (t.node l).kind (shape l sl) o.left_kind (suc x) hx in
      sat_keep_at β _ _ (ltb x (t.node l).count) (lt-ltb x (t.node l).count hx) ((exact l x sl hx (lh hx)).1 (omega arith))
  sat_only n j x y c o v pr lh rh (yes d) (no e) =
      let r = (t.node n).right in
      let sr : r < t.size = omega (arith, o.hr, c.hn) in
      let b = bound t shape (litv β) w vals r sr o.right_kind in
      let q = pr.sum in
      let hy : y < (t.node r).count = omega arith in
      let k = key_small t r (t.node r).kind (shape r sr) o.right_kind (suc y) hy in
      sat_keep β _ _ (ltb x (t.node (t.node n).left).count)
      (sat_keep_at β _ _ (ltb y (t.node r).count) (lt-ltb y (t.node r).count hy) ((exact r y sr hy (rh hy)).1 (omega arith)))

  pub sat_own : (c : List ℤ) → Own t c → Sat β c
  sat_own c (own_if n j x y cell f) =
      same_sat β (if_of t n j x y) c (same_sym c (if_of t n j x y) f.is) (sat_if n j x y cell f.pair f.lheld f.rheld (dec_le _ _) (dec_le _ _))
  sat_own c (own_only n j x y cell f) =
      same_sat β (only_of t n j x y) c (same_sym c (only_of t n j x y) f.is) (sat_only n j x y cell (subst (NodeOk t n) f.kind (shape n cell.hn)) (subst (ValueOf (litv β) w (t.node n) n) f.kind (vals n cell.hn))
      f.pair f.lheld f.rheld (dec_lt _ _) (dec_lt _ _))

-- THEOREM 2
pub extension : (t : Tab) (m : Marks) (h : History) → Inv t m h → (α : ℕ → Bool) (w : ℕ → ℕ) → Values t (litv α) w → Extension t h α w
extension t m h inv α w vals =
    record {
      assignment = extended t α w;
      inputs = ext_below t α w;
      values = ext_values t inv.shape inv.cells α w vals;
      all = λ c mem. sat_own t inv.shape (extended t α w) w (ext_values t inv.shape inv.cells α w vals) (exact t inv.shape inv.cells α w vals) c (inv.own c mem);
      exactly = exact t inv.shape inv.cells α w vals;
    }
