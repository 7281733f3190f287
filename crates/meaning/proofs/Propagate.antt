-- 02, item 14, first statement: unit propagation alone gives the outputs that the decided inputs force.
use Rattle.std.specs.Prelude.{◌≡◌, refl, Bool, true, false, not, ◌⊎◌, ℕ, zero, suc, ◌<◌, ◌≤◌, ℤ, pos, neg_ℤ, ltb}
use mathlib.Core.List.Memᴰ
use mathlib.Core.List.{List, [], ◌∷◌, Memᴰ}
use Rattle.std.proofs.Common.{inl, inr, arith, ltb-true}
use Rattle.std.proofs.Math.IntN.{neg_ℤ-neg_ℤ}
use Rattle.facts.proofs.Ranges.{split_some}
use Rattle.meaning.specs.Base.{AtPrev, prev, keep, In}
use Rattle.meaning.specs.Table.{Kind, leaf, dummy, unit, general, If, OnlyIf, Tab, Marks, lit_of, lit, done_of, Done, NotGeneral, OnlyPair, if_of, only_of, NodeOk, bit, ValueOf, Values, History, Inv}
use Rattle.meaning.specs.Sound.{ReachOf}
use Rattle.meaning.proofs.Sound.{strong, bound, key_small, choose_unit}
use Rattle.meaning.specs.Propagate.{Derives, given, step}

module _ (D : ℤ → Type 0) (z : ℤ) where
  -- all literals of c but z are refuted
  abbrev Rest : List ℤ → Type 0
  Rest c = (y : ℤ) → Memᴰ y c → (y ≡ z → ⊥) → D (neg_ℤ y)

  rest_one : Rest (z ∷ [])
  rest_one y m n = go (Memᴰ.cases_cons m)
    where
      go : (y ≡ z) ⊎ Memᴰ y [] → D (neg_ℤ y)
      go (inl e) = absurd (n e)
      go (inr q) = absurd (Memᴰ.not-nil q)

  rest_cons : (x : ℤ) (c : List ℤ) → D (neg_ℤ x) → Rest c → Rest (x ∷ c)
  rest_cons x c d r y m n = go (Memᴰ.cases_cons m)
    where
      go : (y ≡ x) ⊎ Memᴰ y c → D (neg_ℤ y)
      go (inl e) = rw e d
      go (inr q) = r y q n

  rest_prev : (x : ℕ) (L : ℕ → ℤ) (c : List ℤ) → AtPrev (λ p. D (L p)) x → Rest c → Rest (prev x L c)
  rest_prev zero L c d r = r
  rest_prev (suc p) L c d r = rest_cons (neg_ℤ (L p)) c (rw (neg_ℤ-neg_ℤ (L p)) d) r

  rest_keep : (b : Bool) (x : ℤ) (c : List ℤ) → (b ≡ true → D (neg_ℤ x)) → Rest c → Rest (keep b x c)
  rest_keep true x c d r = rest_cons x c (d refl) r
  rest_keep false x c d r = r

in_prev : (z : ℤ) (x : ℕ) (L : ℕ → ℤ) (c : List ℤ) → Memᴰ z c → Memᴰ z (prev x L c)
in_prev z zero L c m = m
in_prev z (suc p) L c m = Memᴰ.tail m

in_keep : (z : ℤ) (b : Bool) (x : ℤ) (c : List ℤ) → Memᴰ z c → Memᴰ z (keep b x c)
in_keep z true x c m = Memᴰ.tail m
in_keep z false x c m = m

-- a clause of the history, up to order, whose other literals are refuted, gives the last
fire : (h : History) (K : ℤ → Bool) (c : List ℤ) (z : ℤ) → In c h → Memᴰ z c → Rest (Derives h K) z c → Derives h K z
fire h K c z i m r = step i.which z i.mem (i.same.back z m) (λ y q n. r y (i.same.to y q) n)

at_one : (P : ℕ → Type 0) (c : ℕ) → c ≡ 1 → (j : ℕ) → j < c → P 0 → P j
at_one P c e zero h p = p
at_one P c e (suc j) h p = absurd (let z : ⊥ = omega arith in z)

module _ (t : Tab) (m : Marks) (h : History) (inv : Inv t m h) (K : ℤ → Bool) where
  -- leaves that are not decided count 0
  module _ (w : ℕ → ℕ) (vals : Values t K w) where
    abbrev Up : ℕ → Type 0
    Up n = n < t.size → NotGeneral (t.node n).kind → (j : ℕ) → j < (t.node n).count → Done t m If n j → t.key n j ≤ w n → Derives h K (lit t n j)

    up_child : (c : ℕ) → Up c → c < t.size → NotGeneral (t.node c).kind → (x : ℕ) → x ≤ (t.node c).count → AtPrev (Done t m If c) x
        → AtPrev (λ p. ReachOf (t.node c).kind (w c) (t.key c p)) x → AtPrev (λ p. Derives h K (lit t c p)) x
    up_child c u s g zero hx d r = tt
    up_child c u s g (suc p) hx d r = u s g p hx d (le_of (t.node c).kind g r)
      where
        le_of : (k : Kind) → NotGeneral k → ReachOf k (w c) (t.key c p) → t.key c p ≤ w c
        le_of leaf g q = q
        le_of dummy g q = q
        le_of unit g q = q
        le_of general g q = absurd g

    up_step : (n : ℕ) → n < t.size → ((c : ℕ) → c < n → Up c) → (j : ℕ) → j < (t.node n).count → (k : Kind) → NodeOk t n k → ValueOf K w (t.node n) n k → NotGeneral k
        → done_of k (m If n j) → t.key n j ≤ w n → Derives h K (lit_of k (t.node n).input (t.held n j))
    up_step n s ih j hj leaf o v g d r = go (K (t.node n).input) refl v
      where
        key_one : t.key n j ≡ 1
        key_one = at_one (λ i. t.key n i ≡ 1) (t.node n).count o.count_is j hj o.key_is

        go : (b : Bool) → K (t.node n).input ≡ b → w n ≡ bit b → Derives h K (t.node n).input
        go true e q = given (t.node n).input e
        go false e q = absurd (let a = key_one in let z : ⊥ = omega arith in z)
    up_step n s ih j hj dummy o v g d r = absurd (let z : ⊥ = omega arith in z)
    up_step n s ih j hj unit o v g d r =
        let (x, y, pr, rx, ry) = choose_unit t inv.shape K w vals n j s o v hj r in
        let c = (inv.marked If n j s hj d).closed x y pr in
        let l = (t.node n).left in
        let q = (t.node n).right in
        let z : ℤ = pos (t.held n j) in
        let sl : l < t.size = omega (arith, o.hl) in
        let sr : q < t.size = omega (arith, o.hr) in
        fire h K (if_of t n j x y) z c.there (in_prev z x (lit t l) _ (in_prev z y (lit t q) _ (Memᴰ.head refl)))
        (rest_prev (Derives h K) z x (lit t l) _ (up_child l (ih l o.hl) sl o.left_kind x pr.hx c.ldone rx)
        (rest_prev (Derives h K) z y (lit t q) _ (up_child q (ih q o.hr) sr o.right_kind y pr.hy c.rdone ry) (rest_one (Derives h K) z)))
    up_step n s ih j hj general o v g d r = absurd g

    -- if a unit's value is above the index of an output marked If, propagation makes it true
    pub propagates_if : (n : ℕ) → Up n
    propagates_if = strong Up (λ n ih s g j hj d r. up_step n s ih j hj (t.node n).kind (inv.shape n s) (vals n s) g d r)

  -- leaves that are not decided count 1
  module _ (w : ℕ → ℕ) (vals : Values t (λ z. not (K (neg_ℤ z))) w) where
    abbrev Down : ℕ → Type 0
    Down n = n < t.size → NotGeneral (t.node n).kind → (j : ℕ) → j < (t.node n).count → Done t m OnlyIf n j → w n < t.key n j → Derives h K (neg_ℤ (lit t n j))

    down_step : (n : ℕ) → n < t.size → ((c : ℕ) → c < n → Down c) → (j : ℕ) → j < (t.node n).count → (k : Kind) → NodeOk t n k
        → ValueOf (λ z. not (K (neg_ℤ z))) w (t.node n) n k → NotGeneral k → done_of k (m OnlyIf n j) → w n < t.key n j
        → Derives h K (neg_ℤ (lit_of k (t.node n).input (t.held n j)))
    down_step n s ih j hj leaf o v g d r = go (K (neg_ℤ (t.node n).input)) refl v
      where
        key_one : t.key n j ≡ 1
        key_one = at_one (λ i. t.key n i ≡ 1) (t.node n).count o.count_is j hj o.key_is

        go : (b : Bool) → K (neg_ℤ (t.node n).input) ≡ b → w n ≡ bit (not b) → Derives h K (neg_ℤ (t.node n).input)
        go true e q = given (neg_ℤ (t.node n).input) e
        go false e q = absurd (let a = key_one in let z : ⊥ = omega arith in z)
    down_step n s ih j hj dummy o v g d r = absurd (let z : ⊥ = omega arith in z)
    down_step n s ih j hj unit o v g d r =
        let l = (t.node n).left in
        let q = (t.node n).right in
        let cl = (t.node l).count in
        let cr = (t.node q).count in
        let sl : l < t.size = omega (arith, o.hl) in
        let sr : q < t.size = omega (arith, o.hr) in
        let bl = bound t inv.shape (λ z. not (K (neg_ℤ z))) w vals l sl o.left_kind in
        let br = bound t inv.shape (λ z. not (K (neg_ℤ z))) w vals q sr o.right_kind in
        let ek = o.key_is j hj in
        let ec = o.count_is in
        let (x, y, sp, lx, ly) = split_some cl cr (w l) (w q) j bl br (omega arith) (omega arith) in
        let pr : OnlyPair t n j x y = record { hx = sp.left; hy = sp.right; sum = sp.sum } in
        let c = (inv.marked OnlyIf n j s hj d).closed.1 x y pr in
        let z : ℤ = neg_ℤ (pos (t.held n j)) in
        fire h K (only_of t n j x y) z c.there (in_keep z (ltb x cl) (lit t l x) _ (in_keep z (ltb y cr) (lit t q y) _ (Memᴰ.head refl)))
        (rest_keep (Derives h K) z (ltb x cl) (lit t l x) _ (λ e. let hx = ltb-true x cl e in ih l o.hl sl o.left_kind x hx (c.ldone hx) (above l sl o.left_kind x hx lx))
        (rest_keep (Derives h K) z (ltb y cr) (lit t q y) _ (λ e. let hy = ltb-true y cr e in ih q o.hr sr o.right_kind y hy (c.rdone hy) (above q sr o.right_kind y hy ly))
        (rest_one (Derives h K) z)))
      where
        above : (c : ℕ) → c < t.size → NotGeneral (t.node c).kind → (x : ℕ) → x < (t.node c).count → w c ≤ x → w c < t.key c x
        above c sc gc x hx lx = let e = key_small t c (t.node c).kind (inv.shape c sc) gc (suc x) hx in omega arith
    down_step n s ih j hj general o v g d r = absurd g

    -- if a unit's value does not exceed the index of an output marked OnlyIf, propagation makes it false
    pub propagates_onlyif : (n : ℕ) → Down n
    propagates_onlyif = strong Down (λ n ih s g j hj d r. down_step n s ih j hj (t.node n).kind (inv.shape n s) (vals n s) g d r)
