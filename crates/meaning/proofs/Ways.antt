-- The ways in which a weighted demand makes up a value are just the pairs of the output's own clauses.
use Rattle.std.specs.Prelude.{◌≡◌, Bool, List, ◌⊎◌, ℤ, get_or, eqb}
use Rattle.std.proofs.Math.Path.{refl}
use Rattle.std.proofs.Common.{sym, ◌∙◌, ap, inr, None, Option, Some}
use Rattle.std.proofs.Math.Bool.{true, false, cond}
use Rattle.std.proofs.Math.Logic.{inl}
use Prim.Native.Nat.{ℕ, zero, suc, ◌+◌, ◌*◌, ◌-◌, ◌/◌, ◌%◌, ◌<◌, ◌≤◌}
use Rattle.std.proofs.Math.Decide.{ℕ_discrete}
use Rattle.std.proofs.Math.Nat.{mod-add-div, mul-mod_right, mul-div_cancel_left, mul-pos}
use native.Mathlib.Omega.{arith}
use Rattle.std.proofs.Math.Dec.{ltb}
use borrow.Author.Tests.{eqb-true, eqb-false, ltb-true, ltb-false, eq-eqb, ne_eqb, lt-ltb, le-ltb}
use Rattle.paper.specs.Rows.{node_at, value_count, con_val}
use Rattle.paper.specs.Weighted.{key_from, output_of, place_of, share_of, no_way, joined, way_two, way_of, turns_of}
use Rattle.paper.specs.declared.Way.{Way}
use Rattle.meaning.specs.Table.{Kind, leaf, dummy, unit, general, Tab, NotGeneral, IfPair, Shape}
use Rattle.meaning.proofs.Sound.{key_small}
use Rattle.meaning.specs.Rows.{Net, State, tab_of}
use Rattle.meaning.specs.View.{kind_of, net_of, key_of, Sharp, Fit}
use Rattle.meaning.proofs.View.{test_is, count_is, value_is}
use Rattle.meaning.specs.Ways.{Finds, Share}

-- among the n keys from the k-th on
abbrev FindsFrom : (ℕ → ℕ) → ℕ → ℕ → ℕ → Option ℕ → Type 0
FindsFrom key k n v (Some q) = (q < k + n) × (key q ≡ v)
FindsFrom key k n v None = (q : ℕ) → k ≤ q → q < k + n → key q ≡ v → ⊥

key_from_finds : (keys : List ℕ) (first v n k : ℕ) → FindsFrom (λ q. get_or keys (first + q) 0) k n v (key_from keys first v n k)
unfolding key_from
key_from_finds keys first v zero k = λ q a b e. let z : ⊥ = omega arith in z
key_from_finds keys first v (suc n) k = go (eqb (get_or keys (first + k) 0) v) refl (key_from keys first v n (k + 1)) (key_from_finds keys first v n (k + 1))
  where
    go : (b : Bool) → eqb (get_or keys (first + k) 0) v ≡ b → (r : Option ℕ) → FindsFrom (λ q. get_or keys (first + q) 0) (k + 1) n v r
        → FindsFrom (λ q. get_or keys (first + q) 0) k (suc n) v (cond b (Some k) r)
    go true e r s = (omega arith, eqb-true (get_or keys (first + k) 0) v e)
    go false e (Some q) s = let a = s.0 in (omega arith, s.1)
    go false e None s = λ q a b h. here q a b h (ℕ_discrete q k)
      where
        here : (q : ℕ) → k ≤ q → q < k + suc n → get_or keys (first + q) 0 ≡ v → Dec (q ≡ k) → ⊥
        here q a b h (yes x) = eqb-false (get_or keys (first + k) 0) v e (ap (λ (p : ℕ). get_or keys (first + p) 0) (sym x) ∙ h)
        here q a b h (no x) = s q (omega arith) (omega arith) h

module _ (ns : List ℕ) (ins : List ℤ) (keys : List ℕ) (size from len : ℕ) (fit : Fit ns ins keys size from len) (sharp : Sharp (net_of ns ins keys size from))
    (σ : State) (shape : Shape (tab_of (net_of ns ins keys size from) σ)) where
  abbrev g : Net
  g = net_of ns ins keys size from

  abbrev t : Tab
  t = tab_of g σ

  small_finds : (c : ℕ) → c < size → NotGeneral (kind_of (node_at ns c).kind) → (v : ℕ)
      → Finds (key_of g c) (value_count (node_at ns c)) v (cond (eqb v 0) None (cond (ltb (value_count (node_at ns c)) v) None (Some (v - 1))))
  small_finds c s k v = go (eqb v 0) refl (ltb (value_count (node_at ns c)) v) refl
    where
      small : (q : ℕ) → q < value_count (node_at ns c) → key_of g c q ≡ suc q
      small q h = key_small t c (kind_of (node_at ns c).kind) (shape c s) k (suc q) h

      go : (b : Bool) → eqb v 0 ≡ b → (d : Bool) → ltb (value_count (node_at ns c)) v ≡ d → Finds (key_of g c) (value_count (node_at ns c)) v (cond b None (cond d None (Some (v - 1))))
      go true e d f = λ q h x. let a = eqb-true v 0 e in let b = small q h in let z : ⊥ = omega arith in z
      go false e true f = λ q h x. let a = ltb-true (value_count (node_at ns c)) v f in let b = small q h in let z : ⊥ = omega arith in z
      go false e false f =
          let a = ltb-false (value_count (node_at ns c)) v f in
          let b : v ≡ 0 → ⊥ = eqb-false v 0 e in
          let h : v - 1 < value_count (node_at ns c) = omega arith in
          (h, small (v - 1) h ∙ (let z : suc (v - 1) ≡ v = omega arith in z))

  pub output_finds : (c : ℕ) → c < size → (v : ℕ) → Finds (key_of g c) (value_count (node_at ns c)) v (output_of keys (node_at ns c) v)
  unfolding output_of
  output_finds c s v = go (kind_of (node_at ns c).kind) refl
    where
      rest : Option ℕ
      rest = cond (eqb v 0) None (cond (ltb (value_count (node_at ns c)) v) None (Some (v - 1)))

      word : kind_of (node_at ns c).kind ≡ general → (q : ℕ) → key_of g c q ≡ get_or keys ((node_at ns c).first + q) 0
      word e q = rw e

      found : kind_of (node_at ns c).kind ≡ general → (f : Option ℕ) → FindsFrom (λ q. get_or keys ((node_at ns c).first + q) 0) 0 (node_at ns c).count v f
          → Finds (key_of g c) (value_count (node_at ns c)) v f
      found e (Some q) h = let a = count_is ns c (fit.kinds c s) general e in let b = h.0 in (omega arith, word e q ∙ h.1)
      found e None h = λ q hq x. let a = count_is ns c (fit.kinds c s) general e in h q (omega arith) (omega arith) (sym (word e q) ∙ x)

      go : (q : Kind) → kind_of (node_at ns c).kind ≡ q
          → Finds (key_of g c) (value_count (node_at ns c)) v (cond (eqb (node_at ns c).kind 2) (key_from keys (node_at ns c).first v (node_at ns c).count 0) rest)
      go leaf e = rw (test_is ns c (fit.kinds c s) leaf 2 e) (small_finds c s (rw e tt) v)
      go dummy e = rw (test_is ns c (fit.kinds c s) dummy 2 e) (small_finds c s (rw e tt) v)
      go unit e = rw (test_is ns c (fit.kinds c s) unit 2 e) (small_finds c s (rw e tt) v)
      go general e = rw (test_is ns c (fit.kinds c s) general 2 e) (found e (key_from keys (node_at ns c).first v (node_at ns c).count 0) (key_from_finds keys (node_at ns c).first v (node_at ns c).count 0))

  share_is : (c : ℕ) → c < size → (m v : ℕ) → 0 < m → Share (key_of g c) (value_count (node_at ns c)) m v (share_of keys (node_at ns c) m v)
  unfolding share_of
  share_is c s m v hm = go (eqb (v % m) 0) refl (output_of keys (node_at ns c) (v / m)) (output_finds c s (v / m))
    where
      -- a multiple of m has its quotient
      part : (q : ℕ) → m * key_of g c q ≡ v → (v % m ≡ 0) × (v / m ≡ key_of g c q)
      part q e = (rw (← e) (mul-mod_right m (key_of g c q)), rw (← e) (mul-div_cancel_left (key_of g c q) hm))

      go : (b : Bool) → eqb (v % m) 0 ≡ b → (f : Option ℕ) → Finds (key_of g c) (value_count (node_at ns c)) (v / m) f
          → Share (key_of g c) (value_count (node_at ns c)) m v (cond b (place_of f) 0)
      go true e (Some q) h =
          let a = eqb-true (v % m) 0 e in
          let d = mod-add-div v m in
          let x : q + 1 ≡ suc q = omega arith in
          let hq = h.0 in
          rw x (record {
            low = hq;
            is = ap (λ (u : ℕ). m * u) h.1 ∙ (let z : m * (v / m) ≡ v = omega arith in z);
            all = λ p hp ep. ap suc (sharp.apart c q p s hq hp (h.1 ∙ (part p ep).1));
          })
      go true e None h = record { low = omega arith; is = tt; all = λ p hp ep. absurd (h p hp (sym (part p ep).1)) }
      go false e f h = record { low = omega arith; is = tt; all = λ p hp ep. absurd (eqb-false (v % m) 0 e (part p ep).0) }

  -- ---- the ways of output j of the general node n

  module _ (n j : ℕ) (s : n < size) (k : kind_of (node_at ns n).kind ≡ general) (hj : j < value_count (node_at ns n)) (hl : (node_at ns n).left < n) (hr : (node_at ns n).right < n) where
    abbrev l : ℕ
    l = (node_at ns n).left

    abbrev r : ℕ
    r = (node_at ns n).right

    abbrev lm : ℕ
    lm = (node_at ns n).lmul

    abbrev rm : ℕ
    rm = (node_at ns n).rmul

    abbrev a : ℕ
    a = value_count (node_at ns l)

    abbrev v : ℕ
    v = key_of g n j

    left_share : (u : ℕ) → Share (key_of g l) a lm u (share_of keys (node_at ns l) lm u)
    left_share u = share_is l (omega arith) lm u (sharp.lpos n s k)

    right_share : (u : ℕ) → Share (key_of g r) (value_count (node_at ns r)) rm u (share_of keys (node_at ns r) rm u)
    right_share u = share_is r (omega arith) rm u (sharp.rpos n s k)

    -- a way is none, or a pair
    abbrev pub Fair : Way → Type 0
    Fair w = (w.x + w.y ≡ 0) ⊎ IfPair t n j w.x w.y

    one_left : (y : ℕ) → Share (key_of g l) a lm v y → Fair (record { x = y; y = 0 })
    one_left zero h = inl refl
    one_left (suc q) h = inr (record { hx = h.low; hy = omega arith; sum = let e = h.is in omega arith })

    one_right : (y : ℕ) → Share (key_of g r) (value_count (node_at ns r)) rm v y → Fair (record { x = 0; y = y })
    one_right zero h = inl refl
    one_right (suc q) h = inr (record { hx = omega arith; hy = h.low; sum = let e = h.is in omega arith })

    both_ways : (p : ℕ) → p < a → lm * key_of g l p < v → (y : ℕ) → Share (key_of g r) (value_count (node_at ns r)) rm (v - lm * key_of g l p) y → Fair (joined (p + 1) y)
    both_ways p hp h zero sh = inl refl
    both_ways p hp h (suc q) sh =
        let e : p + 1 ≡ suc p = omega arith in
        rw (ne_eqb (suc q) 0 (λ z. let y : ⊥ = omega arith in y), e)
        (inr (record { hx = hp; hy = sh.low; sum = let f = sh.is in omega arith }))

    left_val : (p : ℕ) → p < a → con_val keys (node_at ns l) lm p ≡ lm * key_of g l p
    left_val p hp = ap (λ (u : ℕ). lm * u) (value_is ns ins keys size from len fit l (omega arith) p hp)

    pub way_fair : (p : ℕ) → Fair (way_of ns keys n v p)
    unfolding way_two
    way_fair p = go (ltb p a) refl (eqb p a) refl
      where
        pairs : p < a → (b : Bool) → ltb (lm * key_of g l p) v ≡ b → Fair (cond b (joined (p + 1) (share_of keys (node_at ns r) rm (v - lm * key_of g l p))) no_way)
        pairs hp true e = both_ways p hp (ltb-true (lm * key_of g l p) v e) (share_of keys (node_at ns r) rm (v - lm * key_of g l p)) (right_share (v - lm * key_of g l p))
        pairs hp false e = inl refl

        go : (b : Bool) → ltb p a ≡ b → (d : Bool) → eqb p a ≡ d
            → Fair (cond b (cond (ltb (con_val keys (node_at ns l) lm p) v) (joined (p + 1) (share_of keys (node_at ns r) rm (v - con_val keys (node_at ns l) lm p))) no_way)
            (cond d (record { x = share_of keys (node_at ns l) lm v; y = 0 }) (record { x = 0; y = share_of keys (node_at ns r) rm v })))
        go true e d f = let hp = ltb-true p a e in rw (left_val p hp) (pairs hp (ltb (lm * key_of g l p) v) refl)
        go false e true f = one_left (share_of keys (node_at ns l) lm v) (left_share v)
        go false e false f = one_right (share_of keys (node_at ns r) rm v) (right_share v)

    -- every pair is a way
    pub way_all : (x y : ℕ) → IfPair t n j x y → (p : ℕ) × (p < turns_of ns n) × (way_of ns keys n v p ≡ record { x = x; y = y })
    unfolding way_two
    way_all zero zero pr = absurd (let e = pr.sum in let h = sharp.kpos n j s hj in let z : ⊥ = omega arith in z)
    way_all (suc p) (suc q) pr =
        let hp : p < a = pr.hx in
        let kq = sharp.kpos r q (omega arith) pr.hy in
        let mq = mul-pos (sharp.rpos n s k) kq in
        let e = pr.sum in
        let low : lm * key_of g l p < v = omega arith in
        let rest : rm * key_of g r q ≡ v - lm * key_of g l p = omega arith in
        let sh = (right_share (v - lm * key_of g l p)).all q pr.hy rest in
        let pe : p + 1 ≡ suc p = omega arith in (
          p,
          omega arith,
          rw (lt-ltb p a hp, left_val p hp, lt-ltb (lm * key_of g l p) v low, sh, ne_eqb (suc q) 0 (λ z. let y : ⊥ = omega arith in y), pe),
        )
    way_all (suc p) zero pr =
        let e = pr.sum in
        let f : lm * key_of g l p ≡ v = omega arith in
        let sh = (left_share v).all p pr.hx f in (
          a,
          omega arith,
          rw (le-ltb a a (omega arith), eq-eqb a a refl, sh),
        )
    way_all zero (suc q) pr =
        let e = pr.sum in
        let f : rm * key_of g r q ≡ v = omega arith in
        let sh = (right_share v).all q pr.hy f in (
          a + 1,
          omega arith,
          rw (le-ltb (a + 1) a (omega arith), ne_eqb (a + 1) a (λ z. let y : ⊥ = omega arith in y), sh),
        )
