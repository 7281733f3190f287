-- Theorem 3: the steps of which every call is made keep the invariant.
use Rattle.std.specs.Prelude.{◌≡◌, refl, Bool, true, ◌⊎◌, ℕ, zero, suc, ◌<◌, ◌≤◌, ℤ, pos, ltb}
use Rattle.std.proofs.Common.{◌∙◌, ap, inl, inr, arith, ltb-true}
use mathlib.Core.List.{List, Memᴰ}
use Rattle.meaning.specs.Base.{AtPrev, prev, keep}
use Rattle.meaning.proofs.Base.{at_prev_map, prev_cong, keep_cong, in_sub}
use Rattle.meaning.specs.Table.{Kind, leaf, dummy, unit, general, Dir, If, OnlyIf, Node, Tab, Marks, lit_of, lit, held_of, Held, done_of, Done, key_at, Inner, IfPair, OnlyPair, if_of, only_of, NodeOk, Shape, History, Closed, Marked, Cell, Own, own_if, own_only, Inv}
use Rattle.meaning.specs.Keep.{Below, Ext, Step}

pub ext_refl : (t : Tab) → Ext t t
ext_refl t = record { size_le = omega arith; node_is = λ n s. refl; key_is = λ n j s hj. refl; held_is = λ n j s hj p. refl; from_is = refl }

pub ext_trans : (t u v : Tab) → Ext t u → Ext u v → Ext t v
ext_trans t u v a b =
    record {
      size_le = omega (arith, a.size_le, b.size_le);
      node_is = λ n s. b.node_is n (omega (arith, a.size_le)) ∙ a.node_is n s;
      key_is = λ n j s hj. b.key_is n j (omega (arith, a.size_le)) (rw (a.node_is n s) hj) ∙ a.key_is n j s hj;
      held_is = λ n j s hj p.
          b.held_is n j (omega (arith, a.size_le)) (rw (a.node_is n s) hj) (rw (a.held_is n j s hj p) p) ∙ a.held_is n j s hj p;
      from_is = b.from_is ∙ a.from_is;
    }

pub below_of : (t : Tab) (n : ℕ) (k : Kind) → Inner k → NodeOk t n k → Below t n
below_of t n leaf i o = absurd i
below_of t n dummy i o = absurd i
below_of t n unit i o = (o.hl, o.hr)
below_of t n general i o = (o.hl, o.hr)

lit_of_ext : (k : Kind) (z : ℤ) (v u : ℕ) → held_of k v → (0 < v → u ≡ v) → lit_of k z u ≡ lit_of k z v
lit_of_ext leaf z v u p f = refl
lit_of_ext dummy z v u p f = ap pos (f p)
lit_of_ext unit z v u p f = ap pos (f p)
lit_of_ext general z v u p f = ap pos (f p)

held_of_ext : (k : Kind) (v u : ℕ) → held_of k v → (0 < v → u ≡ v) → held_of k u
held_of_ext leaf v u p f = tt
held_of_ext dummy v u p f = rw (f p) p
held_of_ext unit v u p f = rw (f p) p
held_of_ext general v u p f = rw (f p) p

done_of_ext : (k : Kind) (b c : Bool) → done_of k b → (b ≡ true → c ≡ true) → done_of k c
done_of_ext leaf b c p f = tt
done_of_ext dummy b c p f = f p
done_of_ext unit b c p f = f p
done_of_ext general b c p f = f p

module _ (t t' : Tab) (e : Ext t t') where
  lit_ext : (n j : ℕ) → n < t.size → j < (t.node n).count → Held t n j → lit t' n j ≡ lit t n j
  lit_ext n j s hj p = rw (e.node_is n s) (lit_of_ext (t.node n).kind (t.node n).input (t.held n j) (t'.held n j) p (e.held_is n j s hj))

  held_ext : (n j : ℕ) → n < t.size → j < (t.node n).count → Held t n j → Held t' n j
  held_ext n j s hj p = rw (e.node_is n s) (held_of_ext (t.node n).kind (t.held n j) (t'.held n j) p (e.held_is n j s hj))

  pub key_ext : (n x : ℕ) → n < t.size → x ≤ (t.node n).count → key_at t' n x ≡ key_at t n x
  key_ext n zero s h = refl
  key_ext n (suc p) s h = e.key_is n p s h

  if_pair_up : (n j x y : ℕ) → n < t.size → j < (t.node n).count → Below t n → IfPair t n j x y → IfPair t' n j x y
  if_pair_up n j x y s hj b pr =
      let sl : (t.node n).left < t.size = omega arith in
      let sr : (t.node n).right < t.size = omega arith in
      record {
        hx = rw (e.node_is n s, e.node_is (t.node n).left sl) pr.hx;
        hy = rw (e.node_is n s, e.node_is (t.node n).right sr) pr.hy;
        sum = rw (e.node_is n s, key_ext (t.node n).left x sl pr.hx, key_ext (t.node n).right y sr pr.hy, e.key_is n j s hj) pr.sum;
      }

  only_pair_up : (n j x y : ℕ) → n < t.size → Below t n → OnlyPair t n j x y → OnlyPair t' n j x y
  only_pair_up n j x y s b pr =
      let sl : (t.node n).left < t.size = omega arith in
      let sr : (t.node n).right < t.size = omega arith in
      record {
        hx = rw (e.node_is n s, e.node_is (t.node n).left sl) pr.hx;
        hy = rw (e.node_is n s, e.node_is (t.node n).right sr) pr.hy;
        sum = pr.sum;
      }

  if_pair_down : (n j x y : ℕ) → n < t.size → j < (t.node n).count → Below t n → IfPair t' n j x y → IfPair t n j x y
  if_pair_down n j x y s hj b pr =
      let sl : (t.node n).left < t.size = omega arith in
      let sr : (t.node n).right < t.size = omega arith in
      let hx : x ≤ (t.node (t.node n).left).count = rw (e.node_is n s, e.node_is (t.node n).left sl) at pr.hx in
      let hy : y ≤ (t.node (t.node n).right).count = rw (e.node_is n s, e.node_is (t.node n).right sr) at pr.hy in
      record {
        hx = hx;
        hy = hy;
        sum = rw (e.node_is n s, key_ext (t.node n).left x sl hx, key_ext (t.node n).right y sr hy, e.key_is n j s hj) at pr.sum;
      }

  only_pair_down : (n j x y : ℕ) → n < t.size → Below t n → OnlyPair t' n j x y → OnlyPair t n j x y
  only_pair_down n j x y s b pr =
      let sl : (t.node n).left < t.size = omega arith in
      let sr : (t.node n).right < t.size = omega arith in
      record {
        hx = rw (e.node_is n s, e.node_is (t.node n).left sl) at pr.hx;
        hy = rw (e.node_is n s, e.node_is (t.node n).right sr) at pr.hy;
        sum = pr.sum;
      }

  prev_ext : (c x : ℕ) (d : List ℤ) → c < t.size → x ≤ (t.node c).count → AtPrev (Held t c) x → prev x (lit t' c) d ≡ prev x (lit t c) d
  prev_ext c x d s hx p = prev_cong (lit t' c) (lit t c) d x (at_prev_map (Held t c) (λ q. lit t' c q ≡ lit t c q) x (λ q hq hp. lit_ext c q s (omega arith) hp) p)

  pub if_ext : (n j x y : ℕ) → n < t.size → j < (t.node n).count → 0 < t.held n j → Below t n → IfPair t n j x y
      → AtPrev (Held t (t.node n).left) x → AtPrev (Held t (t.node n).right) y → if_of t' n j x y ≡ if_of t n j x y
  if_ext n j x y s hj p b pr lh rh =
      rw (e.node_is n s, e.held_is n j s hj p)
      (prev_ext (t.node n).left x _ (omega arith) pr.hx lh
      ∙ ap (prev x (lit t (t.node n).left)) (prev_ext (t.node n).right y _ (omega arith) pr.hy rh))

  keep_ext : (c x : ℕ) (d : List ℤ) → c < t.size → (x < (t.node c).count → Held t c x)
      → keep (ltb x (t'.node c).count) (lit t' c x) d ≡ keep (ltb x (t.node c).count) (lit t c x) d
  keep_ext c x d s lh =
      ap (λ (k : Node). keep (ltb x k.count) (lit t' c x) d) (e.node_is c s)
      ∙ keep_cong (ltb x (t.node c).count) (lit t' c x) (lit t c x) d (λ b. let hx = ltb-true x (t.node c).count b in lit_ext c x s hx (lh hx))

  pub only_ext : (n j x y : ℕ) → n < t.size → j < (t.node n).count → 0 < t.held n j → Below t n
      → (x < (t.node (t.node n).left).count → Held t (t.node n).left x) → (y < (t.node (t.node n).right).count → Held t (t.node n).right y)
      → only_of t' n j x y ≡ only_of t n j x y
  only_ext n j x y s hj p b lh rh =
      rw (e.node_is n s, e.held_is n j s hj p)
      (keep_ext (t.node n).left x _ (omega arith) lh
      ∙ ap (keep (ltb x (t.node (t.node n).left).count) (lit t (t.node n).left x)) (keep_ext (t.node n).right y _ (omega arith) rh))

  cell_ext : (n j : ℕ) → Cell t n j → Cell t' n j
  cell_ext n j c =
      record {
        hn = omega (arith, c.hn, e.size_le);
        hj = rw (e.node_is n c.hn) c.hj;
        inner = rw (e.node_is n c.hn) c.inner;
        held = rw (e.held_is n j c.hn c.hj c.held) c.held;
      }

  at_held_ext : (c x : ℕ) → c < t.size → x ≤ (t.node c).count → AtPrev (Held t c) x → AtPrev (Held t' c) x
  at_held_ext c x s hx p = at_prev_map (Held t c) (Held t' c) x (λ q hq hp. held_ext c q s (omega arith) hp) p

  own_ext : Shape t → (c : List ℤ) → Own t c → Own t' c
  own_ext shape c (own_if n j x y cl f) =
      let b = below_of t n (t.node n).kind cl.inner (shape n cl.hn) in
      let s = cl.hn in
      own_if n j x y (cell_ext n j cl) (record {
        pair = if_pair_up n j x y s cl.hj b f.pair;
        lheld = rw (e.node_is n s) (at_held_ext (t.node n).left x (omega arith) f.pair.hx f.lheld);
        rheld = rw (e.node_is n s) (at_held_ext (t.node n).right y (omega arith) f.pair.hy f.rheld);
        is = rw (if_ext n j x y s cl.hj cl.held b f.pair f.lheld f.rheld) f.is;
      })
  own_ext shape c (own_only n j x y cl f) =
      let b = below_of t n (t.node n).kind cl.inner (shape n cl.hn) in
      let s = cl.hn in
      let sl : (t.node n).left < t.size = omega arith in
      let sr : (t.node n).right < t.size = omega arith in
      own_only n j x y (cell_ext n j cl) (record {
        kind = rw (e.node_is n s) f.kind;
        pair = only_pair_up n j x y s b f.pair;
        lheld = rw (e.node_is n s, e.node_is (t.node n).left sl) (λ h. rw (e.node_is (t.node n).left sl) at (held_ext (t.node n).left x sl h (f.lheld h)));
        rheld = rw (e.node_is n s, e.node_is (t.node n).right sr) (λ h. rw (e.node_is (t.node n).right sr) at (held_ext (t.node n).right y sr h (f.rheld h)));
        is = rw (only_ext n j x y s cl.hj cl.held b f.lheld f.rheld) f.is;
      })

done_held_of : (t : Tab) (m : Marks) (h : History) → Inv t m h → (d : Dir) (n j : ℕ) → n < t.size → j < (t.node n).count
    → (k : Kind) → done_of k (m d n j) → held_of k (t.held n j)
done_held_of t m h inv d n j s hj leaf e = tt
done_held_of t m h inv d n j s hj dummy e = (inv.marked d n j s hj e).held
done_held_of t m h inv d n j s hj unit e = (inv.marked d n j s hj e).held
done_held_of t m h inv d n j s hj general e = (inv.marked d n j s hj e).held

-- what is done has a literal
pub done_held : (t : Tab) (m : Marks) (h : History) → Inv t m h → (d : Dir) (n j : ℕ) → n < t.size → j < (t.node n).count → Done t m d n j → Held t n j
done_held t m h inv d n j s hj e = done_held_of t m h inv d n j s hj (t.node n).kind e

pub at_done_held : (t : Tab) (m : Marks) (h : History) → Inv t m h → (d : Dir) (n x : ℕ) → n < t.size → x ≤ (t.node n).count
    → AtPrev (Done t m d n) x → AtPrev (Held t n) x
at_done_held t m h inv d n x s hx p = at_prev_map (Done t m d n) (Held t n) x (λ q hq e. done_held t m h inv d n q s (omega arith) e) p

module _ (t : Tab) (m : Marks) (h : History) (t' : Tab) (m' : Marks) (h' : History) (inv : Inv t m h) (st : Step t m h t' m' h') where
  done_ext : (d : Dir) (n j : ℕ) → n < t.size → j < (t.node n).count → Done t m d n j → Done t' m' d n j
  done_ext d n j s hj p = rw (st.ext.node_is n s) (done_of_ext (t.node n).kind (m d n j) (m' d n j) p (st.kept d n j s hj))

  at_done_ext : (d : Dir) (n x : ℕ) → n < t.size → x ≤ (t.node n).count → AtPrev (Done t m d n) x → AtPrev (Done t' m' d n) x
  at_done_ext d n x s hx p = at_prev_map (Done t m d n) (Done t' m' d n) x (λ q hq hp. done_ext d n q s (omega arith) hp) p

  closed_ext : (d : Dir) (n j : ℕ) → n < t.size → j < (t.node n).count → 0 < t.held n j → Below t n → Closed t m h d n j → Closed t' m' h' d n j
  closed_ext If n j s hj p b c = λ x y pr'.
      let e = st.ext in
      let pr = if_pair_down t t' e n j x y s hj b pr' in
      let k = c x y pr in
      let l = (t.node n).left in
      let r = (t.node n).right in
      let lh = at_done_held t m h inv If l x (omega arith) pr.hx k.ldone in
      let rh = at_done_held t m h inv If r y (omega arith) pr.hy k.rdone in
      record {
        there = rw (if_ext t t' e n j x y s hj p b pr lh rh) (in_sub (if_of t n j x y) h h' st.sub k.there);
        ldone = rw (e.node_is n s) (at_done_ext If l x (omega arith) pr.hx k.ldone);
        rdone = rw (e.node_is n s) (at_done_ext If r y (omega arith) pr.hy k.rdone);
      }
  closed_ext OnlyIf n j s hj p b c = (
    rw (st.ext.node_is n s) c.0,
    λ x y pr'.
        let e = st.ext in
        let pr = only_pair_down t t' e n j x y s b pr' in
        let k = c.1 x y pr in
        let l = (t.node n).left in
        let r = (t.node n).right in
        let sl : l < t.size = omega arith in
        let sr : r < t.size = omega arith in
        record {
          there =
              rw (only_ext t t' e n j x y s hj p b (λ hx. done_held t m h inv OnlyIf l x sl hx (k.ldone hx)) (λ hy. done_held t m h inv OnlyIf r y sr hy (k.rdone hy)))
              (in_sub (only_of t n j x y) h h' st.sub k.there);
          ldone = rw (e.node_is n s, e.node_is l sl) (λ hx. rw (e.node_is l sl) at (done_ext OnlyIf l x sl hx (k.ldone hx)));
          rdone = rw (e.node_is n s, e.node_is r sr) (λ hy. rw (e.node_is r sr) at (done_ext OnlyIf r y sr hy (k.rdone hy)));
        },
  )

  marked_ext : (d : Dir) (n j : ℕ) → n < t.size → j < (t.node n).count → Marked t m h d n j → Marked t' m' h' d n j
  marked_ext d n j s hj k =
      record {
        inner = rw (st.ext.node_is n s) k.inner;
        held = rw (st.ext.held_is n j s hj k.held) k.held;
        closed = closed_ext d n j s hj k.held (below_of t n (t.node n).kind k.inner (inv.shape n s)) k.closed;
      }

  pub inv_step : Inv t' m' h'
  inv_step =
      record {
        shape = st.shape;
        cells = st.cells;
        marked = λ d n j s hj e. marked_go d n j hj (st.marks d n j s hj e);
        own = λ c mem. own_go c (st.new c mem);
      }
    where
      marked_go : (d : Dir) (n j : ℕ) → j < (t'.node n).count → ((n < t.size) × (m d n j ≡ true)) ⊎ Marked t' m' h' d n j → Marked t' m' h' d n j
      marked_go d n j hj (inl (s, e)) =
          let hj' : j < (t.node n).count = rw (st.ext.node_is n s) at hj in
          marked_ext d n j s hj' (inv.marked d n j s hj' e)
      marked_go d n j hj (inr k) = k

      own_go : (c : List ℤ) → Memᴰ c h ⊎ Own t' c → Own t' c
      own_go c (inl mem) = own_ext t t' st.ext inv.shape c (inv.own c mem)
      own_go c (inr o) = o
