-- The elementary steps: take a variable, append own clauses, mark, clear marks, add a node. Each keeps the invariant.
use Rattle.std.specs.Prelude.{◌≡◌, Bool, true, ◌⊎◌, ℕ, suc, ◌<◌, ◌≤◌, ℤ}
use Rattle.std.proofs.Common.{sym, ◌∙◌, true≢false, inl, inr, arith}
use mathlib.Core.List.Memᴰ
use mathlib.Core.List.{List, [], ◌++◌, Memᴰ}
use Rattle.std.proofs.Math.Decide.{dec_lt, ℕ_discrete}
use Rattle.meaning.specs.Base.{AtPrev}
use Rattle.meaning.proofs.Base.{at_prev_map}
use Rattle.meaning.specs.Table.{Kind, leaf, dummy, unit, general, Dir, If, OnlyIf, Tab, Marks, done_of, Done, NodeOk, Shape, History, Closed, Marked, Own, Cells, Inv}
use Rattle.meaning.specs.Keep.{Ext, Below}
use Rattle.meaning.proofs.Keep.{ext_refl, below_of, inv_step, key_ext}
use Rattle.meaning.specs.Steps.{InvReset, MarkedReset, Added, Taken}

-- the shape of a node of t stays in t'
pub shape_ext : (t t' : Tab) (e : Ext t t') (n : ℕ) → n < t.size → (k : Kind) → NodeOk t n k → NodeOk t' n k
shape_ext t t' e n s leaf o =
    record {
      count_is = rw (e.node_is n s) o.count_is;
      key_is = rw (e.key_is n 0 s (omega (arith, o.count_is))) o.key_is;
      nonzero = rw (e.node_is n s) o.nonzero;
      below = rw (e.node_is n s, e.from_is) o.below;
    }
shape_ext t t' e n s dummy o = rw (e.node_is n s) o
shape_ext t t' e n s unit o =
    let sl : (t.node n).left < t.size = omega (arith, o.hl) in
    let sr : (t.node n).right < t.size = omega (arith, o.hr) in
    record {
      hl = rw (e.node_is n s) o.hl;
      hr = rw (e.node_is n s) o.hr;
      lmul_is = rw (e.node_is n s) o.lmul_is;
      rmul_is = rw (e.node_is n s) o.rmul_is;
      left_kind = rw (e.node_is n s, e.node_is (t.node n).left sl) o.left_kind;
      right_kind = rw (e.node_is n s, e.node_is (t.node n).right sr) o.right_kind;
      count_is = rw (e.node_is n s, e.node_is (t.node n).left sl, e.node_is (t.node n).right sr) o.count_is;
      key_is = λ j hj. let hj' : j < (t.node n).count = rw (e.node_is n s) at hj in e.key_is n j s hj' ∙ o.key_is j hj';
    }
shape_ext t t' e n s general o =
    let sl : (t.node n).left < t.size = omega (arith, o.hl) in
    let sr : (t.node n).right < t.size = omega (arith, o.hr) in
    record {
      hl = rw (e.node_is n s) o.hl;
      hr = rw (e.node_is n s) o.hr;
      keys = rw (e.node_is n s, e.node_is (t.node n).left sl, e.node_is (t.node n).right sr)
          (λ x y hx hy p.
          let q = o.keys x y hx hy p in
          (q.0, q.1, e.key_is n q.0 s q.1 ∙ q.2 ∙ rw (key_ext t t' e (t.node n).left x sl hx, key_ext t t' e (t.node n).right y sr hy)));
    }

same? : (k n i j : ℕ) → Dec ((k ≡ n) × (i ≡ j))
same? k n i j = go (ℕ_discrete k n) (ℕ_discrete i j)
  where
    go : Dec (k ≡ n) → Dec (i ≡ j) → Dec ((k ≡ n) × (i ≡ j))
    go (yes a) (yes b) = yes (a, b)
    go (yes a) (no q) = no (λ h. q h.1)
    go (no q) d = no (λ h. q h.0)

module _ (t t' : Tab) (n j : ℕ) (k : Taken t t' n j) (sn : n < t.size) (hj : j < (t.node n).count) (z : t.held n j ≡ 0) (cells : Cells t) where
  pub taken_ext : Ext t t'
  taken_ext =
      record {
        size_le = omega (arith, k.size_is);
        node_is = k.node_is;
        key_is = k.key_is;
        held_is = λ a i s hi p. k.other a i s hi (λ e. let q : t.held a i ≡ 0 = rw (e.0, e.1) z in omega arith);
        from_is = k.from_is;
      }

  -- what a cell of t' holds
  data Holds (a i : ℕ) : Type 0 where
    new : a ≡ n → i ≡ j → t'.held a i ≡ t.next → Holds a i
    old : t'.held a i ≡ t.held a i → Holds a i

  holds : (a i : ℕ) → a < t.size → i < (t.node a).count → Holds a i
  holds a i s hi = go (same? a n i j)
    where
      go : Dec ((a ≡ n) × (i ≡ j)) → Holds a i
      go (yes (e, f)) = new e f (rw (e, f) k.there)
      go (no q) = old (k.other a i s hi q)

  taken_range : (a i : ℕ) → a < t.size → i < (t.node a).count → 0 < t'.held a i → Holds a i → (t.from ≤ t'.held a i) × (t'.held a i < suc t.next)
  taken_range a i s hi p (new e f h) = let o = cells.order in (omega arith, omega arith)
  taken_range a i s hi p (old h) = let r = cells.range a i s hi (omega arith) in (omega arith, omega arith)

  taken_distinct : (a i b l : ℕ) → a < t.size → i < (t.node a).count → b < t.size → l < (t.node b).count → 0 < t'.held a i
      → t'.held a i ≡ t'.held b l → Holds a i → Holds b l → (a ≡ b) × (i ≡ l)
  taken_distinct a i b l sa hi sb hl p e (new x y h) (new u v g) = (x ∙ sym u, y ∙ sym v)
  taken_distinct a i b l sa hi sb hl p e (new x y h) (old g) =
      absurd (let q : 0 < t.held b l = omega (arith, cells.order, cells.positive) in let r = cells.range b l sb hl q in let w : ⊥ = omega arith in w)
  taken_distinct a i b l sa hi sb hl p e (old h) (new u v g) =
      absurd (let q : 0 < t.held a i = omega arith in let r = cells.range a i sa hi q in let w : ⊥ = omega arith in w)
  taken_distinct a i b l sa hi sb hl p e (old h) (old g) = cells.distinct a i b l sa hi sb hl (omega arith) (omega arith)

  taken_cells : Cells t'
  taken_cells =
      let o = cells.order in
      let f = cells.positive in
      let nx = k.next_is in
      let fr = k.from_is in
      let sz = k.size_is in
      record {
        positive = omega arith;
        range = λ a i s hi p.
            let s' : a < t.size = omega arith in
            let hi' : i < (t.node a).count = rw (k.node_is a s') at hi in
            let r = taken_range a i s' hi' p (holds a i s' hi') in
            (omega arith, omega arith);
        order = omega arith;
        distinct = λ a i b l sa hi sb hl p e.
            let sa' : a < t.size = omega arith in
            let sb' : b < t.size = omega arith in
            let hi' : i < (t.node a).count = rw (k.node_is a sa') at hi in
            let hl' : l < (t.node b).count = rw (k.node_is b sb') at hl in
            taken_distinct a i b l sa' hi' sb' hl' p e (holds a i sa' hi') (holds b l sb' hl');
      }

shape_same : (t t' : Tab) → Ext t t' → t'.size ≡ t.size → Shape t → Shape t'
shape_same t t' e z shape n s' =
    let s : n < t.size = omega arith in
    rw (e.node_is n s) (shape_ext t t' e n s (t.node n).kind (shape n s))

pub inv_take : (t t' : Tab) (m : Marks) (h : History) (n j : ℕ) → Inv t m h → n < t.size → j < (t.node n).count → t.held n j ≡ 0 → Taken t t' n j → Inv t' m h
inv_take t t' m h n j inv s hj z k =
    let e = taken_ext t t' n j k s hj z inv.cells in
    inv_step t m h t' m h inv (record {
      ext = e;
      shape = shape_same t t' e k.size_is inv.shape;
      cells = taken_cells t t' n j k s hj z inv.cells;
      sub = λ c mem. mem;
      new = λ c mem. inl mem;
      kept = λ d a i sa hi q. q;
      marks = λ d a i sa hi q. inl (omega (arith, k.size_is), q);
    })

-- 2. own clauses are appended
pub inv_append : (t : Tab) (m : Marks) (h g : History) → Inv t m h → ((c : List ℤ) → Memᴰ c g → Own t c) → Inv t m (h ++ g)
inv_append t m h g inv own =
    inv_step t m h t m (h ++ g) inv (record {
      ext = ext_refl t;
      shape = inv.shape;
      cells = inv.cells;
      sub = λ c mem. Memᴰ.append_left g mem;
      new = λ c mem. go c (Memᴰ.append_cases h mem);
      kept = λ d a i sa hi q. q;
      marks = λ d a i sa hi q. inl (sa, q);
    })
  where
    go : (c : List ℤ) → Memᴰ c h ⊎ Memᴰ c g → Memᴰ c h ⊎ Own t c
    go c (inl mem) = inl mem
    go c (inr mem) = inr (own c mem)

-- 3. marks are added where the own clauses are there
pub inv_mark : (t : Tab) (m m' : Marks) (h : History) → Inv t m h
    → ((d : Dir) (n j : ℕ) → n < t.size → j < (t.node n).count → m d n j ≡ true → m' d n j ≡ true)
    → ((d : Dir) (n j : ℕ) → n < t.size → j < (t.node n).count → m' d n j ≡ true → (m d n j ≡ true) ⊎ Marked t m' h d n j)
    → Inv t m' h
inv_mark t m m' h inv up down =
    inv_step t m h t m' h inv (record {
      ext = ext_refl t;
      shape = inv.shape;
      cells = inv.cells;
      sub = λ c mem. mem;
      new = λ c mem. inl mem;
      kept = up;
      marks = λ d n j s hj q. go d n j s (down d n j s hj q);
    })
  where
    go : (d : Dir) (n j : ℕ) → n < t.size → (m d n j ≡ true) ⊎ Marked t m' h d n j → ((n < t.size) × (m d n j ≡ true)) ⊎ Marked t m' h d n j
    go d n j s (inl q) = inl (s, q)
    go d n j s (inr k) = inr k

-- what is closed for a direction stays so if the marks of that direction stay
done_marks : (k : Kind) (a b : Bool) → (a ≡ true → b ≡ true) → done_of k a → done_of k b
done_marks leaf a b f h = tt
done_marks dummy a b f h = f h
done_marks unit a b f h = f h
done_marks general a b f h = f h

pub closed_marks : (t : Tab) (m m' : Marks) (h : History) (d : Dir) (n j : ℕ) → n < t.size → Below t n
    → ((c p : ℕ) → c < t.size → p < (t.node c).count → m d c p ≡ true → m' d c p ≡ true) → Closed t m h d n j → Closed t m' h d n j
closed_marks t m m' h If n j s b f c = λ x y pr.
    let k = c x y pr in
    let up : (a z : ℕ) → a < t.size → z ≤ (t.node a).count → AtPrev (Done t m If a) z → AtPrev (Done t m' If a) z
    = λ a z sa hz. at_prev_map (Done t m If a) (Done t m' If a) z (λ p hp q. done_marks (t.node a).kind (m If a p) (m' If a p) (f a p sa (omega arith)) q) in
    record { there = k.there; ldone = up (t.node n).left x (omega arith) pr.hx k.ldone; rdone = up (t.node n).right y (omega arith) pr.hy k.rdone }
closed_marks t m m' h OnlyIf n j s b f c = (
  c.0,
  λ x y pr.
      let k = c.1 x y pr in
      let l = (t.node n).left in
      let r = (t.node n).right in
      record {
        there = k.there;
        ldone = λ hx. done_marks (t.node l).kind (m OnlyIf l x) (m' OnlyIf l x) (f l x (omega arith) hx) (k.ldone hx);
        rdone = λ hy. done_marks (t.node r).kind (m OnlyIf r y) (m' OnlyIf r y) (f r y (omega arith) hy) (k.rdone hy);
      },
)

pub inv_reset : (t : Tab) (m m' : Marks) (h : History) → InvReset t m m' h
inv_reset t m m' h inv f =
    record {
      shape = inv.shape;
      cells = inv.cells;
      marked = λ d n j s hj q. go d n j s hj q (f d);
      own = inv.own;
    }
  where
    go : MarkedReset t m m' h
    go d n j s hj q (inl c) = absurd (true≢false (sym q ∙ c n j s hj))
    go d n j s hj q (inr e) =
        let k = inv.marked d n j s hj (sym (e n j s hj) ∙ q) in
        record {
          inner = k.inner;
          held = k.held;
          closed = closed_marks t m m' h d n j s (below_of t n (t.node n).kind k.inner (inv.shape n s)) (λ c p sc hp r. e c p sc hp ∙ r) k.closed;
        }

module _ (t t' : Tab) (m m' : Marks) (h : History) (inv : Inv t m h) (k : Added t t' m m') where
  added_ext : Ext t t'
  added_ext =
      record {
        size_le = omega (arith, k.size_is);
        node_is = k.node_is;
        key_is = k.key_is;
        held_is = λ a i s hi p. k.held_is a i s hi;
        from_is = k.from_is;
      }

  -- a node of t' is one of t, or the new one
  old_or_new : (a : ℕ) → a < t'.size → (a < t.size) ⊎ (a ≡ t.size)
  old_or_new a s = go (dec_lt a t.size)
    where
      go : Dec (a < t.size) → (a < t.size) ⊎ (a ≡ t.size)
      go (yes p) = inl p
      go (no q) = inr (omega (arith, k.size_is))

  added_shape : Shape t'
  added_shape a s = go (old_or_new a s)
    where
      go : (a < t.size) ⊎ (a ≡ t.size) → NodeOk t' a (t'.node a).kind
      go (inl p) = rw (k.node_is a p) (shape_ext t t' added_ext a p (t.node a).kind (inv.shape a p))
      go (inr e) = rw e k.ok

  -- a cell with a literal is one of t
  was : (a i : ℕ) → a < t'.size → i < (t'.node a).count → 0 < t'.held a i → (a < t.size) × (i < (t.node a).count) × (t'.held a i ≡ t.held a i)
  was a i s hi p = go (old_or_new a s)
    where
      go : (a < t.size) ⊎ (a ≡ t.size) → (a < t.size) × (i < (t.node a).count) × (t'.held a i ≡ t.held a i)
      go (inl q) = let hi' : i < (t.node a).count = rw (k.node_is a q) at hi in (q, hi', k.held_is a i q hi')
      go (inr e) =
          let hi' : i < (t'.node t.size).count = rw e at hi in
          let p' : 0 < t'.held t.size i = rw e at p in
          absurd (let y = k.empty i hi' in let x : ⊥ = omega arith in x)

  added_cells : Cells t'
  added_cells =
      let c = inv.cells in
      let o = c.order in
      let f = c.positive in
      let fr = k.from_is in
      let nx = k.next_is in
      record {
        positive = omega arith;
        range = λ a i s hi p.
            let (s', hi', e) = was a i s hi p in
            let r = c.range a i s' hi' (omega arith) in
            (omega arith, omega arith);
        order = omega arith;
        distinct = λ a i b l sa hi sb hl p e.
            let (sa', hi', ea) = was a i sa hi p in
            let (sb', hl', eb) = was b l sb hl (omega arith) in
            c.distinct a i b l sa' hi' sb' hl' (omega arith) (omega arith);
      }

  pub inv_add : Inv t' m' h
  inv_add =
      inv_step t m h t' m' h inv (record {
        ext = added_ext;
        shape = added_shape;
        cells = added_cells;
        sub = λ c mem. mem;
        new = λ c mem. inl mem;
        kept = λ d a i s hi q. k.marks_is d a i s hi ∙ q;
        marks = λ d a i s hi q. go d a i hi q (old_or_new a s);
      })
    where
      go : (d : Dir) (a i : ℕ) → i < (t'.node a).count → m' d a i ≡ true → (a < t.size) ⊎ (a ≡ t.size) → ((a < t.size) × (m d a i ≡ true)) ⊎ Marked t' m' h d a i
      go d a i hi q (inl s) = let hi' : i < (t.node a).count = rw (k.node_is a s) at hi in inl (s, sym (k.marks_is d a i s hi') ∙ q)
      go d a i hi q (inr e) =
          let hi' : i < (t'.node t.size).count = rw e at hi in
          let q' : m' d t.size i ≡ true = rw e at q in
          absurd (true≢false (sym q' ∙ k.unmarked d i hi'))

-- 0. the fresh state
pub inv_fresh : (t : Tab) (m : Marks) → t.size ≡ 0 → 0 < t.from → t.next ≡ t.from → Inv t m []
inv_fresh t m z f nx =
    record {
      shape = λ n s. absurd (let x : ⊥ = omega arith in x);
      cells = record {
        positive = f;
        range = λ n j s hj p. absurd (let x : ⊥ = omega arith in x);
        order = omega arith;
        distinct = λ n j a i s hj sa hi p e. absurd (let x : ⊥ = omega arith in x);
      };
      marked = λ d n j s hj q. absurd (let x : ⊥ = omega arith in x);
      own = λ c mem. absurd (Memᴰ.not-nil mem);
    }
