-- The own clauses as lists, in the order of the paper.
use Rattle.std.specs.Prelude.{◌≡◌, ◌⊎◌, ℕ, zero, suc, ◌+◌, ◌*◌, ◌-◌, ◌<◌, ◌≤◌, ℤ}
use Rattle.std.proofs.Common.{ap, inl, inr, arith}
use mathlib.Core.List.Memᴰ
use mathlib.Core.List.{List, ◌∷◌, Memᴰ}
use Rattle.std.proofs.Math.Decide.{ℕ_discrete}
use Rattle.facts.specs.Ranges.{Split, Need}
use Rattle.facts.proofs.Ranges.{split_swap, list_split, list_back, if_need, only_need}
use Rattle.meaning.specs.Base.{AtPrev}
use Rattle.meaning.proofs.Base.{same_of, in_of}
use Rattle.meaning.specs.Table.{unit, Dir, If, OnlyIf, Tab, Marks, key_at, IfPair, OnlyPair, if_of, only_of, UnitOk, Shape, History, Closed, Cell, Own, own_if, own_only, Inv}
use Rattle.meaning.proofs.Sound.{key_small}
use Rattle.meaning.proofs.Keep.{done_held, at_done_held}
use Rattle.meaning.specs.Lists.{Needs, left_count, own_list, right_count, upto}

in_upto : (f : ℕ → List ℤ) (k b x : ℕ) → b ≤ x → x < b + k → Memᴰ (f x) (upto f b k)
in_upto f zero b x h l = absurd (let z : ⊥ = omega arith in z)
in_upto f (suc k) b x h l = go (λ q. in_upto f k (suc b) x q (omega arith)) (ℕ_discrete x b)
  where
    go : (b < x → Memᴰ (f x) (upto f (suc b) k)) → Dec (x ≡ b) → Memᴰ (f x) (f b ∷ upto f (suc b) k)
    go ih (yes e) = Memᴰ.head (ap f e)
    go ih (no q) = Memᴰ.tail (ih (omega arith))

of_upto : (f : ℕ → List ℤ) (k b : ℕ) (c : List ℤ) → Memᴰ c (upto f b k) → (x : ℕ) × (b ≤ x) × (x < b + k) × (c ≡ f x)
of_upto f zero b c m = absurd (Memᴰ.not-nil m)
of_upto f (suc k) b c m = go (λ q. of_upto f k (suc b) c q) (Memᴰ.cases_cons m)
  where
    go : (Memᴰ c (upto f (suc b) k) → (x : ℕ) × (suc b ≤ x) × (x < suc b + k) × (c ≡ f x)) → (c ≡ f b) ⊎ Memᴰ c (upto f (suc b) k)
        → (x : ℕ) × (b ≤ x) × (x < b + suc k) × (c ≡ f x)
    go ih (inl e) = (b, omega arith, omega arith, e)
    go ih (inr q) = let r = ih q in (r.0, omega arith, omega arith, r.3)

module _ (t : Tab) (shape : Shape t) (n i : ℕ) (s : n < t.size) (o : UnitOk t n) (hi : i < (t.node n).count) where
  small_left : (x : ℕ) → x ≤ left_count t n → key_at t (t.node n).left x ≡ x
  small_left x hx = let sl : (t.node n).left < t.size = omega (arith, o.hl) in key_small t (t.node n).left (t.node (t.node n).left).kind (shape (t.node n).left sl) o.left_kind x hx

  small_right : (y : ℕ) → y ≤ right_count t n → key_at t (t.node n).right y ≡ y
  small_right y hy = let sr : (t.node n).right < t.size = omega (arith, o.hr) in key_small t (t.node n).right (t.node (t.node n).right).kind (shape (t.node n).right sr) o.right_kind y hy

  -- the pairs of If are the splits of i + 1, those of OnlyIf the splits of i
  unit_split : (x y : ℕ) → IfPair t n i x y → Split (left_count t n) (right_count t n) (i + 1) x y
  unit_split x y pr =
      let a : 1 * x + 1 * y ≡ suc i = rw (o.lmul_is, o.rmul_is, small_left x pr.hx, small_right y pr.hy, o.key_is i hi) at pr.sum in
      record { left = pr.hx; right = pr.hy; sum = omega arith }

  unit_pair : (x y : ℕ) → Split (left_count t n) (right_count t n) (i + 1) x y → IfPair t n i x y
  unit_pair x y sp =
      let e = sp.sum in
      record { hx = sp.left; hy = sp.right; sum = rw (o.lmul_is, o.rmul_is, small_left x sp.left, small_right y sp.right, o.key_is i hi) (omega arith) }

  only_split : (x y : ℕ) → OnlyPair t n i x y → Split (left_count t n) (right_count t n) i x y
  only_split x y pr = record { left = pr.hx; right = pr.hy; sum = pr.sum }

  prev_need : (P : ℕ → Type 0) (a b x y : ℕ) → ((p : ℕ) → Need a b i p → P p) → Split a b (i + 1) x y → AtPrev P x
  prev_need P a b zero y f sp = tt
  prev_need P a b (suc p) y f sp = f p (if_need a b i p y sp)

  module _ (m : Marks) (h : History) (inv : Inv t m h) (k : (t.node n).kind ≡ unit) (held : 0 < t.held n i) where
    cell : Cell t n i
    cell = record { hn = s; hj = hi; inner = rw k tt; held = held }

    -- every clause of the list is an own clause
    pub list_own : (d : Dir) → Needs t m d n i → (c : List ℤ) → Memᴰ c (own_list d t n i) → Own t c
    list_own If w c mem =
        let (x, lo, up, e) = of_upto _ _ _ c mem in
        let sp = list_split (left_count t n) (right_count t n) (i + 1) x lo up in
        let y : ℕ = i + 1 - x in
        own_if n i x y cell (record {
          pair = unit_pair x y sp;
          lheld = at_done_held t m h inv If (t.node n).left x (omega (arith, o.hl)) sp.left (prev_need _ (left_count t n) (right_count t n) x y w.lneed sp);
          rheld = at_done_held t m h inv If (t.node n).right y (omega (arith, o.hr)) sp.right (prev_need _ (right_count t n) (left_count t n) y x w.rneed (split_swap _ _ _ x y sp));
          is = same_of c _ e;
        })
    list_own OnlyIf w c mem =
        let (x, lo, up, e) = of_upto _ _ _ c mem in
        let sp = list_split (left_count t n) (right_count t n) i x lo up in
        let y : ℕ = i - x in
        own_only n i x y cell (record {
          kind = k;
          pair = record { hx = sp.left; hy = sp.right; sum = sp.sum };
          lheld = λ q. done_held t m h inv OnlyIf (t.node n).left x (omega (arith, o.hl)) q (w.lneed x (only_need _ _ i x y sp q));
          rheld = λ q. done_held t m h inv OnlyIf (t.node n).right y (omega (arith, o.hr)) q (w.rneed y (only_need _ _ i y x (split_swap _ _ _ x y sp) q));
          is = same_of c _ e;
        })

  -- with the list in the history and the children's outputs done, the output is closed
  pub list_closed : (m : Marks) (h : History) (d : Dir) → (t.node n).kind ≡ unit → Needs t m d n i → ((c : List ℤ) → Memᴰ c (own_list d t n i) → Memᴰ c h) → Closed t m h d n i
  list_closed m h If k w sub = λ x y pr.
      let sp = unit_split x y pr in
      let (lo, up, e) = list_back (left_count t n) (right_count t n) (i + 1) x y sp in
      record {
        there = in_of (if_of t n i x y) h (sub (if_of t n i x y) (rw e (in_upto (λ z. if_of t n i z (i + 1 - z)) _ _ x lo up)));
        ldone = prev_need _ (left_count t n) (right_count t n) x y w.lneed sp;
        rdone = prev_need _ (right_count t n) (left_count t n) y x w.rneed (split_swap _ _ _ x y sp);
      }
  list_closed m h OnlyIf k w sub = (
    k,
    λ x y pr.
        let sp = only_split x y pr in
        let (lo, up, e) = list_back (left_count t n) (right_count t n) i x y sp in
        record {
          there = in_of (only_of t n i x y) h (sub (only_of t n i x y) (rw e (in_upto (λ z. only_of t n i z (i - z)) _ _ x lo up)));
          ldone = λ q. w.lneed x (only_need _ _ i x y sp q);
          rdone = λ q. w.rneed y (only_need _ _ i y x (split_swap _ _ _ x y sp) q);
        },
  )
