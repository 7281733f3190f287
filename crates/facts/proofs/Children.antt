-- Children before parents, over a whole unweighted run: a unit's output that takes a literal takes it after those of the children's outputs that its demand
-- asks for. Assumes nothing.
use Prim.Native.Nat.{ℕ, zero, suc, ◌+◌, ◌-◌, ◌<◌, ◌≤◌}
use Rattle.std.specs.Prelude.{List, ◌++◌, Bool, cond, not, ◌||◌, ◌≡◌, ◌⊎◌, length, get_or, take, drop, ℤ, pos, nat_abs}
use Rattle.std.proofs.Math.Bool.{true, false}
use Rattle.std.proofs.Math.Path.{refl}
use Rattle.std.proofs.Common.{sym, ap, subst, ◌∙◌, inl, inr, get_or-take}
use Rattle.std.proofs.Math.Logic.{⊎_elim}
use native.Mathlib.Omega.{arith}
use Rattle.std.proofs.Math.Decide.{ℕ_discrete}
use borrow.Author.Tests.{eqb-true}
use Rattle.paper.specs.Below.{side, and_left}
use Rattle.paper.specs.Span.{over}
use Rattle.paper.specs.Rows.{node_at, is_unit, is_dummy, is_zero, con_len}
use Rattle.paper.specs.Plain.{has_if, has_only, mark_of, missing_of, just_if, just_only, if_span, only_span, no_span, ranges_of, plan_two, plan_unit, plan_of, taken_lits, taken_next, St, finish_of, demands_of, walk_of, step_of, define}
use Rattle.paper.specs.declared.Node.{Node}
use Rattle.paper.specs.declared.Want.{Want}
use Rattle.paper.specs.declared.Todo.{Todo}
use Rattle.paper.specs.declared.Span.{Span}
use Rattle.paper.specs.declared.Clause.{Clause}
use Rattle.paper.specs.declared.Precond.{Precond}
use Rattle.paper.specs.declared.Precond.TheVariants.{Return, Pass, Continue}
use Rattle.facts.specs.Facts.{Held}
use Rattle.facts.proofs.Facts.{dummy_outputs, unit_outputs}
use Rattle.facts.specs.Taken.{cell_lit, InOrder}
use Rattle.facts.proofs.Taken.{not_zero, zero_or, same_var, take_else, order_one, order_up, order_keep, order_held, order_taken}
use Rattle.facts.proofs.Ranges.{if_to, only_to}
use Rattle.facts.specs.Rel.{CellOf}
use Rattle.facts.specs.Ran.{Laid, Move, same, by_unit, by_sum, Ran, Good}
use Rattle.facts.proofs.Ran.{ran_refl, ran_trans, ran_up, good_kept, define_ran}
use Rattle.facts.proofs.Runs.{back_low, unit_lit}
use Rattle.facts.specs.Children.{AfterChildren, Asked, Bare, Before, ChildrenFirst, Part, asked_left_if, asked_left_only, asked_right_if, asked_right_only}

-- ---- one run after another

part_trans : {u v w : Want} → Part u v → Part v w → Part u w
part_trans p q = record { fi = λ e. q.fi (p.fi e); fo = λ e. q.fo (p.fo e) }

first_refl : (ns : List ℕ) (nodes : ℕ) (w : Want) (l : List ℤ) → ChildrenFirst ns nodes w l l
first_refl ns nodes w l k i c z u h e = absurd (let q : 0 ≡ u = same_var 0 u (sym z ∙ e) in omega arith)

first_part : {ns : List ℕ} {nodes : ℕ} {v w : Want} {l l' : List ℤ} → Part v w → ChildrenFirst ns nodes v l l' → ChildrenFirst ns nodes w l l'
first_part p f k i c z u h e = let a = f k i c z u h e in record { part = a.part; within = part_trans a.within p; asks = a.asks; before = a.before }

first_trans : {ns : List ℕ} {nodes : ℕ} {w : Want} {l l' l'' : List ℤ} {n n' n'' : ℕ} → 1 ≤ n → InOrder l n l' n' → InOrder l' n' l'' n''
    → ChildrenFirst ns nodes w l l' → ChildrenFirst ns nodes w l' l'' → ChildrenFirst ns nodes w l l''
first_trans {ns} {nodes} {w = w} {l} {l'} {l''} {n = n} {n'} {n''} some p q f g k i c z u h e = go (zero_or (cell_lit l' ((node_at ns k).first + i)))
  where
    at : ℕ
    at = (node_at ns k).first + i

    -- the parent is the second run's: what the first took is below
    late : cell_lit l' at ≡ pos 0 → n' ≤ u
    late y = ⊎_elim (λ (x : cell_lit l'' at ≡ pos 0). absurd (let d : u ≡ 0 = same_var u 0 (sym e ∙ x) in omega arith))
        (λ (x : Held (cell_lit l'' at) n' n''). let d : u ≡ x.var = same_var u x.var (sym e ∙ x.is) in omega (arith, x.from))
        ((order_taken (omega (arith, order_up p)) q).new at y)

    early : (j : ℕ) → cell_lit l j ≡ pos 0 → is_zero (cell_lit l' j) ≡ false → nat_abs (cell_lit l'' j) < n'
    early j y s = ⊎_elim (λ (x : cell_lit l' j ≡ pos 0). not_zero (cell_lit l' j) x s)
        (λ (x : Held (cell_lit l' j) n n'). let d : nat_abs (cell_lit l'' j) ≡ x.var = ap nat_abs (order_keep q j s ∙ x.is) in omega (arith, x.below))
        ((order_taken some p).new j y)

    second : cell_lit l' at ≡ pos 0 → (j : ℕ) → Before l' l'' j u → Before l l'' j u
    second y j b =
        record {
          some = b.some;
          lower = λ x. ⊎_elim (λ (r : cell_lit l' j ≡ pos 0). b.lower r) (λ (r : is_zero (cell_lit l' j) ≡ false). let o = early j x r in let t = late y in omega arith) (zero_or (cell_lit l' j));
        }

    first : (j : ℕ) → Before l l' j u → Before l l'' j u
    first j b = record { some = order_held q j b.some; lower = λ x. (let o = b.lower x in let d : nat_abs (cell_lit l'' j) ≡ nat_abs (cell_lit l' j) = ap nat_abs (order_keep q j b.some) in omega arith) }

    go : (cell_lit l' at ≡ pos 0) ⊎ (is_zero (cell_lit l' at) ≡ false) → AfterChildren ns nodes w l l'' k i u
    go (inl y) = let a = g k i c y u h e in record { part = a.part; within = a.within; asks = a.asks; before = λ d j x o. second y ((node_at ns d).first + j) (a.before d j x o) }
    go (inr s) =
        let a = f k i c z u h (sym (order_keep q at s) ∙ e) in
        record { part = a.part; within = a.within; asks = a.asks; before = λ d j x o. first ((node_at ns d).first + j) (a.before d j x o) }

bare_kept : {ns : List ℕ} {nodes b : ℕ} {l l' : List ℤ} {m m' : List ℕ} {n n' : ℕ} → Ran ns nodes b l m n l' m' n' → Bare l m → Bare l' m'
bare_kept {ns} {nodes} {l = l} {l' = l'} {m = m} {m' = m'} r h j z = go (r.mark j)
  where
    was : cell_lit l j ≡ pos 0
    was = ⊎_elim (λ (e : cell_lit l j ≡ pos 0). e) (λ (s : is_zero (cell_lit l j) ≡ false). not_zero (cell_lit l' j) z (order_held r.order j s)) (zero_or (cell_lit l j))

    go : Move ns nodes j (get_or m j 0) (get_or m' j 0) (cell_lit l' j) → get_or m' j 0 ≡ 0
    go (same e) = e ∙ h j was
    go (by_unit k i c e q s) = not_zero (cell_lit l' j) z s
    go (by_sum k i c e q s) = not_zero (cell_lit l' j) z s

-- ---- the part in use after a run, seen in the whole row

pub first_back : {w : Want} (ns : List ℕ) (nodes cells : ℕ) (l p : List ℤ) → Laid ns nodes cells → length p ≡ cells → ChildrenFirst ns nodes w (take cells l) p → ChildrenFirst ns nodes w l (p ++ drop cells l)
first_back ns nodes cells l p lay size f k i c z u h e =
    let a = f k i c (was k i c ∙ z) u h (sym (now k i c) ∙ e) in
    record { part = a.part; within = a.within; asks = a.asks; before = λ d j x o. back d j o (a.before d j x o) }
  where
    low : (b j : ℕ) → CellOf 1 ns nodes b j → (node_at ns b).first + j < cells
    low b j o = omega (arith, lay.within b o.below (inl o.is), o.out)

    was : (b j : ℕ) → CellOf 1 ns nodes b j → cell_lit (take cells l) ((node_at ns b).first + j) ≡ cell_lit l ((node_at ns b).first + j)
    was b j o = get_or-take cells l ((node_at ns b).first + j) (pos 0) (low b j o)

    now : (b j : ℕ) → CellOf 1 ns nodes b j → cell_lit (p ++ drop cells l) ((node_at ns b).first + j) ≡ cell_lit p ((node_at ns b).first + j)
    now b j o = back_low p l cells ((node_at ns b).first + j) (pos 0) size (low b j o)

    back : (b j : ℕ) → CellOf 1 ns nodes b j → Before (take cells l) p ((node_at ns b).first + j) u → Before l (p ++ drop cells l) ((node_at ns b).first + j) u
    back b j o x = record { some = ap is_zero (now b j o) ∙ x.some; lower = λ y. (let q = x.lower (was b j o ∙ y) in let r = ap nat_abs (now b j o) in omega (arith, q, r)) }

-- ---- the run

-- what is missing is a part of the demand
missing_part : (m : ℕ) (w : Want) → Part (missing_of m w).want w
unfolding missing_of
missing_part m w = record { fi = λ e. and_left w.fi (not (has_if (mark_of m))) e; fo = λ e. and_left w.fo (not (has_only (mark_of m))) e }

module _ {S : Type 0} (put : S → Clause → S) (ns : List ℕ) (ins : List ℤ) (nodes nc : ℕ) (lay : Laid ns nodes nc) where
  pub record Fit (s : St S) : Type 0 where
    pub good : Good nc s
    pub bare : Bare s.lits s.marks

  record Did (w : Want) (b : ℕ) (s t : St S) : Type 0 where
    ran : Ran ns nodes b s.lits s.marks s.next t.lits t.marks t.next
    first : ChildrenFirst ns nodes w s.lits t.lits

  -- the cell of output j of node c has a literal
  abbrev Has : St S → ℕ → ℕ → Type 0
  Has t c j = is_zero (cell_lit t.lits ((node_at ns c).first + j)) ≡ false

  fit_kept : (w : Want) (b : ℕ) (s t : St S) → Fit s → Did w b s t → Fit t
  fit_kept w b s t f d = record { good = good_kept ns nodes nc b s t f.good d.ran; bare = bare_kept d.ran f.bare }

  did_refl : (w : Want) (b : ℕ) (s : St S) → Did w b s s
  did_refl w b s = record { ran = ran_refl ns nodes b s.lits s.marks s.next; first = first_refl ns nodes w s.lits }

  did_trans : (w : Want) (b : ℕ) (s t u : St S) → Fit s → Did w b s t → Did w b t u → Did w b s u
  did_trans w b s t u f p q = record { ran = ran_trans p.ran q.ran; first = first_trans f.good.some p.ran.order q.ran.order p.first q.first }

  -- a demand that the run `f` meets, for nodes below g
  abbrev Meets : ℕ → (ℕ → ℕ → Want → St S → St S) → Type 0
  Meets g f =
      (k i : ℕ) (w : Want) (s : St S) → k < g → k < nodes → i < con_len (node_at ns k) → Fit s
      → Did w (k + 1) s (f k i w s) × (CellOf 1 ns nodes k i → (w.fi || w.fo) ≡ true → Has (f k i w s) k i)

  -- a range of outputs of the node c
  record Ranged (w : Want) (b c from to : ℕ) (s t : St S) : Type 0 where
    did : Did w b s t
    has : (j : ℕ) → from ≤ j → j < to → CellOf 1 ns nodes c j → Has t c j

  over_first : (f : ℕ → ℕ → Want → St S → St S) (g b c : ℕ) (v w : Want) → Meets g f → c < b → c < g → c < nodes → Part v w → (v.fi || v.fo) ≡ true
      → (n k : ℕ) → ((j : ℕ) → k ≤ j → j < k + n → j < con_len (node_at ns c)) → (s : St S) → Fit s → Ranged w b c k (k + n) s (over n (λ j t. f c j v t) k s)
  unfolding over
  over_first f g b c v w m hb hg hn p asks zero k low s fit = record { did = did_refl w b s; has = λ j x y o. absurd (omega arith) }
  over_first f g b c v w m hb hg hn p asks (suc n) k low s fit =
      let s1 = f c k v s in
      let one = m c k v s hg hn (low k (omega arith) (omega arith)) fit in
      let d1 : Did w b s s1 = record { ran = ran_up (omega arith) one.0.ran; first = first_part p one.0.first } in
      let rest = over_first f g b c v w m hb hg hn p asks n (k + 1) (λ j x y. low j (omega arith) (omega arith)) s1 (fit_kept w b s s1 fit d1) in
      record {
        did = did_trans w b s s1 (over n (λ j t. f c j v t) (k + 1) s1) fit d1 rest.did;
        has = λ j x y o. ⊎_elim (λ (h : k < j). rest.has j (omega arith) (omega arith) o)
            (λ (h : j ≤ k). let e : k ≡ j = omega arith in
            order_held rest.did.ran.order ((node_at ns c).first + j)
            (subst (λ (x : ℕ). Has s1 c x) e (one.1 (subst (λ (x : ℕ). CellOf 1 ns nodes c x) (sym e) o) asks))) (side k j);
      }

  -- a direction that is asked for, or none
  demands_first : (f : ℕ → ℕ → Want → St S → St S) (g b c : ℕ) (v w : Want) → Meets g f → c < b → c < g → c < nodes → (v.fi || v.fo) ≡ true
      → (t : Bool) → (t ≡ true → Part v w) → (sp : Span) → sp.to ≤ con_len (node_at ns c) → (s : St S) → Fit s
      → Ranged w b c (cond t sp no_span).from (cond t sp no_span).to s (demands_of put f c (cond t sp no_span) v s)
  unfolding demands_of over
  demands_first f g b c v w m hb hg hn asks false p sp low s fit = record { did = did_refl w b s; has = λ j x y o. absurd (omega arith) }
  demands_first f g b c v w m hb hg hn asks true p sp low s fit =
      let r = over_first f g b c v w m hb hg hn (p refl) asks (sp.to - sp.from) sp.from (λ j x y. omega arith) s fit in
      record { did = r.did; has = λ j x y o. r.has j x (omega arith) o }

  -- what a demand w of output i of the unit k asks for is met in t
  record Asks (w : Want) (k i : ℕ) (s t : St S) : Type 0 where
    did : Did w k s t
    has : (c j : ℕ) → Asked ns k i w c j → CellOf 1 ns nodes c j → Has t c j

  -- step 3
  walk_first : (f : ℕ → ℕ → Want → St S → St S) (g : ℕ) → Meets g f → (k i : ℕ) → CellOf 1 ns nodes k i → k ≤ g → (w : Want) (s : St S) → Fit s
      → Asks w k i s (walk_of put f (ranges_of (node_at ns k) (con_len (node_at ns (node_at ns k).left)) (con_len (node_at ns (node_at ns k).right)) w i) s)
  unfolding walk_of ranges_of
  walk_first f g m k i cell hg w s fit =
      record {
        did = did_trans w k s s3 s4 fit (did_trans w k s s2 s3 fit (did_trans w k s s1 s2 fit r1.did r2.did) r3.did) r4.did;
        has = has;
      }
    where
      n : Node
      n = node_at ns k

      a : ℕ
      a = con_len (node_at ns n.left)

      b : ℕ
      b = con_len (node_at ns n.right)

      l : n.left < k
      l = lay.falling.left k cell.below (inl cell.is)

      r : n.right < k
      r = lay.falling.right k cell.below (inl cell.is)

      fi : w.fi ≡ true → Part just_if w
      fi e = record { fi = λ x. e; fo = λ x. let z : ◌≡◌ {A = ℕ} 0 1 = cc in absurd (omega arith) }

      fo : w.fo ≡ true → Part just_only w
      fo e = record { fi = λ x. (let z : ◌≡◌ {A = ℕ} 0 1 = cc in absurd (omega arith)); fo = λ x. e }

      s1 : St S
      s1 = demands_of put f n.left (cond w.fi (if_span a b i) no_span) just_if s

      s2 : St S
      s2 = demands_of put f n.right (cond w.fi (if_span b a i) no_span) just_if s1

      s3 : St S
      s3 = demands_of put f n.left (cond w.fo (only_span a b i) no_span) just_only s2

      s4 : St S
      s4 = demands_of put f n.right (cond w.fo (only_span b a i) no_span) just_only s3

      r1 : Ranged w k n.left (cond w.fi (if_span a b i) no_span).from (cond w.fi (if_span a b i) no_span).to s s1
      r1 = demands_first f g k n.left just_if w m l (omega (arith, l)) (omega (arith, l, cell.below)) refl w.fi fi (if_span a b i) (if_to a b i) s fit

      f1 : Fit s1
      f1 = fit_kept w k s s1 fit r1.did

      r2 : Ranged w k n.right (cond w.fi (if_span b a i) no_span).from (cond w.fi (if_span b a i) no_span).to s1 s2
      r2 = demands_first f g k n.right just_if w m r (omega (arith, r)) (omega (arith, r, cell.below)) refl w.fi fi (if_span b a i) (if_to b a i) s1 f1

      f2 : Fit s2
      f2 = fit_kept w k s1 s2 f1 r2.did

      r3 : Ranged w k n.left (cond w.fo (only_span a b i) no_span).from (cond w.fo (only_span a b i) no_span).to s2 s3
      r3 = demands_first f g k n.left just_only w m l (omega (arith, l)) (omega (arith, l, cell.below)) refl w.fo fo (only_span a b i) (only_to a b i) s2 f2

      f3 : Fit s3
      f3 = fit_kept w k s2 s3 f2 r3.did

      r4 : Ranged w k n.right (cond w.fo (only_span b a i) no_span).from (cond w.fo (only_span b a i) no_span).to s3 s4
      r4 = demands_first f g k n.right just_only w m r (omega (arith, r)) (omega (arith, r, cell.below)) refl w.fo fo (only_span b a i) (only_to b a i) s3 f3

      -- an output in a range that is asked for
      in_range : {x : ℕ} {t t' : St S} (q : Bool) (sp : Span) → q ≡ true → Ranged w k x (cond q sp no_span).from (cond q sp no_span).to t t' → (c j : ℕ) → c ≡ x → sp.from ≤ j → j < sp.to → CellOf 1 ns nodes c j → Has t' c j
      in_range {x} {t} {t'} q sp e d c j ec lo hi o =
          subst (λ (y : ℕ). Has t' y j) (sym ec)
          (d.has j (subst (λ (z : Bool). (cond z sp no_span).from ≤ j) (sym e) lo) (subst (λ (z : Bool). j < (cond z sp no_span).to) (sym e) hi) (subst (λ (y : ℕ). CellOf 1 ns nodes y j) ec o))

      has : (c j : ℕ) → Asked ns k i w c j → CellOf 1 ns nodes c j → Has s4 c j
      has c j (asked_left_if e ec lo hi) o =
          order_held r4.did.ran.order _ (order_held r3.did.ran.order _ (order_held r2.did.ran.order ((node_at ns c).first + j) (in_range w.fi (if_span a b i) e r1 c j ec lo hi o)))
      has c j (asked_right_if e ec lo hi) o =
          order_held r4.did.ran.order _ (order_held r3.did.ran.order ((node_at ns c).first + j) (in_range w.fi (if_span b a i) e r2 c j ec lo hi o))
      has c j (asked_left_only e ec lo hi) o = order_held r4.did.ran.order ((node_at ns c).first + j) (in_range w.fo (only_span a b i) e r3 c j ec lo hi o)
      has c j (asked_right_only e ec lo hi) o = in_range w.fo (only_span b a i) e r4 c j ec lo hi o

  -- step 2: the other child is a dummy, which has no outputs; only output i of d is asked for
  pass_first : (f : ℕ → ℕ → Want → St S → St S) (g : ℕ) → Meets g f → (k i d : ℕ) → CellOf 1 ns nodes k i → k ≤ g → d < k → i < con_len (node_at ns d) → (w : Want) → (w.fi || w.fo) ≡ true
      → ((c j : ℕ) → Asked ns k i w c j → CellOf 1 ns nodes c j → (c ≡ d) × (j ≡ i)) → (s : St S) → Fit s → Asks w k i s (f d i w s)
  pass_first f g m k i d cell hg low o w asks only s fit =
      let one = m d i w s (omega arith) (omega (arith, cell.below)) o fit in
      record {
        did = record { ran = ran_up (omega arith) one.0.ran; first = one.0.first };
        has = λ c j a q. let e = only c j a q in
            subst (λ (y : ℕ). Has (f d i w s) y j) (sym e.0)
            (subst (λ (y : ℕ). Has (f d i w s) d y) (sym e.1) (one.1 (subst (λ (y : ℕ). CellOf 1 ns nodes d y) e.1 (subst (λ (y : ℕ). CellOf 1 ns nodes y j) e.0 q)) asks));
      }

  dummy_none : {G : Type 0} (c j d : ℕ) → (node_at ns d).kind ≡ 3 → c ≡ d → CellOf 1 ns nodes c j → G
  dummy_none c j d dummy e o = absurd (let q = ap (λ (y : ℕ). (node_at ns y).kind) e in omega (arith, q, o.is))

  only_left : (k i : ℕ) (w : Want) → (node_at ns (node_at ns k).right).kind ≡ 3 → (c j : ℕ) → Asked ns k i w c j → CellOf 1 ns nodes c j → (c ≡ (node_at ns k).left) × (j ≡ i)
  unfolding if_span only_span
  only_left k i w dummy c j (asked_left_if e ec lo hi) o = (ec, omega (arith, dummy_outputs (node_at ns (node_at ns k).right) dummy))
  only_left k i w dummy c j (asked_right_if e ec lo hi) o = dummy_none c j (node_at ns k).right dummy ec o
  only_left k i w dummy c j (asked_left_only e ec lo hi) o = (ec, omega (arith, dummy_outputs (node_at ns (node_at ns k).right) dummy))
  only_left k i w dummy c j (asked_right_only e ec lo hi) o = dummy_none c j (node_at ns k).right dummy ec o

  only_right : (k i : ℕ) (w : Want) → (node_at ns (node_at ns k).left).kind ≡ 3 → (c j : ℕ) → Asked ns k i w c j → CellOf 1 ns nodes c j → (c ≡ (node_at ns k).right) × (j ≡ i)
  unfolding if_span only_span
  only_right k i w dummy c j (asked_left_if e ec lo hi) o = dummy_none c j (node_at ns k).left dummy ec o
  only_right k i w dummy c j (asked_right_if e ec lo hi) o = (ec, omega (arith, dummy_outputs (node_at ns (node_at ns k).left) dummy))
  only_right k i w dummy c j (asked_left_only e ec lo hi) o = dummy_none c j (node_at ns k).left dummy ec o
  only_right k i w dummy c j (asked_right_only e ec lo hi) o = (ec, omega (arith, dummy_outputs (node_at ns (node_at ns k).left) dummy))

  -- a cell is one node's
  same_node : (k i b e : ℕ) → CellOf 1 ns nodes k i → CellOf 1 ns nodes b e → (node_at ns b).first + e ≡ (node_at ns k).first + i → k ≡ b
  same_node k i b e c d q =
      ⊎_elim (λ (h : k < b). absurd (omega (arith, lay.apart k b h d.below (inl c.is) (inl d.is), c.out)))
      (λ (h : b ≤ k). ⊎_elim (λ (g : b < k). absurd (omega (arith, lay.apart b k g c.below (inl d.is) (inl c.is), d.out))) (λ (g : k ≤ b). (let z : k ≡ b = omega arith in z)) (side b k))
      (side k b)

  -- step 4: the output takes its literal when what it asks for has theirs
  finish_first : (k i : ℕ) → CellOf 1 ns nodes k i → (w : Want) → (w.fi || w.fo) ≡ true → (s t : St S) → Fit s → Asks w k i s t
      → ChildrenFirst ns nodes w s.lits (taken_lits t.lits ((node_at ns k).first + i) t.next)
  finish_first k i cell w asks s t fit a = first_trans fit.good.some a.did.ran.order one a.did.first own
    where
      at : ℕ
      at = (node_at ns k).first + i

      one : InOrder t.lits t.next (taken_lits t.lits at t.next) (taken_next t.lits at t.next)
      one = order_one t.lits at t.next

      mine : (u : ℕ) → AfterChildren ns nodes w t.lits (taken_lits t.lits at t.next) k i u
      mine u =
          record {
            part = w;
            within = record { fi = λ e. e; fo = λ e. e };
            asks = asks;
            before = λ c j x o. (let y = a.has c j x o in record { some = order_held one ((node_at ns c).first + j) y; lower = λ z. not_zero (cell_lit t.lits ((node_at ns c).first + j)) z y });
          }

      own : ChildrenFirst ns nodes w t.lits (taken_lits t.lits at t.next)
      own b e d z u h x = go (ℕ_discrete ((node_at ns b).first + e) at)
        where
          go : Dec ((node_at ns b).first + e ≡ at) → AfterChildren ns nodes w t.lits (taken_lits t.lits at t.next) b e u
          go (yes q) =
              let p : k ≡ b = same_node k i b e cell d q in
              let f = ap (λ (y : ℕ). (node_at ns y).first) p in
              let r : i ≡ e = omega (arith, q, f) in
              subst (λ (y : ℕ). AfterChildren ns nodes w t.lits (taken_lits t.lits at t.next) y e u) p
              (subst (λ (y : ℕ). AfterChildren ns nodes w t.lits (taken_lits t.lits at t.next) k y u) r (mine u))
          go (no q) = absurd (let y : 0 ≡ u = same_var 0 u (sym z ∙ sym (take_else t.lits at t.next ((node_at ns b).first + e) q) ∙ x) in omega arith)

  -- a unit's plan, carried out
  unit_first : (f : ℕ → ℕ → Want → St S → St S) (g : ℕ) → Meets g f → (k i : ℕ) → CellOf 1 ns nodes k i → k ≤ g → (w : Want) (s : St S) → Fit s
      → ChildrenFirst ns nodes w s.lits
      (step_of put f ns ins k i (plan_unit (node_at ns k) (node_at ns (node_at ns k).left) (node_at ns (node_at ns k).right) i (missing_of (get_or s.marks ((node_at ns k).first + i) 0) w)) s).lits
  unfolding step_of plan_unit plan_two finish_of
  unit_first f g m k i c hg w s fit = first_part (missing_part (get_or s.marks ((node_at ns k).first + i) 0) w) (go t.want.fi refl t.want.fo refl)
    where
      n : Node
      n = node_at ns k

      l : Node
      l = node_at ns n.left

      r : Node
      r = node_at ns n.right

      t : Todo
      t = missing_of (get_or s.marks (n.first + i) 0) w

      two : Bool → Bool → Precond
      two dl dr = cond dl (Pass n.right t) (cond dr (Pass n.left t) (Continue (ranges_of n (con_len l) (con_len r) t.want i) t))

      plans : (t.want.fi || t.want.fo) ≡ true → (dl : Bool) → is_dummy l ≡ dl → (dr : Bool) → is_dummy r ≡ dr → ChildrenFirst ns nodes t.want s.lits (step_of put f ns ins k i (two dl dr) s).lits
      plans asks true el dr er =
          finish_first k i c t.want asks s (f n.right i t.want s) fit
          (pass_first f g m k i n.right c hg (lay.falling.right k c.below (inl c.is)) (omega (arith, c.out, lay.falling.sum k c.below c.is, dummy_outputs l (eqb-true _ _ el))) t.want asks
          (only_right k i t.want (eqb-true _ _ el)) s fit)
      plans asks false el true er =
          finish_first k i c t.want asks s (f n.left i t.want s) fit
          (pass_first f g m k i n.left c hg (lay.falling.left k c.below (inl c.is)) (omega (arith, c.out, lay.falling.sum k c.below c.is, dummy_outputs r (eqb-true _ _ er))) t.want asks
          (only_left k i t.want (eqb-true _ _ er)) s fit)
      plans asks false el false er =
          finish_first k i c t.want asks s (walk_of put f (ranges_of n (con_len l) (con_len r) t.want i) s) fit (walk_first f g m k i c hg t.want s fit)

      go : (a : Bool) → t.want.fi ≡ a → (b : Bool) → t.want.fo ≡ b
          → ChildrenFirst ns nodes t.want s.lits (step_of put f ns ins k i (cond a (two (is_dummy l) (is_dummy r)) (cond b (two (is_dummy l) (is_dummy r)) Return)) s).lits
      go true ea b eb = plans (ap (λ (x : Bool). x || t.want.fo) ea) (is_dummy l) refl (is_dummy r) refl
      go false ea true eb = plans (ap (λ (x : Bool). x || t.want.fo) ea ∙ eb) (is_dummy l) refl (is_dummy r) refl
      go false ea false eb = first_refl ns nodes t.want s.lits

  meets : (g : ℕ) → ((k i : ℕ) (w : Want) (s : St S) → k < g → k < nodes → i < con_len (node_at ns k) → Fit s → ChildrenFirst ns nodes w s.lits (define put g ns ins k i w s).lits) → Meets g (define put g ns ins)
  meets zero rec k i w s h hn o fit = absurd (omega arith)
  meets (suc f) rec k i w s h hn o fit = (
    record { ran = define_ran ns nodes nc lay put ins (suc f) k i w s hn o fit.good; first = rec k i w s h hn o fit },
    λ c asks. unit_lit put ns ins nodes nc lay s fit.good f k i w c asks (λ z. fit.bare ((node_at ns k).first + i) z),
  )

  -- THE LAW of the unweighted run
  pub define_first : (g k i : ℕ) (w : Want) (s : St S) → k < g → k < nodes → i < con_len (node_at ns k) → Fit s → ChildrenFirst ns nodes w s.lits (define put g ns ins k i w s).lits
  unfolding define plan_of step_of
  define_first zero k i w s h hn o fit = absurd (omega arith)
  define_first (suc g) k i w s h hn o fit = go (meets g (define_first g)) (is_unit (node_at ns k)) refl
    where
      go : Meets g (define put g ns ins) → (u : Bool) → is_unit (node_at ns k) ≡ u
          → ChildrenFirst ns nodes w s.lits
          (step_of put (define put g ns ins) ns ins k i (cond u (plan_unit (node_at ns k) (node_at ns (node_at ns k).left) (node_at ns (node_at ns k).right) i (missing_of (get_or s.marks ((node_at ns k).first + i) 0) w)) Return) s).lits
      go m true e =
          let c : CellOf 1 ns nodes k i = record { below = hn; is = eqb-true _ _ e; out = omega (arith, unit_outputs (node_at ns k) (eqb-true _ _ e)) } in
          unit_first (define put g ns ins) g m k i c (omega arith) w s fit
      go m false e = first_refl ns nodes w s.lits
