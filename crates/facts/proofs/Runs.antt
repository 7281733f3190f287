-- Laws of the demands: what a done demand does to the rows, that it answers a literal, and that a demand that is already met does nothing.
-- Assumes nothing.
use Rattle.paper.specs.Answers.{gives}
use Rattle.paper.specs.declared.Refusal.{Refusal}
use Prim.Native.Nat.{ℕ, zero, suc, ◌+◌, ◌-◌, ◌<◌, ◌≤◌}
use mathlib.Core.List.{List, ◌++◌, append_assoc}
use Rattle.std.specs.Prelude.{Bool, true, false, cond, not, ◌&&◌, ◌||◌, ◌≡◌, refl, length, get_or, take, drop, set, eqb, negsuc, nat_abs}
use Rattle.std.proofs.Common.{sym, subst, ◌∙◌, inl, inr, ⊎_elim, add-zero, add-one, take-append-drop, length-take-le, get_or-take, get_or-drop, get_or-append-add, get_or-set_same, take_at, drop_at, eqb-true, ltb-true, eq-eqb, ne_eqb, Err, None, Option, Result, Some, Ok}
use Rattle.std.proofs.Math.Path.{ap}
use native.Mathlib.Omega.{arith}
use Rattle.std.proofs.Math.ListN.{get_or-append}
use Rattle.std.proofs.lemmas.List.Edits.{sets, sets-eq}
use Rattle.std.proofs.Math.Seq.{length_front, take-append_seam}
use Rattle.std.proofs.Math.IntN.{ℤ, pos}
use Rattle.std.proofs.lemmas.Bool.{eqb-false}
use Rattle.paper.specs.Below.{side}
use Rattle.paper.specs.Rows.{node_at, is_leaf, is_unit, is_general, is_zero, value_count, con_len, con_lits}
use Rattle.paper.specs.Plain.{just_if, want_of, mark_of, has_if, has_only, missing_of, plan_unit, plan_of, lit_at, St, finish_of, step_of, define, grow, start, plain_run}
use Rattle.paper.specs.Weighted.{place_of, job_of, take_lit_at, mark_at, do_of, weigh, weigh_run}
use Rattle.paper.specs.Table.{table_ok}
use Rattle.paper.specs.Demand.{nodes_used, inputs_used, cells_used, cells_back, ran_counters, count_run, count_of, sum_place, is_at, index_of, sum_run, sum_of, demanded_lits, demanded_marks, demanded_clauses}
use Rattle.paper.specs.Numbers.{demanded_said}
use Rattle.paper.specs.Calls.{Db, Work, unweighted_call, weighted_call}
use Rattle.paper.specs.declared.Node.{Node}
use Rattle.paper.specs.declared.Want.{Want}
use Rattle.paper.specs.declared.Semantics.{Semantics}
use Rattle.paper.specs.declared.Semantics.TheVariants.{If, OnlyIf, IfAndOnlyIf}
use Rattle.paper.specs.declared.Clause.{Clause}
use Rattle.paper.specs.declared.Precond.TheVariants.{Return}
use Rattle.paper.specs.declared.Job.TheVariants.{Nothing, Count, Sum}
use Rattle.paper.specs.declared.Counters.{Counters}
use Rattle.paper.specs.declared.Demanded.{Demanded}
use Rattle.facts.specs.Facts.{NodeFactsAt, a_leaf, a_dummy, a_unit, a_general, TableFacts}
use Rattle.facts.proofs.Facts.{table_facts, leaf_low, node_under, dummy_outputs, unit_outputs, general_outputs, leaf_outputs, node_used, used_at}
use Rattle.facts.specs.Carry.{moved}
use Rattle.facts.specs.Taken.{cell_lit, InOrder}
use Rattle.facts.proofs.Taken.{zero_or, var_some, take_none, take_held, order_size, order_keep, order_held, order_behind}
use Rattle.facts.specs.Rel.{CellOf, Stepped, idle, finished, Summed, marked, summed}
use Rattle.facts.proofs.Rel.{unit_place, output_place}
use Rattle.facts.specs.Ran.{Laid, Inner, same, Ran, Good, RanFrom}
use Rattle.facts.proofs.Ran.{good_kept, good_taken, define_step, sum_step, asked_if, asked_only}
use Rattle.facts.proofs.Demands.{used, used_laid, used_good, count_ran, sum_ran, count_done, sum_done, roomy}
use Rattle.facts.specs.Runs.{UnitLast, SumFirst, Met}

-- ---- the whole rows: the part in use after the run, with what lay past it

pub back_low : {A : Type 0} (new old : List A) (n j : ℕ) (d : A) → length new ≡ n → j < n → get_or (new ++ drop n old) j d ≡ get_or new j d
back_low new old n j d e h = get_or-append new (drop n old) d j (omega arith)

back_high : {A : Type 0} (new old : List A) (n j : ℕ) (d : A) → length new ≡ n → n ≤ j → get_or (new ++ drop n old) j d ≡ get_or old j d
back_high new old n j d e h =
    let q : j ≡ length new + (j - n) = omega arith in
    let p : n + (j - n) ≡ j = omega arith in
    ap (λ (k : ℕ). get_or (new ++ drop n old) k d) q ∙ get_or-append-add new (drop n old) (j - n) d ∙ get_or-drop n old (j - n) d ∙ ap (λ (k : ℕ). get_or old k d) p

-- literals taken in the part in use, seen in the whole row
pub order_back : (l p : List ℤ) (n n' cells : ℕ) → InOrder (take cells l) n p n' → InOrder l n (p ++ drop cells l) n'
order_back l p n n' cells o = subst (λ (x : List ℤ). InOrder x n (p ++ drop cells l) n') (take-append-drop cells l) (order_behind (drop cells l) o)

pub ran_back : (ns : List ℕ) (nodes b : ℕ) (l p : List ℤ) (m q : List ℕ) (n n' cells : ℕ) → cells ≤ length l → cells ≤ length m → Laid ns nodes cells
    → Ran ns nodes b (take cells l) (take cells m) n p q n' → Ran ns nodes b l m n (p ++ drop cells l) (q ++ drop cells m) n'
ran_back ns nodes b l p m q n n' cells rl rm lay r =
    record {
      order = order_back l p n n' cells r.order;
      lit_far = λ k i h g o z. let w = lay.within k g o in
          back_low p l cells ((node_at ns k).first + i) (pos 0) sizel (omega arith) ∙ r.lit_far k i h g o z ∙ get_or-take cells l ((node_at ns k).first + i) (pos 0) (omega arith);
      size = length_front m q cells r.size;
      mark = λ j. ⊎_elim
          (λ (h : j < cells). rw (lo j h, back_low p l cells j (pos 0) sizel h, ← was j h) (r.mark j))
          (λ (h : cells ≤ j). same (hi j h)) (side j cells);
      far = λ k i h g o z. let w = lay.within k g o in lo ((node_at ns k).first + i) (omega arith) ∙ r.far k i h g o z ∙ was ((node_at ns k).first + i) (omega arith);
      if_kept = λ j h. ⊎_elim
          (λ (g : j < cells). ap (λ (x : ℕ). has_if (mark_of x)) (lo j g) ∙ r.if_kept j (ap (λ (x : ℕ). has_if (mark_of x)) (was j g) ∙ h))
          (λ (g : cells ≤ j). ap (λ (x : ℕ). has_if (mark_of x)) (hi j g) ∙ h) (side j cells);
      only_kept = λ j h. ⊎_elim
          (λ (g : j < cells). ap (λ (x : ℕ). has_only (mark_of x)) (lo j g) ∙ r.only_kept j (ap (λ (x : ℕ). has_only (mark_of x)) (was j g) ∙ h))
          (λ (g : cells ≤ j). ap (λ (x : ℕ). has_only (mark_of x)) (hi j g) ∙ h) (side j cells);
    }
  where
    sizel : length p ≡ cells
    sizel = order_size r.order ∙ length-take-le cells l rl

    size : length q ≡ cells
    size = r.size ∙ length-take-le cells m rm

    lo : (j : ℕ) → j < cells → get_or (q ++ drop cells m) j 0 ≡ get_or q j 0
    lo j h = back_low q m cells j 0 size h

    hi : (j : ℕ) → cells ≤ j → get_or (q ++ drop cells m) j 0 ≡ get_or m j 0
    hi j h = back_high q m cells j 0 size h

    was : (j : ℕ) → j < cells → get_or (take cells m) j 0 ≡ get_or m j 0
    was j h = get_or-take cells m j 0 h

-- the clause row: the words are appended, and what stood before them stays
pub appended_words : (l : List ℤ) (i : ℕ) (vs : List ℤ) → i + length vs ≤ length l → take (length vs) (drop i (sets l i vs)) ≡ vs
appended_words l i vs h =
    ap (λ (x : List ℤ). take (length vs) (drop i x)) (sets-eq vs l i h ∙ append_assoc (take i l) vs (drop (i + length vs) l))
    ∙ ap (take (length vs)) (drop_at (take i l) (vs ++ drop (i + length vs) l) i (length-take-le i l (omega arith)))
    ∙ take-append_seam vs (drop (i + length vs) l)

pub kept_words : (l : List ℤ) (i : ℕ) (vs : List ℤ) → i + length vs ≤ length l → take i (sets l i vs) ≡ take i l
kept_words l i vs h =
    ap (take i) (sets-eq vs l i h ∙ append_assoc (take i l) vs (drop (i + length vs) l))
    ∙ take_at (take i l) (vs ++ drop (i + length vs) l) i (length-take-le i l (omega arith))

lacks : (a b : Bool) → (a ≡ true → b ≡ true) → (a && not b) ≡ false
lacks true b h = rw (h refl)
lacks false b h = refl

has : (a b : Bool) → (a && not b) ≡ false → a ≡ true → b ≡ true
has a true e h = refl
has a false e h = absurd (let z : true ≡ false = sym (rw (h)) ∙ e in let y : ◌≡◌ {A = ℕ} 0 1 = cc in omega arith)

-- nothing is missing where all is there, and only there
pub none_missing : (m : ℕ) (w : Want) → Met m w → ((missing_of m w).want.fi ≡ false) × ((missing_of m w).want.fo ≡ false)
unfolding missing_of
none_missing m w h = (lacks w.fi (has_if (mark_of m)) h.fi, lacks w.fo (has_only (mark_of m)) h.fo)

pub all_there : (m : ℕ) (w : Want) → (missing_of m w).want.fi ≡ false → (missing_of m w).want.fo ≡ false → Met m w
unfolding missing_of
all_there m w a b = record { fi = has w.fi (has_if (mark_of m)) a; fo = has w.fo (has_only (mark_of m)) b }

-- "None missing: answer the literal, do nothing."
pub define_met : {S : Type 0} (put : S → Clause → S) (ns : List ℕ) (ins : List ℤ) (f k i : ℕ) (w : Want) (s : St S)
    → ((node_at ns k).kind ≡ 1 → Met (get_or s.marks ((node_at ns k).first + i) 0) w) → define put f ns ins k i w s ≡ s
unfolding define plan_of plan_unit step_of
define_met put ns ins zero k i w s h = refl
define_met put ns ins (suc f) k i w s h = go (is_unit (node_at ns k)) refl
  where
    m : ℕ
    m = get_or s.marks ((node_at ns k).first + i) 0

    go : (u : Bool) → is_unit (node_at ns k) ≡ u
        → step_of put (define put f ns ins) ns ins k i (cond u (plan_unit (node_at ns k) (node_at ns (node_at ns k).left) (node_at ns (node_at ns k).right) i (missing_of m w)) Return) s ≡ s
    go true e = let q = none_missing m w (h (eqb-true _ _ e)) in rw (q.0, q.1)
    go false e = refl

-- a general node's cell that is marked; a unit's that has If
pub weigh_met : {S : Type 0} (put : S → Clause → S) (ns : List ℕ) (ins : List ℤ) (keys : List ℕ) (f k y : ℕ) (s : St S)
    → ((node_at ns k).kind ≡ 1 → Met (get_or s.marks ((node_at ns k).first + (y - 1)) 0) just_if)
    → ((node_at ns k).kind ≡ 2 → get_or s.marks ((node_at ns k).first + (y - 1)) 0 ≡ 0 → ⊥)
    → weigh put f ns ins keys k y s ≡ s
unfolding weigh do_of job_of
weigh_met put ns ins keys zero k y s hu hg = refl
weigh_met put ns ins keys (suc f) k y s hu hg = go (eqb y 0) (is_unit (node_at ns k)) refl (is_general (node_at ns k)) refl (eqb (get_or s.marks at 0) 0) refl
  where
    at : ℕ
    at = (node_at ns k).first + (y - 1)

    go : (z : Bool) (u : Bool) → is_unit (node_at ns k) ≡ u → (g : Bool) → is_general (node_at ns k) ≡ g → (e : Bool) → eqb (get_or s.marks at 0) 0 ≡ e
        → do_of put (weigh put f ns ins keys) (define put (suc f) ns ins) ns ins keys k (cond z Nothing (cond u (Count (y - 1)) (cond g (cond e (Sum at (get_or keys at 0)) Nothing) Nothing))) s ≡ s
    go true u eu g eg e ee = refl
    go false true eu g eg e ee = define_met put ns ins (suc f) k (y - 1) just_if s hu
    go false false eu false eg e ee = refl
    go false false eu true eg false ee = refl
    go false false eu true eg true ee = absurd (hg (eqb-true _ _ eg) (eqb-true _ _ ee))

-- ---- after a demand the cell has a literal and the marks that were asked for

pub want_asks : (m : Semantics) → ((want_of m).fi || (want_of m).fo) ≡ true
unfolding want_of
want_asks If = refl
want_asks OnlyIf = refl
want_asks IfAndOnlyIf = refl

-- an unmarked cell does not meet a demand that asks for something
unmet : (m : ℕ) (w : Want) → m ≡ 0 → (w.fi || w.fo) ≡ true → Met m w → ⊥
unfolding has_if has_only mark_of
unmet m w e a h = go w.fi w.fo a (λ q. sym (ap (λ (k : ℕ). has_if (mark_of k)) e) ∙ h.fi q) (λ q. sym (ap (λ (k : ℕ). has_only (mark_of k)) e) ∙ h.fo q)
  where
    wrong : false ≡ true → ⊥
    wrong z = let y : ◌≡◌ {A = ℕ} 0 1 = cc in omega arith

    go : (x y : Bool) → (x || y) ≡ true → (x ≡ true → false ≡ true) → (y ≡ true → false ≡ true) → ⊥
    go true y q f g = wrong (f refl)
    go false true q f g = wrong (g refl)
    go false false q f g = wrong q

module _ {S : Type 0} (put : S → Clause → S) (ns : List ℕ) (ins : List ℤ) (nodes nc : ℕ) (lay : Laid ns nodes nc) (s : St S) (good : Good nc s) where
  pub unit_lit : (f k i : ℕ) (w : Want) → CellOf 1 ns nodes k i → (w.fi || w.fo) ≡ true
      → (cell_lit s.lits ((node_at ns k).first + i) ≡ pos 0 → get_or s.marks ((node_at ns k).first + i) 0 ≡ 0)
      → is_zero (cell_lit (define put (suc f) ns ins k i w s).lits ((node_at ns k).first + i)) ≡ false
  unfolding finish_of
  unit_lit f k i w c asks held = go (define_step ns nodes nc lay put ins f k i w s c)
    where
      at : ℕ
      at = (node_at ns k).first + i

      go : Stepped put ns ins (RanFrom ns nodes nc) k i w s (define put (suc f) ns ins k i w s) → is_zero (cell_lit (define put (suc f) ns ins k i w s).lits at) ≡ false
      go (idle a b e) =
          ap (λ (u : St S). is_zero (cell_lit u.lits at)) e
          ∙ ⊎_elim (λ (z : cell_lit s.lits at ≡ pos 0). absurd (unmet (get_or s.marks at 0) w (held z) asks (all_there (get_or s.marks at 0) w a b))) (λ (h : is_zero (cell_lit s.lits at) ≡ false). h) (zero_or (cell_lit s.lits at))
      go (finished t r e) =
          let g = good_kept ns nodes nc k s t good (r good) in
          ap (λ (u : St S). is_zero (cell_lit u.lits at)) e
          ∙ take_held t.lits at t.next g.some (omega (arith, lay.within k c.below (inl c.is), c.out, g.lit_row))

  -- a unit's output takes its literal after its children: where it had none, it has the last one that the run takes
  pub unit_last : UnitLast put ns ins nodes s
  unfolding finish_of
  unit_last f k i w c asks none bare = go (define_step ns nodes nc lay put ins f k i w s c)
    where
      at : ℕ
      at = (node_at ns k).first + i

      go : Stepped put ns ins (RanFrom ns nodes nc) k i w s (define put (suc f) ns ins k i w s)
          → (v : ℕ) × (cell_lit (define put (suc f) ns ins k i w s).lits at ≡ pos v) × ((define put (suc f) ns ins k i w s).next ≡ v + 1)
      go (idle a b e) = absurd (unmet (get_or s.marks at 0) w bare asks (all_there (get_or s.marks at 0) w a b))
      go (finished t r e) =
          let g = good_kept ns nodes nc k s t good (r good) in
          let q = take_none t.lits at t.next (omega (arith, lay.within k c.below (inl c.is), c.out, g.lit_row)) ((r good).lit_far k i (omega arith) c.below (inl c.is) c.out ∙ none) in
          (t.next, ap (λ (u : St S). cell_lit u.lits at) e ∙ q.0, ap (λ (u : St S). u.next) e ∙ q.1)

  pub unit_met : (f k i : ℕ) (w : Want) → CellOf 1 ns nodes k i → Met (get_or (define put (suc f) ns ins k i w s).marks ((node_at ns k).first + i) 0) w
  unfolding finish_of
  unit_met f k i w c = go (define_step ns nodes nc lay put ins f k i w s c)
    where
      at : ℕ
      at = (node_at ns k).first + i

      go : Stepped put ns ins (RanFrom ns nodes nc) k i w s (define put (suc f) ns ins k i w s) → Met (get_or (define put (suc f) ns ins k i w s).marks at 0) w
      go (idle a b e) = subst (λ (u : St S). Met (get_or u.marks at 0) w) (sym e) (all_there (get_or s.marks at 0) w a b)
      go (finished t r e) =
          let g = good_kept ns nodes nc k s t good (r good) in
          let m = get_or s.marks at 0 in
          let q : get_or (set t.marks at (missing_of m w).mark) at 0 ≡ (missing_of m w).mark = get_or-set_same t.marks at (missing_of m w).mark 0 (omega (arith, lay.within k c.below (inl c.is), c.out, g.mark_row)) in
          subst (λ (u : St S). Met (get_or u.marks at 0) w) (sym e)
          (subst (λ (x : ℕ). Met x w) (sym q) (record { fi = asked_if m w; fo = asked_only m w }))

  pub sum_lit : (keys : List ℕ) (f k y : ℕ) → 1 ≤ y → CellOf 2 ns nodes k (y - 1)
      → (cell_lit s.lits ((node_at ns k).first + (y - 1)) ≡ pos 0 → get_or s.marks ((node_at ns k).first + (y - 1)) 0 ≡ 0)
      → is_zero (cell_lit (weigh put (suc f) ns ins keys k y s).lits ((node_at ns k).first + (y - 1))) ≡ false
  unfolding take_lit_at mark_at
  sum_lit keys f k y some c held = go (sum_step ns nodes nc lay put ins keys f k y s some c)
    where
      at : ℕ
      at = (node_at ns k).first + (y - 1)

      go : Summed put ns (RanFrom ns nodes nc) k (y - 1) s (weigh put (suc f) ns ins keys k y s) → is_zero (cell_lit (weigh put (suc f) ns ins keys k y s).lits at) ≡ false
      go (marked ne e) =
          ap (λ (u : St S). is_zero (cell_lit u.lits at)) e
          ∙ ⊎_elim (λ (z : cell_lit s.lits at ≡ pos 0). absurd (ne (held z))) (λ (h : is_zero (cell_lit s.lits at) ≡ false). h) (zero_or (cell_lit s.lits at))
      go (summed t z r e) =
          let room : at < length s.lits = omega (arith, lay.within k c.below (inr c.is), c.out, good.lit_row) in
          let one = take_held s.lits at s.next good.some room in
          ap (λ (u : St S). is_zero (cell_lit u.lits at)) e ∙ order_held (r (good_taken put nc at s good)).order at one

  -- a general node's output takes its literal before its children: where it had none, it has the first one that the run takes
  pub sum_first : SumFirst put ns ins nodes s
  unfolding take_lit_at mark_at
  sum_first keys f k y some c none bare = go (sum_step ns nodes nc lay put ins keys f k y s some c)
    where
      at : ℕ
      at = (node_at ns k).first + (y - 1)

      go : Summed put ns (RanFrom ns nodes nc) k (y - 1) s (weigh put (suc f) ns ins keys k y s) → cell_lit (weigh put (suc f) ns ins keys k y s).lits at ≡ pos s.next
      go (marked ne e) = absurd (ne bare)
      go (summed t z r e) =
          let q = (take_none s.lits at s.next (omega (arith, lay.within k c.below (inr c.is), c.out, good.lit_row)) none).0 in
          ap (λ (u : St S). cell_lit u.lits at) e ∙ order_keep (r (good_taken put nc at s good)).order at (ap is_zero q ∙ var_some s.next good.some) ∙ q

  -- .. so a demand at a place of an inner node ends with a literal there
  pub place_lit : (keys : List ℕ) (f k y : ℕ) → k < nodes → 1 ≤ y → y ≤ (node_at ns k).count → Inner (node_at ns k)
      → (cell_lit s.lits ((node_at ns k).first + (y - 1)) ≡ pos 0 → get_or s.marks ((node_at ns k).first + (y - 1)) 0 ≡ 0)
      → is_zero (cell_lit (weigh put (suc f) ns ins keys k y s).lits ((node_at ns k).first + (y - 1))) ≡ false
  place_lit keys f k y h some o (inl u) held =
      ap (λ (x : St S). is_zero (cell_lit x.lits ((node_at ns k).first + (y - 1)))) (unit_place put ns ins keys f k y s some u)
      ∙ unit_lit f k (y - 1) just_if (record { below = h; is = u; out = omega arith }) refl held
  place_lit keys f k y h some o (inr u) held = sum_lit keys f k y some (record { below = h; is = u; out = omega arith }) held

  -- and with a mark
  pub sum_marked : (keys : List ℕ) (f k y : ℕ) → 1 ≤ y → CellOf 2 ns nodes k (y - 1) → get_or (weigh put (suc f) ns ins keys k y s).marks ((node_at ns k).first + (y - 1)) 0 ≡ 0 → ⊥
  unfolding mark_at
  sum_marked keys f k y some c = go (sum_step ns nodes nc lay put ins keys f k y s some c)
    where
      at : ℕ
      at = (node_at ns k).first + (y - 1)

      go : Summed put ns (RanFrom ns nodes nc) k (y - 1) s (weigh put (suc f) ns ins keys k y s) → get_or (weigh put (suc f) ns ins keys k y s).marks at 0 ≡ 0 → ⊥
      go (marked ne e) q = ne (ap (λ (u : St S). get_or u.marks at 0) (sym e) ∙ q)
      go (summed t z r e) q =
          let g = good_taken put nc at s good in
          let h = good_kept ns nodes nc k (take_lit_at put at s) t g (r g) in
          let v : get_or (set t.marks at 1) at 0 ≡ 1 = get_or-set_same t.marks at 1 0 (omega (arith, lay.within k c.below (inr c.is), c.out, h.mark_row)) in
          let x : get_or (set t.marks at 1) at 0 ≡ 0 = ap (λ (u : St S). get_or u.marks at 0) (sym e) ∙ q in
          omega arith

-- ---- the answer is a literal

-- what a parent, or an answer, reads of a node: a cell's literal, or a leaf's input
pub con_lit : (ns : List ℕ) (ins l : List ℤ) (k i : ℕ) → is_leaf (node_at ns k) ≡ false → i < con_len (node_at ns k) → lit_at (con_lits ns ins l k) i ≡ cell_lit l ((node_at ns k).first + i)
unfolding con_lits
con_lit ns ins l k i h o = rw (h) (get_or-take (con_len (node_at ns k)) (drop (node_at ns k).first l) i (pos 0) o ∙ get_or-drop (node_at ns k).first l i (pos 0))

pub leaf_lit : (ns : List ℕ) (ins l : List ℤ) (k : ℕ) → is_leaf (node_at ns k) ≡ true → lit_at (con_lits ns ins l k) 0 ≡ get_or ins (node_at ns k).first (pos 0)
unfolding con_lits
leaf_lit ns ins l k h =
    rw (h) (get_or-take 1 (drop (node_at ns k).first ins) 0 (pos 0) (omega arith) ∙ get_or-drop (node_at ns k).first ins 0 (pos 0) ∙ ap (λ (x : ℕ). get_or ins x (pos 0)) (add-zero (node_at ns k).first))

pub lit_some : (x : ℤ) → 1 ≤ nat_abs x → is_zero x ≡ false
lit_some (pos zero) h = absurd (omega arith)
lit_some (pos (suc n)) h = refl
lit_some (negsuc n) h = refl

module _ (nodes : List ℕ) (inputs : List ℤ) (keys : List ℕ) (lits : List ℤ) (marks : List ℕ) (clauses : ℕ) (c : Counters)
    (ok : table_ok nodes inputs keys lits marks clauses c ≡ true) where
  abbrev ns : List ℕ
  ns = nodes_used nodes c

  abbrev ins : List ℤ
  ins = inputs_used inputs c

  abbrev begin : St (List ℤ)
  begin = start (cells_used lits c) (cells_used marks c) c.next

  facts : TableFacts (node_at ns) c.nodes ins (cells_used keys c) (cells_used lits c) (cells_used marks c) clauses c
  facts = used nodes inputs keys lits marks clauses c ok

  lay : Laid ns c.nodes c.cells
  lay = used_laid nodes inputs keys lits marks clauses c ok

  good : Good c.cells begin
  good = used_good nodes inputs keys lits marks clauses c ok

  -- a leaf's literal
  leaf_some : (id i : ℕ) (l : List ℤ) → id < c.nodes → (node_at ns id).kind ≡ 0 → i < con_len (node_at ns id) → is_zero (lit_at (con_lits ns ins l id) i) ≡ false
  leaf_some id i l h k o =
      let z : i ≡ 0 = omega (arith, leaf_outputs (node_at ns id) k) in
      let f = facts.input (node_at ns id).first (leaf_low facts id h k) in
      ap (λ (j : ℕ). is_zero (lit_at (con_lits ns ins l id) j)) z ∙ ap is_zero (leaf_lit ns ins l id (eq-eqb (node_at ns id).kind 0 k)) ∙ lit_some (get_or ins (node_at ns id).first (pos 0)) f.some

  -- a mark only where there is a literal
  held : (j : ℕ) → j < c.cells → cell_lit (cells_used lits c) j ≡ pos 0 → get_or (cells_used marks c) j 0 ≡ 0
  held j h e = (facts.cell j h).mark_held e

  -- the output of a run at place i + 1, node by node
  pub count_lit : (id i : ℕ) (w : Want) → id < c.nodes → i < con_len (node_at ns id) → is_general (node_at ns id) ≡ false → (w.fi || w.fo) ≡ true
      → is_zero (lit_at (con_lits ns ins (count_run nodes inputs lits marks c id i w).lits id) i) ≡ false
  unfolding plain_run
  count_lit id i w h o ng asks = rw (add-one id) (go (facts.node id h))
    where
      l : List ℤ
      l = (define grow (suc id) ns ins id i w begin).lits

      go : NodeFactsAt (node_at ns) (cells_used keys c) (cells_used marks c) c.cells id → is_zero (lit_at (con_lits ns ins l id) i) ≡ false
      go (a_leaf k f) = leaf_some id i l h k o
      go (a_dummy k f) = absurd (omega (arith, dummy_outputs (node_at ns id) k))
      go (a_general k f g) = absurd (eqb-false _ _ ng k)
      go (a_unit k f g) =
          let e = unit_outputs (node_at ns id) k in
          ap is_zero (con_lit ns ins l id i (ne_eqb (node_at ns id).kind 0 (λ q. omega arith)) o)
          ∙ unit_lit grow ns ins c.nodes c.cells lay begin good id id i w (record { below = h; is = k; out = omega arith }) asks (held ((node_at ns id).first + i) (omega (arith, f.within)))

  -- the new literal of the output itself: a unit's is the last one taken, a general node's the first
  pub count_last : (id i : ℕ) (w : Want) → id < c.nodes → (node_at ns id).kind ≡ 1 → i < con_len (node_at ns id) → (w.fi || w.fo) ≡ true
      → cell_lit (cells_used lits c) ((node_at ns id).first + i) ≡ pos 0
      → (v : ℕ) × (lit_at (con_lits ns ins (count_run nodes inputs lits marks c id i w).lits id) i ≡ pos v) × ((count_run nodes inputs lits marks c id i w).next ≡ v + 1)
  unfolding plain_run
  count_last id i w h k o asks none =
      rw (add-one id)
      (let cell : CellOf 1 ns c.nodes id i = record { below = h; is = k; out = omega (arith, unit_outputs (node_at ns id) k) } in
      let low : (node_at ns id).first + i < c.cells = omega (arith, lay.within id h (inl k), cell.out) in
      let q = unit_last grow ns ins c.nodes c.cells lay begin good id id i w cell asks none (held ((node_at ns id).first + i) low none) in
      (q.0, con_lit ns ins (define grow (suc id) ns ins id i w begin).lits id i (ne_eqb (node_at ns id).kind 0 (λ e. omega arith)) o ∙ q.1, q.2))

  pub place_first : (id j : ℕ) → id < c.nodes → (node_at ns id).kind ≡ 2 → j < con_len (node_at ns id) → cell_lit (cells_used lits c) ((node_at ns id).first + j) ≡ pos 0
      → lit_at (con_lits ns ins (weigh_run ns ins (cells_used keys c) (cells_used lits c) (cells_used marks c) c.next id (j + 1)).lits id) j ≡ pos c.next
  unfolding weigh_run
  place_first id j h k o none =
      rw (add-one id)
      (let e : j + 1 - 1 ≡ j = omega arith in
      let l = (weigh grow (suc id) ns ins (cells_used keys c) id (j + 1) begin).lits in
      let cell : CellOf 2 ns c.nodes id (j + 1 - 1) = record { below = h; is = k; out = omega (arith, general_outputs (node_at ns id) k) } in
      let low : (node_at ns id).first + (j + 1 - 1) < c.cells = omega (arith, lay.within id h (inr k), cell.out) in
      let bare : cell_lit (cells_used lits c) ((node_at ns id).first + (j + 1 - 1)) ≡ pos 0 = ap (λ (x : ℕ). cell_lit (cells_used lits c) ((node_at ns id).first + x)) e ∙ none in
      con_lit ns ins l id j (ne_eqb (node_at ns id).kind 0 (λ e. omega arith)) o
      ∙ ap (λ (x : ℕ). cell_lit l ((node_at ns id).first + x)) (sym e)
      ∙ sum_first grow ns ins c.nodes c.cells lay begin good (cells_used keys c) id id (j + 1) (omega arith) cell bare (held ((node_at ns id).first + (j + 1 - 1)) low bare))

  pub place_some : (id j : ℕ) → id < c.nodes → j < con_len (node_at ns id)
      → is_zero (lit_at (con_lits ns ins (weigh_run ns ins (cells_used keys c) (cells_used lits c) (cells_used marks c) c.next id (j + 1)).lits id) j) ≡ false
  unfolding weigh_run
  place_some id j h o = rw (add-one id) (go (facts.node id h))
    where
      l : List ℤ
      l = (weigh grow (suc id) ns ins (cells_used keys c) id (j + 1) begin).lits

      q : j + 1 - 1 ≡ j
      q = omega arith

      cell : (node_at ns id).first + (node_at ns id).count ≤ c.cells → Inner (node_at ns id) → is_leaf (node_at ns id) ≡ false → j < (node_at ns id).count → is_zero (lit_at (con_lits ns ins l id) j) ≡ false
      cell w u nl b =
          ap is_zero (con_lit ns ins l id j nl o)
          ∙ ap (λ (x : ℕ). is_zero (cell_lit l ((node_at ns id).first + x))) (sym q)
          ∙ place_lit grow ns ins c.nodes c.cells lay begin good (cells_used keys c) id id (j + 1) h (omega arith) (omega arith) u (held ((node_at ns id).first + (j + 1 - 1)) (omega arith))

      go : NodeFactsAt (node_at ns) (cells_used keys c) (cells_used marks c) c.cells id → is_zero (lit_at (con_lits ns ins l id) j) ≡ false
      go (a_leaf k f) = leaf_some id j l h k o
      go (a_dummy k f) = absurd (omega (arith, dummy_outputs (node_at ns id) k))
      go (a_unit k f g) = cell f.within (inl k) (ne_eqb (node_at ns id).kind 0 (λ e. omega arith)) (omega (arith, unit_outputs (node_at ns id) k))
      go (a_general k f g) = cell f.within (inr k) (ne_eqb (node_at ns id).kind 0 (λ e. omega arith)) (omega (arith, general_outputs (node_at ns id) k))

-- ---- a done demand, whole

module _ (nodes : List ℕ) (inputs : List ℤ) (keys : List ℕ) (lits : List ℤ) (marks : List ℕ) (clauses ints bytes : ℕ) (c : Counters) where
  -- "answers a literal"
  pub count_answer : (id i : ℕ) (w : Want) (z : ℤ) (c' : Counters) → count_of nodes inputs keys lits marks clauses ints bytes c id i w ≡ gives z c' → (w.fi || w.fo) ≡ true → is_zero z ≡ false
  count_answer id i w z c' h asks =
      let p = count_run nodes inputs lits marks c id i w in
      let t = count_done nodes inputs keys lits marks clauses ints bytes c id i w z c' h in
      let r = roomy p c clauses (lit_at (con_lits (nodes_used nodes c) (inputs_used inputs c) p.lits id) i) z c' t.given in
      let here = ltb-true _ _ t.here_ok in
      let e = node_used nodes c.nodes id here in
      ap is_zero (sym r.answer)
      ∙ count_lit nodes inputs keys lits marks clauses c t.table_passes id i w here (rw (e) (ltb-true _ _ t.output_ok)) (rw (e) t.not_general) asks

  pub sum_answer : (id v : ℕ) (z : ℤ) (c' : Counters) → sum_of nodes inputs keys lits marks clauses ints bytes c id v ≡ gives z c' → is_zero z ≡ false
  sum_answer id v z c' h =
      let p = sum_run nodes inputs keys lits marks c id v in
      let t = sum_done nodes inputs keys lits marks clauses ints bytes c id v z c' h in
      let r = roomy p c clauses (lit_at (con_lits (nodes_used nodes c) (inputs_used inputs c) p.lits id) (index_of (sum_place nodes keys c id v))) z c' t.given in
      ap is_zero (sym r.answer) ∙ go t.table_passes (ltb-true _ _ t.here_ok) (sum_place nodes keys c id v) (output_place (cells_used keys c) (node_at nodes id) v) t.output_ok
    where
      go : table_ok nodes inputs keys lits marks clauses c ≡ true → id < c.nodes → (o : Option ℕ) → place_of o ≤ value_count (node_at nodes id) → is_at o ≡ true
          → is_zero (lit_at (con_lits (nodes_used nodes c) (inputs_used inputs c) (weigh_run (nodes_used nodes c) (inputs_used inputs c) (cells_used keys c) (cells_used lits c) (cells_used marks c) c.next id (place_of o)).lits id) (index_of o)) ≡ false
      go ok here (Some j) low q = place_some nodes inputs keys lits marks clauses c ok id j here (rw (node_used nodes c.nodes id here) (omega arith))
      go ok here None low q = absurd (let y : ◌≡◌ {A = ℕ} 0 1 = cc in omega arith)

  -- the rows: what was there stays; the new literals are next, next + 1, .., each in one cell
  pub count_rows : (id i : ℕ) (w : Want) (z : ℤ) (c' : Counters) → count_of nodes inputs keys lits marks clauses ints bytes c id i w ≡ gives z c'
      → Ran (nodes_used nodes c) c.nodes (id + 1) lits marks c.next
      (cells_back (count_run nodes inputs lits marks c id i w).lits lits c) (cells_back (count_run nodes inputs lits marks c id i w).marks marks c) c'.next
  count_rows id i w z c' h =
      let p = count_run nodes inputs lits marks c id i w in
      let t = count_done nodes inputs keys lits marks clauses ints bytes c id i w z c' h in
      let r = roomy p c clauses (lit_at (con_lits (nodes_used nodes c) (inputs_used inputs c) p.lits id) i) z c' t.given in
      let f = table_facts (node_at nodes) _ inputs keys lits marks clauses c t.table_passes in
      subst (λ (x : Counters). Ran (nodes_used nodes c) c.nodes (id + 1) lits marks c.next (cells_back p.lits lits c) (cells_back p.marks marks c) x.next) r.counters
      (ran_back (nodes_used nodes c) c.nodes (id + 1) lits p.lits marks p.marks c.next p.next c.cells f.lit_row f.mark_row (used_laid nodes inputs keys lits marks clauses c t.table_passes)
      (count_ran nodes inputs keys lits marks clauses c t.table_passes id i w (ltb-true _ _ t.here_ok) (ltb-true _ _ t.output_ok)))

  pub sum_rows : (id v : ℕ) (z : ℤ) (c' : Counters) → sum_of nodes inputs keys lits marks clauses ints bytes c id v ≡ gives z c'
      → Ran (nodes_used nodes c) c.nodes (id + 1) lits marks c.next
      (cells_back (sum_run nodes inputs keys lits marks c id v).lits lits c) (cells_back (sum_run nodes inputs keys lits marks c id v).marks marks c) c'.next
  sum_rows id v z c' h =
      let p = sum_run nodes inputs keys lits marks c id v in
      let t = sum_done nodes inputs keys lits marks clauses ints bytes c id v z c' h in
      let r = roomy p c clauses (lit_at (con_lits (nodes_used nodes c) (inputs_used inputs c) p.lits id) (index_of (sum_place nodes keys c id v))) z c' t.given in
      let f = table_facts (node_at nodes) _ inputs keys lits marks clauses c t.table_passes in
      subst (λ (x : Counters). Ran (nodes_used nodes c) c.nodes (id + 1) lits marks c.next (cells_back p.lits lits c) (cells_back p.marks marks c) x.next) r.counters
      (ran_back (nodes_used nodes c) c.nodes (id + 1) lits p.lits marks p.marks c.next p.next c.cells f.lit_row f.mark_row (used_laid nodes inputs keys lits marks clauses c t.table_passes)
      (sum_ran nodes inputs keys lits marks clauses c t.table_passes id v (ltb-true _ _ t.here_ok)))

-- ---- a demand that is met already changes nothing: no literal, no mark, no word, no counter

-- an output's cell lies in the cells in use
pub cell_in : (nodes : List ℕ) (inputs : List ℤ) (keys : List ℕ) (lits : List ℤ) (marks : List ℕ) (clauses : ℕ) (c : Counters) → table_ok nodes inputs keys lits marks clauses c ≡ true
    → (id i : ℕ) → id < c.nodes → i < value_count (node_at nodes id) → is_leaf (node_at nodes id) ≡ false → (node_at nodes id).first + i < c.cells
cell_in nodes inputs keys lits marks clauses c ok id i h o nl = omega (arith, node_under (table_facts (node_at nodes) _ inputs keys lits marks clauses c ok) id h nl)

-- the database after a demand whose run is no run
unmoved : (d : Db) (r : Result Demanded Refusal) (p : St (List ℤ)) → ((z : ℤ) (c' : Counters) → r ≡ gives z c' → (p ≡ start (cells_used d.lits d.counters) (cells_used d.marks d.counters) d.counters.next) × (ran_counters p d.counters ≡ c'))
    → ◌≡◌ {A = Db} (record {
      nodes = d.nodes;
      inputs = d.inputs;
      keys = d.keys;
      lits = demanded_lits r p d.lits d.counters;
      marks = demanded_marks r p d.marks d.counters;
      clauses = demanded_clauses r p d.clauses d.counters;
      counters = (demanded_said r d.counters).counters;
    }) d
unmoved d (Err w) p h = refl
unmoved d (Ok a) p h =
    let c = d.counters in
    let c' = a.counters in
    let q = h a.lit c' refl in
    let el : cells_back p.lits d.lits c ≡ d.lits = ap (λ (x : St (List ℤ)). cells_back x.lits d.lits c) q.0 ∙ take-append-drop c.cells d.lits in
    let em : cells_back p.marks d.marks c ≡ d.marks = ap (λ (x : St (List ℤ)). cells_back x.marks d.marks c) q.0 ∙ take-append-drop c.cells d.marks in
    let ew : sets d.clauses c.words p.out ≡ d.clauses = ap (λ (x : St (List ℤ)). sets d.clauses c.words x.out) q.0 in
    let ec : c' ≡ c = sym q.1 ∙ ap (λ (x : St (List ℤ)). ran_counters x c) q.0 ∙ ap (moved c c.next) (add-zero c.words) in
    λ t. record { nodes = d.nodes; inputs = d.inputs; keys = d.keys; lits = el t; marks = em t; clauses = ew t; counters = ec t }

pub unweighted_met : (d : Db) (w : Work) (id i : ℕ) (m : Semantics)
    → ((node_at d.nodes id).kind ≡ 1 → Met (get_or d.marks ((node_at d.nodes id).first + i) 0) (want_of m)) → (unweighted_call d w id i m).db ≡ d
unfolding unweighted_call plain_run
unweighted_met d w id i m met =
    unmoved d (count_of d.nodes d.inputs d.keys d.lits d.marks (length d.clauses) w.ints w.bytes d.counters id i (want_of m)) (count_run d.nodes d.inputs d.lits d.marks d.counters id i (want_of m))
    (λ z c' h.
    let c = d.counters in
    let p = count_run d.nodes d.inputs d.lits d.marks c id i (want_of m) in
    let t = count_done d.nodes d.inputs d.keys d.lits d.marks (length d.clauses) w.ints w.bytes c id i (want_of m) z c' h in
    let r = roomy p c (length d.clauses) (lit_at (con_lits (nodes_used d.nodes c) (inputs_used d.inputs c) p.lits id) i) z c' t.given in
    (run t.table_passes (ltb-true _ _ t.here_ok) (ltb-true _ _ t.output_ok), r.counters))
  where
    run : table_ok d.nodes d.inputs d.keys d.lits d.marks (length d.clauses) d.counters ≡ true → id < d.counters.nodes → i < value_count (node_at d.nodes id)
        → count_run d.nodes d.inputs d.lits d.marks d.counters id i (want_of m) ≡ start (cells_used d.lits d.counters) (cells_used d.marks d.counters) d.counters.next
    run ok here o =
        let c = d.counters in
        let N = nodes_used d.nodes c in
        let e : node_at N id ≡ node_at d.nodes id = node_used d.nodes c.nodes id here in
        define_met grow N (inputs_used d.inputs c) (id + 1) id i (want_of m) (start (cells_used d.lits c) (cells_used d.marks c) c.next)
        (subst (λ (n : Node). n.kind ≡ 1 → Met (get_or (cells_used d.marks c) (n.first + i) 0) (want_of m)) (sym e)
        (λ u. rw (used_at c.cells d.marks ((node_at d.nodes id).first + i) 0 (cell_in d.nodes d.inputs d.keys d.lits d.marks (length d.clauses) c ok id i here o (ne_eqb (node_at d.nodes id).kind 0 (λ q. omega arith)))) (met u)))

-- a unit's output that has If, a general node's that is marked
pub weighted_met : (d : Db) (w : Work) (id v : ℕ)
    → ((node_at d.nodes id).kind ≡ 1 → Met (get_or d.marks ((node_at d.nodes id).first + index_of (sum_place d.nodes d.keys d.counters id v)) 0) just_if)
    → ((node_at d.nodes id).kind ≡ 2 → get_or d.marks ((node_at d.nodes id).first + index_of (sum_place d.nodes d.keys d.counters id v)) 0 ≡ 0 → ⊥)
    → (weighted_call d w id v).db ≡ d
unfolding weighted_call weigh_run
weighted_met d w id v mu mg =
    unmoved d (sum_of d.nodes d.inputs d.keys d.lits d.marks (length d.clauses) w.ints w.bytes d.counters id v) (sum_run d.nodes d.inputs d.keys d.lits d.marks d.counters id v)
    (λ z c' h.
    let c = d.counters in
    let p = sum_run d.nodes d.inputs d.keys d.lits d.marks c id v in
    let o = sum_place d.nodes d.keys c id v in
    let t = sum_done d.nodes d.inputs d.keys d.lits d.marks (length d.clauses) w.ints w.bytes c id v z c' h in
    let r = roomy p c (length d.clauses) (lit_at (con_lits (nodes_used d.nodes c) (inputs_used d.inputs c) p.lits id) (index_of o)) z c' t.given in
    (run t.table_passes (ltb-true _ _ t.here_ok) o (output_place (cells_used d.keys c) (node_at d.nodes id) v) t.output_ok mu mg, r.counters))
  where
    run : table_ok d.nodes d.inputs d.keys d.lits d.marks (length d.clauses) d.counters ≡ true → id < d.counters.nodes
        → (o : Option ℕ) → place_of o ≤ value_count (node_at d.nodes id) → is_at o ≡ true
        → ((node_at d.nodes id).kind ≡ 1 → Met (get_or d.marks ((node_at d.nodes id).first + index_of o) 0) just_if)
        → ((node_at d.nodes id).kind ≡ 2 → get_or d.marks ((node_at d.nodes id).first + index_of o) 0 ≡ 0 → ⊥)
        → weigh grow (id + 1) (nodes_used d.nodes d.counters) (inputs_used d.inputs d.counters) (cells_used d.keys d.counters) id (place_of o) (start (cells_used d.lits d.counters) (cells_used d.marks d.counters) d.counters.next)
        ≡ start (cells_used d.lits d.counters) (cells_used d.marks d.counters) d.counters.next
    run ok here None low at gu gg = absurd (let y : ◌≡◌ {A = ℕ} 0 1 = cc in omega arith)
    run ok here (Some j) low at gu gg =
        let c = d.counters in
        let N = nodes_used d.nodes c in
        let n = node_at d.nodes id in
        let e : node_at N id ≡ n = node_used d.nodes c.nodes id here in
        let q : j ≡ j + 1 - 1 = omega arith in
        let reads : is_leaf n ≡ false → get_or (cells_used d.marks c) (n.first + j) 0 ≡ get_or d.marks (n.first + j) 0 = λ nl.
        used_at c.cells d.marks (n.first + j) 0 (cell_in d.nodes d.inputs d.keys d.lits d.marks (length d.clauses) c ok id j here (omega arith) nl) in
        weigh_met grow N (inputs_used d.inputs c) (cells_used d.keys c) (id + 1) id (j + 1) (start (cells_used d.lits c) (cells_used d.marks c) c.next)
        (subst (λ (x : Node). x.kind ≡ 1 → Met (get_or (cells_used d.marks c) (x.first + (j + 1 - 1)) 0) just_if) (sym e)
        (λ u. subst (λ (k : ℕ). Met (get_or (cells_used d.marks c) (n.first + k) 0) just_if) q (rw (reads (ne_eqb n.kind 0 (λ x. omega arith))) (gu u))))
        (subst (λ (x : Node). x.kind ≡ 2 → get_or (cells_used d.marks c) (x.first + (j + 1 - 1)) 0 ≡ 0 → ⊥) (sym e)
        (λ u. subst (λ (k : ℕ). get_or (cells_used d.marks c) (n.first + k) 0 ≡ 0 → ⊥) q (λ z. gg u (sym (reads (ne_eqb n.kind 0 (λ x. omega arith))) ∙ z))))
