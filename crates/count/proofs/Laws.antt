-- Laws of a literal taken, of what a run keeps, of a plan, and of the steps of a run.
use mathlib.Core.Path.{◌≡◌, refl, sym, ap, ap₂, ◌∙◌, subst}
use mathlib.Core.Bool.{Bool, true, false}
use mathlib.Core.List.{List, [], ◌∷◌}
use Prim.Native.Nat.{ℕ, zero, suc, ◌+◌, ◌-◌, ◌/◌, ◌≤◌, ◌<◌, ◌^◌, min}
use native.Mathlib.Decide.{ℕ_discrete}
use native.Mathlib.Nat.{le_trans}
use Rattle.paper.specs.Span.{over, span, span_step}
use native.Mathlib.Omega.{arith}
use borrow.Author.Tests.{eqb-true}
use lib.Dec.{eqb}
use lib.IntN.{ℤ, pos, negsuc, neg_ℤ}
use lib.Signed.{mag}
use lib.ListN.{length, get_or, set, take, drop, length-set, length-take, length-drop}
use lib.Seq.{get_or-set_same, get_or-set_other, get_or-take, get_or-drop}
use mir.Syntax.{w32}
use mir.Val.{SFits, of_z}
use mathlib.Core.Bool.{cond}
use Rattle.paper.specs.Rows.{node_at, con_lits, is_zero}
use Rattle.count.specs.Run.{outs, Ok, Here, Cell, PassOk, WalkOk, Planned, Fit}
use Rattle.paper.specs.Plain.{missing_of, plan_of, plan_unit, plan_two, ranges_of, if_span, only_span}
use Rattle.clause.specs.Row.{Neg}
use Rattle.paper.specs.Plain.{lit_at, has_none, taken_lits, taken_next, St, emit_both, finish_of, step_of, walk_of, demands_of, define}
use Rattle.count.specs.Run.{state}
use Rattle.clause.specs.Row.{Row, at_row, lay}
use Rattle.count.proofs.Plan.{outs_unit, outs_dummy, cells_in, left_in, right_in}
use Rattle.facts.proofs.Ranges.{span_to, if_to, only_to}
use Rattle.paper.specs.Limits.{node_words}
use Rattle.paper.specs.declared.Node.{Node}
use Rattle.paper.specs.declared.Run.{Run}
use Rattle.paper.specs.declared.Want.{Want}
use Rattle.paper.specs.declared.Todo.{Todo}
use Rattle.paper.specs.declared.Span.{Span}
use Rattle.paper.specs.declared.Ranges.{Ranges}
use Rattle.paper.specs.declared.Precond.{Precond}
use Rattle.paper.specs.declared.Precond.TheVariants.{Return, Pass, Continue}

-- ---- a signed number's bits, and 0

pub bits_zero : (z : ℤ) → mag z < 2 ^ 31 → of_z w32 z ≡ 0 → is_zero z ≡ true
bits_zero (pos zero) f e = refl
bits_zero (pos (suc n)) f e = absurd (omega arith)
bits_zero (negsuc n) f e = absurd (omega arith)

pub bits_nonzero : (z : ℤ) → (of_z w32 z ≡ 0 → ⊥) → is_zero z ≡ false
bits_nonzero (pos zero) f = absurd (f refl)
bits_nonzero (pos (suc n)) f = refl
bits_nonzero (negsuc n) f = refl

neg_pos : (n : ℕ) → 1 ≤ n → n ≤ 2 ^ 31 → SFits w32 (neg_ℤ (pos n))
neg_pos zero p q = absurd (omega arith)
neg_pos (suc n) p q = record { sfits = omega arith }

pos_nonzero : (n : ℕ) → 1 ≤ n → is_zero (pos n) ≡ false
pos_nonzero zero p = absurd (omega arith)
pos_nonzero (suc n) p = refl

-- within the list the default does not matter
pub none_is : (l : List ℤ) (at : ℕ) → at < length l → has_none l at ≡ is_zero (lit_at l at)
none_is [] at h = absurd (omega arith)
none_is (z ∷ l) zero h = refl
none_is (z ∷ l) (suc n) h = none_is l n (omega arith)

-- ---- negations fit

neg_set : (l : List ℤ) (at : ℕ) (v : ℤ) → at < length l → Neg l → SFits w32 (neg_ℤ v) → Neg (set l at v)
neg_set l at v inl g f j h = go (ℕ_discrete j at)
  where
    go : Dec (j ≡ at) → SFits w32 (neg_ℤ (get_or (set l at v) j (pos 0)))
    go (yes e) = rw (e, get_or-set_same l at v (pos 0) inl) f
    go (no n) = rw (get_or-set_other l at j v (pos 0) n) (g j (rw (← length-set l at v) h))

neg_part : (n p : ℕ) (l : List ℤ) → Neg l → Neg (take n (drop p l))
neg_part n p l g j h =
    let e : length (take n (drop p l)) ≡ min n (length l - p) = length-take n (drop p l) ∙ ap (min n) (length-drop p l) in
    let a : j < n = omega arith in
    let b : p + j < length l = omega arith in
    rw (get_or-take n (drop p l) j (pos 0) a, get_or-drop p l j (pos 0)) (g (p + j) b)

neg_cond : (b : Bool) (l r : List ℤ) → Neg l → Neg r → Neg (cond b l r)
neg_cond true l r p q = p
neg_cond false l r p q = q

pub neg_lits_of : (ns : List ℕ) (ins lits : List ℤ) (k : ℕ) → Neg ins → Neg lits → Neg (con_lits ns ins lits k)
unfolding con_lits
neg_lits_of ns ins lits k p q = neg_cond (eqb (node_at ns k).kind 0) _ _ (neg_part 1 (node_at ns k).first ins p) (neg_part (outs ns k) (node_at ns k).first lits q)

-- ---- what a run keeps, after a literal is taken

module _ (ns : List ℕ) (ins lits : List ℤ) (marks marks' : List ℕ) (run : Run) (at w : ℕ) (fit : Fit ns ins lits marks run) (inl : at < length lits) (same : length marks' ≡ length marks) (counted : w ≤ 2 ^ 62) (within : taken_next lits at run.next ≤ 2 ^ 31) where
  fit_by : (b : Bool) → cond b (run.next + 1) run.next ≤ 2 ^ 31 → Fit ns ins (cond b (set lits at (pos run.next)) lits) marks' (record { next = cond b (run.next + 1) run.next; words = w })
  fit_by true e =
      record {
        ok = rw (length-set lits at (pos run.next)) fit.ok;
        same = same ∙ fit.same ∙ sym (length-set lits at (pos run.next));
        neg_ins = fit.neg_ins;
        neg_lits = neg_set lits at (pos run.next) inl fit.neg_lits (neg_pos run.next fit.some (omega arith));
        some = omega (arith, fit.some);
        counted = counted;
      }
  fit_by false e =
      record {
        ok = fit.ok;
        same = same ∙ fit.same;
        neg_ins = fit.neg_ins;
        neg_lits = fit.neg_lits;
        some = fit.some;
        counted = counted;
      }

  pub fit_taken : Fit ns ins (taken_lits lits at run.next) marks' (record { next = taken_next lits at run.next; words = w })
  fit_taken = fit_by (has_none lits at) within

  pub fit_after : (l : List ℤ) (n : ℕ) → l ≡ taken_lits lits at run.next → n ≡ taken_next lits at run.next → Fit ns ins l marks' (record { next = n; words = w })
  fit_after l n p q = rw (p, q) fit_taken

pub length_taken : (lits : List ℤ) (at n : ℕ) → length (taken_lits lits at n) ≡ length lits
length_taken lits at n = go (has_none lits at)
  where
    go : (b : Bool) → length (cond b (set lits at (pos n)) lits) ≡ length lits
    go true = length-set lits at (pos n)
    go false = refl

-- ---- the plan

planned_cond : (ns : List ℕ) (k i : ℕ) (b : Bool) (p q : Precond) → Planned ns k i p → Planned ns k i q → Planned ns k i (cond b p q)
planned_cond ns k i true p q x y = x
planned_cond ns k i false p q x y = y

planned_by : (ns : List ℕ) (k i : ℕ) (b : Bool) (p q : Precond) → (b ≡ true → Planned ns k i p) → (b ≡ false → Planned ns k i q) → Planned ns k i (cond b p q)
planned_by ns k i true p q x y = x refl
planned_by ns k i false p q x y = y refl

module _ (ns marks : List ℕ) (ni nc k i : ℕ) (w : Want) (ok : Ok ns ni nc) (here : Here ns k i) where
  cell_of : (node_at ns k).kind ≡ 1 → Cell ns k i
  cell_of u = record { below = here.below; unit = u; out = omega (arith, here.out, outs_unit (node_at ns k) u) }

  walk_of_fits : (node_at ns k).kind ≡ 1 → (t : Todo) → WalkOk ns k (ranges_of (node_at ns k) (outs ns (node_at ns k).left) (outs ns (node_at ns k).right) t.want i)
  unfolding ranges_of
  walk_of_fits u t =
      let f = ok.unit k here.below u in
      record {
        below = here.below;
        left_falls = f.left_below;
        right_falls = f.right_below;
        left_if_to = span_to t.want.fi (if_span _ _ i) _ (if_to _ _ i);
        right_if_to = span_to t.want.fi (if_span _ _ i) _ (if_to _ _ i);
        left_only_to = span_to t.want.fo (only_span _ _ i) _ (only_to _ _ i);
        right_only_to = span_to t.want.fo (only_span _ _ i) _ (only_to _ _ i);
      }

  planned_two : (node_at ns k).kind ≡ 1 → (t : Todo) → Planned ns k i (plan_two (node_at ns k) (node_at ns (node_at ns k).left) (node_at ns (node_at ns k).right) i t)
  unfolding plan_two
  planned_two u t =
      let f = ok.unit k here.below u in
      let c = cell_of u in
      planned_by ns k i (eqb (node_at ns (node_at ns k).left).kind 3) _ _
      (λ e. record { cell = c; falls = f.right_below; out = omega (arith, c.out, f.sum, outs_dummy (node_at ns (node_at ns k).left) (eqb-true _ _ e)) })
      (λ _. planned_by ns k i (eqb (node_at ns (node_at ns k).right).kind 3) _ _
      (λ e. record { cell = c; falls = f.left_below; out = omega (arith, c.out, f.sum, outs_dummy (node_at ns (node_at ns k).right) (eqb-true _ _ e)) })
      (λ _. (c, walk_of_fits u t)))

  planned_unit : (t : Todo) (n l r : Node) → Planned ns k i (plan_two n l r i t) → Planned ns k i (plan_unit n l r i t)
  unfolding plan_unit
  planned_unit t n l r p =
      planned_cond ns k i t.want.fi (plan_two n l r i t) (cond t.want.fo (plan_two n l r i t) Return) p
      (planned_cond ns k i t.want.fo (plan_two n l r i t) Return p tt)

  pub planned : Planned ns k i (plan_of ns marks k i w)
  unfolding plan_of
  planned =
      let t = missing_of (get_or marks ((node_at ns k).first + i) 0) w in
      planned_by ns k i (eqb (node_at ns k).kind 1) _ _ (λ e. planned_unit t _ _ _ (planned_two (eqb-true _ _ e) t)) (λ _. tt)

  pub pass_ok : (c : ℕ) (t : Todo) → plan_of ns marks k i w ≡ Pass c t → PassOk ns k i c
  pass_ok c t e = subst (λ (p : Precond). Planned ns k i p) e planned

  pub walk_is_ok : (rs : Ranges) (t : Todo) → plan_of ns marks k i w ≡ Continue rs t → Cell ns k i × WalkOk ns k rs
  walk_is_ok rs t e = subst (λ (p : Precond). Planned ns k i p) e planned

-- ---- the steps of a run

pub finish_is : (ns : List ℕ) (ins : List ℤ) (k i : ℕ) (t : Todo) (lits : List ℤ) (marks : List ℕ) (row : List ℤ) (run : Run) (n : Node) (lits' row' : List ℤ) (next words : ℕ) (o : ℤ)
    → n ≡ node_at ns k → lits' ≡ taken_lits lits (n.first + i) run.next → next ≡ taken_next lits (n.first + i) run.next → o ≡ lit_at lits' (n.first + i)
    → at_row row' words ≡ emit_both lay (con_lits ns ins lits' n.left) (con_lits ns ins lits' n.right) i o t.want (at_row row run.words)
    → state lits' (set marks (n.first + i) t.mark) row' (record { next = next; words = words }) ≡ finish_of lay ns ins k i t (state lits marks row run)
unfolding finish_of
finish_is ns ins k i t lits marks row run n lits' row' next words o e a b c h =
    let at = n.first + i in
    let h' : at_row row' words
    ≡ emit_both lay (con_lits ns ins (taken_lits lits at run.next) n.left) (con_lits ns ins (taken_lits lits at run.next) n.right) i
    (lit_at (taken_lits lits at run.next) at) t.want (at_row row run.words) =
    h ∙ ap₂ (λ (l : List ℤ) (z : ℤ). emit_both lay (con_lits ns ins l n.left) (con_lits ns ins l n.right) i z t.want (at_row row run.words)) a (c ∙ ap (λ (l : List ℤ). lit_at l at) a) in
    rw (← e) (λ j. record { lits = a j; marks = set marks at t.mark; next = b j; out = h' j })

module _ (ns : List ℕ) (ins : List ℤ) (k i : ℕ) (w : Want) (s : St Row) where
  step_at : (f : ℕ) → k + 1 ≤ f → define lay f ns ins k i w s ≡ step_of lay (define lay (f - 1) ns ins) ns ins k i (plan_of ns s.marks k i w) s
  unfolding define
  step_at zero h = absurd (omega arith)
  step_at (suc f) h =
      let e : suc f - 1 ≡ f = omega arith in
      rw e

  pub return_is : plan_of ns s.marks k i w ≡ Return → (f : ℕ) → k + 1 ≤ f → s ≡ define lay f ns ins k i w s
  unfolding step_of
  return_is p f h = sym (step_at f h ∙ ap (λ q. step_of lay (define lay (f - 1) ns ins) ns ins k i q s) p)

  pub pass_is : (c : ℕ) (t : Todo) (s₁ s₂ : St Row) → plan_of ns s.marks k i w ≡ Pass c t → (f : ℕ) → k + 1 ≤ f
      → s₁ ≡ define lay (f - 1) ns ins c i t.want s → s₂ ≡ finish_of lay ns ins k i t s₁ → s₂ ≡ define lay f ns ins k i w s
  unfolding step_of
  pass_is c t s₁ s₂ p f h e₁ e₂ =
      e₂ ∙ ap (finish_of lay ns ins k i t) e₁
      ∙ sym (step_at f h ∙ ap (λ q. step_of lay (define lay (f - 1) ns ins) ns ins k i q s) p)

  pub continue_is : (rs : Ranges) (t : Todo) (s₁ s₂ : St Row) → plan_of ns s.marks k i w ≡ Continue rs t → (f : ℕ) → k + 1 ≤ f
      → s₁ ≡ walk_of lay (define lay (f - 1) ns ins) rs s → s₂ ≡ finish_of lay ns ins k i t s₁ → s₂ ≡ define lay f ns ins k i w s
  unfolding step_of
  continue_is rs t s₁ s₂ p f h e₁ e₂ =
      e₂ ∙ ap (finish_of lay ns ins k i t) e₁
      ∙ sym (step_at f h ∙ ap (λ q. step_of lay (define lay (f - 1) ns ins) ns ins k i q s) p)

pub emit_of : {l r l' r' : List ℤ} {z o : ℤ} (i : ℕ) (w : Want) (s : Row) → l ≡ l' → r ≡ r' → z ≡ o → emit_both lay l r i z w s ≡ emit_both lay l' r' i o w s
emit_of i w s p q e = λ j. emit_both lay (p j) (q j) i (e j) w s

pub finish_next : (ns : List ℕ) (ins : List ℤ) (k i : ℕ) (t : Todo) (lits : List ℤ) (marks : List ℕ) (row : List ℤ) (run : Run) (n : Node) → n ≡ node_at ns k
    → (finish_of lay ns ins k i t (state lits marks row run)).next ≤ 2 ^ 31 → taken_next lits (n.first + i) run.next ≤ 2 ^ 31
unfolding finish_of
finish_next ns ins k i t lits marks row run n e h = rw e h

-- ---- a cell of a unit

module _ (ns : List ℕ) (ni nc k i : ℕ) (n : Node) (e : n ≡ node_at ns k) (ok : Ok ns ni nc) (cell : Cell ns k i) where
  unit_is : n.kind ≡ 1
  unit_is = ap (λ (m : Node). m.kind) e ∙ cell.unit

  pub cell_in : n.first + i < nc
  cell_in =
      let h : n.count ≡ (node_at ns k).count = ap (λ (m : Node). m.count) e in
      let u = unit_is in
      omega (arith, cells_in ns ni nc k n e ok cell.below (λ z. omega arith), outs_unit n u, cell.out)

  pub cell_left : n.left < length ns / node_words
  cell_left = left_in ns ni nc k n e ok cell.below unit_is

  pub cell_right : n.right < length ns / node_words
  cell_right = right_in ns ni nc k n e ok cell.below unit_is

pub walk_is : (rec : ℕ → ℕ → Want → St Row → St Row) (rs : Ranges) (s s₁ s₂ s₃ s₄ : St Row)
    → s₁ ≡ demands_of lay rec rs.left rs.left_if (record { fi = true; fo = false }) s
    → s₂ ≡ demands_of lay rec rs.right rs.right_if (record { fi = true; fo = false }) s₁
    → s₃ ≡ demands_of lay rec rs.left rs.left_only (record { fi = false; fo = true }) s₂
    → s₄ ≡ demands_of lay rec rs.right rs.right_only (record { fi = false; fo = true }) s₃
    → s₄ ≡ walk_of lay rec rs s
unfolding walk_of
walk_is rec rs s s₁ s₂ s₃ s₄ e₁ e₂ e₃ e₄ =
    let fi : Want = record { fi = true; fo = false } in
    let fo : Want = record { fi = false; fo = true } in
    e₄ ∙ ap (demands_of lay rec rs.right rs.right_only fo) (e₃ ∙ ap (demands_of lay rec rs.left rs.left_only fo) (e₂ ∙ ap (demands_of lay rec rs.right rs.right_if fi) e₁))

-- ---- variables are only taken

mono_cond : (b : Bool) (n : ℕ) → n ≤ cond b (n + 1) n
mono_cond true n = omega arith
mono_cond false n = omega arith

pub mono_finish : (ns : List ℕ) (ins : List ℤ) (k i : ℕ) (t : Todo) (s : St Row) → s.next ≤ (finish_of lay ns ins k i t s).next
unfolding finish_of
mono_finish ns ins k i t s = mono_cond (has_none s.lits ((node_at ns k).first + i)) s.next

mono_over : (n : ℕ) (g : ℕ → St Row → St Row) → ((j : ℕ) (t : St Row) → t.next ≤ (g j t).next) → (k : ℕ) (a : St Row) → a.next ≤ (over n g k a).next
unfolding over
mono_over zero g m k a = omega arith
mono_over (suc n) g m k a = le_trans (m k a) (mono_over n g m (k + 1) (g k a))

abbrev Mono : (ℕ → ℕ → Want → St Row → St Row) → Type 0
Mono rec = (k i : ℕ) (w : Want) (s : St Row) → s.next ≤ (rec k i w s).next

mono_demands : (rec : ℕ → ℕ → Want → St Row → St Row) → Mono rec → (c : ℕ) (sp : Span) (w : Want) (s : St Row) → s.next ≤ (demands_of lay rec c sp w s).next
unfolding demands_of
mono_demands rec m c sp w s = mono_over (sp.to - sp.from) (λ j t. rec c j w t) (λ j t. m c j w t) sp.from s

mono_walk : (rec : ℕ → ℕ → Want → St Row → St Row) → Mono rec → (rs : Ranges) (s : St Row) → s.next ≤ (walk_of lay rec rs s).next
unfolding walk_of
mono_walk rec m rs s =
    le_trans (mono_demands rec m rs.left rs.left_if _ s)
    (le_trans (mono_demands rec m rs.right rs.right_if _ _)
    (le_trans (mono_demands rec m rs.left rs.left_only _ _) (mono_demands rec m rs.right rs.right_only _ _)))

mono_step : (rec : ℕ → ℕ → Want → St Row → St Row) → Mono rec → (ns : List ℕ) (ins : List ℤ) (k i : ℕ) (p : Precond) (s : St Row) → s.next ≤ (step_of lay rec ns ins k i p s).next
unfolding step_of
mono_step rec m ns ins k i Return s = omega arith
mono_step rec m ns ins k i (Pass c t) s = le_trans (m c i t.want s) (mono_finish ns ins k i t _)
mono_step rec m ns ins k i (Continue rs t) s = le_trans (mono_walk rec m rs s) (mono_finish ns ins k i t _)

pub mono_define : (f : ℕ) (ns : List ℕ) (ins : List ℤ) → Mono (define lay f ns ins)
unfolding define
mono_define zero ns ins k i w s = omega arith
mono_define (suc f) ns ins k i w s = mono_step (define lay f ns ins) (mono_define f ns ins) ns ins k i (plan_of ns s.marks k i w) s

pub next_by : {s t : St Row} → s ≡ t → t.next ≤ 2 ^ 31 → s.next ≤ 2 ^ 31
next_by e h = subst (λ (x : St Row). x.next ≤ 2 ^ 31) (sym e) h

-- ---- the variables of a part of a run are within those of the whole

module _ (ns : List ℕ) (ins : List ℤ) (k i : ℕ) (w : Want) (s : St Row) (f : ℕ) (h : k + 1 ≤ f) (within : (define lay f ns ins k i w s).next ≤ 2 ^ 31) where
  pub pass_ends : (c : ℕ) (t : Todo) → plan_of ns s.marks k i w ≡ Pass c t → (define lay (f - 1) ns ins c i t.want s).next ≤ 2 ^ 31
  pass_ends c t p = le_trans (mono_finish ns ins k i t _) (next_by (pass_is ns ins k i w s c t (define lay (f - 1) ns ins c i t.want s) _ p f h refl refl) within)

  pub walk_ends : (rs : Ranges) (t : Todo) → plan_of ns s.marks k i w ≡ Continue rs t → (walk_of lay (define lay (f - 1) ns ins) rs s).next ≤ 2 ^ 31
  walk_ends rs t p = le_trans (mono_finish ns ins k i t _) (next_by (continue_is ns ins k i w s rs t (walk_of lay (define lay (f - 1) ns ins) rs s) _ p f h refl refl) within)

pub turn_ends : (f : ℕ) (ns : List ℕ) (ins : List ℤ) (c : ℕ) (w : Want) (k end : ℕ) (s t : St Row) → k < end → span k end (λ j u. define lay f ns ins c j w u) s ≡ t → t.next ≤ 2 ^ 31
    → (define lay f ns ins c k w s).next ≤ 2 ^ 31
turn_ends f ns ins c w k end s t h e b =
    le_trans (mono_over (end - (k + 1)) (λ j u. define lay f ns ins c j w u) (λ j u. mono_define f ns ins c j w u) (k + 1) (define lay f ns ins c k w s))
    (next_by (sym (span_step k end (λ j u. define lay f ns ins c j w u) s h) ∙ e) b)

module _ (f : ℕ) (ns : List ℕ) (ins : List ℤ) (rs : Ranges) (s : St Row) (within : (walk_of lay (define lay f ns ins) rs s).next ≤ 2 ^ 31) where
  abbrev d1 : St Row → St Row
  d1 t = demands_of lay (define lay f ns ins) rs.left rs.left_if (record { fi = true; fo = false }) t

  abbrev d2 : St Row → St Row
  d2 t = demands_of lay (define lay f ns ins) rs.right rs.right_if (record { fi = true; fo = false }) t

  abbrev d3 : St Row → St Row
  d3 t = demands_of lay (define lay f ns ins) rs.left rs.left_only (record { fi = false; fo = true }) t

  abbrev d4 : St Row → St Row
  d4 t = demands_of lay (define lay f ns ins) rs.right rs.right_only (record { fi = false; fo = true }) t

  grows : (c : ℕ) (sp : Span) (w : Want) (t : St Row) → t.next ≤ (demands_of lay (define lay f ns ins) c sp w t).next
  grows c sp w t = mono_demands (define lay f ns ins) (mono_define f ns ins) c sp w t

  pub ends_4 : (s₁ s₂ s₃ : St Row) → s₁ ≡ d1 s → s₂ ≡ d2 s₁ → s₃ ≡ d3 s₂ → (d4 s₃).next ≤ 2 ^ 31
  ends_4 s₁ s₂ s₃ e₁ e₂ e₃ = next_by (walk_is (define lay f ns ins) rs s s₁ s₂ s₃ (d4 s₃) e₁ e₂ e₃ refl) within

  pub ends_3 : (s₁ s₂ : St Row) → s₁ ≡ d1 s → s₂ ≡ d2 s₁ → (d3 s₂).next ≤ 2 ^ 31
  ends_3 s₁ s₂ e₁ e₂ = le_trans (grows rs.right rs.right_only _ (d3 s₂)) (ends_4 s₁ s₂ (d3 s₂) e₁ e₂ refl)

  pub ends_2 : (s₁ : St Row) → s₁ ≡ d1 s → (d2 s₁).next ≤ 2 ^ 31
  ends_2 s₁ e₁ = le_trans (grows rs.left rs.left_only _ (d2 s₁)) (ends_3 s₁ (d2 s₁) e₁ refl)

  pub ends_1 : (d1 s).next ≤ 2 ^ 31
  ends_1 = le_trans (grows rs.right rs.right_if _ (d1 s)) (ends_2 (d1 s) refl)
