-- Laws of the steps of a weighted run.
use mathlib.Core.Path.{◌≡◌, refl, sym, ap, ◌∙◌, subst}
use mathlib.Core.Bool.{Bool, true, false, cond}
use mathlib.Core.List.{List}
use Prim.Native.Nat.{ℕ, zero, suc, ◌+◌, ◌-◌, ◌/◌, ◌≤◌, ◌<◌, ◌^◌, min}
use native.Mathlib.Decide.{ℕ_discrete}
use native.Mathlib.Nat.{le_trans}
use native.Mathlib.Omega.{arith}
use borrow.Author.Tests.{eq-eqb, ne_eqb}
use lib.Dec.{eqb}
use lib.IntN.{ℤ}
use lib.ListN.{length, set, take, drop, length-take, length-drop}
use Rattle.paper.specs.Limits.{node_words}
use Rattle.paper.specs.Span.{over, span, span_step}
use Rattle.paper.specs.Rows.{node_at, con_lits}
use Rattle.paper.specs.Plain.{lit_at, has_none, taken_lits, taken_next, St, just_if, if_clause, define}
use Rattle.paper.specs.Weighted.{way_of, turns_of, job_of, take_lit_at, mark_at, emit_way, clause_at, link_of, links_of, do_of, weigh}
use Rattle.paper.specs.declared.Node.{Node}
use Rattle.paper.specs.declared.Run.{Run}
use Rattle.paper.specs.declared.Span.{Span}
use Rattle.paper.specs.declared.Way.{Way}
use Rattle.paper.specs.declared.Job.{Job}
use Rattle.paper.specs.declared.Job.TheVariants.{Nothing, Count, Sum}
use Rattle.clause.specs.Row.{Row, at_row, lay, Laid}
use Rattle.count.specs.declared.Encoder.{Encoder}
use Rattle.count.specs.Encoding.{state_of}
use Rattle.count.specs.Run.{outs, Ok, Fit, state, Ends}
use Rattle.count.proofs.Laws.{fit_after, mono_define, next_by}
use Rattle.find.specs.Ways.{Sorted, Place, Pairing}
use Rattle.find.proofs.Laws.{count_leaf, count_general, way_within, sum_ok}
use Rattle.find.proofs.Paper.{three_ways}
use Rattle.find.proofs.Pairs.{in_window}
use Rattle.sum.specs.Ways.{Spot, CellAt, WayAt, pairs_of}

-- ---- literals of a node

part_length : (n p : ℕ) (l : List ℤ) → p + n ≤ length l → length (take n (drop p l)) ≡ n
part_length n p l h =
    let e : length (take n (drop p l)) ≡ min n (length l - p) = length-take n (drop p l) ∙ ap (min n) (length-drop p l) in
    omega arith

module _ (ns : List ℕ) (ni nc k : ℕ) (ok : Ok ns ni nc) (h : k < length ns / node_words) where
  pub outs_few : outs ns k ≤ nc + 1
  outs_few = go (ℕ_discrete (node_at ns k).kind 0)
    where
      go : Dec ((node_at ns k).kind ≡ 0) → outs ns k ≤ nc + 1
      go (yes e) = rw (count_leaf (node_at ns k) e) (omega arith)
      go (no e) = omega (arith, ok.cells k h e)

  -- a general node's cells are there
  pub place_at : (y : ℕ) → y ≤ outs ns k → Place ns nc k y
  place_at y o = record { out = o; cells = λ e. omega (arith, ok.cells k h (λ z. omega arith), count_general (node_at ns k) e) }

pub length_con_lits : (ns : List ℕ) (ins lits : List ℤ) (k : ℕ) → Ok ns (length ins) (length lits) → k < length ns / node_words → length (con_lits ns ins lits k) ≡ outs ns k
unfolding con_lits
length_con_lits ns ins lits k ok h = go (ℕ_discrete (node_at ns k).kind 0)
  where
    go : Dec ((node_at ns k).kind ≡ 0) → length (cond (eqb (node_at ns k).kind 0) (take 1 (drop (node_at ns k).first ins)) (take (outs ns k) (drop (node_at ns k).first lits))) ≡ outs ns k
    go (yes e) = rw (eq-eqb (node_at ns k).kind 0 e, count_leaf (node_at ns k) e) (part_length 1 (node_at ns k).first ins (omega (arith, ok.leaf k h e)))
    go (no e) = rw (ne_eqb (node_at ns k).kind 0 e) (part_length (outs ns k) (node_at ns k).first lits (ok.cells k h e))

-- ---- a clause

module _ (l r : List ℤ) (p : Way) (o : ℤ) (s : Row) where
  pub way_none : p.x + p.y ≡ 0 → emit_way lay l r p o s ≡ s
  unfolding emit_way
  way_none e = rw (eq-eqb (p.x + p.y) 0 e)

  pub way_some : (p.x + p.y ≡ 0 → ⊥) → emit_way lay l r p o s ≡ lay s (if_clause l r p.x p.y o)
  unfolding emit_way
  way_some e = rw (ne_eqb (p.x + p.y) 0 e)

-- ---- what a run keeps

module _ (ns : List ℕ) (ins lits : List ℤ) (marks : List ℕ) (u : Run) (f : Fit ns ins lits marks u) where
  pub fit_words : (w : ℕ) → w ≤ 2 ^ 62 → Fit ns ins lits marks (record { next = u.next; words = w })
  fit_words w h = record { ok = f.ok; same = f.same; neg_ins = f.neg_ins; neg_lits = f.neg_lits; some = f.some; counted = h }

  pub fit_marks : (m : List ℕ) → length m ≡ length marks → Fit ns ins lits m u
  fit_marks m h = record { ok = f.ok; same = h ∙ f.same; neg_ins = f.neg_ins; neg_lits = f.neg_lits; some = f.some; counted = f.counted }

  pub fit_cell : (at : ℕ) → at < length lits → taken_next lits at u.next ≤ 2 ^ 31 → (l : List ℤ) (n : ℕ) → l ≡ taken_lits lits at u.next → n ≡ taken_next lits at u.next
      → Fit ns ins l marks (record { next = n; words = u.words })
  fit_cell at h b l n p q = fit_after ns ins lits marks marks u at u.words f h refl f.counted b l n p q

-- the same, and that a run ends, where only literals and the next variable are other
module _ (d : Encoder) {m : List ℕ} {r : List ℤ} {w : ℕ} (a : d.marks.now ≡ m) (b : d.row.now ≡ r) (e : d.run.words ≡ w) where
  pub state_as : state_of d ≡ state d.lits.now m r (record { next = d.run.next; words = w })
  state_as = λ j. record { lits = d.lits.now; marks = a j; next = d.run.next; out = record { row = b j; words = e j } }

  pub fit_as : {ns : List ℕ} {ins : List ℤ} → Fit ns ins d.lits.now m (record { next = d.run.next; words = w }) → Fit ns ins d.lits.now d.marks.now d.run
  fit_as f = record { ok = f.ok; same = ap length a ∙ f.same; neg_ins = f.neg_ins; neg_lits = f.neg_lits; some = f.some; counted = rw e f.counted }

  pub ends_as : (run : ℕ → St Row → St Row) {k : ℕ} → Ends k (λ f. run f (state d.lits.now m r (record { next = d.run.next; words = w }))) → Ends k (λ f. run f (state_of d))
  ends_as run {k} h = subst (λ (s : St Row). Ends k (λ f. run f s)) (sym state_as) h

pub laid_back : {s : Row} {r r' : List ℤ} {w : ℕ} → r' ≡ r → Laid s r w → Laid s r' w
laid_back e h = rw e h

-- ---- variables are only taken

mono_cond : (b : Bool) (n : ℕ) → n ≤ cond b (n + 1) n
mono_cond true n = omega arith
mono_cond false n = omega arith

pub mono_take : (at : ℕ) (s : St Row) → s.next ≤ (take_lit_at lay at s).next
unfolding take_lit_at
mono_take at s = mono_cond (has_none s.lits at) s.next

mono_over : (n : ℕ) (g : ℕ → St Row → St Row) → ((j : ℕ) (t : St Row) → t.next ≤ (g j t).next) → (k : ℕ) (a : St Row) → a.next ≤ (over n g k a).next
unfolding over
mono_over zero g m k a = omega arith
mono_over (suc n) g m k a = le_trans (m k a) (mono_over n g m (k + 1) (g k a))

abbrev pub Rec : Type 0
Rec = ℕ → ℕ → St Row → St Row

abbrev pub Mono : Rec → Type 0
Mono rec = (k y : ℕ) (s : St Row) → s.next ≤ (rec k y s).next

module _ (rec : Rec) (m : Mono rec) (ns : List ℕ) (ins : List ℤ) (k at : ℕ) where
  pub mono_link : (p : Way) (s : St Row) → s.next ≤ (link_of lay rec ns ins k at p s).next
  unfolding link_of clause_at
  mono_link p s = le_trans (m (node_at ns k).right p.y s) (m (node_at ns k).left p.x (rec (node_at ns k).right p.y s))

  pub mono_links : (keys : List ℕ) (v : ℕ) (s : St Row) → s.next ≤ (links_of lay rec ns ins keys k at v s).next
  unfolding links_of
  mono_links keys v s = mono_over (turns_of ns k - 0) (λ j t. link_of lay rec ns ins k at (way_of ns keys k v j) t) (λ j t. mono_link (way_of ns keys k v j) t) 0 s

  -- the parts of a link
  pub link_ends_2 : (p : Way) (s s₁ : St Row) (n : Node) → n ≡ node_at ns k → s₁ ≡ rec n.right p.y s → (link_of lay rec ns ins k at p s).next ≤ 2 ^ 31 → (rec n.left p.x s₁).next ≤ 2 ^ 31
  unfolding link_of clause_at
  link_ends_2 p s s₁ n e e₁ h = rw (e₁, e) h

  pub link_ends_1 : (p : Way) (s : St Row) (n : Node) → n ≡ node_at ns k → (link_of lay rec ns ins k at p s).next ≤ 2 ^ 31 → (rec n.right p.y s).next ≤ 2 ^ 31
  link_ends_1 p s n e h = le_trans (m n.left p.x (rec n.right p.y s)) (link_ends_2 p s (rec n.right p.y s) n e refl h)

  -- a turn
  pub turn_ends : (keys : List ℕ) (v j end : ℕ) (s t : St Row) (p : Way) → j < end → p ≡ way_of ns keys k v j → span j end (λ i u. link_of lay rec ns ins k at (way_of ns keys k v i) u) s ≡ t → t.next ≤ 2 ^ 31
      → (link_of lay rec ns ins k at p s).next ≤ 2 ^ 31
  turn_ends keys v j end s t p h e i b =
      let f : ℕ → St Row → St Row = λ i u. link_of lay rec ns ins k at (way_of ns keys k v i) u in
      rw e (le_trans (mono_over (end - (j + 1)) f (λ i u. mono_link (way_of ns keys k v i) u) (j + 1) (f j s))
      (next_by (sym (span_step j end f s h) ∙ i) b))

mono_do : (rec : Rec) → Mono rec → (f : ℕ) (ns : List ℕ) (ins : List ℤ) (keys : List ℕ) (k : ℕ) (j : Job) (s : St Row) → s.next ≤ (do_of lay rec (define lay f ns ins) ns ins keys k j s).next
unfolding do_of mark_at
mono_do rec m f ns ins keys k Nothing s = omega arith
mono_do rec m f ns ins keys k (Count i) s = mono_define f ns ins k i just_if s
mono_do rec m f ns ins keys k (Sum at v) s = le_trans (mono_take at s) (mono_links rec m ns ins k at keys v (take_lit_at lay at s))

pub mono_weigh : (f : ℕ) (ns : List ℕ) (ins : List ℤ) (keys : List ℕ) → Mono (weigh lay f ns ins keys)
unfolding weigh
mono_weigh zero ns ins keys k y s = omega arith
mono_weigh (suc f) ns ins keys k y s = mono_do (weigh lay f ns ins keys) (mono_weigh f ns ins keys) (suc f) ns ins keys k (job_of ns keys s.marks k y) s

-- ---- the steps

pub take_is : (lits : List ℤ) (marks : List ℕ) (row : List ℤ) (u : Run) (at : ℕ) (l : List ℤ) (n : ℕ) → l ≡ taken_lits lits at u.next → n ≡ taken_next lits at u.next
    → state l marks row (record { next = n; words = u.words }) ≡ take_lit_at lay at (state lits marks row u)
unfolding take_lit_at
take_is lits marks row u at l n p q = λ j. record { lits = p j; marks = marks; next = q j; out = at_row row u.words }

pub mark_is : (lits : List ℤ) (marks : List ℕ) (row : List ℤ) (u : Run) (at : ℕ) → state lits (set marks at 1) row u ≡ mark_at lay at (state lits marks row u)
unfolding mark_at
mark_is lits marks row u at = refl

pub link_is : (rec : Rec) (ns : List ℕ) (ins : List ℤ) (k at : ℕ) (p : Way) (s s₁ : St Row) (l : List ℤ) (m : List ℕ) (row row' : List ℤ) (u : Run) (w : ℕ) (n : Node)
    → n ≡ node_at ns k → s₁ ≡ rec n.right p.y s → state l m row u ≡ rec n.left p.x s₁
    → at_row row' w ≡ emit_way lay (con_lits ns ins l n.left) (con_lits ns ins l n.right) p (lit_at l at) (at_row row u.words)
    → state l m row' (record { next = u.next; words = w }) ≡ link_of lay rec ns ins k at p s
unfolding link_of clause_at
link_is rec ns ins k at p s s₁ l m row row' u w n e e₁ e₂ e₃ =
    let a : St Row → St Row = λ t. record {
      lits = t.lits;
      marks = t.marks;
      next = t.next;
      out = emit_way lay (con_lits ns ins t.lits n.left) (con_lits ns ins t.lits n.right) p (lit_at t.lits at) t.out;
    } in
    let q : state l m row' (record { next = u.next; words = w }) ≡ a (state l m row u) = λ j. record { lits = l; marks = m; next = u.next; out = e₃ j } in
    rw (← e) (q ∙ ap a (e₂ ∙ ap (rec n.left p.x) e₁))

module _ (ns : List ℕ) (ins : List ℤ) (keys : List ℕ) (k y : ℕ) (s : St Row) where
  step_at : (f : ℕ) → k + 1 ≤ f → weigh lay f ns ins keys k y s ≡ do_of lay (weigh lay (f - 1) ns ins keys) (define lay f ns ins) ns ins keys k (job_of ns keys s.marks k y) s
  unfolding weigh
  step_at zero h = absurd (omega arith)
  step_at (suc f) h =
      let e : suc f - 1 ≡ f = omega arith in
      rw e

  at_job : (j : Job) → job_of ns keys s.marks k y ≡ j → (f : ℕ) → k + 1 ≤ f → do_of lay (weigh lay (f - 1) ns ins keys) (define lay f ns ins) ns ins keys k j s ≡ weigh lay f ns ins keys k y s
  at_job j p f h = sym (step_at f h ∙ ap (λ (q : Job). do_of lay (weigh lay (f - 1) ns ins keys) (define lay f ns ins) ns ins keys k q s) p)

  pub nothing_is : job_of ns keys s.marks k y ≡ Nothing → (f : ℕ) → k + 1 ≤ f → s ≡ weigh lay f ns ins keys k y s
  unfolding do_of
  nothing_is p f h = at_job Nothing p f h

  pub count_is : (i : ℕ) → job_of ns keys s.marks k y ≡ Count i → (f : ℕ) → k + 1 ≤ f → define lay f ns ins k i just_if s ≡ weigh lay f ns ins keys k y s
  unfolding do_of
  count_is i p f h = at_job (Count i) p f h

  pub sum_is : (at v : ℕ) → job_of ns keys s.marks k y ≡ Sum at v → (f : ℕ) → k + 1 ≤ f → mark_at lay at (links_of lay (weigh lay (f - 1) ns ins keys) ns ins keys k at v (take_lit_at lay at s)) ≡ weigh lay f ns ins keys k y s
  unfolding do_of
  sum_is at v p f h = at_job (Sum at v) p f h

  module _ (at v : ℕ) (p : job_of ns keys s.marks k y ≡ Sum at v) (f : ℕ) (h : k + 1 ≤ f) (within : (weigh lay f ns ins keys k y s).next ≤ 2 ^ 31) where
    pub links_ends : (s₁ : St Row) → s₁ ≡ take_lit_at lay at s → (links_of lay (weigh lay (f - 1) ns ins keys) ns ins keys k at v s₁).next ≤ 2 ^ 31
    unfolding mark_at
    links_ends s₁ e = rw e (next_by (sum_is at v p f h) within)

    pub take_ends : (take_lit_at lay at s).next ≤ 2 ^ 31
    take_ends = le_trans (mono_links (weigh lay (f - 1) ns ins keys) (mono_weigh (f - 1) ns ins keys) ns ins k at keys v (take_lit_at lay at s)) (links_ends (take_lit_at lay at s) refl)

pub taken_next_is : (lits : List ℤ) (marks : List ℕ) (row : List ℤ) (u : Run) (at : ℕ) → (take_lit_at lay at (state lits marks row u)).next ≤ 2 ^ 31 → taken_next lits at u.next ≤ 2 ^ 31
unfolding take_lit_at
taken_next_is lits marks row u at h = h

-- what is asked where the literal is taken, and of the state with it where the ways begin
module _ (ns : List ℕ) (ins : List ℤ) (keys : List ℕ) (k y : ℕ) (lits : List ℤ) (marks : List ℕ) (row : List ℤ) (u : Run) (f : Fit ns ins lits marks u) (b : Spot ns k y)
    (at v : ℕ) (p : job_of ns keys marks k y ≡ Sum at v) (fuel : ℕ) (h : k + 1 ≤ fuel) (within : (weigh lay fuel ns ins keys k y (state lits marks row u)).next ≤ 2 ^ 31) where
  here : ((node_at ns k).kind ≡ 2) × (at < length lits)
  here = sum_ok ns keys marks (length lits) k y (place_at ns (length ins) (length lits) k f.ok b.below y b.out) at v p

  small : taken_next lits at u.next ≤ 2 ^ 31
  small = taken_next_is lits marks row u at (take_ends ns ins keys k y (state lits marks row u) at v p fuel h within)

  pub take_asks : (at < length lits) × (taken_next lits at u.next ≤ 2 ^ 31)
  take_asks = (here.1, small)

  pub links_asks : (l : List ℤ) (n : ℕ) → l ≡ taken_lits lits at u.next → n ≡ taken_next lits at u.next → length l ≡ length lits
      → Fit ns ins l marks (record { next = n; words = u.words }) × CellAt ns (length l) k at
      × Ends k (λ g. links_of lay (weigh lay g ns ins keys) ns ins keys k at v (state l marks row (record { next = n; words = u.words })))
  links_asks l n a c d = (
    fit_cell ns ins lits marks u f at here.1 small l n a c,
    record { below = b.below; general = here.0; inside = omega (arith, here.1) },
    record { fuel = fuel - 1; enough = omega arith; within = links_ends ns ins keys k y (state lits marks row u) at v p fuel h within _ (take_is lits marks row u at l n a c) },
  )

-- ---- a way

pub way_ok : (ns keys : List ℕ) (nc k at v j : ℕ) (p : Way) → CellAt ns nc k at → p ≡ way_of ns keys k v j → WayAt ns nc k at p
way_ok ns keys nc k at v j p c e =
    let w = way_within keys (node_at ns k) (node_at ns (node_at ns k).left) (node_at ns (node_at ns k).right) v j in
    record { cell = c; left = rw e w.left; right = rw e w.right }

-- ---- the pairs, then left alone and right alone

-- the turns of the window are those of the pairs
pub pairs_start : (f : ℕ) (ns : List ℕ) (ins : List ℤ) (keys : List ℕ) (k at v : ℕ) (w : Span) (s : St Row) → Pairing ns keys k v w → Sorted keys (node_at ns (node_at ns k).right)
    → span w.from w.to (λ j t. link_of lay (weigh lay f ns ins keys) ns ins k at (way_of ns keys k v j) t) s ≡ pairs_of (weigh lay f ns ins keys) ns ins keys k at v s
unfolding pairs_of
pairs_start f ns ins keys k at v w s c r = in_window lay ns ins keys k at v f w s c r

module _ (rec : Rec) (ns : List ℕ) (ins : List ℤ) (keys : List ℕ) (k at v : ℕ) (s : St Row) (e : ℕ) (p q : Way) (h : e ≡ outs ns (node_at ns k).left)
    (hp : p ≡ way_of ns keys k v e) (hq : q ≡ way_of ns keys k v (e + 1)) where
  abbrev one : Way → St Row → St Row
  one w t = link_of lay rec ns ins k at w t

  parts : one q (one p (pairs_of rec ns ins keys k at v s)) ≡ links_of lay rec ns ins keys k at v s
  unfolding pairs_of
  parts = rw (hq, hp, h) (sym (three_ways lay ns ins keys rec k at v s))

  pub alone_is : (s₁ s₂ s₃ : St Row) → s₁ ≡ pairs_of rec ns ins keys k at v s → s₂ ≡ one p s₁ → s₃ ≡ one q s₂ → s₃ ≡ links_of lay rec ns ins keys k at v s
  alone_is s₁ s₂ s₃ a b c = c ∙ ap (one q) (b ∙ ap (one p) a) ∙ parts

  pub right_ends : (links_of lay rec ns ins keys k at v s).next ≤ 2 ^ 31 → (s₁ s₂ : St Row) → s₁ ≡ pairs_of rec ns ins keys k at v s → s₂ ≡ one p s₁ → (one q s₂).next ≤ 2 ^ 31
  right_ends z s₁ s₂ a b = next_by (alone_is s₁ s₂ (one q s₂) a b refl) z

  module _ (m : Mono rec) (z : (links_of lay rec ns ins keys k at v s).next ≤ 2 ^ 31) where
    pub left_ends : (s₁ : St Row) → s₁ ≡ pairs_of rec ns ins keys k at v s → (one p s₁).next ≤ 2 ^ 31
    left_ends s₁ a = le_trans (mono_link rec m ns ins k at q (one p s₁)) (right_ends z s₁ (one p s₁) a refl)

    pub pairs_ends : (pairs_of rec ns ins keys k at v s).next ≤ 2 ^ 31
    pairs_ends = le_trans (mono_link rec m ns ins k at p (pairs_of rec ns ins keys k at v s)) (left_ends (pairs_of rec ns ins keys k at v s) refl)
