-- Two runs side by side, whose clauses go to different places. One induction: a relation of the two states that has equal marks, and that each
-- step at a cell keeps, is kept by the whole run (`both_define`, `both_weigh`). So where clauses go changes nothing else: a map between the two places
-- that respects appending respects the runs (`define_hom`, `weigh_hom`).
use Rattle.std.specs.Prelude.{◌≡◌, Bool, eqb, ℤ}
use Rattle.std.proofs.Math.Path.{refl, ap, subst}
use Rattle.std.proofs.Common.{◌∙◌}
use Rattle.std.proofs.Math.Bool.{true, false, cond}
use mathlib.Core.List.{List}
use Prim.Native.Nat.{ℕ, zero, suc, ◌+◌, ◌-◌}
use Rattle.std.proofs.Math.ListN.{set}
use Rattle.paper.specs.Span.{over}
use Rattle.paper.specs.Rows.{node_at, con_lits}
use Rattle.paper.specs.Plain.{St, just_if, lit_at, taken_lits, taken_next, if_clause, only_clause, emit_if, emit_only, emit_both, plan_of, finish_of, demands_of, walk_of, step_of, define}
use Rattle.paper.specs.Weighted.{way_of, turns_of, job_of, take_lit_at, mark_at, emit_way, clause_at, link_of, links_of, do_of, weigh}
use Rattle.paper.specs.declared.Want.{Want}
use Rattle.paper.specs.declared.Todo.{Todo}
use Rattle.paper.specs.declared.Span.{Span}
use Rattle.paper.specs.declared.Ranges.{Ranges}
use Rattle.paper.specs.declared.Clause.{Clause}
use Rattle.paper.specs.declared.Way.{Way}
use Rattle.paper.specs.declared.Precond.{Precond}
use Rattle.paper.specs.declared.Precond.TheVariants.{Return, Pass, Continue}
use Rattle.paper.specs.declared.Job.{Job}
use Rattle.paper.specs.declared.Job.TheVariants.{Nothing, Count, Sum}
use Rattle.facts.specs.Sinks.{through}

pub over_rel : {A B : Type 0} (R : A → B → Type 0) (f : ℕ → A → A) (g : ℕ → B → B) → ((j : ℕ) (a : A) (b : B) → R a b → R (f j a) (g j b))
    → (n k : ℕ) (a : A) (b : B) → R a b → R (over n f k a) (over n g k b)
unfolding over
over_rel R f g m zero k a b r = r
over_rel R f g m (suc n) k a b r = over_rel R f g m n (k + 1) (f k a) (g k b) (m k a b r)

module _ {S T : Type 0} (p : S → Clause → S) (q : T → Clause → T) (R : St S → St T → Type 0) (ns : List ℕ) (ins : List ℤ)
    (same : (s : St S) (t : St T) → R s t → s.marks ≡ t.marks)
    (fin : (k i : ℕ) (d : Todo) (s : St S) (t : St T) → R s t → R (finish_of p ns ins k i d s) (finish_of q ns ins k i d t)) where
  abbrev Both : (ℕ → ℕ → Want → St S → St S) → (ℕ → ℕ → Want → St T → St T) → Type 0
  Both f g = (k i : ℕ) (w : Want) (s : St S) (t : St T) → R s t → R (f k i w s) (g k i w t)

  demands_rel : (f : ℕ → ℕ → Want → St S → St S) (g : ℕ → ℕ → Want → St T → St T) → Both f g → (c : ℕ) (sp : Span) (w : Want) (s : St S) (t : St T) → R s t → R (demands_of p f c sp w s) (demands_of q g c sp w t)
  unfolding demands_of
  demands_rel f g b c sp w s t r = over_rel R (λ j u. f c j w u) (λ j u. g c j w u) (λ j x y z. b c j w x y z) (sp.to - sp.from) sp.from s t r

  walk_rel : (f : ℕ → ℕ → Want → St S → St S) (g : ℕ → ℕ → Want → St T → St T) → Both f g → (rs : Ranges) (s : St S) (t : St T) → R s t → R (walk_of p f rs s) (walk_of q g rs t)
  unfolding walk_of
  walk_rel f g b rs s t r =
      demands_rel f g b rs.right rs.right_only _ _ _
      (demands_rel f g b rs.left rs.left_only _ _ _
      (demands_rel f g b rs.right rs.right_if _ _ _ (demands_rel f g b rs.left rs.left_if _ s t r)))

  step_rel : (f : ℕ → ℕ → Want → St S → St S) (g : ℕ → ℕ → Want → St T → St T) → Both f g → (k i : ℕ) (x : Precond) (s : St S) (t : St T) → R s t → R (step_of p f ns ins k i x s) (step_of q g ns ins k i x t)
  unfolding step_of
  step_rel f g b k i Return s t r = r
  step_rel f g b k i (Pass c d) s t r = fin k i d _ _ (b c i d.want s t r)
  step_rel f g b k i (Continue rs d) s t r = fin k i d _ _ (walk_rel f g b rs s t r)

  pub both_define : (f : ℕ) → Both (define p f ns ins) (define q f ns ins)
  unfolding define
  both_define zero k i w s t r = r
  both_define (suc f) k i w s t r =
      subst (λ (m : List ℕ). R (step_of p (define p f ns ins) ns ins k i (plan_of ns s.marks k i w) s) (step_of q (define q f ns ins) ns ins k i (plan_of ns m k i w) t)) (same s t r)
      (step_rel (define p f ns ins) (define q f ns ins) (both_define f) k i (plan_of ns s.marks k i w) s t r)

-- ---- the weighted run

module _ {S T : Type 0} (p : S → Clause → S) (q : T → Clause → T) (R : St S → St T → Type 0) (ns : List ℕ) (ins : List ℤ) (keys : List ℕ)
    (same : (s : St S) (t : St T) → R s t → s.marks ≡ t.marks)
    (fin : (k i : ℕ) (d : Todo) (s : St S) (t : St T) → R s t → R (finish_of p ns ins k i d s) (finish_of q ns ins k i d t))
    (tak : (at : ℕ) (s : St S) (t : St T) → R s t → R (take_lit_at p at s) (take_lit_at q at t))
    (mar : (at : ℕ) (s : St S) (t : St T) → R s t → R (mark_at p at s) (mark_at q at t))
    (cla : (k at : ℕ) (d : Way) (s : St S) (t : St T) → R s t → R (clause_at p ns ins k at d s) (clause_at q ns ins k at d t)) where
  abbrev Each : (ℕ → ℕ → St S → St S) → (ℕ → ℕ → St T → St T) → Type 0
  Each f g = (k y : ℕ) (s : St S) (t : St T) → R s t → R (f k y s) (g k y t)

  link_rel : (f : ℕ → ℕ → St S → St S) (g : ℕ → ℕ → St T → St T) → Each f g → (k at : ℕ) (d : Way) (s : St S) (t : St T) → R s t → R (link_of p f ns ins k at d s) (link_of q g ns ins k at d t)
  unfolding link_of
  link_rel f g b k at d s t r = cla k at d _ _ (b (node_at ns k).left d.x _ _ (b (node_at ns k).right d.y s t r))

  links_rel : (f : ℕ → ℕ → St S → St S) (g : ℕ → ℕ → St T → St T) → Each f g → (k at v : ℕ) (s : St S) (t : St T) → R s t → R (links_of p f ns ins keys k at v s) (links_of q g ns ins keys k at v t)
  unfolding links_of
  links_rel f g b k at v s t r =
      over_rel R (λ j u. link_of p f ns ins k at (way_of ns keys k v j) u) (λ j u. link_of q g ns ins k at (way_of ns keys k v j) u) (λ j x y z. link_rel f g b k at (way_of ns keys k v j) x y z) (turns_of ns k - 0) 0 s t r

  do_rel : (f : ℕ → ℕ → St S → St S) (g : ℕ → ℕ → St T → St T) → Each f g → (n k : ℕ) (j : Job) (s : St S) (t : St T) → R s t → R (do_of p f (define p n ns ins) ns ins keys k j s) (do_of q g (define q n ns ins) ns ins keys k j t)
  unfolding do_of
  do_rel f g b n k Nothing s t r = r
  do_rel f g b n k (Count i) s t r = both_define p q R ns ins same fin n k i just_if s t r
  do_rel f g b n k (Sum at v) s t r = mar at _ _ (links_rel f g b k at v _ _ (tak at s t r))

  pub both_weigh : (f : ℕ) → Each (weigh p f ns ins keys) (weigh q f ns ins keys)
  unfolding weigh
  both_weigh zero k y s t r = r
  both_weigh (suc f) k y s t r =
      subst (λ (m : List ℕ). R (do_of p (weigh p f ns ins keys) (define p (suc f) ns ins) ns ins keys k (job_of ns keys s.marks k y) s) (do_of q (weigh q f ns ins keys) (define q (suc f) ns ins) ns ins keys k (job_of ns keys m k y) t)) (same s t r)
      (do_rel (weigh p f ns ins keys) (weigh q f ns ins keys) (both_weigh f) (suc f) k (job_of ns keys s.marks k y) s t r)

module _ {S T : Type 0} (p : S → Clause → S) (q : T → Clause → T) (h : S → T) (hom : (s : S) (c : Clause) → h (p s c) ≡ q (h s) c) where
  span_hom : (c : ℕ → Clause) (n k : ℕ) (s : S) → h (over n (λ x t. p t (c x)) k s) ≡ over n (λ x t. q t (c x)) k (h s)
  span_hom c n k s = over_rel (λ (a : S) (b : T). h a ≡ b) (λ x t. p t (c x)) (λ x t. q t (c x)) (λ j a b e. hom a (c j) ∙ ap (λ (z : T). q z (c j)) e) n k s (h s) refl

  if_hom : (l r : List ℤ) (i : ℕ) (o : ℤ) (s : S) → h (emit_if p l r i o s) ≡ emit_if q l r i o (h s)
  unfolding emit_if
  if_hom l r i o s = span_hom (λ x. if_clause l r x (i + 1 - x) o) _ _ s

  only_hom : (l r : List ℤ) (i : ℕ) (o : ℤ) (s : S) → h (emit_only p l r i o s) ≡ emit_only q l r i o (h s)
  unfolding emit_only
  only_hom l r i o s = span_hom (λ x. only_clause l r x (i - x) o) _ _ s

  both_hom : (l r : List ℤ) (i : ℕ) (o : ℤ) (w : Want) (s : S) → h (emit_both p l r i o w s) ≡ emit_both q l r i o w (h s)
  unfolding emit_both
  both_hom l r i o w s = go w.fi w.fo
    where
      go : (a b : Bool) → h (cond b (emit_only p l r i o (cond a (emit_if p l r i o s) s)) (cond a (emit_if p l r i o s) s)) ≡ cond b (emit_only q l r i o (cond a (emit_if q l r i o (h s)) (h s))) (cond a (emit_if q l r i o (h s)) (h s))
      go true true = only_hom l r i o _ ∙ ap (emit_only q l r i o) (if_hom l r i o s)
      go true false = if_hom l r i o s
      go false true = only_hom l r i o s
      go false false = refl

  finish_hom : (ns : List ℕ) (ins : List ℤ) (k i : ℕ) (d : Todo) (s : St S) → through h (finish_of p ns ins k i d s) ≡ finish_of q ns ins k i d (through h s)
  unfolding finish_of
  finish_hom ns ins k i d s = λ j. record {
    lits = taken_lits s.lits ((node_at ns k).first + i) s.next;
    marks = set s.marks ((node_at ns k).first + i) d.mark;
    next = taken_next s.lits ((node_at ns k).first + i) s.next;
    out = both_hom (con_lits ns ins (taken_lits s.lits ((node_at ns k).first + i) s.next) (node_at ns k).left) (con_lits ns ins (taken_lits s.lits ((node_at ns k).first + i) s.next) (node_at ns k).right) i (lit_at (taken_lits s.lits ((node_at ns k).first + i) s.next) ((node_at ns k).first + i)) d.want s.out j;
  }

  pub define_hom : (f : ℕ) (ns : List ℕ) (ins : List ℤ) (k i : ℕ) (w : Want) (s : St S) → through h (define p f ns ins k i w s) ≡ define q f ns ins k i w (through h s)
  define_hom f ns ins k i w s =
      both_define p q (λ (a : St S) (b : St T). through h a ≡ b) ns ins (λ a b e. ap (λ (x : St T). x.marks) e)
      (λ k' i' d a b e. finish_hom ns ins k' i' d a ∙ ap (finish_of q ns ins k' i' d) e) f k i w s (through h s) refl

  emit_hom : (l r : List ℤ) (d : Way) (o : ℤ) (s : S) → h (emit_way p l r d o s) ≡ emit_way q l r d o (h s)
  unfolding emit_way
  emit_hom l r d o s = go (eqb (d.x + d.y) 0)
    where
      go : (b : Bool) → h (cond b s (p s (if_clause l r d.x d.y o))) ≡ cond b (h s) (q (h s) (if_clause l r d.x d.y o))
      go true = refl
      go false = hom s (if_clause l r d.x d.y o)

  clause_hom : (ns : List ℕ) (ins : List ℤ) (k at : ℕ) (d : Way) (s : St S) → through h (clause_at p ns ins k at d s) ≡ clause_at q ns ins k at d (through h s)
  unfolding clause_at
  clause_hom ns ins k at d s = λ j. record {
    lits = s.lits;
    marks = s.marks;
    next = s.next;
    out = emit_hom (con_lits ns ins s.lits (node_at ns k).left) (con_lits ns ins s.lits (node_at ns k).right) d (lit_at s.lits at) s.out j;
  }

  take_hom : (at : ℕ) (s : St S) → through h (take_lit_at p at s) ≡ take_lit_at q at (through h s)
  unfolding take_lit_at
  take_hom at s = refl

  mark_hom : (at : ℕ) (s : St S) → through h (mark_at p at s) ≡ mark_at q at (through h s)
  unfolding mark_at
  mark_hom at s = refl

  pub weigh_hom : (f : ℕ) (ns : List ℕ) (ins : List ℤ) (keys : List ℕ) (k y : ℕ) (s : St S) → through h (weigh p f ns ins keys k y s) ≡ weigh q f ns ins keys k y (through h s)
  weigh_hom f ns ins keys k y s =
      both_weigh p q (λ (a : St S) (b : St T). through h a ≡ b) ns ins keys (λ a b e. ap (λ (x : St T). x.marks) e)
      (λ k' i' d a b e. finish_hom ns ins k' i' d a ∙ ap (finish_of q ns ins k' i' d) e)
      (λ at a b e. take_hom at a ∙ ap (take_lit_at q at) e)
      (λ at a b e. mark_hom at a ∙ ap (mark_at q at) e)
      (λ k' at d a b e. clause_hom ns ins k' at d a ∙ ap (clause_at q ns ins k' at d) e) f k y s (through h s) refl
