-- One induction over a run: a relation between states, bounded by node ids, that a finished cell of a unit keeps is kept by the whole unweighted run;
-- one that a clause and a cell of a general node keep too is kept by the weighted run. Every demand on the way is of an output that is there.
-- Assumes nothing.
use Prim.Native.Nat.{ℕ, zero, suc, ◌+◌, ◌-◌, ◌%◌, ◌/◌, ◌<◌, ◌≤◌}
use Rattle.std.specs.Prelude.{List, Bool, cond, ◌≡◌, ◌⊎◌, get_or, eqb, ltb, ℤ}
use Rattle.std.proofs.Math.Bool.{true, false}
use Rattle.std.proofs.Math.Path.{refl}
use Rattle.std.proofs.Common.{sym, subst, ◌∙◌, inl, inr, arith, None, Some}
use borrow.Author.Tests.{eqb-true, eqb-false, ltb-true, ltb-false, eq-eqb, ne_eqb}
use Rattle.paper.specs.Span.{over, span}
use Rattle.paper.specs.Rows.{node_at, is_unit, is_general, is_dummy, value_count, con_len, con_val}
use Rattle.paper.specs.Plain.{missing_of, just_if, just_only, if_span, only_span, no_span, ranges_of, plan_two, plan_unit, plan_of, St, finish_of, demands_of, walk_of, step_of, define}
use Rattle.paper.specs.Weighted.{key_from, output_of, place_of, share_of, joined, no_way, way_two, way_of, turns_of, job_of, take_lit_at, mark_at, clause_at, link_of, links_of, do_of, weigh}
use Rattle.paper.specs.declared.Node.{Node}
use Rattle.paper.specs.declared.Want.{Want}
use Rattle.paper.specs.declared.Todo.{Todo}
use Rattle.paper.specs.declared.Span.{Span}
use Rattle.paper.specs.declared.Clause.{Clause}
use Rattle.paper.specs.declared.Precond.{Precond}
use Rattle.paper.specs.declared.Precond.TheVariants.{Return, Pass, Continue}
use Rattle.paper.specs.declared.Way.{Way}
use Rattle.paper.specs.declared.Job.TheVariants.{Nothing, Count, Sum}
use Rattle.facts.proofs.Ranges.{if_to, only_to, span_to}
use Rattle.facts.specs.Facts.{NodeFactsAt, a_leaf, a_dummy, a_unit, a_general}
use Rattle.facts.proofs.Facts.{dummy_outputs, unit_outputs, general_outputs}
use Rattle.facts.specs.Rel.{CellOf, Falls, Stepped, Summed, WayFits, finished, idle, marked, summed}

-- .. from a table that passes
pub falls : (ns : List ℕ) (nodes : ℕ) (keys marks : List ℕ) (limit : ℕ) → ((i : ℕ) → i < nodes → NodeFactsAt (node_at ns) keys marks limit i) → Falls ns nodes
falls ns nodes keys marks limit f =
    record { left = λ k h q. left k (f k h) q; right = λ k h q. right k (f k h) q; sum = λ k h q. sum k (f k h) q }
  where
    none : (k n : ℕ) {G : Type 0} → (node_at ns k).kind ≡ n → (n ≡ 1 → ⊥) → (n ≡ 2 → ⊥) → ((node_at ns k).kind ≡ 1) ⊎ ((node_at ns k).kind ≡ 2) → G
    none k n e a b (inl q) = absurd (a (sym e ∙ q))
    none k n e a b (inr q) = absurd (b (sym e ∙ q))

    left : (k : ℕ) → NodeFactsAt (node_at ns) keys marks limit k → ((node_at ns k).kind ≡ 1) ⊎ ((node_at ns k).kind ≡ 2) → (node_at ns k).left < k
    left k (a_leaf e g) q = none k 0 e (λ z. omega arith) (λ z. omega arith) q
    left k (a_dummy e g) q = none k 3 e (λ z. omega arith) (λ z. omega arith) q
    left k (a_unit e g m) q = g.left_low
    left k (a_general e g m) q = g.left_low

    right : (k : ℕ) → NodeFactsAt (node_at ns) keys marks limit k → ((node_at ns k).kind ≡ 1) ⊎ ((node_at ns k).kind ≡ 2) → (node_at ns k).right < k
    right k (a_leaf e g) q = none k 0 e (λ z. omega arith) (λ z. omega arith) q
    right k (a_dummy e g) q = none k 3 e (λ z. omega arith) (λ z. omega arith) q
    right k (a_unit e g m) q = g.right_low
    right k (a_general e g m) q = g.right_low

    sum : (k : ℕ) → NodeFactsAt (node_at ns) keys marks limit k → (node_at ns k).kind ≡ 1 → (node_at ns k).count ≡ con_len (node_at ns (node_at ns k).left) + con_len (node_at ns (node_at ns k).right)
    sum k (a_leaf e g) q = absurd (omega arith)
    sum k (a_dummy e g) q = absurd (omega arith)
    sum k (a_unit e g m) q = m.sum
    sum k (a_general e g m) q = absurd (omega arith)

-- a loop keeps a relation that each turn keeps
pub span_rel : {A : Type 0} (R : A → A → Type 0) → ((a : A) → R a a) → ((a b c : A) → R a b → R b c → R a c)
    → (from to : ℕ) (f : ℕ → A → A) → ((j : ℕ) → j < to → (a : A) → R a (f j a)) → (a : A) → R a (span from to f a)
unfolding over
span_rel {A} R re tr from to f m a = go (to - from) from (λ j h g. omega arith) a
  where
    go : (n k : ℕ) → ((j : ℕ) → k ≤ j → j < k + n → j < to) → (a : A) → R a (over n f k a)
    go zero k b a = re a
    go (suc n) k b a = tr a (f k a) (over n f (k + 1) (f k a)) (m k (b k (omega arith) (omega arith)) a) (go n (k + 1) (λ j h g. b j (omega arith) (omega arith)) (f k a))

-- ---- every output that is asked for is there

-- a key that is found stands among the n from the k-th on
key_place : (keys : List ℕ) (first v n k : ℕ) → place_of (key_from keys first v n k) ≤ k + n
unfolding key_from
key_place keys first v zero k = omega arith
key_place keys first v (suc n) k = go (eqb (get_or keys (first + k) 0) v) (key_place keys first v n (k + 1))
  where
    go : (t : Bool) → place_of (key_from keys first v n (k + 1)) ≤ k + 1 + n → place_of (cond t (Some k) (key_from keys first v n (k + 1))) ≤ k + suc n
    go true h = omega arith
    go false h = omega arith

pub output_place : (keys : List ℕ) (n : Node) (v : ℕ) → place_of (output_of keys n v) ≤ value_count n
unfolding output_of
output_place keys n v = go (is_general n) refl (eqb v 0) refl (ltb (value_count n) v) refl
  where
    go : (g : Bool) → is_general n ≡ g → (z : Bool) → eqb v 0 ≡ z → (b : Bool) → ltb (value_count n) v ≡ b
        → place_of (cond g (key_from keys n.first v n.count 0) (cond z None (cond b None (Some (v - 1))))) ≤ value_count n
    go true e z y b q = omega (arith, key_place keys n.first v n.count 0, general_outputs n (eqb-true _ _ e))
    go false e true y b q = omega arith
    go false e false y true q = omega arith
    go false e false y false q = let ne : v ≡ 0 → ⊥ = eqb-false v 0 y in omega (arith, ltb-false (value_count n) v q)

share_place : (keys : List ℕ) (n : Node) (m v : ℕ) → share_of keys n m v ≤ value_count n
unfolding share_of
share_place keys n m v = go (eqb (v % m) 0)
  where
    go : (t : Bool) → cond t (place_of (output_of keys n (v / m))) 0 ≤ value_count n
    go true = output_place keys n (v / m)
    go false = omega arith

pub way_fits : (keys : List ℕ) (n l r : Node) (v p : ℕ) → WayFits (way_two keys n l r v p) (con_len l) (con_len r)
unfolding way_two
way_fits keys n l r v p = go (ltb p (con_len l)) refl (ltb (con_val keys l n.lmul p) v) (eqb p (con_len l))
  where
    W : Bool → Bool → Bool → Way
    W a b c =
        cond a (cond b (joined (p + 1) (share_of keys r n.rmul (v - con_val keys l n.lmul p))) no_way)
        (cond c (record { x = share_of keys l n.lmul v; y = 0 }) (record { x = 0; y = share_of keys r n.rmul v }))

    pair : p < con_len l → (y : ℕ) → y ≤ con_len r → (t : Bool) → WayFits (cond t no_way (record { x = p + 1; y = y })) (con_len l) (con_len r)
    pair h y g true = record { left = omega arith; right = omega arith }
    pair h y g false = record { left = omega arith; right = g }

    go : (a : Bool) → ltb p (con_len l) ≡ a → (b c : Bool) → WayFits (W a b c) (con_len l) (con_len r)
    go true e true c =
        let y = share_of keys r n.rmul (v - con_val keys l n.lmul p) in
        pair (ltb-true _ _ e) y (share_place keys r n.rmul (v - con_val keys l n.lmul p)) (eqb y 0)
    go true e false c = record { left = omega arith; right = omega arith }
    go false e b true = record { left = share_place keys l n.lmul v; right = omega arith }
    go false e b false = record { left = omega arith; right = share_place keys r n.rmul v }

module _ {S : Type 0} (put : S → Clause → S) (ns : List ℕ) (ins : List ℤ) (nodes : ℕ) (ok : Falls ns nodes) (R : ℕ → St S → St S → Type 0)
    (re : (b : ℕ) (s : St S) → R b s s)
    (tr : (b : ℕ) (s t u : St S) → R b s t → R b t u → R b s u)
    (up : (b d : ℕ) (s t : St S) → b ≤ d → R b s t → R d s t)
    (fin : (k i : ℕ) → CellOf 1 ns nodes k i → (w : Want) (s t : St S) → R k s t
    → R (k + 1) s (finish_of put ns ins k i (missing_of (get_or s.marks ((node_at ns k).first + i) 0) w) t)) where
  abbrev Meets : (ℕ → ℕ → Want → St S → St S) → Type 0
  Meets f = (k i : ℕ) (w : Want) (s : St S) → k < nodes → i < con_len (node_at ns k) → R (k + 1) s (f k i w s)

  demands_rel : (f : ℕ → ℕ → Want → St S → St S) → Meets f → (b c : ℕ) (sp : Span) (w : Want) (s : St S) → c < b → c < nodes → sp.to ≤ con_len (node_at ns c)
      → R b s (demands_of put f c sp w s)
  unfolding demands_of
  demands_rel f m b c sp w s h g o =
      span_rel (R b) (re b) (tr b) sp.from sp.to (λ j t. f c j w t) (λ j l t. up (c + 1) b t (f c j w t) (omega arith) (m c j w t g (omega arith))) s

  -- the walk over the two children of a unit
  walk_rel : (f : ℕ → ℕ → Want → St S → St S) → Meets f → (k : ℕ) → k < nodes → (node_at ns k).kind ≡ 1 → (w : Want) (i : ℕ) (s : St S)
      → R k s (walk_of put f (ranges_of (node_at ns k) (con_len (node_at ns (node_at ns k).left)) (con_len (node_at ns (node_at ns k).right)) w i) s)
  unfolding walk_of ranges_of
  walk_rel f m k h u w i s =
      let n = node_at ns k in
      let a = con_len (node_at ns n.left) in
      let b = con_len (node_at ns n.right) in
      let l : n.left < k = ok.left k h (inl u) in
      let r : n.right < k = ok.right k h (inl u) in
      let s1 = demands_of put f n.left (cond w.fi (if_span a b i) no_span) just_if s in
      let s2 = demands_of put f n.right (cond w.fi (if_span b a i) no_span) just_if s1 in
      let s3 = demands_of put f n.left (cond w.fo (only_span a b i) no_span) just_only s2 in
      let s4 = demands_of put f n.right (cond w.fo (only_span b a i) no_span) just_only s3 in
      tr k s s3 s4
      (tr k s s2 s3
      (tr k s s1 s2
      (demands_rel f m k n.left (cond w.fi (if_span a b i) no_span) just_if s l (omega arith) (span_to w.fi (if_span a b i) a (if_to a b i)))
      (demands_rel f m k n.right (cond w.fi (if_span b a i) no_span) just_if s1 r (omega arith) (span_to w.fi (if_span b a i) b (if_to b a i))))
      (demands_rel f m k n.left (cond w.fo (only_span a b i) no_span) just_only s2 l (omega arith) (span_to w.fo (only_span a b i) a (only_to a b i))))
      (demands_rel f m k n.right (cond w.fo (only_span b a i) no_span) just_only s3 r (omega arith) (span_to w.fo (only_span b a i) b (only_to b a i)))

  -- a unit's plan, carried out
  unit_case : (f : ℕ → ℕ → Want → St S → St S) → Meets f → (k i : ℕ) (w : Want) (s : St S) → CellOf 1 ns nodes k i
      → Stepped put ns ins R k i w s
      (step_of put f ns ins k i (plan_unit (node_at ns k) (node_at ns (node_at ns k).left) (node_at ns (node_at ns k).right) i (missing_of (get_or s.marks ((node_at ns k).first + i) 0) w)) s)
  unfolding step_of plan_unit plan_two
  unit_case f m k i w s c = go t.want.fi refl t.want.fo refl (is_dummy l) refl (is_dummy r) refl
    where
      n : Node
      n = node_at ns k

      l : Node
      l = node_at ns n.left

      r : Node
      r = node_at ns n.right

      t : Todo
      t = missing_of (get_or s.marks (n.first + i) 0) w

      lo : n.left < k
      lo = ok.left k c.below (inl c.is)

      ro : n.right < k
      ro = ok.right k c.below (inl c.is)

      two : Bool → Bool → Precond
      two dl dr = cond dl (Pass n.right t) (cond dr (Pass n.left t) (Continue (ranges_of n (con_len l) (con_len r) t.want i) t))

      pass : (d : ℕ) → d < k → i < con_len (node_at ns d) → Stepped put ns ins R k i w s (finish_of put ns ins k i t (f d i t.want s))
      pass d h o = finished (f d i t.want s) (up (d + 1) k s (f d i t.want s) (omega arith) (m d i t.want s (omega (arith, c.below)) o)) refl

      plans : (dl : Bool) → is_dummy l ≡ dl → (dr : Bool) → is_dummy r ≡ dr → Stepped put ns ins R k i w s (step_of put f ns ins k i (two dl dr) s)
      plans true el dr er = pass n.right ro (omega (arith, c.out, ok.sum k c.below c.is, dummy_outputs l (eqb-true _ _ el)))
      plans false el true er = pass n.left lo (omega (arith, c.out, ok.sum k c.below c.is, dummy_outputs r (eqb-true _ _ er)))
      plans false el false er = finished (walk_of put f (ranges_of n (con_len l) (con_len r) t.want i) s) (walk_rel f m k c.below c.is t.want i s) refl

      go : (a : Bool) → t.want.fi ≡ a → (b : Bool) → t.want.fo ≡ b → (dl : Bool) → is_dummy l ≡ dl → (dr : Bool) → is_dummy r ≡ dr
          → Stepped put ns ins R k i w s (step_of put f ns ins k i (cond a (two dl dr) (cond b (two dl dr) Return)) s)
      go true ea b eb dl el dr er = plans dl el dr er
      go false ea true eb dl el dr er = plans dl el dr er
      go false ea false eb dl el dr er = idle ea eb refl

  stepped_rel : (k i : ℕ) (w : Want) (s out : St S) → CellOf 1 ns nodes k i → Stepped put ns ins R k i w s out → R (k + 1) s out
  stepped_rel k i w s out c (idle a b e) = subst (R (k + 1) s) (sym e) (re (k + 1) s)
  stepped_rel k i w s out c (finished t r e) = subst (R (k + 1) s) (sym e) (fin k i c w s t r)

  pub define_rel : (f : ℕ) → Meets (define put f ns ins)
  unfolding define plan_of step_of
  define_rel zero k i w s h o = re (k + 1) s
  define_rel (suc f) k i w s h o = go (define_rel f) (is_unit (node_at ns k)) refl
    where
      go : Meets (define put f ns ins) → (u : Bool) → is_unit (node_at ns k) ≡ u
          → R (k + 1) s (step_of put (define put f ns ins) ns ins k i (cond u (plan_unit (node_at ns k) (node_at ns (node_at ns k).left) (node_at ns (node_at ns k).right) i (missing_of (get_or s.marks ((node_at ns k).first + i) 0) w)) Return) s)
      go m true e =
          let c : CellOf 1 ns nodes k i = record { below = h; is = eqb-true _ _ e; out = omega (arith, unit_outputs (node_at ns k) (eqb-true _ _ e)) } in
          stepped_rel k i w s _ c (unit_case (define put f ns ins) m k i w s c)
      go m false e = re (k + 1) s

  -- a demand of a unit's cell, seen from above
  pub define_case : (f k i : ℕ) (w : Want) (s : St S) → CellOf 1 ns nodes k i → Stepped put ns ins R k i w s (define put (suc f) ns ins k i w s)
  unfolding define plan_of
  define_case f k i w s c = rw (eq-eqb (node_at ns k).kind 1 c.is) (unit_case (define put f ns ins) (define_rel f) k i w s c)

  -- the weighted run: a general node's cell takes its literal first and is marked last
  module _ (keys : List ℕ)
      (cla : (b k at : ℕ) (p : Way) (s : St S) → R b s (clause_at put ns ins k at p s))
      (sum : (k i : ℕ) → CellOf 2 ns nodes k i → (s t : St S) → get_or s.marks ((node_at ns k).first + i) 0 ≡ 0 → R k (take_lit_at put ((node_at ns k).first + i) s) t
      → R (k + 1) s (mark_at put ((node_at ns k).first + i) t)) where
    abbrev Weighs : (ℕ → ℕ → St S → St S) → Type 0
    Weighs f = (k y : ℕ) (s : St S) → k < nodes → y ≤ con_len (node_at ns k) → R (k + 1) s (f k y s)

    link_rel : (f : ℕ → ℕ → St S → St S) → Weighs f → (k at : ℕ) (p : Way) (s : St S) → k < nodes → (node_at ns k).kind ≡ 2
        → WayFits p (con_len (node_at ns (node_at ns k).left)) (con_len (node_at ns (node_at ns k).right)) → R k s (link_of put f ns ins k at p s)
    unfolding link_of
    link_rel f m k at p s h g q =
        let n = node_at ns k in
        let l : n.left < k = ok.left k h (inr g) in
        let r : n.right < k = ok.right k h (inr g) in
        let s1 = f n.right p.y s in
        let s2 = f n.left p.x s1 in
        tr k s s2 (clause_at put ns ins k at p s2)
        (tr k s s1 s2
        (up (n.right + 1) k s s1 (omega arith) (m n.right p.y s (omega arith) q.right))
        (up (n.left + 1) k s1 s2 (omega arith) (m n.left p.x s1 (omega arith) q.left)))
        (cla k k at p s2)

    links_rel : (f : ℕ → ℕ → St S → St S) → Weighs f → (k at v : ℕ) (s : St S) → k < nodes → (node_at ns k).kind ≡ 2 → R k s (links_of put f ns ins keys k at v s)
    unfolding links_of
    links_rel f m k at v s h g =
        let n = node_at ns k in
        span_rel (R k) (re k) (tr k) 0 (turns_of ns k) (λ j t. link_of put f ns ins k at (way_of ns keys k v j) t)
        (λ j l t. link_rel f m k at (way_of ns keys k v j) t h g (way_fits keys n (node_at ns n.left) (node_at ns n.right) v j)) s

    pub weigh_rel : (f : ℕ) → Weighs (weigh put f ns ins keys)
    unfolding weigh do_of job_of
    weigh_rel zero k y s h o = re (k + 1) s
    weigh_rel (suc f) k y s h o = go (weigh_rel f) (eqb y 0) refl (is_unit (node_at ns k)) (is_general (node_at ns k)) refl (eqb (get_or s.marks at 0) 0) refl
      where
        at : ℕ
        at = (node_at ns k).first + (y - 1)

        v : ℕ
        v = get_or keys at 0

        go : Weighs (weigh put f ns ins keys) → (z : Bool) → eqb y 0 ≡ z → (u : Bool) (g : Bool) → is_general (node_at ns k) ≡ g → (e : Bool) → eqb (get_or s.marks at 0) 0 ≡ e
            → R (k + 1) s (do_of put (weigh put f ns ins keys) (define put (suc f) ns ins) ns ins keys k (cond z Nothing (cond u (Count (y - 1)) (cond g (cond e (Sum at v) Nothing) Nothing))) s)
        go m true ez u g eg e ee = re (k + 1) s
        go m false ez true g eg e ee = let ne : y ≡ 0 → ⊥ = eqb-false y 0 ez in define_rel (suc f) k (y - 1) just_if s h (omega arith)
        go m false ez false false eg e ee = re (k + 1) s
        go m false ez false true eg false ee = re (k + 1) s
        go m false ez false true eg true ee =
            let ne : y ≡ 0 → ⊥ = eqb-false y 0 ez in
            let q : (node_at ns k).kind ≡ 2 = eqb-true _ _ eg in
            let c : CellOf 2 ns nodes k (y - 1) = record { below = h; is = q; out = omega (arith, general_outputs (node_at ns k) q) } in
            let s1 = take_lit_at put at s in
            sum k (y - 1) c s (links_of put (weigh put f ns ins keys) ns ins keys k at v s1) (eqb-true _ _ ee) (links_rel (weigh put f ns ins keys) m k at v s1 h q)

    -- a demand at a place of a general node, seen from above
    pub sum_case : (f k y : ℕ) (s : St S) → 1 ≤ y → CellOf 2 ns nodes k (y - 1) → Summed put ns R k (y - 1) s (weigh put (suc f) ns ins keys k y s)
    unfolding weigh do_of job_of
    sum_case f k y s some c =
        rw (ne_eqb y 0 (λ e. omega arith), ne_eqb (node_at ns k).kind 1 (λ e. omega (arith, c.is)), eq-eqb (node_at ns k).kind 2 c.is) (go (eqb (get_or s.marks at 0) 0) refl)
      where
        at : ℕ
        at = (node_at ns k).first + (y - 1)

        v : ℕ
        v = get_or keys at 0

        go : (e : Bool) → eqb (get_or s.marks at 0) 0 ≡ e → Summed put ns R k (y - 1) s (do_of put (weigh put f ns ins keys) (define put (suc f) ns ins) ns ins keys k (cond e (Sum at v) Nothing) s)
        go true e =
            let s1 = take_lit_at put at s in
            summed (links_of put (weigh put f ns ins keys) ns ins keys k at v s1) (eqb-true _ _ e) (links_rel (weigh put f ns ins keys) (weigh_rel f) k at v s1 c.below c.is) refl
        go false e = marked (eqb-false _ _ e) refl

-- a weighted demand at a place of a unit is the unweighted one, If
pub unit_place : {S : Type 0} (put : S → Clause → S) (ns : List ℕ) (ins : List ℤ) (keys : List ℕ) (f k y : ℕ) (s : St S) → 1 ≤ y → (node_at ns k).kind ≡ 1
    → weigh put (suc f) ns ins keys k y s ≡ define put (suc f) ns ins k (y - 1) just_if s
unfolding weigh do_of job_of
unit_place put ns ins keys f k y s some u = rw (ne_eqb y 0 (λ e. omega arith), eq-eqb (node_at ns k).kind 1 u)
