-- What a done demand leaves: the output that was asked for has the marks, and the answer is its literal.
use Rattle.std.specs.Prelude.{◌≡◌, refl, true, List, ◌++◌, ℕ, suc, ◌+◌, ◌<◌, ◌≤◌, ℤ, pos, length, get_or, drop, eqb, ltb}
use Rattle.std.proofs.Common.{sym, ◌∙◌, ap, subst, inl, inr, add-one, arith, ltb-true, None, Option, Result, Some}
use Rattle.std.proofs.Math.Bool.{Bool, false}
use Rattle.std.proofs.lemmas.Bool.{false≢true}
use Rattle.std.proofs.Math.ListN.{get_or-append}
use Rattle.paper.specs.Rows.{node_at, value_count, con_lits, is_general}
use Rattle.paper.specs.Table.{table_ok, work_ok}
use Rattle.paper.specs.Plain.{St, want_of, just_if, lit_at, mark_of, has_if, has_only}
use Rattle.paper.specs.Weighted.{output_of, place_of}
use Rattle.paper.specs.Demand.{nodes_used, inputs_used, count_run, count_of, sum_run, sum_of, sum_place, is_at, index_of}
use Rattle.paper.specs.Numbers.{number_of, demanded_said}
use Rattle.paper.specs.Calls.{Db, Work, unweighted, weighted, unweighted_call, weighted_call, step}
use Rattle.paper.specs.declared.Node.{Node}
use Rattle.paper.specs.declared.Counters.{Counters}
use Rattle.paper.specs.declared.Want.{Want}
use Rattle.paper.specs.declared.Semantics.{Semantics}
use Rattle.paper.specs.declared.Refusal.{Refusal}
use Rattle.paper.specs.declared.Refusal.TheVariants.{NoSuchOutput, TableFails, WorkShort, NoSuchNode, GeneralNode, BadLiteral, BadMultiplier, NoValue, KeyTooLarge, TooDeep, NoRoom, VariablesOut, ClausesShort, BadAssignment, BadVariables}
use Rattle.paper.specs.declared.Demanded.{Demanded}
use Rattle.facts.proofs.Facts.{used_at}
use Rattle.meaning.specs.Base.{AtPrev}
use Rattle.meaning.specs.Table.{Kind, leaf, dummy, unit, general, Dir, If, OnlyIf, done_of, Done, Inner, History}
use Rattle.meaning.specs.Rows.{State, key_in, has_mark, mark_in}
use Rattle.meaning.specs.View.{kind_of, key_of}
use Rattle.meaning.proofs.View.{part_at, count_is}
use Rattle.meaning.specs.Ways.{Finds}
use Rattle.meaning.proofs.Ways.{output_finds}
use Rattle.meaning.specs.Asked.{wants}
use Rattle.facts.specs.Sinks.{through}
use Rattle.histories.specs.Upheld.{Upheld}
use Rattle.histories.proofs.Upheld.{fit_of, ns, keys, used, begin, used_fit, used_sharp, used_good, node_here, counted, count_words, count_asked, weighed, weigh_words, weigh_placed, place_low}
use Rattle.histories.specs.Stays.{ran_db}
use Rattle.histories.specs.Stepped.{Went, stayed, ran, demanded_db}
use Rattle.histories.proofs.Stepped.{went}
use Rattle.histories.specs.Answers.{Answered, InnerKind, Weighed}

-- a refusal's number is never 0
why_some : (why : Refusal) → number_of why ≡ 0 → ⊥
why_some NoSuchOutput e = let z : ⊥ = omega arith in z
why_some TableFails e = let z : ⊥ = omega arith in z
why_some WorkShort e = let z : ⊥ = omega arith in z
why_some NoSuchNode e = let z : ⊥ = omega arith in z
why_some GeneralNode e = let z : ⊥ = omega arith in z
why_some BadLiteral e = let z : ⊥ = omega arith in z
why_some BadMultiplier e = let z : ⊥ = omega arith in z
why_some NoValue e = let z : ⊥ = omega arith in z
why_some KeyTooLarge e = let z : ⊥ = omega arith in z
why_some TooDeep e = let z : ⊥ = omega arith in z
why_some NoRoom e = let z : ⊥ = omega arith in z
why_some VariablesOut e = let z : ⊥ = omega arith in z
why_some ClausesShort e = let z : ⊥ = omega arith in z
why_some BadAssignment e = let z : ⊥ = omega arith in z
why_some BadVariables e = let z : ⊥ = omega arith in z

-- a done output of an inner node is marked
marked_of : (k : Kind) (d : Dir) (m : ℕ) → Inner k → done_of k (mark_in k d m) → has_mark d m ≡ true
marked_of leaf d m i h = absurd i
marked_of dummy d m i h = absurd i
marked_of unit d m i h = h
marked_of general d m i h = h

key_inner : (k : Kind) (v : ℕ) → Inner k → key_in k v ≡ v
key_inner leaf v i = absurd i
key_inner dummy v i = absurd i
key_inner unit v i = refl
key_inner general v i = refl

-- an inner node's literals are read in the cell row
con_lit : (ns : List ℕ) (ins lits : List ℤ) (c j : ℕ) → eqb (node_at ns c).kind 0 ≡ false → j < value_count (node_at ns c)
    → lit_at (con_lits ns ins lits c) j ≡ get_or lits ((node_at ns c).first + j) (pos 0)
unfolding con_lits
con_lit ns ins lits c j e h = rw e (part_at (value_count (node_at ns c)) (node_at ns c).first lits j (pos 0) h)

inner_kind : (d : Db) (n : ℕ) → InnerKind d n → Inner (kind_of (node_at d.nodes n).kind)
inner_kind d n (inl e) = subst Inner (sym (ap kind_of e)) tt
inner_kind d n (inr e) = subst Inner (sym (ap kind_of e)) tt

no_leaf : (d : Db) (n : ℕ) → InnerKind d n → eqb (node_at d.nodes n).kind 0 ≡ false
no_leaf d n (inl e) = ap (λ (x : ℕ). eqb x 0) e
no_leaf d n (inr e) = ap (λ (x : ℕ). eqb x 0) e

module _ (d : Db) (h : History) (u : Upheld d h) where
  abbrev c : Counters
  c = d.counters

  -- a run whose rows are those of q, which has output j of node n done
  answer : (n j : ℕ) → n < c.nodes → InnerKind d n → j < value_count (node_at d.nodes n) → (w : Want) (p : St (List ℤ)) (q : State) → p ≡ through Rattle.meaning.specs.Words.flat q
      → c.cells ≤ length q.lits → c.cells ≤ length q.marks
      → ((e : Dir) → wants e w ≡ true → done_of (kind_of (node_at (ns d h u) n).kind) (mark_in (kind_of (node_at (ns d h u) n).kind) e (get_or q.marks ((node_at (ns d h u) n).first + j) 0)))
      → Answered (ran_db d p) n j (lit_at (con_lits (nodes_used d.nodes c) (inputs_used d.inputs c) p.lits n) j) w
  answer n j s k hj w p q e ll lm done =
      subst (λ (x : St (List ℤ)). Answered (ran_db d x) n j (lit_at (con_lits (nodes_used d.nodes c) (inputs_used d.inputs c) x.lits n) j) w) (sym e)
      (record {
        literal_is = con_lit (ns d h u) (inputs_used d.inputs c) q.lits n j (subst (λ (x : Node). eqb x.kind 0 ≡ false) (sym node) (no_leaf d n k)) (subst (λ (x : Node). j < value_count x) (sym node) hj)
            ∙ ap (λ (x : Node). get_or q.lits (x.first + j) (pos 0)) node
            ∙ sym (get_or-append q.lits (drop c.cells d.lits) (pos 0) ((node_at d.nodes n).first + j) (omega (arith, low)));
        if_marked = λ f. ap (λ (x : ℕ). has_if (mark_of x)) there ∙ has If f;
        only_marked = λ f. ap (λ (x : ℕ). has_only (mark_of x)) there ∙ has OnlyIf f;
      })
    where
      node : node_at (ns d h u) n ≡ node_at d.nodes n
      node = node_here d h u n s

      low : (node_at d.nodes n).first + j < c.cells
      low = (fit_of d u.passes).room.fits n j s hj (inner_kind d n k)

      there : get_or (q.marks ++ drop c.cells d.marks) ((node_at d.nodes n).first + j) 0 ≡ get_or q.marks ((node_at d.nodes n).first + j) 0
      there = get_or-append q.marks (drop c.cells d.marks) 0 ((node_at d.nodes n).first + j) (omega (arith, low))

      has : (e : Dir) → wants e w ≡ true → has_mark e (get_or q.marks ((node_at d.nodes n).first + j) 0) ≡ true
      has e f =
          marked_of (kind_of (node_at d.nodes n).kind) e (get_or q.marks ((node_at d.nodes n).first + j) 0) (inner_kind d n k)
          (subst (λ (x : Node). done_of (kind_of x.kind) (mark_in (kind_of x.kind) e (get_or q.marks (x.first + j) 0))) node (done e f))

  -- UNWEIGHTED
  pub unweighted_answers : (w : Work) (n i : ℕ) (m : Semantics) → InnerKind d n → (step d (unweighted w n i m)).said.number ≡ 0
      → Answered (step d (unweighted w n i m)).db n i (step d (unweighted w n i m)).said.value (want_of m)
  unfolding step unweighted_call count_of
  unweighted_answers w n i m kind =
      go (went table work (ltb n c.nodes) (is_general (node_at d.nodes n)) (ltb i (value_count (node_at d.nodes n))) p c (length d.clauses) z)
    where
      table : Bool
      table = table_ok d.nodes d.inputs d.keys d.lits d.marks (length d.clauses) c

      work : Bool
      work = work_ok w.ints w.bytes c

      p : St (List ℤ)
      p = count_run d.nodes d.inputs d.lits d.marks c n i (want_of m)

      z : ℤ
      z = lit_at (con_lits (nodes_used d.nodes c) (inputs_used d.inputs c) p.lits n) i

      go : {r : Result Demanded Refusal} → Went (ltb n c.nodes) (is_general (node_at d.nodes n)) (ltb i (value_count (node_at d.nodes n))) p c (length d.clauses) z r
          → (demanded_said r c).number ≡ 0 → Answered (demanded_db d r p) n i (demanded_said r c).value (want_of m)
      go (stayed why) e = absurd (why_some why e)
      go (ran a b e f) q =
          let s = ltb-true n c.nodes a in
          let hi = ltb-true i (value_count (node_at d.nodes n)) e in
          let x = count_asked d h u n i (want_of m) s b hi in
          answer n i s kind hi (want_of m) p (counted d h u n i (want_of m)) (count_words d h u n i (want_of m)) x.good.lits_len x.good.marks_len x.done

  -- WEIGHTED
  pub weighted_answers : (w : Work) (n v : ℕ) → InnerKind d n → (step d (weighted w n v)).said.number ≡ 0
      → Weighed d (step d (weighted w n v)).db n v (step d (weighted w n v)).said.value
  unfolding step weighted_call sum_of
  weighted_answers w n v kind =
      go (went table work (ltb n c.nodes) false (is_at place) p c (length d.clauses) z)
    where
      place : Option ℕ
      place = sum_place d.nodes d.keys c n v

      table : Bool
      table = table_ok d.nodes d.inputs d.keys d.lits d.marks (length d.clauses) c

      work : Bool
      work = work_ok w.ints w.bytes c

      p : St (List ℤ)
      p = sum_run d.nodes d.inputs d.keys d.lits d.marks c n v

      z : ℤ
      z = lit_at (con_lits (nodes_used d.nodes c) (inputs_used d.inputs c) p.lits n) (index_of place)

      count : n < c.nodes → value_count (node_at d.nodes n) ≡ (node_at d.nodes n).count
      count s = by_kind kind
        where
          by_kind : InnerKind d n → value_count (node_at d.nodes n) ≡ (node_at d.nodes n).count
          by_kind (inl e) = count_is d.nodes n ((fit_of d u.passes).kinds n s) unit (ap kind_of e)
          by_kind (inr e) = count_is d.nodes n ((fit_of d u.passes).kinds n s) general (ap kind_of e)

      at : n < c.nodes → (f : Option ℕ) → place ≡ f → is_at f ≡ true → Finds (key_of (used d h u) n) (value_count (node_at (ns d h u) n)) v f → Weighed d (ran_db d p) n v z
      at s None e t b = absurd (false≢true t)
      at s (Some q) e t b =
          let node = node_here d h u n s in
          let hq : q < value_count (node_at d.nodes n) = subst (λ (x : Node). q < value_count x) node b.0 in
          let low = (fit_of d u.passes).room.fits n q s hq (inner_kind d n kind) in
          let ky : get_or (keys d h u) ((node_at d.nodes n).first + q) 0 ≡ v =
          sym (key_inner (kind_of (node_at d.nodes n).kind) _ (inner_kind d n kind)) ∙ subst (λ (x : Node). key_in (kind_of x.kind) (get_or (keys d h u) (x.first + q) 0) ≡ v) node b.1 in
          let y = place_of place in
          let ey : y ≡ suc q = ap place_of e ∙ add-one q in
          let x = weigh_placed d h u n y s (place_low d h u n v s) in
          let dn : Done (Rattle.meaning.specs.Rows.tab_of (used d h u) (through (λ (k : History). h ++ k) (weighed d h u n y))) (Rattle.meaning.specs.Rows.marks_of (used d h u) (through (λ (k : History). h ++ k) (weighed d h u n y))) If n q
          = subst (AtPrev (Done (Rattle.meaning.specs.Rows.tab_of (used d h u) (through (λ (k : History). h ++ k) (weighed d h u n y))) (Rattle.meaning.specs.Rows.marks_of (used d h u) (through (λ (k : History). h ++ k) (weighed d h u n y))) If n)) ey x.done in
          let an = answer n q s kind hq just_if p (weighed d h u n y) (weigh_words d h u n y) x.good.lits_len x.good.marks_len
          (λ e2. elim e2 as (λ k. wants k just_if ≡ true → Done (Rattle.meaning.specs.Rows.tab_of (used d h u) (through (λ (k : History). h ++ k) (weighed d h u n y))) (Rattle.meaning.specs.Rows.marks_of (used d h u) (through (λ (k : History). h ++ k) (weighed d h u n y))) k n q) [ If ↦ λ f. dn | OnlyIf ↦ λ f. absurd (false≢true f) ]) in
          record {
            index = q;
            low = omega (arith, count s);
            key_is = sym (used_at c.cells d.keys ((node_at d.nodes n).first + q) 0 low) ∙ ky;
            answered = subst (λ (i : ℕ). Answered (ran_db d p) n q (lit_at (con_lits (nodes_used d.nodes c) (inputs_used d.inputs c) p.lits n) i) just_if) (sym (ap index_of e)) an;
          }

      go : {r : Result Demanded Refusal} → Went (ltb n c.nodes) false (is_at place) p c (length d.clauses) z r
          → (demanded_said r c).number ≡ 0 → Weighed d (demanded_db d r p) n v (demanded_said r c).value
      go (stayed why) e = absurd (why_some why e)
      go (ran a b e f) q =
          let s = ltb-true n c.nodes a in
          at s place refl e
          (subst (λ (x : Node). Finds (key_of (used d h u) n) (value_count (node_at (ns d h u) n)) v (output_of (keys d h u) x v)) (node_here d h u n s)
          (output_finds (ns d h u) (inputs_used d.inputs c) (keys d h u) c.nodes c.first c.cells (used_fit d h u) (used_sharp d h u) (begin d h u h) (used_good d h u).inv.shape n s v))
