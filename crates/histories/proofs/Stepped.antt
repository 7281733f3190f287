-- Demands, reserve, reset and emptying keep what is upheld; the clauses afterwards are those before and the ones appended.
use Rattle.paper.specs.Answers.{gives}
use Rattle.paper.specs.declared.Refusal.{Refusal}
use Rattle.std.specs.Prelude.{◌≡◌, cond, List, ℕ, ◌+◌, ◌<◌, ◌≤◌, ℤ, length, get_or, replicate, leb, ltb}
use Rattle.std.proofs.Math.Path.{refl}
use Rattle.std.proofs.Common.{sym, ◌∙◌, ap, subst, true≢false, inl, zero-add, arith, leb-true, ltb-true, Err, Ok, Result}
use Rattle.std.proofs.Math.Bool.{Bool, true, false}
use Rattle.std.proofs.lemmas.List.{length-replicate, get_or-replicate}
use Rattle.paper.specs.Rows.{node_at, value_count, is_general}
use Rattle.paper.specs.Table.{table_ok, work_ok}
use Rattle.paper.specs.Plain.{St, want_of, lit_at}
use Rattle.paper.specs.Weighted.{place_of}
use Rattle.paper.specs.Demand.{count_run, count_of, sum_run, sum_of, sum_place, is_at, room_of, demanded_of, ran_counters, demanded_lits, demanded_marks, demanded_clauses}
use Rattle.paper.specs.Upkeep.{Stock, stock, give_all, places_of, reserve_of, reserve_answer, with_next, kept_row, reset_of, cleared_marks, empty_of, emptied}
use Rattle.paper.specs.Numbers.{kept_said}
use Rattle.paper.specs.Calls.{Db, Work, unweighted, weighted, reserve, reset, empty, checked, unweighted_call, weighted_call, reserve_call, reset_call, empty_call, step}
use Rattle.paper.specs.declared.Counters.{Counters}
use Rattle.paper.specs.declared.Semantics.{Semantics}
use Rattle.paper.specs.declared.Refusal.TheVariants.{TableFails, WorkShort, NoSuchNode, GeneralNode, NoSuchOutput, VariablesOut, ClausesShort}
use Rattle.paper.specs.declared.Demanded.{Demanded}
use Rattle.facts.proofs.Pastes.{paste_at}
use Rattle.facts.specs.Taken.{InOrder}
use Rattle.facts.proofs.Taken.{give_order}
use Rattle.facts.proofs.Demands.{count_ran, sum_ran}
use Rattle.meaning.specs.Table.{History, Inv}
use Rattle.meaning.proofs.Steps.{inv_reset}
use Rattle.meaning.specs.Rows.{State, Good}
use Rattle.meaning.specs.View.{kind_of}
use Rattle.meaning.proofs.Same.{mark_zero}
use Rattle.meaning.specs.Reserve.{ensure_all}
use Rattle.meaning.proofs.Reserve.{give_is, all_rest, all_good, places_cells}
use Rattle.meaning.specs.Sink.{from}
use Rattle.histories.specs.Stays.{Stays, ran_db}
use Rattle.histories.proofs.Stays.{kept_lit, ran_stays}
use Rattle.histories.specs.Upheld.{net_of, state_of, tab_of, marks_of, Upheld, Moved}
use Rattle.histories.proofs.Upheld.{facts_of, fit_of, good_of, moved_same, moved_none, count_words, count_moved, weigh_words, weigh_moved, place_low}
use Rattle.histories.specs.Stepped.{Went, demanded_db, ran, stayed}

pub went : (table work here general output : Bool) (p : St (List ℤ)) (c : Counters) (len : ℕ) (z : ℤ) → Went here general output p c len z (demanded_of table work here general output (room_of p c len z))
unfolding demanded_of room_of
went false work here general output p c len z = stayed TableFails
went true false here general output p c len z = stayed WorkShort
went true true false general output p c len z = stayed NoSuchNode
went true true true true output p c len z = stayed GeneralNode
went true true true false false p c len z = stayed NoSuchOutput
went true true true false true p c len z = go (leb p.next (c.last + 1)) (leb (c.words + length p.out) len) refl
  where
    go : (a b : Bool) → leb (c.words + length p.out) len ≡ b → Went true false true p c len z (cond a (cond b (gives z (ran_counters p c)) (Err ClausesShort)) (Err VariablesOut))
    go false b e = stayed VariablesOut
    go true false e = stayed ClausesShort
    go true true e = ran refl refl refl (leb-true _ _ e)

module _ (d : Db) (h : History) (u : Upheld d h) where
  abbrev c : Counters
  c = d.counters

  pub unweighted_moves : (w : Work) (id i : ℕ) (m : Semantics) → checked (step d (unweighted w id i m)).db ≡ true → Moved d (step d (unweighted w id i m)).db h false
  unfolding step unweighted_call count_of checked
  unweighted_moves w id i m =
      go (went table work (ltb id c.nodes) (is_general (node_at d.nodes id)) (ltb i (value_count (node_at d.nodes id))) p c (length d.clauses) z)
    where
      table : Bool
      table = table_ok d.nodes d.inputs d.keys d.lits d.marks (length d.clauses) c

      work : Bool
      work = work_ok w.ints w.bytes c

      p : St (List ℤ)
      p = count_run d.nodes d.inputs d.lits d.marks c id i (want_of m)

      z : ℤ
      z = lit_at (Rattle.paper.specs.Rows.con_lits (Rattle.paper.specs.Demand.nodes_used d.nodes c) (Rattle.paper.specs.Demand.inputs_used d.inputs c) p.lits id) i

      go : {r : Result Demanded Refusal} → Went (ltb id c.nodes) (is_general (node_at d.nodes id)) (ltb i (value_count (node_at d.nodes id))) p c (length d.clauses) z r
          → checked (demanded_db d r p) ≡ true → Moved d (demanded_db d r p) h false
      go (stayed why) ok = moved_none d h u false
      go (ran a b e f) ok =
          let same = count_words d h u id i (want_of m) in
          let t = facts_of d u.passes in
          count_moved d h u id i (want_of m) (ltb-true id c.nodes a) b (ltb-true i (value_count (node_at d.nodes id)) e)
          (subst (λ (x : St (List ℤ)). c.words + length x.out ≤ length d.clauses) same f) (ran_db d p) (ap (ran_db d) same) ok
          (ran_stays d (id + 1) p t.lit_row t.mark_row (count_ran d.nodes d.inputs d.keys d.lits d.marks (length d.clauses) c u.passes id i (want_of m)
          (ltb-true id c.nodes a) (ltb-true i (value_count (node_at d.nodes id)) e)) false)

  pub weighted_moves : (w : Work) (id v : ℕ) → checked (step d (weighted w id v)).db ≡ true → Moved d (step d (weighted w id v)).db h false
  unfolding step weighted_call sum_of checked
  weighted_moves w id v =
      go (went table work (ltb id c.nodes) false (is_at (sum_place d.nodes d.keys c id v)) p c (length d.clauses) z)
    where
      table : Bool
      table = table_ok d.nodes d.inputs d.keys d.lits d.marks (length d.clauses) c

      work : Bool
      work = work_ok w.ints w.bytes c

      p : St (List ℤ)
      p = sum_run d.nodes d.inputs d.keys d.lits d.marks c id v

      z : ℤ
      z = lit_at (Rattle.paper.specs.Rows.con_lits (Rattle.paper.specs.Demand.nodes_used d.nodes c) (Rattle.paper.specs.Demand.inputs_used d.inputs c) p.lits id) (Rattle.paper.specs.Demand.index_of (sum_place d.nodes d.keys c id v))

      y : ℕ
      y = place_of (sum_place d.nodes d.keys c id v)

      go : {r : Result Demanded Refusal} → Went (ltb id c.nodes) false (is_at (sum_place d.nodes d.keys c id v)) p c (length d.clauses) z r
          → checked (demanded_db d r p) ≡ true → Moved d (demanded_db d r p) h false
      go (stayed why) ok = moved_none d h u false
      go (ran a b e f) ok =
          let same = weigh_words d h u id y in
          let t = facts_of d u.passes in
          weigh_moved d h u id y (ltb-true id c.nodes a) (place_low d h u id v (ltb-true id c.nodes a))
          (subst (λ (x : St (List ℤ)). c.words + length x.out ≤ length d.clauses) same f) (ran_db d p) (ap (ran_db d) same) ok
          (ran_stays d (id + 1) p t.lit_row t.mark_row (sum_ran d.nodes d.inputs d.keys d.lits d.marks (length d.clauses) c u.passes id v (ltb-true id c.nodes a)) false)

  -- ---- reserve, reset, emptying

  abbrev kept_db : Result Counters Refusal → List ℤ → List ℕ → Db
  kept_db r lits marks =
      record { nodes = d.nodes; inputs = d.inputs; keys = d.keys; lits = lits; marks = marks; clauses = d.clauses; counters = (kept_said r c).counters }

  abbrev reserved_db : Result Counters Refusal → List ℤ → Db
  reserved_db r lits = kept_db r (kept_row r d.lits lits) d.marks

  abbrev reset_db : Result Counters Refusal → Db
  reset_db r = kept_db r d.lits (kept_row r d.marks (cleared_marks d.marks c))

  abbrev empty_db : Result Counters Refusal → Db
  empty_db r = kept_db r d.lits d.marks

  pub reserve_moves : (w : Work) (id : ℕ) → checked (step d (reserve w id)).db ≡ true → Moved d (step d (reserve w id)).db h false
  unfolding step reserve_call reserve_of reserve_answer
  reserve_moves w id = go table work (ltb id c.nodes) refl (leb s.next (c.last + 1))
    where
      table : Bool
      table = table_ok d.nodes d.inputs d.keys d.lits d.marks (length d.clauses) c

      work : Bool
      work = work_ok w.ints w.bytes c

      ps : List ℕ
      ps = places_of (id + 1) d.nodes id

      s : Stock
      s = give_all ps (stock d.lits c.next)

      σ : State
      σ = state_of d h

      is : ensure_all ps σ ≡ from s.lits d.marks s.next h
      is = λ j. record { lits = (sym (give_is ps σ) j).lits; marks = (all_rest ps σ).0 j; next = (sym (give_is ps σ) j).next; out = (all_rest ps σ).1 j }

      order : InOrder d.lits c.next s.lits s.next
      order = give_order ps (stock d.lits c.next)

      stays : Stays d (reserved_db (Ok (with_next c s.next)) s.lits) false
      stays =
          record {
            nodes_le = omega arith;
            cells_le = omega arith;
            first_is = refl;
            node_is = λ n l. refl;
            inputs = λ a l. refl;
            keys = λ a l. refl;
            lits = λ a l f. kept_lit order a f;
            ifs = λ e a l m. m;
            onlys = λ e a l m. m;
          }

      good : id < c.nodes → Good (net_of d) c.cells (from s.lits d.marks s.next h)
      good l =
          let gd = good_of d h u in
          let ft = fit_of d u.passes in
          subst (λ (x : State). Good (net_of d) c.cells x) is
          (all_good d.nodes d.inputs d.keys c.nodes c.first c.cells ft ps σ gd
          (λ p m. places_cells d.nodes d.inputs d.keys c.nodes c.first c.cells ft σ gd.inv.shape (id + 1) id l p m)).good

      go : (a b e : Bool) → ltb id c.nodes ≡ e → (f : Bool)
          → checked (reserved_db (cond a (cond b (cond e (cond f (Ok (with_next c s.next)) (Err VariablesOut)) (Err NoSuchNode)) (Err WorkShort)) (Err TableFails)) s.lits) ≡ true
          → Moved d (reserved_db (cond a (cond b (cond e (cond f (Ok (with_next c s.next)) (Err VariablesOut)) (Err NoSuchNode)) (Err WorkShort)) (Err TableFails)) s.lits) h false
      go false b e x f ok = moved_none d h u false
      go true false e x f ok = moved_none d h u false
      go true true false x f ok = moved_none d h u false
      go true true true x false ok = moved_none d h u false
      go true true true x true ok =
          moved_same d (reserved_db (Ok (with_next c s.next)) s.lits) h (record { passes = ok; inv = (good (ltb-true id c.nodes x)).inv }) (omega arith) false stays

  cleared : (j : ℕ) → j < c.cells → get_or (cleared_marks d.marks c) j 0 ≡ 0
  cleared j l =
      ap (λ (k : ℕ). get_or (cleared_marks d.marks c) k 0) (sym (zero-add j))
      ∙ paste_at d.marks 0 (replicate c.cells 0) c.cells j 0 (omega arith) (omega (arith, length-replicate {A = ℕ} c.cells 0)) l
      ∙ get_or-replicate c.cells j 0 0 l

  pub reset_moves : checked (step d reset).db ≡ true → Moved d (step d reset).db h true
  unfolding step reset_call reset_of
  reset_moves = go (table_ok d.nodes d.inputs d.keys d.lits d.marks (length d.clauses) c)
    where
      after : Db
      after = reset_db (Ok c)

      none : Inv (tab_of after) (marks_of after) h
      none = inv_reset (tab_of d) (marks_of d) (marks_of after) h u.inv (λ e. inl (λ n j s hj.
          mark_zero (kind_of (node_at d.nodes n).kind) e _ (λ i. cleared ((node_at d.nodes n).first + j) ((fit_of d u.passes).room.fits n j s hj i))))

      go : (b : Bool) → checked (reset_db (cond b (Ok c) (Err TableFails))) ≡ true → Moved d (reset_db (cond b (Ok c) (Err TableFails))) h true
      go true ok =
          moved_same d after h (record { passes = ok; inv = none }) (omega arith) true
          (record {
            nodes_le = omega arith;
            cells_le = omega arith;
            first_is = refl;
            node_is = λ n l. refl;
            inputs = λ a l. refl;
            keys = λ a l. refl;
            lits = λ a l f. refl;
            ifs = λ e. absurd (true≢false e);
            onlys = λ e. absurd (true≢false e);
          })
      go false ok = moved_none d h u true

  pub empty_moves : checked (step d empty).db ≡ true → Moved d (step d empty).db h false
  unfolding step empty_call empty_of
  empty_moves = go (table_ok d.nodes d.inputs d.keys d.lits d.marks (length d.clauses) c)
    where
      go : (b : Bool) → checked (empty_db (cond b (Ok (emptied c)) (Err TableFails))) ≡ true → Moved d (empty_db (cond b (Ok (emptied c)) (Err TableFails))) h false
      go true ok =
          moved_same d (empty_db (Ok (emptied c))) h (record { passes = ok; inv = u.inv }) (omega arith) false
          (record {
            nodes_le = omega arith;
            cells_le = omega arith;
            first_is = refl;
            node_is = λ n l. refl;
            inputs = λ a l. refl;
            keys = λ a l. refl;
            lits = λ a l f. refl;
            ifs = λ e a l m. m;
            onlys = λ e a l m. m;
          })
      go false ok = moved_none d h u false
