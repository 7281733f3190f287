-- A demand that says 0, as one statement over the whole database; and the same demand once more, which changes nothing. Assumes nothing.
use Rattle.paper.specs.Answers.{gives}
use Rattle.std.specs.Prelude.{ℕ, suc, ◌+◌, ◌-◌, ◌<◌, ◌≤◌, List, ◌++◌, true, false, refl, length, take, drop, ltb, ℤ, pos}
use Rattle.std.proofs.Math.Path.{◌≡◌, ap, subst}
use Rattle.std.proofs.Common.{sym, ◌∙◌, ⊎_elim, add-one, length-append, length-take-le, drop_at, ltb-true, ne_eqb, Err, None, Option, Result, Some, Ok}
use native.Mathlib.Omega.{arith}
use Rattle.std.proofs.Math.ListN.{get_or, get_or-append, get_or-eq_default}
use Rattle.std.proofs.lemmas.List.Edits.{sets, sets-eq}
use Rattle.paper.specs.Below.{side}
use Rattle.paper.specs.Rows.{node_at, is_zero, value_count, con_lits}
use Rattle.paper.specs.Plain.{just_if, want_of, lit_at, St, define, grow, start, plain_run}
use Rattle.paper.specs.Weighted.{output_of, place_of, weigh, weigh_run}
use Rattle.paper.specs.Table.{table_ok, work_ok}
use Rattle.paper.specs.Demand.{nodes_used, inputs_used, cells_used, cells_back, ran_counters, room_of, count_run, count_of, sum_place, is_at, index_of, sum_run, sum_of, demanded_lits, demanded_marks, demanded_clauses}
use Rattle.paper.specs.Numbers.{number_of, demanded_said}
use Rattle.paper.specs.Calls.{Db, Work, After, unweighted_call, weighted_call}
use Rattle.paper.specs.declared.Node.{Node}
use Rattle.paper.specs.declared.Semantics.{Semantics}
use Rattle.paper.specs.declared.Counters.{Counters}
use Rattle.paper.specs.declared.Refusal.{Refusal}
use Rattle.paper.specs.declared.Refusal.TheVariants.{NoSuchOutput, TableFails, WorkShort, NoSuchNode, GeneralNode, BadLiteral, BadMultiplier, NoValue, KeyTooLarge, TooDeep, NoRoom, VariablesOut, ClausesShort, BadAssignment, BadVariables}
use Rattle.paper.specs.declared.Demanded.{Demanded}
use Rattle.facts.proofs.Facts.{table_facts, unit_outputs, general_outputs, node_used, used_length, used_at}
use Rattle.facts.specs.Taken.{cell_lit}
use Rattle.facts.proofs.Taken.{order_size, order_taken}
use Rattle.facts.specs.Rel.{CellOf}
use Rattle.facts.proofs.Rel.{unit_place, output_place}
use Rattle.facts.specs.Ran.{Ran}
use Rattle.facts.specs.Demands.{Through}
use Rattle.facts.proofs.Demands.{used, used_laid, used_good, count_ran, sum_ran, count_done, sum_done, roomy}
use Rattle.facts.specs.Runs.{Met}
use Rattle.facts.proofs.Runs.{kept_words, want_asks, unit_met, sum_marked, count_answer, sum_answer, count_rows, sum_rows, count_last, place_first, cell_in, unweighted_met, weighted_met}
use Rattle.facts.specs.Children.{ChildrenFirst}
use Rattle.facts.proofs.Children.{first_back, Fit, define_first}
use Rattle.facts.specs.Done.{DemandDone, GivenBack}

-- no refusal has the number 0
pub number_some : (w : Refusal) → 1 ≤ number_of w
number_some NoSuchOutput = omega arith
number_some TableFails = omega arith
number_some WorkShort = omega arith
number_some NoSuchNode = omega arith
number_some GeneralNode = omega arith
number_some BadLiteral = omega arith
number_some BadMultiplier = omega arith
number_some NoValue = omega arith
number_some KeyTooLarge = omega arith
number_some TooDeep = omega arith
number_some NoRoom = omega arith
number_some VariablesOut = omega arith
number_some ClausesShort = omega arith
number_some BadAssignment = omega arith
number_some BadVariables = omega arith

-- a demand that says 0 is given
pub said_given : (r : Result Demanded Refusal) (c : Counters) → (demanded_said r c).number ≡ 0 → GivenBack r
said_given (Ok a) c h = record { literal = a.lit; counters = a.counters; is = refl }
said_given (Err w) c h = absurd (omega (arith, number_some w))

past_words : (l : List ℤ) (i : ℕ) (vs : List ℤ) → i + length vs ≤ length l → drop (i + length vs) (sets l i vs) ≡ drop (i + length vs) l
past_words l i vs h =
    ap (drop (i + length vs)) (sets-eq vs l i h)
    ∙ drop_at (take i l ++ vs) (drop (i + length vs) l) (i + length vs) (length-append (take i l) vs ∙ ap (λ (k : ℕ). k + length vs) (length-take-le i l (omega arith)))

-- the answer r of the run p over d
abbrev after_demand : Db → Result Demanded Refusal → St (List ℤ) → After
after_demand d r p =
    record {
      said = demanded_said r d.counters;
      db = record {
        nodes = d.nodes;
        inputs = d.inputs;
        keys = d.keys;
        lits = demanded_lits r p d.lits d.counters;
        marks = demanded_marks r p d.marks d.counters;
        clauses = demanded_clauses r p d.clauses d.counters;
        counters = (demanded_said r d.counters).counters;
      };
    }

done_law : (d : Db) (id b : ℕ) (r : Result Demanded Refusal) (p : St (List ℤ)) (z : ℤ) (c' : Counters) (ok : table_ok d.nodes d.inputs d.keys d.lits d.marks (length d.clauses) d.counters ≡ true)
    → r ≡ gives z c' → is_zero z ≡ false → ran_counters p d.counters ≡ c' → d.counters.words + length p.out ≤ length d.clauses
    → Ran (nodes_used d.nodes d.counters) d.counters.nodes b (cells_used d.lits d.counters) (cells_used d.marks d.counters) d.counters.next p.lits p.marks p.next
    → Ran (nodes_used d.nodes d.counters) d.counters.nodes (id + 1) d.lits d.marks d.counters.next (cells_back p.lits d.lits d.counters) (cells_back p.marks d.marks d.counters) c'.next
    → DemandDone d id (after_demand d r p)
done_law d id b r p z c' ok e some ec room part run = subst (λ (x : Result Demanded Refusal). DemandDone d id (after_demand d x p)) (sym e) (subst (λ (x : Counters). DemandDone d id (after_demand d (gives z x) p)) ec (given (subst (λ (x : Counters). Ran (nodes_used d.nodes c) c.nodes (id + 1) d.lits d.marks c.next (cells_back p.lits d.lits c) (cells_back p.marks d.marks c) x.next) (sym ec) run)))
  where
    c : Counters
    c = d.counters

    given : Ran (nodes_used d.nodes d.counters) d.counters.nodes (id + 1) d.lits d.marks d.counters.next (cells_back p.lits d.lits d.counters) (cells_back p.marks d.marks d.counters) p.next
        → DemandDone d id (after_demand d (gives z (ran_counters p d.counters)) p)
    given q =
        let t = table_facts (node_at d.nodes) _ d.inputs d.keys d.lits d.marks (length d.clauses) c ok in
        record {
          answer = some;
          taken = order_taken (omega (arith, t.counters.first_low, t.counters.next_low)) q.order;
          run = q;
          counters = refl;
          words_up = omega arith;
          words_kept = kept_words d.clauses c.words p.out room;
          words_past = past_words d.clauses c.words p.out room;
          lits_past = drop_at p.lits (drop c.cells d.lits) c.cells (order_size part.order ∙ used_length c.cells d.lits t.lit_row);
          marks_past = drop_at p.marks (drop c.cells d.marks) c.cells (part.size ∙ used_length c.cells d.marks t.mark_row);
        }

-- THE LAW of the unweighted demand
pub unweighted_done : (d : Db) (w : Work) (id i : ℕ) (m : Semantics) → (unweighted_call d w id i m).said.number ≡ 0 → DemandDone d id (unweighted_call d w id i m)
unfolding unweighted_call
unweighted_done d w id i m h =
    let c = d.counters in
    let r = count_of d.nodes d.inputs d.keys d.lits d.marks (length d.clauses) w.ints w.bytes c id i (want_of m) in
    let p = count_run d.nodes d.inputs d.lits d.marks c id i (want_of m) in
    let g = said_given r c h in
    let t = count_done d.nodes d.inputs d.keys d.lits d.marks (length d.clauses) w.ints w.bytes c id i (want_of m) g.literal g.counters g.is in
    let q = roomy p c (length d.clauses) (lit_at (con_lits (nodes_used d.nodes c) (inputs_used d.inputs c) p.lits id) i) g.literal g.counters t.given in
    done_law d id (id + 1) r p g.literal g.counters t.table_passes g.is
    (count_answer d.nodes d.inputs d.keys d.lits d.marks (length d.clauses) w.ints w.bytes c id i (want_of m) g.literal g.counters g.is (want_asks m))
    q.counters q.words
    (count_ran d.nodes d.inputs d.keys d.lits d.marks (length d.clauses) c t.table_passes id i (want_of m) (ltb-true _ _ t.here_ok) (ltb-true _ _ t.output_ok))
    (count_rows d.nodes d.inputs d.keys d.lits d.marks (length d.clauses) w.ints w.bytes c id i (want_of m) g.literal g.counters g.is)

-- THE LAW of the weighted demand
pub weighted_done : (d : Db) (w : Work) (id v : ℕ) → (weighted_call d w id v).said.number ≡ 0 → DemandDone d id (weighted_call d w id v)
unfolding weighted_call
weighted_done d w id v h =
    let c = d.counters in
    let r = sum_of d.nodes d.inputs d.keys d.lits d.marks (length d.clauses) w.ints w.bytes c id v in
    let p = sum_run d.nodes d.inputs d.keys d.lits d.marks c id v in
    let g = said_given r c h in
    let t = sum_done d.nodes d.inputs d.keys d.lits d.marks (length d.clauses) w.ints w.bytes c id v g.literal g.counters g.is in
    let q = roomy p c (length d.clauses) (lit_at (con_lits (nodes_used d.nodes c) (inputs_used d.inputs c) p.lits id) (index_of (sum_place d.nodes d.keys c id v))) g.literal g.counters t.given in
    done_law d id (id + 1) r p g.literal g.counters t.table_passes g.is
    (sum_answer d.nodes d.inputs d.keys d.lits d.marks (length d.clauses) w.ints w.bytes c id v g.literal g.counters g.is)
    q.counters q.words
    (sum_ran d.nodes d.inputs d.keys d.lits d.marks (length d.clauses) c t.table_passes id v (ltb-true _ _ t.here_ok))
    (sum_rows d.nodes d.inputs d.keys d.lits d.marks (length d.clauses) w.ints w.bytes c id v g.literal g.counters g.is)

-- ---- where the demanded output's literal stands in the order

-- where a run of a table that passes starts from
used_fit : (nodes : List ℕ) (inputs : List ℤ) (keys : List ℕ) (lits : List ℤ) (marks : List ℕ) (clauses : ℕ) (c : Counters) (ok : table_ok nodes inputs keys lits marks clauses c ≡ true)
    → Fit grow (nodes_used nodes c) (inputs_used inputs c) c.nodes c.cells (used_laid nodes inputs keys lits marks clauses c ok) (start (cells_used lits c) (cells_used marks c) c.next)
used_fit nodes inputs keys lits marks clauses c ok =
    let t = table_facts (node_at nodes) _ inputs keys lits marks clauses c ok in
    record {
      good = used_good nodes inputs keys lits marks clauses c ok;
      bare = λ j z. ⊎_elim (λ (h : j < c.cells). ((used nodes inputs keys lits marks clauses c ok).cell j h).mark_held z)
          (λ (h : c.cells ≤ j). get_or-eq_default (cells_used marks c) 0 (omega (arith, used_length c.cells marks t.mark_row))) (side j c.cells);
    }

-- "Take a literal" comes after the children: where a unit's output had no literal, the answer is the last one taken
pub unweighted_last : (d : Db) (w : Work) (id i : ℕ) (m : Semantics) → (unweighted_call d w id i m).said.number ≡ 0
    → (node_at d.nodes id).kind ≡ 1 → cell_lit d.lits ((node_at d.nodes id).first + i) ≡ pos 0
    → (v : ℕ) × ((unweighted_call d w id i m).said.value ≡ pos v) × ((unweighted_call d w id i m).db.counters.next ≡ v + 1)
unfolding unweighted_call
unweighted_last d w id i m h k none =
    let c = d.counters in
    let r = count_of d.nodes d.inputs d.keys d.lits d.marks (length d.clauses) w.ints w.bytes c id i (want_of m) in
    let p = count_run d.nodes d.inputs d.lits d.marks c id i (want_of m) in
    let g = said_given r c h in
    let t = count_done d.nodes d.inputs d.keys d.lits d.marks (length d.clauses) w.ints w.bytes c id i (want_of m) g.literal g.counters g.is in
    let q = roomy p c (length d.clauses) (lit_at (con_lits (nodes_used d.nodes c) (inputs_used d.inputs c) p.lits id) i) g.literal g.counters t.given in
    let here = ltb-true _ _ t.here_ok in
    let out : i < value_count (node_at d.nodes id) = ltb-true _ _ t.output_ok in
    let e : node_at (nodes_used d.nodes c) id ≡ node_at d.nodes id = node_used d.nodes c.nodes id here in
    let low = cell_in d.nodes d.inputs d.keys d.lits d.marks (length d.clauses) c t.table_passes id i here out (ne_eqb (node_at d.nodes id).kind 0 (λ x. omega arith)) in
    let last = count_last d.nodes d.inputs d.keys d.lits d.marks (length d.clauses) c t.table_passes id i (want_of m) here (ap (λ (x : Node). x.kind) e ∙ k) (rw (e) out) (want_asks m)
    (ap (λ (x : Node). cell_lit (cells_used d.lits c) (x.first + i)) e ∙ used_at c.cells d.lits ((node_at d.nodes id).first + i) (pos 0) low ∙ none) in (
      last.0,
      ap (λ (x : Result Demanded Refusal). (demanded_said x c).value) g.is ∙ sym q.answer ∙ last.1,
      ap (λ (x : Result Demanded Refusal). (demanded_said x c).counters.next) g.is ∙ ap (λ (x : Counters). x.next) (sym q.counters) ∙ last.2,
    )

-- .. and so for every unit's output that it gives a literal: what its demand asks of units below has a literal by then, and a smaller one if it is new
pub unweighted_children : (d : Db) (w : Work) (id i : ℕ) (m : Semantics) → (unweighted_call d w id i m).said.number ≡ 0
    → ChildrenFirst (nodes_used d.nodes d.counters) d.counters.nodes (want_of m) d.lits (unweighted_call d w id i m).db.lits
unfolding unweighted_call plain_run
unweighted_children d w id i m h =
    let c = d.counters in
    let r = count_of d.nodes d.inputs d.keys d.lits d.marks (length d.clauses) w.ints w.bytes c id i (want_of m) in
    let p = count_run d.nodes d.inputs d.lits d.marks c id i (want_of m) in
    let N = nodes_used d.nodes c in
    let g = said_given r c h in
    let t = count_done d.nodes d.inputs d.keys d.lits d.marks (length d.clauses) w.ints w.bytes c id i (want_of m) g.literal g.counters g.is in
    let here = ltb-true _ _ t.here_ok in
    let out : i < value_count (node_at d.nodes id) = ltb-true _ _ t.output_ok in
    let lay = used_laid d.nodes d.inputs d.keys d.lits d.marks (length d.clauses) c t.table_passes in
    let f = table_facts (node_at d.nodes) _ d.inputs d.keys d.lits d.marks (length d.clauses) c t.table_passes in
    let ran = count_ran d.nodes d.inputs d.keys d.lits d.marks (length d.clauses) c t.table_passes id i (want_of m) here out in
    let first = define_first grow N (inputs_used d.inputs c) c.nodes c.cells lay (id + 1) id i (want_of m) (start (cells_used d.lits c) (cells_used d.marks c) c.next) (omega arith) here
    (rw (node_used d.nodes c.nodes id here) out) (used_fit d.nodes d.inputs d.keys d.lits d.marks (length d.clauses) c t.table_passes) in
    subst (λ (x : Result Demanded Refusal). ChildrenFirst N c.nodes (want_of m) d.lits (demanded_lits x p d.lits c)) (sym g.is)
    (first_back N c.nodes c.cells d.lits p.lits lay (order_size ran.order ∙ used_length c.cells d.lits f.lit_row) first)

-- "before the children": where a general node's output had no literal, the answer is the first one taken
pub weighted_first : (d : Db) (w : Work) (id v : ℕ) → (weighted_call d w id v).said.number ≡ 0
    → (node_at d.nodes id).kind ≡ 2 → cell_lit d.lits ((node_at d.nodes id).first + index_of (sum_place d.nodes d.keys d.counters id v)) ≡ pos 0
    → (weighted_call d w id v).said.value ≡ pos d.counters.next
unfolding weighted_call
weighted_first d w id v h k none =
    let r = sum_of d.nodes d.inputs d.keys d.lits d.marks (length d.clauses) w.ints w.bytes c id v in
    let p = sum_run d.nodes d.inputs d.keys d.lits d.marks c id v in
    let g = said_given r c h in
    let t = sum_done d.nodes d.inputs d.keys d.lits d.marks (length d.clauses) w.ints w.bytes c id v g.literal g.counters g.is in
    let q = roomy p c (length d.clauses) (lit_at (con_lits N I p.lits id) (index_of o)) g.literal g.counters t.given in
    ap (λ (x : Result Demanded Refusal). (demanded_said x c).value) g.is ∙ sym q.answer
    ∙ go t.table_passes (ltb-true _ _ t.here_ok) o (output_place (cells_used d.keys c) (node_at d.nodes id) v) t.output_ok none
  where
    c : Counters
    c = d.counters

    N : List ℕ
    N = nodes_used d.nodes c

    I : List ℤ
    I = inputs_used d.inputs c

    o : Option ℕ
    o = sum_place d.nodes d.keys c id v

    go : table_ok d.nodes d.inputs d.keys d.lits d.marks (length d.clauses) c ≡ true → id < c.nodes
        → (a : Option ℕ) → place_of a ≤ value_count (node_at d.nodes id) → is_at a ≡ true → cell_lit d.lits ((node_at d.nodes id).first + index_of a) ≡ pos 0
        → lit_at (con_lits N I (weigh_run N I (cells_used d.keys c) (cells_used d.lits c) (cells_used d.marks c) c.next id (place_of a)).lits id) (index_of a) ≡ pos c.next
    go ok here None low q z = absurd (let y : ◌≡◌ {A = ℕ} 0 1 = cc in omega arith)
    go ok here (Some j) low q z =
        let e : node_at N id ≡ node_at d.nodes id = node_used d.nodes c.nodes id here in
        let out : j < value_count (node_at d.nodes id) = omega arith in
        let cell = cell_in d.nodes d.inputs d.keys d.lits d.marks (length d.clauses) c ok id j here out (ne_eqb (node_at d.nodes id).kind 0 (λ x. omega arith)) in
        place_first d.nodes d.inputs d.keys d.lits d.marks (length d.clauses) c ok id j here (ap (λ (x : Node). x.kind) e ∙ k) (rw (e) out)
        (ap (λ (x : Node). cell_lit (cells_used d.lits c) (x.first + j)) e ∙ used_at c.cells d.lits ((node_at d.nodes id).first + j) (pos 0) cell ∙ z)

-- ---- the same demand once more

-- the mark of a cell in use, in the whole row
back_mark : (d : Db) (p : St (List ℤ)) (j : ℕ) → length p.marks ≡ d.counters.cells → j < d.counters.cells → get_or (cells_back p.marks d.marks d.counters) j 0 ≡ get_or p.marks j 0
back_mark d p j e h = get_or-append p.marks (drop d.counters.cells d.marks) 0 j (omega arith)

pub unweighted_twice : (d : Db) (w u : Work) (id i : ℕ) (m : Semantics) → (unweighted_call d w id i m).said.number ≡ 0
    → (unweighted_call (unweighted_call d w id i m).db u id i m).db ≡ (unweighted_call d w id i m).db
unfolding unweighted_call plain_run
unweighted_twice d w u id i m h = unweighted_met (unweighted_call d w id i m).db u id i m met
  where
    c : Counters
    c = d.counters

    r : Result Demanded Refusal
    r = count_of d.nodes d.inputs d.keys d.lits d.marks (length d.clauses) w.ints w.bytes c id i (want_of m)

    p : St (List ℤ)
    p = count_run d.nodes d.inputs d.lits d.marks c id i (want_of m)

    met : (node_at d.nodes id).kind ≡ 1 → Met (get_or (demanded_marks r p d.marks c) ((node_at d.nodes id).first + i) 0) (want_of m)
    met k =
        let g = said_given r c h in
        let t = count_done d.nodes d.inputs d.keys d.lits d.marks (length d.clauses) w.ints w.bytes c id i (want_of m) g.literal g.counters g.is in
        let here = ltb-true _ _ t.here_ok in
        let out : i < value_count (node_at d.nodes id) = ltb-true _ _ t.output_ok in
        let N = nodes_used d.nodes c in
        let e : node_at N id ≡ node_at d.nodes id = node_used d.nodes c.nodes id here in
        let ran = count_ran d.nodes d.inputs d.keys d.lits d.marks (length d.clauses) c t.table_passes id i (want_of m) here out in
        let f = table_facts (node_at d.nodes) _ d.inputs d.keys d.lits d.marks (length d.clauses) c t.table_passes in
        let cell : CellOf 1 N c.nodes id i = record { below = here; is = ap (λ (x : Node). x.kind) e ∙ k; out = omega (arith, ap (λ (x : Node). x.count) e, unit_outputs (node_at d.nodes id) k) } in
        let q : Met (get_or (define grow (suc id) N (inputs_used d.inputs c) id i (want_of m) (start (cells_used d.lits c) (cells_used d.marks c) c.next)).marks ((node_at N id).first + i) 0) (want_of m) =
        unit_met grow N (inputs_used d.inputs c) c.nodes c.cells (used_laid d.nodes d.inputs d.keys d.lits d.marks (length d.clauses) c t.table_passes) (start (cells_used d.lits c) (cells_used d.marks c) c.next)
        (used_good d.nodes d.inputs d.keys d.lits d.marks (length d.clauses) c t.table_passes) id id i (want_of m) cell in
        let q1 : Met (get_or p.marks ((node_at N id).first + i) 0) (want_of m) = subst (λ (x : ℕ). Met (get_or (define grow x N (inputs_used d.inputs c) id i (want_of m) (start (cells_used d.lits c) (cells_used d.marks c) c.next)).marks ((node_at N id).first + i) 0) (want_of m)) (sym (add-one id)) q in
        let q2 : Met (get_or p.marks ((node_at d.nodes id).first + i) 0) (want_of m) = subst (λ (x : Node). Met (get_or p.marks (x.first + i) 0) (want_of m)) e q1 in
        let low = cell_in d.nodes d.inputs d.keys d.lits d.marks (length d.clauses) c t.table_passes id i here out (ne_eqb (node_at d.nodes id).kind 0 (λ x. omega arith)) in
        subst (λ (x : Result Demanded Refusal). Met (get_or (demanded_marks x p d.marks c) ((node_at d.nodes id).first + i) 0) (want_of m)) (sym g.is)
        (subst (λ (x : ℕ). Met x (want_of m)) (sym (back_mark d p ((node_at d.nodes id).first + i) (ran.size ∙ used_length c.cells d.marks f.mark_row) low)) q2)

-- the place o of a node of the table, after its run: a unit's output has If, a general node's is marked
module _ (nodes : List ℕ) (inputs : List ℤ) (keys : List ℕ) (lits : List ℤ) (marks : List ℕ) (clauses : ℕ) (c : Counters)
    (ok : table_ok nodes inputs keys lits marks clauses c ≡ true) (id : ℕ) (here : id < c.nodes) where
  abbrev N : List ℕ
  N = nodes_used nodes c

  abbrev I : List ℤ
  I = inputs_used inputs c

  abbrev B : St (List ℤ)
  B = start (cells_used lits c) (cells_used marks c) c.next

  abbrev at_place : Option ℕ → St (List ℤ)
  at_place o = weigh_run N I (cells_used keys c) (cells_used lits c) (cells_used marks c) c.next id (place_of o)

  node_is : node_at N id ≡ node_at nodes id
  node_is = node_used nodes c.nodes id here

  unit_place_met : (o : Option ℕ) → place_of o ≤ value_count (node_at nodes id) → is_at o ≡ true → (node_at nodes id).kind ≡ 1
      → Met (get_or (at_place o).marks ((node_at nodes id).first + index_of o) 0) just_if
  unfolding weigh_run
  unit_place_met None low q k = absurd (let y : ◌≡◌ {A = ℕ} 0 1 = cc in omega arith)
  unit_place_met (Some j) low q k =
      let e : j + 1 - 1 ≡ j = omega arith in
      let kind : (node_at N id).kind ≡ 1 = ap (λ (x : Node). x.kind) node_is ∙ k in
      let cell : CellOf 1 N c.nodes id (j + 1 - 1) = record { below = here; is = kind; out = omega (arith, ap (λ (x : Node). x.count) node_is, unit_outputs (node_at nodes id) k) } in
      let a = unit_met grow N I c.nodes c.cells (used_laid nodes inputs keys lits marks clauses c ok) B (used_good nodes inputs keys lits marks clauses c ok) id id (j + 1 - 1) just_if cell in
      let b = subst (λ (x : St (List ℤ)). Met (get_or x.marks ((node_at N id).first + (j + 1 - 1)) 0) just_if) (sym (unit_place grow N I (cells_used keys c) id id (j + 1) B (omega arith) kind)) a in
      let f = subst (λ (x : ℕ). Met (get_or (weigh grow (suc id) N I (cells_used keys c) id (j + 1) B).marks ((node_at N id).first + x) 0) just_if) e b in
      let g = subst (λ (x : Node). Met (get_or (weigh grow (suc id) N I (cells_used keys c) id (j + 1) B).marks (x.first + j) 0) just_if) node_is f in
      subst (λ (x : ℕ). Met (get_or (weigh grow x N I (cells_used keys c) id (j + 1) B).marks ((node_at nodes id).first + j) 0) just_if) (sym (add-one id)) g

  general_place_marked : (o : Option ℕ) → place_of o ≤ value_count (node_at nodes id) → is_at o ≡ true → (node_at nodes id).kind ≡ 2
      → get_or (at_place o).marks ((node_at nodes id).first + index_of o) 0 ≡ 0 → ⊥
  unfolding weigh_run
  general_place_marked None low q k = absurd (let y : ◌≡◌ {A = ℕ} 0 1 = cc in omega arith)
  general_place_marked (Some j) low q k =
      let e : j + 1 - 1 ≡ j = omega arith in
      let kind : (node_at N id).kind ≡ 2 = ap (λ (x : Node). x.kind) node_is ∙ k in
      let cell : CellOf 2 N c.nodes id (j + 1 - 1) = record { below = here; is = kind; out = omega (arith, ap (λ (x : Node). x.count) node_is, general_outputs (node_at nodes id) k) } in
      let a = sum_marked grow N I c.nodes c.cells (used_laid nodes inputs keys lits marks clauses c ok) B (used_good nodes inputs keys lits marks clauses c ok) (cells_used keys c) id id (j + 1) (omega arith) cell in
      let f = subst (λ (x : ℕ). get_or (weigh grow (suc id) N I (cells_used keys c) id (j + 1) B).marks ((node_at N id).first + x) 0 ≡ 0 → ⊥) e a in
      let g = subst (λ (x : Node). get_or (weigh grow (suc id) N I (cells_used keys c) id (j + 1) B).marks (x.first + j) 0 ≡ 0 → ⊥) node_is f in
      subst (λ (x : ℕ). get_or (weigh grow x N I (cells_used keys c) id (j + 1) B).marks ((node_at nodes id).first + j) 0 ≡ 0 → ⊥) (sym (add-one id)) g

  place_low : (o : Option ℕ) → place_of o ≤ value_count (node_at nodes id) → is_at o ≡ true → index_of o < value_count (node_at nodes id)
  place_low None low q = absurd (let y : ◌≡◌ {A = ℕ} 0 1 = cc in omega arith)
  place_low (Some j) low q = omega arith

pub weighted_twice : (d : Db) (w u : Work) (id v : ℕ) → (weighted_call d w id v).said.number ≡ 0
    → (weighted_call (weighted_call d w id v).db u id v).db ≡ (weighted_call d w id v).db
unfolding weighted_call
weighted_twice d w u id v h = weighted_met (weighted_call d w id v).db u id v (moves 1 (λ k. Met k just_if) (λ e. omega arith) unit) (moves 2 (λ k. k ≡ 0 → ⊥) (λ e. omega arith) general)
  where
    c : Counters
    c = d.counters

    r : Result Demanded Refusal
    r = sum_of d.nodes d.inputs d.keys d.lits d.marks (length d.clauses) w.ints w.bytes c id v

    p : St (List ℤ)
    p = sum_run d.nodes d.inputs d.keys d.lits d.marks c id v

    o : Option ℕ
    o = sum_place d.nodes d.keys c id v

    n : Node
    n = node_at d.nodes id

    g : GivenBack r
    g = said_given r c h

    t : Through (table_ok d.nodes d.inputs d.keys d.lits d.marks (length d.clauses) c) (work_ok w.ints w.bytes c) (ltb id c.nodes) false (is_at o)
        (room_of p c (length d.clauses) (lit_at (con_lits (nodes_used d.nodes c) (inputs_used d.inputs c) p.lits id) (index_of o))) g.literal g.counters
    t = sum_done d.nodes d.inputs d.keys d.lits d.marks (length d.clauses) w.ints w.bytes c id v g.literal g.counters g.is

    unit : n.kind ≡ 1 → Met (get_or p.marks (n.first + index_of o) 0) just_if
    unit k = unit_place_met d.nodes d.inputs d.keys d.lits d.marks (length d.clauses) c t.table_passes id (ltb-true _ _ t.here_ok) o (output_place (cells_used d.keys c) n v) t.output_ok k

    general : n.kind ≡ 2 → get_or p.marks (n.first + index_of o) 0 ≡ 0 → ⊥
    general k = general_place_marked d.nodes d.inputs d.keys d.lits d.marks (length d.clauses) c t.table_passes id (ltb-true _ _ t.here_ok) o (output_place (cells_used d.keys c) n v) t.output_ok k

    cells : (demanded_said r c).counters.cells ≡ c.cells
    cells =
        let q = roomy p c (length d.clauses) (lit_at (con_lits (nodes_used d.nodes c) (inputs_used d.inputs c) p.lits id) (index_of o)) g.literal g.counters t.given in
        ap (λ (x : Result Demanded Refusal). (demanded_said x c).counters.cells) g.is ∙ ap (λ (x : Counters). x.cells) (sym q.counters)

    moves : (kind : ℕ) (P : ℕ → Type 0) → (kind ≡ 0 → ⊥) → (n.kind ≡ kind → P (get_or p.marks (n.first + index_of o) 0)) → n.kind ≡ kind
        → P (get_or (demanded_marks r p d.marks c) (n.first + index_of (sum_place d.nodes d.keys (demanded_said r c).counters id v)) 0)
    moves kind P ne f k =
        let here = ltb-true _ _ t.here_ok in
        let low : n.first + index_of o < c.cells =
        cell_in d.nodes d.inputs d.keys d.lits d.marks (length d.clauses) c t.table_passes id (index_of o) here
        (place_low d.nodes d.inputs d.keys d.lits d.marks (length d.clauses) c t.table_passes id here o (output_place (cells_used d.keys c) n v) t.output_ok) (ne_eqb n.kind 0 (λ e. ne (sym k ∙ e))) in
        let ran = sum_ran d.nodes d.inputs d.keys d.lits d.marks (length d.clauses) c t.table_passes id v here in
        let facts = table_facts (node_at d.nodes) _ d.inputs d.keys d.lits d.marks (length d.clauses) c t.table_passes in
        let back = subst P (sym (back_mark d p (n.first + index_of o) (ran.size ∙ used_length c.cells d.marks facts.mark_row) low)) (f k) in
        let said = subst (λ (x : Result Demanded Refusal). P (get_or (demanded_marks x p d.marks c) (n.first + index_of o) 0)) (sym g.is) back in
        subst (λ (m : ℕ). P (get_or (demanded_marks r p d.marks c) (n.first + index_of (output_of (take m d.keys) n v)) 0)) (sym cells) said
