-- "Nothing but 0 changes anything outside the working area"; "A done call leaves every entry past the new counts as it stood"; and no row changes its length.
-- Assumes nothing.
use Rattle.paper.specs.Answers.{gives}
use Rattle.paper.specs.declared.Refusal.{Refusal}
use Rattle.std.specs.Prelude.{ℕ, zero, suc, ◌+◌, ◌-◌, ◌<◌, ◌≤◌, max, List, [], ◌∷◌, ◌++◌, Bool, true, false, cond, ◌≡◌, refl, length, get_or, drop, set, replicate, leb, ltb, ℤ, pos}
use Rattle.std.proofs.Common.{sym, ap, subst, ◌∙◌, ⊎_elim, arith, length-set, drop_at, get_or-drop, get_or-set_other, ltb-true, Err, None, Ok, Option, Result, Some}
use Rattle.std.proofs.lemmas.List.{length-replicate}
use Rattle.std.proofs.lemmas.List.Edits.{sets, length-paste}
use Rattle.std.proofs.Math.Seq.{length-sets, length_front}
use Rattle.std.proofs.lemmas.Bool.{eqb-false}
use Rattle.paper.specs.Rows.{node_at, is_leaf, is_dummy, con_len}
use Rattle.paper.specs.Keys.{node_keys}
use Rattle.paper.specs.Table.{table_ok, work_ok}
use Rattle.paper.specs.Grow.{fresh_of, leaf_node, dummy_node, leaf_plan, leaf_added, leaf_nodes, leaf_inputs, dummy_plan, dummy_added, dummy_nodes}
use Rattle.paper.specs.Join.{inner_node, inner_plan, inner_added, inner_nodes, inner_keys, inner_lits, inner_marks, new_keys}
use Rattle.paper.specs.Plain.{St, want_of}
use Rattle.paper.specs.Demand.{cells_used, ran_counters, count_run, count_of, sum_run, sum_of, demanded_lits, demanded_marks, demanded_clauses}
use Rattle.paper.specs.Upkeep.{Stock, stock, give, give_all, cells_from, places_of, reserved_by, with_next, reserve_answer, reserve_of, kept_row, reset_of, cleared_marks, empty_of}
use Rattle.paper.specs.Numbers.{begun_said, added_said, demanded_said, kept_said}
use Rattle.paper.specs.Calls.{Db, Work, Call, fresh, leaf, dummy, inner, unweighted, weighted, reserve, value, reset, empty, check, fresh_step, leaf_call, dummy_call, inner_call, unweighted_call, weighted_call, reserve_call, value_call, reset_call, empty_call, check_call, step}
use Rattle.paper.specs.declared.Node.{Node}
use Rattle.paper.specs.declared.Counters.{Counters}
use Rattle.paper.specs.declared.Semantics.{Semantics}
use Rattle.paper.specs.declared.Pair.{Pair}
use Rattle.paper.specs.declared.Sizes.{Sizes}
use Rattle.paper.specs.declared.Refusal.TheVariants.{TableFails, WorkShort, NoSuchNode, VariablesOut}
use Rattle.paper.specs.declared.Demanded.{Demanded}
use Rattle.facts.specs.Facts.{NodeFactsAt, a_leaf, a_dummy, a_unit, a_general, TableFacts}
use Rattle.facts.proofs.Facts.{table_facts, used_length}
use Rattle.facts.proofs.Words.{put_above, put_length}
use Rattle.facts.proofs.Pastes.{paste_past, count_length}
use Rattle.facts.specs.Plans.{Fitted, UnitMade, GeneralMade, InnerMade}
use Rattle.facts.proofs.Plans.{inner_made}
use Rattle.facts.proofs.Taken.{take_else, order_size, all_taken}
use Rattle.facts.proofs.Demands.{count_ran, sum_ran, count_done, sum_done, roomy}
use Rattle.facts.specs.Past.{AllBelow, Past}

-- ---- a call that is refused leaves the database as it was

refused_demand : (d : Db) (r : Result Demanded Refusal) (p : St (List ℤ)) → ((demanded_said r d.counters).number ≡ 0 → ⊥)
    → ◌≡◌ {A = Db} (record {
      nodes = d.nodes;
      inputs = d.inputs;
      keys = d.keys;
      lits = demanded_lits r p d.lits d.counters;
      marks = demanded_marks r p d.marks d.counters;
      clauses = demanded_clauses r p d.clauses d.counters;
      counters = (demanded_said r d.counters).counters;
    }) d
refused_demand d (Ok a) p h = absurd (h refl)
refused_demand d (Err w) p h = refl

pub refused_stays : (d : Db) (k : Call) → ((step d k).said.number ≡ 0 → ⊥) → (step d k).db ≡ d
unfolding step fresh_step leaf_call dummy_call inner_call unweighted_call weighted_call reserve_call value_call reset_call empty_call check_call
refused_stays d (fresh first last) h = go (fresh_of first last) h
  where
    go : (b : Result Counters Refusal) → ((begun_said b d.counters).number ≡ 0 → ⊥)
        → ◌≡◌ {A = Db} (record { nodes = d.nodes; inputs = d.inputs; keys = d.keys; lits = d.lits; marks = d.marks; clauses = d.clauses; counters = (begun_said b d.counters).counters }) d
    go (Ok c) q = absurd (q refl)
    go (Err w) q = refl
refused_stays d (leaf x) h = go (leaf_plan d.nodes d.inputs d.keys d.lits d.marks (length d.clauses) d.counters x) h
  where
    go : (p : Result (Option ℕ) Refusal) → ((added_said (leaf_added p d.counters) d.counters).number ≡ 0 → ⊥)
        → ◌≡◌ {A = Db} (record { nodes = leaf_nodes p d.nodes d.counters; inputs = leaf_inputs p d.inputs d.counters x; keys = d.keys; lits = d.lits; marks = d.marks; clauses = d.clauses; counters = (added_said (leaf_added p d.counters) d.counters).counters }) d
    go (Ok (Some id)) q = absurd (q refl)
    go (Ok None) q = absurd (q refl)
    go (Err w) q = refl
refused_stays d dummy h = go (dummy_plan d.nodes d.inputs d.keys d.lits d.marks (length d.clauses) d.counters) h
  where
    go : (p : Result (Option ℕ) Refusal) → ((added_said (dummy_added p d.counters) d.counters).number ≡ 0 → ⊥)
        → ◌≡◌ {A = Db} (record { nodes = dummy_nodes p d.nodes d.counters; inputs = d.inputs; keys = d.keys; lits = d.lits; marks = d.marks; clauses = d.clauses; counters = (added_said (dummy_added p d.counters) d.counters).counters }) d
    go (Ok (Some id)) q = absurd (q refl)
    go (Ok None) q = absurd (q refl)
    go (Err w) q = refl
refused_stays d (inner j) h = go (inner_plan d.nodes d.inputs d.keys d.lits d.marks (length d.clauses) d.counters j) h
  where
    go : (p : Result Node Refusal) → ((added_said (inner_added p d.counters) d.counters).number ≡ 0 → ⊥)
        → ◌≡◌ {A = Db} (record { nodes = inner_nodes p d.nodes d.counters; inputs = d.inputs; keys = inner_keys p d.nodes d.keys; lits = inner_lits p d.lits; marks = inner_marks p d.marks; clauses = d.clauses; counters = (added_said (inner_added p d.counters) d.counters).counters }) d
    go (Ok n) q = absurd (q refl)
    go (Err w) q = refl
refused_stays d (unweighted w id i m) h =
    refused_demand d (count_of d.nodes d.inputs d.keys d.lits d.marks (length d.clauses) w.ints w.bytes d.counters id i (want_of m)) (count_run d.nodes d.inputs d.lits d.marks d.counters id i (want_of m)) h
refused_stays d (weighted w id v) h =
    refused_demand d (sum_of d.nodes d.inputs d.keys d.lits d.marks (length d.clauses) w.ints w.bytes d.counters id v) (sum_run d.nodes d.inputs d.keys d.lits d.marks d.counters id v) h
refused_stays d (reserve w id) h = go (reserve_of d.nodes d.inputs d.keys d.lits d.marks (length d.clauses) w.ints w.bytes d.counters id) h
  where
    go : (r : Result Counters Refusal) → ((kept_said r d.counters).number ≡ 0 → ⊥)
        → ◌≡◌ {A = Db} (record { nodes = d.nodes; inputs = d.inputs; keys = d.keys; lits = kept_row r d.lits (reserved_by d.nodes d.lits id d.counters.next).lits; marks = d.marks; clauses = d.clauses; counters = (kept_said r d.counters).counters }) d
    go (Ok c) q = absurd (q refl)
    go (Err w) q = refl
refused_stays d (value w id a) h = refl
refused_stays d reset h = go (reset_of d.nodes d.inputs d.keys d.lits d.marks (length d.clauses) d.counters) h
  where
    go : (r : Result Counters Refusal) → ((kept_said r d.counters).number ≡ 0 → ⊥)
        → ◌≡◌ {A = Db} (record { nodes = d.nodes; inputs = d.inputs; keys = d.keys; lits = d.lits; marks = kept_row r d.marks (cleared_marks d.marks d.counters); clauses = d.clauses; counters = (kept_said r d.counters).counters }) d
    go (Ok c) q = absurd (q refl)
    go (Err w) q = refl
refused_stays d empty h = go (empty_of d.nodes d.inputs d.keys d.lits d.marks (length d.clauses) d.counters) h
  where
    go : (r : Result Counters Refusal) → ((kept_said r d.counters).number ≡ 0 → ⊥)
        → ◌≡◌ {A = Db} (record { nodes = d.nodes; inputs = d.inputs; keys = d.keys; lits = d.lits; marks = d.marks; clauses = d.clauses; counters = (kept_said r d.counters).counters }) d
    go (Ok c) q = absurd (q refl)
    go (Err w) q = refl
refused_stays d check h = refl

-- the same rows, whatever the counters
rows_same : (d : Db) (c : Counters) → Past d (record { nodes = d.nodes; inputs = d.inputs; keys = d.keys; lits = d.lits; marks = d.marks; clauses = d.clauses; counters = c })
rows_same d c =
    record {
      nodes_size = refl;
      inputs_size = refl;
      keys_size = refl;
      lits_size = refl;
      marks_size = refl;
      clauses_size = refl;
      nodes_past = λ j h. refl;
      inputs_past = λ j h. refl;
      keys_past = λ j h. refl;
      lits_past = λ j h. refl;
      marks_past = λ j h. refl;
      clauses_past = λ j h. refl;
    }

-- words stored from i on leave what lies past them
sets_past : (vs l : List ℤ) (i j : ℕ) → i + length vs ≤ j → get_or (sets l i vs) j (pos 0) ≡ get_or l j (pos 0)
sets_past [] l i j h = refl
sets_past (x ∷ vs) l i j h = sets_past vs (set l i x) (suc i) j (omega arith) ∙ get_or-set_other l i j x (pos 0) (λ e. omega arith)

back_past : {A : Type 0} (new old : List A) (n j : ℕ) (x : A) → length new ≡ n → n ≤ j → get_or (new ++ drop n old) j x ≡ get_or old j x
back_past {A} new old n j x e h =
    let q : n + (j - n) ≡ j = omega arith in
    ap (λ (k : ℕ). get_or (new ++ drop n old) k x) (sym q)
    ∙ sym (get_or-drop n (new ++ drop n old) (j - n) x)
    ∙ ap (λ (r : List A). get_or r (j - n) x) (drop_at new (drop n old) n e)
    ∙ get_or-drop n old (j - n) x
    ∙ ap (λ (k : ℕ). get_or old k x) q

-- ---- leaf, dummy, inner

leaf_past : (d : Db) (x : ℤ) → Past d (leaf_call d x).db
unfolding leaf_call
leaf_past d x = go (leaf_plan d.nodes d.inputs d.keys d.lits d.marks (length d.clauses) d.counters x)
  where
    go : (p : Result (Option ℕ) Refusal) → Past d (record { nodes = leaf_nodes p d.nodes d.counters; inputs = leaf_inputs p d.inputs d.counters x; keys = d.keys; lits = d.lits; marks = d.marks; clauses = d.clauses; counters = (added_said (leaf_added p d.counters) d.counters).counters })
    go (Ok (Some id)) = rows_same d d.counters
    go (Err w) = rows_same d d.counters
    go (Ok None) =
        record {
          nodes_size = put_length d.nodes d.counters.nodes (leaf_node d.counters.inputs);
          inputs_size = length-set d.inputs d.counters.inputs x;
          keys_size = refl;
          lits_size = refl;
          marks_size = refl;
          clauses_size = refl;
          nodes_past = λ j h. put_above d.nodes d.counters.nodes (leaf_node d.counters.inputs) j (omega arith);
          inputs_past = λ j h. get_or-set_other d.inputs d.counters.inputs j x (pos 0) (λ e. omega arith);
          keys_past = λ j h. refl;
          lits_past = λ j h. refl;
          marks_past = λ j h. refl;
          clauses_past = λ j h. refl;
        }

dummy_past : (d : Db) → Past d (dummy_call d).db
unfolding dummy_call
dummy_past d = go (dummy_plan d.nodes d.inputs d.keys d.lits d.marks (length d.clauses) d.counters)
  where
    go : (p : Result (Option ℕ) Refusal) → Past d (record { nodes = dummy_nodes p d.nodes d.counters; inputs = d.inputs; keys = d.keys; lits = d.lits; marks = d.marks; clauses = d.clauses; counters = (added_said (dummy_added p d.counters) d.counters).counters })
    go (Ok (Some id)) = rows_same d d.counters
    go (Err w) = rows_same d d.counters
    go (Ok None) =
        record {
          nodes_size = put_length d.nodes d.counters.nodes dummy_node;
          inputs_size = refl;
          keys_size = refl;
          lits_size = refl;
          marks_size = refl;
          clauses_size = refl;
          nodes_past = λ j h. put_above d.nodes d.counters.nodes dummy_node j (omega arith);
          inputs_past = λ j h. refl;
          keys_past = λ j h. refl;
          lits_past = λ j h. refl;
          marks_past = λ j h. refl;
          clauses_past = λ j h. refl;
        }

-- where a new inner node's cells go
record Placed (nodes keys : List ℕ) (lits : List ℤ) (marks : List ℕ) (n : Node) : Type 0 where
  keys_room : n.first + n.count ≤ length keys
  lits_room : n.first + n.count ≤ length lits
  marks_room : n.first + n.count ≤ length marks
  enough : n.count ≤ length (new_keys nodes keys n)

inner_placed : (nodes : List ℕ) (inputs : List ℤ) (keys : List ℕ) (lits : List ℤ) (marks : List ℕ) (clauses : ℕ) (c : Counters) (j : Pair) (n : Node)
    → inner_plan nodes inputs keys lits marks clauses c j ≡ Ok n → Placed nodes keys lits marks n
inner_placed nodes inputs keys lits marks clauses c j n h = ⊎_elim unit general p.made
  where
    s : Sizes
    s = record { nodes = length nodes; keys = length keys; lits = length lits; marks = length marks }

    p : InnerMade nodes keys c j s n
    p = inner_made nodes inputs keys lits marks clauses c j n h

    l : Node
    l = node_at nodes j.left

    r : Node
    r = node_at nodes j.right

    at : (kind count : ℕ) (f : Fitted kind j l r c count s n)
        → count ≤ length (new_keys nodes keys (inner_node kind j c.cells count (max l.depth r.depth + 1))) → Placed nodes keys lits marks n
    at kind count f q =
        subst (Placed nodes keys lits marks) (sym f.is)
        (record { keys_room = f.room.keys; lits_room = f.room.lits; marks_room = f.room.marks; enough = q })

    unit : UnitMade j l r c s n → Placed nodes keys lits marks n
    unit u = at 1 (con_len l + con_len r) u.fitted (omega (arith, count_length 1 (con_len l + con_len r)))

    general : GeneralMade keys j l r c s n → Placed nodes keys lits marks n
    general u = at 2 (length (node_keys keys l j.lmul r j.rmul)) u.fitted (omega arith)

inner_past : (d : Db) (j : Pair) → Past d (inner_call d j).db
unfolding inner_call
inner_past d j = go (inner_plan d.nodes d.inputs d.keys d.lits d.marks (length d.clauses) d.counters j) refl
  where
    go : (p : Result Node Refusal) → inner_plan d.nodes d.inputs d.keys d.lits d.marks (length d.clauses) d.counters j ≡ p
        → Past d (record { nodes = inner_nodes p d.nodes d.counters; inputs = d.inputs; keys = inner_keys p d.nodes d.keys; lits = inner_lits p d.lits; marks = inner_marks p d.marks; clauses = d.clauses; counters = (added_said (inner_added p d.counters) d.counters).counters })
    go (Err w) e = rows_same d d.counters
    go (Ok n) e =
        let f = inner_placed d.nodes d.inputs d.keys d.lits d.marks (length d.clauses) d.counters j n e in
        let K = new_keys d.nodes d.keys n in
        let el = length-replicate {A = ℤ} n.count (pos 0) in
        let em = length-replicate {A = ℕ} n.count 0 in
        record {
          nodes_size = put_length d.nodes d.counters.nodes n;
          inputs_size = refl;
          keys_size = length-paste d.keys n.first K n.count f.keys_room f.enough;
          lits_size = length-paste d.lits n.first (replicate n.count (pos 0)) n.count f.lits_room (omega arith);
          marks_size = length-paste d.marks n.first (replicate n.count 0) n.count f.marks_room (omega arith);
          clauses_size = refl;
          nodes_past = λ j h. put_above d.nodes d.counters.nodes n j (omega arith);
          inputs_past = λ j h. refl;
          keys_past = λ j h. paste_past d.keys n.first K n.count j 0 (omega (arith, f.keys_room)) f.enough h;
          lits_past = λ j h. paste_past d.lits n.first (replicate n.count (pos 0)) n.count j (pos 0) (omega (arith, f.lits_room)) (omega arith) h;
          marks_past = λ j h. paste_past d.marks n.first (replicate n.count 0) n.count j 0 (omega (arith, f.marks_room)) (omega arith) h;
          clauses_past = λ j h. refl;
        }

-- ---- the demands

-- the answer r of the run p, whose rows have the length of the cells in use
demand_past : (d : Db) (r : Result Demanded Refusal) (p : St (List ℤ))
    → ((z : ℤ) (c : Counters) → r ≡ gives z c → (ran_counters p d.counters ≡ c) × (length p.lits ≡ length (cells_used d.lits d.counters)) × (length p.marks ≡ length (cells_used d.marks d.counters))
    × (d.counters.cells ≤ length d.lits) × (d.counters.cells ≤ length d.marks))
    → Past d (record {
      nodes = d.nodes;
      inputs = d.inputs;
      keys = d.keys;
      lits = demanded_lits r p d.lits d.counters;
      marks = demanded_marks r p d.marks d.counters;
      clauses = demanded_clauses r p d.clauses d.counters;
      counters = (demanded_said r d.counters).counters;
    })
demand_past d (Err w) p h = rows_same d d.counters
demand_past d (Ok a) p h =
    let c = d.counters in
    let c' = a.counters in
    let q = h a.lit c' refl in
    let ew : c.words + length p.out ≡ c'.words = ap (λ (x : Counters). x.words) q.0 in
    let ec : c.cells ≡ c'.cells = ap (λ (x : Counters). x.cells) q.0 in
    record {
      nodes_size = refl;
      inputs_size = refl;
      keys_size = refl;
      lits_size = length_front d.lits p.lits c.cells q.1;
      marks_size = length_front d.marks p.marks c.cells q.2;
      clauses_size = length-sets d.clauses c.words p.out;
      nodes_past = λ j g. refl;
      inputs_past = λ j g. refl;
      keys_past = λ j g. refl;
      lits_past = λ j g. back_past p.lits d.lits c.cells j (pos 0) (q.1 ∙ used_length c.cells d.lits q.3) (omega arith);
      marks_past = λ j g. back_past p.marks d.marks c.cells j 0 (q.2 ∙ used_length c.cells d.marks q.4) (omega arith);
      clauses_past = λ j g. sets_past p.out d.clauses c.words j (omega arith);
    }

unweighted_past : (d : Db) (w : Work) (id i : ℕ) (m : Semantics) → Past d (unweighted_call d w id i m).db
unfolding unweighted_call
unweighted_past d w id i m =
    let c = d.counters in
    let p = count_run d.nodes d.inputs d.lits d.marks c id i (want_of m) in
    demand_past d (count_of d.nodes d.inputs d.keys d.lits d.marks (length d.clauses) w.ints w.bytes c id i (want_of m)) p
    (λ z c' h.
    let t = count_done d.nodes d.inputs d.keys d.lits d.marks (length d.clauses) w.ints w.bytes c id i (want_of m) z c' h in
    let r = roomy p c (length d.clauses) _ z c' t.given in
    let q = count_ran d.nodes d.inputs d.keys d.lits d.marks (length d.clauses) c t.table_passes id i (want_of m) (ltb-true _ _ t.here_ok) (ltb-true _ _ t.output_ok) in
    let f = table_facts (node_at d.nodes) _ d.inputs d.keys d.lits d.marks (length d.clauses) c t.table_passes in
    (r.counters, order_size q.order, q.size, f.lit_row, f.mark_row))

weighted_past : (d : Db) (w : Work) (id v : ℕ) → Past d (weighted_call d w id v).db
unfolding weighted_call
weighted_past d w id v =
    let c = d.counters in
    let p = sum_run d.nodes d.inputs d.keys d.lits d.marks c id v in
    demand_past d (sum_of d.nodes d.inputs d.keys d.lits d.marks (length d.clauses) w.ints w.bytes c id v) p
    (λ z c' h.
    let t = sum_done d.nodes d.inputs d.keys d.lits d.marks (length d.clauses) w.ints w.bytes c id v z c' h in
    let r = roomy p c (length d.clauses) _ z c' t.given in
    let q = sum_ran d.nodes d.inputs d.keys d.lits d.marks (length d.clauses) c t.table_passes id v (ltb-true _ _ t.here_ok) in
    let f = table_facts (node_at d.nodes) _ d.inputs d.keys d.lits d.marks (length d.clauses) c t.table_passes in
    (r.counters, order_size q.order, q.size, f.lit_row, f.mark_row))

both_below : (n : ℕ) (a b : List ℕ) → AllBelow n a → AllBelow n b → AllBelow n (a ++ b)
both_below n [] b p q = q
both_below n (k ∷ a) b p q = (p.0, both_below n a b p.1 q)

cells_below : (n k count : ℕ) → k + count ≤ n → AllBelow n (cells_from k count)
unfolding cells_from
cells_below n k zero h = tt
cells_below n k (suc count) h = (omega arith, cells_below n (k + 1) count (omega arith))

pub places_below : {holds : ℕ} {inputs : List ℤ} {keys : List ℕ} {lits : List ℤ} {marks : List ℕ} {clauses : ℕ} {c : Counters} (ns : List ℕ)
    → TableFacts (node_at ns) holds inputs keys lits marks clauses c → (f id : ℕ) → id < c.nodes → AllBelow c.cells (places_of f ns id)
unfolding places_of
places_below ns t zero id h = tt
places_below {keys = keys} {marks = marks} {c = c} ns t (suc f) id h = go (places_below ns t f) (t.node id h) (is_leaf (node_at ns id)) refl (is_dummy (node_at ns id)) refl
  where
    n : Node
    n = node_at ns id

    own : ((k : ℕ) → k < c.nodes → AllBelow c.cells (places_of f ns k)) → n.left < id → n.right < id → n.first + n.count ≤ c.cells
        → AllBelow c.cells ((places_of f ns n.left ++ places_of f ns n.right) ++ cells_from n.first n.count)
    own rec l r w =
        both_below c.cells (places_of f ns n.left ++ places_of f ns n.right) (cells_from n.first n.count)
        (both_below c.cells (places_of f ns n.left) (places_of f ns n.right) (rec n.left (omega arith)) (rec n.right (omega arith))) (cells_below c.cells n.first n.count w)

    go : ((k : ℕ) → k < c.nodes → AllBelow c.cells (places_of f ns k)) → NodeFactsAt (node_at ns) keys marks c.cells id → (a : Bool) → is_leaf n ≡ a → (b : Bool) → is_dummy n ≡ b
        → AllBelow c.cells (cond a [] (cond b [] ((places_of f ns n.left ++ places_of f ns n.right) ++ cells_from n.first n.count)))
    go rec nf true ea b eb = tt
    go rec nf false ea true eb = tt
    go rec (a_leaf k x) false ea false eb = absurd (eqb-false _ _ ea k)
    go rec (a_dummy k x) false ea false eb = absurd (eqb-false _ _ eb k)
    go rec (a_unit k x y) false ea false eb = own rec x.left_low x.right_low x.within
    go rec (a_general k x y) false ea false eb = own rec x.left_low x.right_low x.within

give_past : (n : ℕ) (ks : List ℕ) (s : Stock) (j : ℕ) → AllBelow n ks → n ≤ j → get_or (give_all ks s).lits j (pos 0) ≡ get_or s.lits j (pos 0)
unfolding give_all give
give_past n [] s j b h = refl
give_past n (k ∷ ks) s j b h = give_past n ks (give k s) j b.1 h ∙ take_else s.lits k s.next j (λ e. omega (arith, b.0))

reserve_past : (d : Db) (w : Work) (id : ℕ) → Past d (reserve_call d w id).db
unfolding reserve_call reserve_of reserve_answer
reserve_past d w id =
    go (table_ok d.nodes d.inputs d.keys d.lits d.marks (length d.clauses) d.counters) refl (work_ok w.ints w.bytes d.counters) (ltb id d.counters.nodes) refl (leb s.next (d.counters.last + 1))
  where
    c : Counters
    c = d.counters

    s : Stock
    s = reserved_by d.nodes d.lits id d.counters.next

    R : Bool → Bool → Bool → Bool → Result Counters Refusal
    R t k h r = cond t (cond k (cond h (cond r (Ok (with_next d.counters s.next)) (Err VariablesOut)) (Err NoSuchNode)) (Err WorkShort)) (Err TableFails)

    E : Result Counters Refusal → Db
    E r = record { nodes = d.nodes; inputs = d.inputs; keys = d.keys; lits = kept_row r d.lits s.lits; marks = d.marks; clauses = d.clauses; counters = (kept_said r d.counters).counters }

    did : table_ok d.nodes d.inputs d.keys d.lits d.marks (length d.clauses) d.counters ≡ true → id < c.nodes → Past d (E (Ok (with_next d.counters s.next)))
    did ok here =
        let t = table_facts (node_at d.nodes) _ d.inputs d.keys d.lits d.marks (length d.clauses) c ok in
        let ks = places_of (id + 1) d.nodes id in
        record {
          nodes_size = refl;
          inputs_size = refl;
          keys_size = refl;
          lits_size = (all_taken ks (stock d.lits c.next) (omega (arith, t.counters.first_low, t.counters.next_low))).size;
          marks_size = refl;
          clauses_size = refl;
          nodes_past = λ j h. refl;
          inputs_past = λ j h. refl;
          keys_past = λ j h. refl;
          lits_past = λ j h. give_past c.cells ks (stock d.lits c.next) j (places_below d.nodes t (id + 1) id here) h;
          marks_past = λ j h. refl;
          clauses_past = λ j h. refl;
        }

    go : (t : Bool) → table_ok d.nodes d.inputs d.keys d.lits d.marks (length d.clauses) d.counters ≡ t → (k : Bool) (h : Bool) → ltb id d.counters.nodes ≡ h → (r : Bool) → Past d (E (R t k h r))
    go true et true true eh true = did et (ltb-true _ _ eh)
    go true et true true eh false = rows_same d d.counters
    go true et true false eh r = rows_same d d.counters
    go true et false h eh r = rows_same d d.counters
    go false et k h eh r = rows_same d d.counters

-- ---- fresh, reset, emptying

fresh_past : (d : Db) (first last : ℕ) → Past d (fresh_step d first last).db
unfolding fresh_step
fresh_past d first last = rows_same d (begun_said (fresh_of first last) d.counters).counters

reset_past : (d : Db) → Past d (reset_call d).db
unfolding reset_call reset_of
reset_past d = go (table_ok d.nodes d.inputs d.keys d.lits d.marks (length d.clauses) d.counters) refl
  where
    c : Counters
    c = d.counters

    go : (t : Bool) → table_ok d.nodes d.inputs d.keys d.lits d.marks (length d.clauses) d.counters ≡ t
        → Past d (record { nodes = d.nodes; inputs = d.inputs; keys = d.keys; lits = d.lits; marks = kept_row (cond t (Ok d.counters) (Err TableFails)) d.marks (cleared_marks d.marks d.counters); clauses = d.clauses; counters = (kept_said (cond t (Ok d.counters) (Err TableFails)) d.counters).counters })
    go false e = rows_same d d.counters
    go true e =
        let t = table_facts (node_at d.nodes) _ d.inputs d.keys d.lits d.marks (length d.clauses) c e in
        let em = length-replicate {A = ℕ} c.cells 0 in
        record {
          nodes_size = refl;
          inputs_size = refl;
          keys_size = refl;
          lits_size = refl;
          marks_size = length-paste d.marks 0 (replicate c.cells 0) c.cells (omega (arith, t.mark_row)) (omega arith);
          clauses_size = refl;
          nodes_past = λ j h. refl;
          inputs_past = λ j h. refl;
          keys_past = λ j h. refl;
          lits_past = λ j h. refl;
          marks_past = λ j h. paste_past d.marks 0 (replicate c.cells 0) c.cells j 0 (omega arith) (omega arith) (omega arith);
          clauses_past = λ j h. refl;
        }

empty_past : (d : Db) → Past d (empty_call d).db
unfolding empty_call
empty_past d = rows_same d (kept_said (empty_of d.nodes d.inputs d.keys d.lits d.marks (length d.clauses) d.counters) d.counters).counters

-- THE LAW
pub step_past : (d : Db) (k : Call) → Past d (step d k).db
unfolding step value_call check_call
step_past d (fresh first last) = fresh_past d first last
step_past d (leaf x) = leaf_past d x
step_past d dummy = dummy_past d
step_past d (inner j) = inner_past d j
step_past d (unweighted w id i m) = unweighted_past d w id i m
step_past d (weighted w id v) = weighted_past d w id v
step_past d (reserve w id) = reserve_past d w id
step_past d (value w id a) = rows_same d d.counters
step_past d reset = reset_past d
step_past d empty = empty_past d
step_past d check = rows_same d d.counters
