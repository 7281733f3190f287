-- A demand that is done: what its answer says, and that it leaves a table that passes. Assumes nothing.
use Rattle.paper.specs.Answers.{gives}
use Rattle.std.specs.Prelude.{ℕ, ◌+◌, ◌<◌, ◌≤◌, List, Bool, true, false, cond, ◌≡◌, refl, length, get_or, drop, leb, ltb, ℤ, pos}
use Rattle.std.proofs.Common.{ap, subst, ◌∙◌, arith, length-append, leb-true, ltb-true, Err, Ok, Result}
use Rattle.std.proofs.Math.ListN.{get_or-append}
use Rattle.paper.specs.Rows.{node_at, is_general, value_count, con_lits}
use Rattle.paper.specs.Table.{table_ok, work_ok}
use Rattle.paper.specs.Plain.{St, lit_at, grow, start, plain_run}
use Rattle.paper.specs.Weighted.{place_of, weigh_run}
use Rattle.paper.specs.Demand.{nodes_used, inputs_used, cells_used, cells_back, ran_counters, room_of, demanded_of, count_run, count_of, sum_place, is_at, index_of, sum_run, sum_of}
use Rattle.paper.specs.declared.Node.{Node}
use Rattle.paper.specs.declared.Want.{Want}
use Rattle.paper.specs.declared.Counters.{Counters}
use Rattle.paper.specs.declared.Refusal.{Refusal}
use Rattle.paper.specs.declared.Refusal.TheVariants.{NoSuchOutput, TableFails, WorkShort, NoSuchNode, GeneralNode, VariablesOut, ClausesShort}
use Rattle.paper.specs.declared.Demanded.{Demanded}
use Rattle.facts.specs.Facts.{TableFacts}
use Rattle.facts.proofs.Facts.{table_facts, node_used, used_length}
use Rattle.facts.proofs.Carry.{used_facts, general_mark, general_within}
use Rattle.facts.proofs.Taken.{order_size, order_up}
use Rattle.facts.proofs.Kept.{cells_change}
use Rattle.facts.proofs.Rel.{output_place}
use Rattle.facts.specs.Ran.{Laid, Ran, Good}
use Rattle.facts.proofs.Ran.{laid, define_ran, weigh_ran, ran_cell, ran_low}
use Rattle.facts.specs.Demands.{Roomy, Through}

-- ---- the answer

-- what two equal answers give back
lit_of : Result Demanded Refusal → ℤ → ℤ
lit_of (Ok a) z = a.lit
lit_of (Err w) z = z

counters_of : Result Demanded Refusal → Counters → Counters
counters_of (Ok a) c = a.counters
counters_of (Err w) c = c

gives_same : (z z' : ℤ) (c c' : Counters) → gives z c ≡ gives z' c' → (z ≡ z') × (c ≡ c')
unfolding lit_of counters_of
gives_same z z' c c' q = (ap (λ (r : Result Demanded Refusal). lit_of r z) q, ap (λ (r : Result Demanded Refusal). counters_of r c) q)

not_given : {G : Type 0} (z : ℤ) (c : Counters) (w : Refusal) → Err w ≡ gives z c → G
not_given z c w q = absurd (let y : ◌≡◌ {A = ℕ} 0 1 = cc in omega arith)

pub through : (table work here general output : Bool) (room : Result Demanded Refusal) (z : ℤ) (c : Counters) → demanded_of table work here general output room ≡ gives z c
    → Through table work here general output room z c
unfolding demanded_of
through false work here general output room z c q = not_given z c TableFails q
through true false here general output room z c q = not_given z c WorkShort q
through true true false general output room z c q = not_given z c NoSuchNode q
through true true true true output room z c q = not_given z c GeneralNode q
through true true true false false room z c q = not_given z c NoSuchOutput q
through true true true false true room z c q = record { table_passes = refl; work_passes = refl; here_ok = refl; not_general = refl; output_ok = refl; given = q }

pub roomy : (p : St (List ℤ)) (c : Counters) (clauses : ℕ) (x z : ℤ) (c' : Counters) → room_of p c clauses x ≡ gives z c' → Roomy p c clauses x z c'
unfolding room_of
roomy p c clauses x z c' h = go (leb p.next (c.last + 1)) refl (leb (c.words + length p.out) clauses) refl h
  where
    go : (a : Bool) → leb p.next (c.last + 1) ≡ a → (b : Bool) → leb (c.words + length p.out) clauses ≡ b
        → cond a (cond b (gives x (ran_counters p c)) (Err ClausesShort)) (Err VariablesOut) ≡ gives z c' → Roomy p c clauses x z c'
    go false ea b eb q = not_given z c' VariablesOut q
    go true ea false eb q = not_given z c' ClausesShort q
    go true ea true eb q = let s = gives_same _ _ _ _ q in record { vars = leb-true _ _ ea; words = leb-true _ _ eb; answer = s.0; counters = s.1 }

-- ---- the rows afterwards

module _ (nodes : List ℕ) (inputs : List ℤ) (keys : List ℕ) (lits : List ℤ) (marks : List ℕ) (clauses : ℕ) (c : Counters)
    (ok : table_ok nodes inputs keys lits marks clauses c ≡ true) where
  pub used : TableFacts (node_at (nodes_used nodes c)) c.nodes (inputs_used inputs c) (cells_used keys c) (cells_used lits c) (cells_used marks c) clauses c
  used = used_facts nodes inputs keys lits marks clauses c ok

  pub used_laid : Laid (nodes_used nodes c) c.nodes c.cells
  used_laid = laid (nodes_used nodes c) used

  -- where a demand's run starts from
  pub used_good : Good c.cells (start (cells_used lits c) (cells_used marks c) c.next)
  used_good = record { some = omega (arith, used.counters.first_low, used.counters.next_low); lit_row = used.lit_row; mark_row = used.mark_row }

  -- the parts in use after the run p, with what lies past them
  pub demand_keeps : (b : ℕ) (p : St (List ℤ)) → Ran (nodes_used nodes c) c.nodes b (cells_used lits c) (cells_used marks c) c.next p.lits p.marks p.next
      → p.next ≤ c.last + 1 → c.words + length p.out ≤ clauses
      → table_ok nodes inputs keys (cells_back p.lits lits c) (cells_back p.marks marks c) clauses (ran_counters p c) ≡ true
  demand_keeps b p r vars words =
      let f = used.counters in
      let t = table_facts (node_at nodes) _ inputs keys lits marks clauses c ok in
      let el : length p.lits ≡ c.cells = order_size r.order ∙ used_length c.cells lits t.lit_row in
      let em : length p.marks ≡ c.cells = r.size ∙ used_length c.cells marks t.mark_row in
      let mark-at : (j : ℕ) → j < c.cells → get_or (cells_back p.marks marks c) j 0 ≡ get_or p.marks j 0 = λ j h. get_or-append p.marks (drop c.cells marks) 0 j (omega arith) in
      cells_change nodes inputs keys lits marks clauses c ok (cells_back p.lits lits c) (cells_back p.marks marks c) p.next (c.words + length p.out)
      (omega (arith, length-append p.lits (drop c.cells lits))) (omega (arith, length-append p.marks (drop c.cells marks)))
      (omega (arith, f.next_low, order_up r.order)) vars words
      (λ i h. rw (get_or-append p.lits (drop c.cells lits) (pos 0) i (omega arith), mark-at i h) (ran_cell c.first f.first_low f.next_low r i (used.cell i h)))
      (λ i h k j o. let w = general_within (t.node i h) k in
      rw (mark-at ((node_at nodes i).first + j) (omega arith))
      (subst (λ (n : Node). n.kind ≡ 2 → j < n.count → get_or p.marks (n.first + j) 0 ≤ 1) (node_used nodes c.nodes i h)
      (λ q g. ran_low used_laid r i h q j g (general_mark (used.node i h) q j g)) k o))

  -- the unweighted run of an output that is there
  pub count_ran : (id i : ℕ) (w : Want) → id < c.nodes → i < value_count (node_at nodes id)
      → Ran (nodes_used nodes c) c.nodes (id + 1) (cells_used lits c) (cells_used marks c) c.next
      (count_run nodes inputs lits marks c id i w).lits (count_run nodes inputs lits marks c id i w).marks (count_run nodes inputs lits marks c id i w).next
  unfolding plain_run
  count_ran id i w h o =
      define_ran (nodes_used nodes c) c.nodes c.cells used_laid grow (inputs_used inputs c) (id + 1) id i w (start (cells_used lits c) (cells_used marks c) c.next) h
      (rw (node_used nodes c.nodes id h) o) used_good

  -- the weighted run at a place, counted from 1; 0 asks for nothing
  pub sum_ran : (id v : ℕ) → id < c.nodes
      → Ran (nodes_used nodes c) c.nodes (id + 1) (cells_used lits c) (cells_used marks c) c.next
      (sum_run nodes inputs keys lits marks c id v).lits (sum_run nodes inputs keys lits marks c id v).marks (sum_run nodes inputs keys lits marks c id v).next
  unfolding weigh_run
  sum_ran id v h =
      weigh_ran (nodes_used nodes c) c.nodes c.cells used_laid grow (inputs_used inputs c) (cells_used keys c) (id + 1) id (place_of (sum_place nodes keys c id v)) (start (cells_used lits c) (cells_used marks c) c.next) h
      (rw (node_used nodes c.nodes id h) (output_place (cells_used keys c) (node_at nodes id) v)) used_good

-- ---- a done unweighted, or weighted, demand keeps the check

module _ (nodes : List ℕ) (inputs : List ℤ) (keys : List ℕ) (lits : List ℤ) (marks : List ℕ) (clauses ints bytes : ℕ) (c : Counters) where
  -- what a done demand passed
  pub count_done : (id i : ℕ) (w : Want) (z : ℤ) (c' : Counters) → count_of nodes inputs keys lits marks clauses ints bytes c id i w ≡ gives z c'
      → Through (table_ok nodes inputs keys lits marks clauses c) (work_ok ints bytes c) (ltb id c.nodes) (is_general (node_at nodes id)) (ltb i (value_count (node_at nodes id)))
      (room_of (count_run nodes inputs lits marks c id i w) c clauses (lit_at (con_lits (nodes_used nodes c) (inputs_used inputs c) (count_run nodes inputs lits marks c id i w).lits id) i)) z c'
  unfolding count_of
  count_done id i w z c' h = through _ _ _ _ _ _ z c' h

  pub sum_done : (id v : ℕ) (z : ℤ) (c' : Counters) → sum_of nodes inputs keys lits marks clauses ints bytes c id v ≡ gives z c'
      → Through (table_ok nodes inputs keys lits marks clauses c) (work_ok ints bytes c) (ltb id c.nodes) false (is_at (sum_place nodes keys c id v))
      (room_of (sum_run nodes inputs keys lits marks c id v) c clauses
      (lit_at (con_lits (nodes_used nodes c) (inputs_used inputs c) (sum_run nodes inputs keys lits marks c id v).lits id) (index_of (sum_place nodes keys c id v)))) z c'
  unfolding sum_of
  sum_done id v z c' h = through _ _ _ _ _ _ z c' h

  pub count_keeps : (id i : ℕ) (w : Want) (z : ℤ) (c' : Counters) → count_of nodes inputs keys lits marks clauses ints bytes c id i w ≡ gives z c'
      → table_ok nodes inputs keys (cells_back (count_run nodes inputs lits marks c id i w).lits lits c) (cells_back (count_run nodes inputs lits marks c id i w).marks marks c) clauses c' ≡ true
  count_keeps id i w z c' h =
      let p = count_run nodes inputs lits marks c id i w in
      let t = count_done id i w z c' h in
      let r = roomy p c clauses (lit_at (con_lits (nodes_used nodes c) (inputs_used inputs c) p.lits id) i) z c' t.given in
      subst (λ (x : Counters). table_ok nodes inputs keys (cells_back p.lits lits c) (cells_back p.marks marks c) clauses x ≡ true) r.counters
      (demand_keeps nodes inputs keys lits marks clauses c t.table_passes (id + 1) p
      (count_ran nodes inputs keys lits marks clauses c t.table_passes id i w (ltb-true _ _ t.here_ok) (ltb-true _ _ t.output_ok)) r.vars r.words)

  pub sum_keeps : (id v : ℕ) (z : ℤ) (c' : Counters) → sum_of nodes inputs keys lits marks clauses ints bytes c id v ≡ gives z c'
      → table_ok nodes inputs keys (cells_back (sum_run nodes inputs keys lits marks c id v).lits lits c) (cells_back (sum_run nodes inputs keys lits marks c id v).marks marks c) clauses c' ≡ true
  sum_keeps id v z c' h =
      let p = sum_run nodes inputs keys lits marks c id v in
      let t = sum_done id v z c' h in
      let r = roomy p c clauses (lit_at (con_lits (nodes_used nodes c) (inputs_used inputs c) p.lits id) (index_of (sum_place nodes keys c id v))) z c' t.given in
      subst (λ (x : Counters). table_ok nodes inputs keys (cells_back p.lits lits c) (cells_back p.marks marks c) clauses x ≡ true) r.counters
      (demand_keeps nodes inputs keys lits marks clauses c t.table_passes (id + 1) p
      (sum_ran nodes inputs keys lits marks clauses c t.table_passes id v (ltb-true _ _ t.here_ok)) r.vars r.words)
