-- What a table that passes the check gives to a run over the parts of its rows that are in use.
use Rattle.paper.specs.declared.Refusal.{Refusal}
use Rattle.std.specs.Prelude.{◌≡◌, List, ◌++◌, ◌⊎◌, ℕ, zero, suc, ◌+◌, ◌*◌, ◌/◌, ◌≤◌, ◌<◌, ◌^◌, max, true, leb, ℤ, pos, negsuc, neg_ℤ, nat_abs, length, get_or, take, drop}
use Rattle.std.proofs.Common.{sym, ap, ap₂, ◌∙◌, ⊎_elim, arith, ne_eqb, leb-true, take-append-drop, SFits, Err, Result, Ok}
use Rattle.paper.specs.Below.{and_left, and_right}
use Rattle.paper.specs.Table.{work_ok}
use Rattle.std.specs.Int.{w32}
use Rattle.paper.specs.Limits.{node_words}
use Rattle.paper.specs.Rows.{node_at, value_count}
use Rattle.paper.specs.Demand.{nodes_used, inputs_used, cells_used, demanded_row}
use Rattle.paper.specs.declared.Node.{Node}
use Rattle.paper.specs.declared.Counters.{Counters}
use Rattle.paper.specs.declared.Demanded.{Demanded}
use Rattle.facts.specs.Facts.{TableFacts, NodeFactsAt, a_leaf, a_dummy, a_unit, a_general, Held}
use Rattle.facts.proofs.Facts.{words_fit, node_used, used_at, used_length, node_under, leaf_low}
use Rattle.clause.specs.Row.{Neg}
use Rattle.count.specs.Run.{UnitOk, Ok as RowsOk, Fit}
use Rattle.runs.specs.Used.{run_of}

-- a literal's negation, with its variable below 2 ^ 31
pub neg_low : (x : ℤ) → nat_abs x < 2 ^ 31 → SFits w32 (neg_ℤ x)
neg_low (pos zero) h = record { sfits = omega arith }
neg_low (pos (suc n)) h = record { sfits = omega arith }
neg_low (negsuc n) h = record { sfits = omega arith }

pub neg_held : (x : ℤ) (f next : ℕ) → next ≤ 2 ^ 31 → (x ≡ pos 0) ⊎ Held x f next → SFits w32 (neg_ℤ x)
neg_held x f next h o =
    ⊎_elim (λ e. rw e (neg_low (pos 0) (omega arith))) (λ v. rw v.is (neg_low (pos v.var) (omega (arith, v.below)))) o

module _ (nodes : List ℕ) {inputs : List ℤ} {keys : List ℕ} {lits : List ℤ} {marks : List ℕ} {clauses : ℕ} {c : Counters}
    (t : TableFacts (node_at nodes) (length nodes / node_words) inputs keys lits marks clauses c) where
  pub nodes_length : length (nodes_used nodes c) / node_words ≡ c.nodes
  nodes_length = omega (arith, used_length (c.nodes * node_words) nodes (words_fit t.counters))

  -- a node in use reads the same
  pub same_node : (k : ℕ) → k < length (nodes_used nodes c) / node_words → node_at (nodes_used nodes c) k ≡ node_at nodes k
  same_node k h = node_used nodes c.nodes k (omega (arith, nodes_length))

  in_use : (k : ℕ) → k < length (nodes_used nodes c) / node_words → k < c.nodes
  in_use k h = omega (arith, nodes_length)

  unit_of : (k : ℕ) → k < length (nodes_used nodes c) / node_words → (node_at (nodes_used nodes c) k).kind ≡ 1 → UnitOk (nodes_used nodes c) k
  unit_of k h u = go (t.node k (in_use k h))
    where
      at_kind : (node_at nodes k).kind ≡ 1
      at_kind = sym (ap (λ (n : Node). n.kind) (same_node k h)) ∙ u

      go : NodeFactsAt (node_at nodes) keys marks c.cells k → UnitOk (nodes_used nodes c) k
      go (a_leaf e f) = absurd (omega (arith, at_kind))
      go (a_dummy e f) = absurd (omega (arith, at_kind))
      go (a_general e f g) = absurd (omega (arith, at_kind))
      go (a_unit e f g) =
          let l : node_at (nodes_used nodes c) (node_at nodes k).left ≡ node_at nodes (node_at nodes k).left = same_node (node_at nodes k).left (omega (arith, f.left_low)) in
          let r : node_at (nodes_used nodes c) (node_at nodes k).right ≡ node_at nodes (node_at nodes k).right = same_node (node_at nodes k).right (omega (arith, f.right_low)) in
          record {
            left_below = rw (same_node k h) f.left_low;
            right_below = rw (same_node k h) f.right_low;
            sum = rw (same_node k h) (g.sum ∙ ap₂ (λ (x y : Node). value_count x + value_count y) (sym l) (sym r));
          }

  ok_of : RowsOk (nodes_used nodes c) (length (inputs_used inputs c)) (length (cells_used lits c))
  ok_of =
      record {
        unit = unit_of;
        leaf = λ k h e. omega (arith, used_length c.inputs inputs t.input_row, ap (λ (n : Node). n.first) (same_node k h), leaf_low t k (in_use k h) (sym (ap (λ (n : Node). n.kind) (same_node k h)) ∙ e));
        cells = λ k h e. rw (used_length c.cells lits t.lit_row, same_node k h) (node_under t k (in_use k h) (ne_eqb _ 0 (λ z. e (ap (λ (n : Node). n.kind) (same_node k h) ∙ z))));
      }

  neg_ins : Neg (inputs_used inputs c)
  neg_ins j h =
      let l : j < c.inputs = omega (arith, used_length c.inputs inputs t.input_row) in
      rw (used_at c.inputs inputs j (pos 0) l) (neg_low (get_or inputs j (pos 0)) (omega (arith, (t.input j l).low, t.counters.next_low, t.counters.next_high, t.counters.last_high)))

  neg_lits : Neg (cells_used lits c)
  neg_lits j h =
      let l : j < c.cells = omega (arith, used_length c.cells lits t.lit_row) in
      rw (used_at c.cells lits j (pos 0) l) (neg_held (get_or lits j (pos 0)) c.first c.next (omega (arith, t.counters.next_high, t.counters.last_high)) (t.cell j l).lit)

  pub fit_of : clauses ≤ 2 ^ 62 → Fit (nodes_used nodes c) (inputs_used inputs c) (cells_used lits c) (cells_used marks c) (run_of c)
  fit_of h =
      record {
        ok = ok_of;
        same = used_length c.cells marks t.mark_row ∙ sym (used_length c.cells lits t.lit_row);
        neg_ins = neg_ins;
        neg_lits = neg_lits;
        some = omega (arith, t.counters.first_low, t.counters.next_low);
        counted = omega (arith, t.counters.word_row);
      }

-- the part in use comes back before what lay past it
pub back : {A : Type 0} (r : Result Demanded Refusal) (n : ℕ) (old new part : List A) → part ≡ demanded_row r (take n old) new → part ++ drop n old ≡ demanded_row r old (new ++ drop n old)
back {A} (Ok a) n old new part e = ap (λ (l : List A). l ++ drop n old) e
back {A} (Err why) n old new part e = ap (λ (l : List A). l ++ drop n old) e ∙ take-append-drop n old

-- a working area that is long enough holds the cells in use
pub work_long : (ints bytes : ℕ) (c : Counters) → work_ok ints bytes c ≡ true → (c.cells ≤ ints) × (c.cells ≤ bytes)
unfolding work_ok
work_long ints bytes c h =
    let m = max c.cells c.nodes in
    let a : max c.cells c.nodes ≤ ints = leb-true _ _ (and_left (leb m ints) (leb m bytes) h) in
    let b : max c.cells c.nodes ≤ bytes = leb-true _ _ (and_right (leb m ints) (leb m bytes) h) in
    (omega arith, omega arith)
