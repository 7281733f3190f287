-- What a table that passes its check gives to a weighted run, and the answers by the tests that lead there.
use Rattle.paper.specs.declared.Refusal.{Refusal}
use Rattle.std.specs.Prelude.{Err, None, Result, Some}
use mathlib.Core.Path.{◌≡◌, sym, ap, ◌∙◌}
use mathlib.Core.Bool.{true, false}
use mathlib.Core.List.{List, ◌++◌}
use Prim.Native.Nat.{ℕ, ◌+◌, ◌/◌, ◌≤◌, ◌<◌, ◌^◌, max}
use native.Mathlib.Omega.{arith}
use borrow.Author.Tests.{lt-ltb, le-ltb, leb-true}
use lib.Dec.{leb}
use lib.IntN.{ℤ}
use lib.ListN.{length, drop}
use Rattle.paper.specs.Limits.{node_words}
use Rattle.paper.specs.Below.{and_left, and_right}
use Rattle.paper.specs.Rows.{node_at, word_from, value_count, con_lits}
use Rattle.paper.specs.Table.{table_ok, work_ok}
use Rattle.paper.specs.Plain.{St, lit_at}
use Rattle.paper.specs.Weighted.{place_of, weigh_run}
use Rattle.paper.specs.Demand.{nodes_used, inputs_used, cells_used, room_of, demanded_of, sum_place, sum_run, sum_of, demanded_lits, demanded_marks, demanded_clauses}
use Rattle.paper.specs.declared.Node.{Node}
use Rattle.paper.specs.declared.Counters.{Counters}
use Rattle.paper.specs.declared.Refusal.TheVariants.{NoSuchOutput, TableFails, WorkShort, NoSuchNode}
use Rattle.paper.specs.declared.Demanded.{Demanded}
use Rattle.facts.specs.Facts.{TableFacts, NodeFactsAt, a_leaf, a_dummy, a_unit, a_general}
use Rattle.facts.proofs.Facts.{used_at, used_length}
use Rattle.facts.proofs.Members.{key_ascend}
use Rattle.runs.proofs.Used.{nodes_length, same_node, fit_of, back}
use Rattle.count.specs.Run.{Here}
use Rattle.find.specs.Ways.{Rising, Sorted}
use Rattle.find.proofs.Laws.{count_dummy, count_unit, output_place}
use Rattle.sum.specs.Ways.{GeneralOk, Generals}
use Rattle.sum.proofs.Laws.{outs_few}
use Rattle.meet.specs.Ready.{Ready, MetSum}

-- ---- what a run asks

module _ (nodes : List ℕ) {inputs : List ℤ} {keys : List ℕ} {lits : List ℤ} {marks : List ℕ} {clauses : ℕ} {c : Counters}
    (t : TableFacts (node_at nodes) (length nodes / node_words) inputs keys lits marks clauses c) (small : clauses ≤ 2 ^ 62) where
  -- the keys of a general node, in the part in use, ascend, and those of a unit are 1, 2, ..
  pub sorted_of : (k : ℕ) → k < c.nodes → Sorted (cells_used keys c) (node_at nodes k)
  sorted_of k h = record { general = go (t.node k h); counted = units (t.node k h) }
    where
      go : NodeFactsAt (node_at nodes) keys marks c.cells k → (node_at nodes k).kind ≡ 2 → Rising (cells_used keys c) (node_at nodes k).first (node_at nodes k).count
      go (a_leaf e f) u = absurd (omega (arith, u))
      go (a_dummy e f) u = absurd (omega (arith, u))
      go (a_unit e f g) u = absurd (omega (arith, u))
      go (a_general e f g) u =
          record {
            rise = λ i j a b.
                let p = used_at c.cells keys ((node_at nodes k).first + i) 0 (omega (arith, f.within)) in
                let q = used_at c.cells keys ((node_at nodes k).first + j) 0 (omega (arith, f.within)) in
                rw (p, q) (key_ascend g i j a b);
          }

      units : NodeFactsAt (node_at nodes) keys marks c.cells k → ((node_at nodes k).kind ≡ 2 → ⊥) → ((node_at nodes k).kind ≡ 0 → ⊥)
          → (i : ℕ) → i < value_count (node_at nodes k) → word_from (cells_used keys c) (node_at nodes k).first i ≡ i + 1
      units (a_leaf e f) u z i b = absurd (z e)
      units (a_dummy e f) u z i b = absurd (let y : ⊥ = omega (arith, count_dummy (node_at nodes k) e) in y)
      units (a_unit e f g) u z i b =
          let l : i < (node_at nodes k).count = omega (arith, count_unit (node_at nodes k) e) in
          used_at c.cells keys ((node_at nodes k).first + i) 0 (omega (arith, f.within)) ∙ g.key i l
      units (a_general e f g) u z i b = absurd (u e)

  generals_of : Generals (nodes_used nodes c) (cells_used keys c)
  generals_of k h u = go (t.node k (omega (arith, nodes_length nodes t)))
    where
      at_kind : (node_at nodes k).kind ≡ 2
      at_kind = sym (ap (λ (n : Node). n.kind) (same_node nodes t k h)) ∙ u

      go : NodeFactsAt (node_at nodes) keys marks c.cells k → GeneralOk (nodes_used nodes c) (cells_used keys c) k
      go (a_leaf e f) = absurd (omega (arith, at_kind))
      go (a_dummy e f) = absurd (omega (arith, at_kind))
      go (a_unit e f g) = absurd (omega (arith, at_kind))
      go (a_general e f g) =
          let l : (node_at nodes k).left < length (nodes_used nodes c) / node_words = omega (arith, f.left_low) in
          let r : (node_at nodes k).right < length (nodes_used nodes c) / node_words = omega (arith, f.right_low) in
          let few = outs_few (nodes_used nodes c) _ _ (node_at nodes k).left (fit_of nodes t small).ok l in
          let e = same_node nodes t k h in
          record {
            left_below = rw e f.left_low;
            right_below = rw e f.right_low;
            muls = rw e (record { left_some = g.lmul_low; left_small = omega (arith, g.lmul_high); right_some = g.rmul_low; right_small = omega (arith, g.rmul_high) });
            left_sorted = rw (e, same_node nodes t (node_at nodes k).left l) (sorted_of (node_at nodes k).left (omega (arith, nodes_length nodes t)));
            right_sorted = rw (e, same_node nodes t (node_at nodes k).right r) (sorted_of (node_at nodes k).right (omega (arith, nodes_length nodes t)));
            few = rw e (omega (arith, few, used_length c.cells lits t.lit_row, t.counters.cell_limit_met));
          }

  pub ready_of : Ready (nodes_used nodes c) (inputs_used inputs c) (cells_used keys c) (cells_used lits c) (cells_used marks c) clauses c
  ready_of =
      record {
        fit = fit_of nodes t small;
        generals = generals_of;
        few = omega (arith, used_length c.cells lits t.lit_row, t.counters.cell_limit_met);
        words = t.counters.word_row;
        last = t.counters.last_high;
        next = t.counters.next_high;
      }

  -- an output that is found is there
  pub here_at : (id v j : ℕ) → id < c.nodes → sum_place nodes keys c id v ≡ Some j → Here (nodes_used nodes c) id j
  here_at id v j h e =
      let b : id < length (nodes_used nodes c) / node_words = omega (arith, nodes_length nodes t) in
      let p : j + 1 ≡ place_of (sum_place nodes keys c id v) = sym (ap place_of e) in
      record { below = b; out = rw (same_node nodes t id b) (omega (arith, p, output_place (cells_used keys c) (node_at nodes id) v)) }

pub work_cells : (ints bytes : ℕ) (c : Counters) → work_ok ints bytes c ≡ true → (c.cells ≤ ints) × (c.cells ≤ bytes)
unfolding work_ok
work_cells ints bytes c h =
    let a : max c.cells c.nodes ≤ ints = leb-true _ _ (and_left (leb (max c.cells c.nodes) ints) (leb (max c.cells c.nodes) bytes) h) in
    let b : max c.cells c.nodes ≤ bytes = leb-true _ _ (and_right (leb (max c.cells c.nodes) ints) (leb (max c.cells c.nodes) bytes) h) in
    (omega arith, omega arith)

-- ---- the answers

module _ (nodes : List ℕ) (inputs : List ℤ) (keys : List ℕ) (lits : List ℤ) (marks : List ℕ) (clauses ints bytes : ℕ) (c : Counters) (id v : ℕ) where
  abbrev said : Result Demanded Refusal
  said = sum_of nodes inputs keys lits marks clauses ints bytes c id v

  pub fails_table : table_ok nodes inputs keys lits marks clauses c ≡ false → Err TableFails ≡ said
  unfolding sum_of demanded_of
  fails_table t = rw t

  pub fails_work : table_ok nodes inputs keys lits marks clauses c ≡ true → work_ok ints bytes c ≡ false → Err WorkShort ≡ said
  unfolding sum_of demanded_of
  fails_work t w = rw (t, w)

  module _ (t : table_ok nodes inputs keys lits marks clauses c ≡ true) (w : work_ok ints bytes c ≡ true) where
    pub fails_node : c.nodes ≤ id → Err NoSuchNode ≡ said
    unfolding sum_of demanded_of
    fails_node h = rw (t, w, le-ltb id c.nodes h)

    pub fails_output : id < c.nodes → sum_place nodes keys c id v ≡ None → Err NoSuchOutput ≡ said
    unfolding sum_of demanded_of
    fails_output h e = rw (t, w, lt-ltb id c.nodes h, e)

    abbrev run : ℕ → St (List ℤ)
    run j = weigh_run (nodes_used nodes c) (inputs_used inputs c) (cells_used keys c) (cells_used lits c) (cells_used marks c) c.next id (j + 1)

    pub given_at : id < c.nodes → (j : ℕ) → sum_place nodes keys c id v ≡ Some j
        → room_of (run j) c clauses (lit_at (con_lits (nodes_used nodes c) (inputs_used inputs c) (run j).lits id) j) ≡ said
    unfolding sum_of demanded_of
    given_at h j e = rw (t, w, lt-ltb id c.nodes h, e)

  pub run_at : (j : ℕ) → sum_place nodes keys c id v ≡ Some j
      → weigh_run (nodes_used nodes c) (inputs_used inputs c) (cells_used keys c) (cells_used lits c) (cells_used marks c) c.next id (j + 1) ≡ sum_run nodes inputs keys lits marks c id v
  run_at j e = rw e

-- a demand that was met, on rows whose parts in use were lent
module _ (nodes : List ℕ) (inputs : List ℤ) (keys : List ℕ) (lits : List ℤ) (marks : List ℕ) (clauses : List ℤ) (ints bytes : ℕ) (c : Counters) (id v j : ℕ)
    (t : table_ok nodes inputs keys lits marks (length clauses) c ≡ true) (w : work_ok ints bytes c ≡ true) (h : id < c.nodes) (e : sum_place nodes keys c id v ≡ Some j)
    (r : Result Demanded Refusal) (lits' : List ℤ) (marks' : List ℕ) (clauses' : List ℤ)
    (met : MetSum (nodes_used nodes c) (inputs_used inputs c) (cells_used keys c) c id j (cells_used lits c) (cells_used marks c) clauses r lits' marks' clauses') where
  abbrev ran : St (List ℤ)
  ran = sum_run nodes inputs keys lits marks c id v

  at : weigh_run (nodes_used nodes c) (inputs_used inputs c) (cells_used keys c) (cells_used lits c) (cells_used marks c) c.next id (j + 1) ≡ ran
  at = run_at nodes inputs keys lits marks (length clauses) ints bytes c id v j e

  pub met_answer : r ≡ sum_of nodes inputs keys lits marks (length clauses) ints bytes c id v
  met_answer = met.answer ∙ given_at nodes inputs keys lits marks (length clauses) ints bytes c id v t w h j e

  pub met_lits : lits' ++ drop c.cells lits ≡ demanded_lits r ran lits c
  met_lits = back r c.cells lits _ lits' met.lits_are ∙ ap (λ (p : St (List ℤ)). demanded_lits r p lits c) at

  pub met_marks : marks' ++ drop c.cells marks ≡ demanded_marks r ran marks c
  met_marks = back r c.cells marks _ marks' met.marks_are ∙ ap (λ (p : St (List ℤ)). demanded_marks r p marks c) at

  pub met_clauses : clauses' ≡ demanded_clauses r ran clauses c
  met_clauses = met.row_is ∙ ap (λ (p : St (List ℤ)). demanded_clauses r p clauses c) at
