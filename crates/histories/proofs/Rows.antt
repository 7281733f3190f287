-- What stands in the rows at output j of node n, and the same in the view of the table.
use Rattle.std.specs.Prelude.{◌≡◌, true, ℕ, zero, suc, ◌+◌, ◌-◌, ◌<◌, ◌≤◌, ℤ, pos}
use Rattle.std.proofs.Common.{sym, ◌∙◌, ap, add-one, arith}
use Rattle.std.proofs.Math.Decide.{dec_lt}
use Rattle.paper.specs.Below.{sum_below, sum_none, sum_more}
use Rattle.paper.specs.Rows.{node_at, value_count}
use Rattle.paper.specs.Table.{cells_before}
use Rattle.paper.specs.Calls.{Db, checked}
use Rattle.facts.specs.Facts.{NodeFactsAt, a_leaf, a_dummy, a_unit, a_general}
use Rattle.meaning.specs.Table.{Kind, leaf, dummy, unit, general, Inner, History}
use Rattle.meaning.proofs.Rows.{held_inner, mark_inner}
use Rattle.meaning.specs.View.{kind_of}
use Rattle.meaning.proofs.View.{cell_lit_is, count_is}
use Rattle.histories.specs.Upheld.{state_of, tab_of, marks_of, Upheld}
use Rattle.histories.proofs.Upheld.{facts_of, fit_of, good_of}
use Rattle.histories.specs.Rows.{CellOf, Seen}

pub seen : (d : Db) (h : History) → Upheld d h → (n j : ℕ) → n < d.counters.nodes → j < (node_at d.nodes n).count → Seen d n j
seen d h u n j s hj = go (t.node n s)
  where
    t : Rattle.histories.specs.Upheld.Facts d
    t = facts_of d u.passes

    made : (q : Kind) → kind_of (node_at d.nodes n).kind ≡ q → Inner q → Seen d n j
    made leaf e i = absurd i
    made dummy e i = absurd i
    made unit e i =
        let c = count_is d.nodes n ((fit_of d u.passes).kinds n s) unit e in
        let low : j < value_count (node_at d.nodes n) = omega arith in
        let inn : Inner (kind_of (node_at d.nodes n).kind) = rw e tt in
        record {
          inner = inn;
          low = low;
          marks = λ f. mark_inner (kind_of (node_at d.nodes n).kind) f _ inn;
          lit_is = cell_lit_is d.nodes d.inputs d.keys d.counters.nodes d.counters.first d.counters.cells (fit_of d u.passes) (state_of d h) (good_of d h u) n s j low inn
              ∙ sym (ap pos (held_inner (kind_of (node_at d.nodes n).kind) _ inn));
          key_is = rw e;
        }
    made general e i =
        let c = count_is d.nodes n ((fit_of d u.passes).kinds n s) general e in
        let low : j < value_count (node_at d.nodes n) = omega arith in
        let inn : Inner (kind_of (node_at d.nodes n).kind) = rw e tt in
        record {
          inner = inn;
          low = low;
          marks = λ f. mark_inner (kind_of (node_at d.nodes n).kind) f _ inn;
          lit_is = cell_lit_is d.nodes d.inputs d.keys d.counters.nodes d.counters.first d.counters.cells (fit_of d u.passes) (state_of d h) (good_of d h u) n s j low inn
              ∙ sym (ap pos (held_inner (kind_of (node_at d.nodes n).kind) _ inn));
          key_is = rw e;
        }

    go : NodeFactsAt (node_at d.nodes) d.keys d.marks d.counters.cells n → Seen d n j
    go (a_leaf k f) = absurd (let a = f.count in let z : ⊥ = omega arith in z)
    go (a_dummy k f) = absurd (let a = f.count in let z : ⊥ = omega arith in z)
    go (a_unit k f e) = made unit (ap kind_of k) tt
    go (a_general k f e) = made general (ap kind_of k) tt

-- the variable of a literal that is there
pub some_held : (z : ℤ) (v : ℕ) → z ≡ pos v → (z ≡ pos 0 → ⊥) → 0 < v
some_held z zero e f = absurd (f e)
some_held z (suc v) e f = omega arith

cell_below : (d : Db) → checked d ≡ true → (k : ℕ) → k ≤ d.counters.nodes → (a : ℕ) → a < cells_before (node_at d.nodes) k → CellOf d a
cell_below d ok zero hk a ha = absurd (let e = sum_none (λ i. (node_at d.nodes i).count) in let z : ⊥ = omega arith in z)
cell_below d ok (suc k) hk a ha = go (λ l. cell_below d ok k (omega arith) a l) (dec_lt a (cells_before (node_at d.nodes) k)) ((facts_of d ok).node k (omega arith))
  where
    next : sum_below (suc k) (λ i. (node_at d.nodes i).count) ≡ cells_before (node_at d.nodes) k + (node_at d.nodes k).count
    next = ap (λ (x : ℕ). sum_below x (λ i. (node_at d.nodes i).count)) (sym (add-one k)) ∙ sum_more k (λ i. (node_at d.nodes i).count)

    here : (node_at d.nodes k).first ≡ cells_before (node_at d.nodes) k → cells_before (node_at d.nodes) k ≤ a → CellOf d a
    here f l = record { id = k; index = a - cells_before (node_at d.nodes) k; hn = omega arith; hj = let x = next in omega arith; is = omega arith }

    go : (a < cells_before (node_at d.nodes) k → CellOf d a) → Dec (a < cells_before (node_at d.nodes) k) → NodeFactsAt (node_at d.nodes) d.keys d.marks d.counters.cells k → CellOf d a
    go ih (yes l) f = ih l
    go ih (no l) (a_leaf q f) = let x = next in let y = f.count in absurd (let z : ⊥ = omega arith in z)
    go ih (no l) (a_dummy q f) = let x = next in let y = f.count in absurd (let z : ⊥ = omega arith in z)
    go ih (no l) (a_unit q f e) = here f.follows (omega arith)
    go ih (no l) (a_general q f e) = here f.follows (omega arith)

pub cell_of : (d : Db) → checked d ≡ true → (a : ℕ) → a < d.counters.cells → CellOf d a
cell_of d ok a h = cell_below d ok d.counters.nodes (omega arith) a (let e = (facts_of d ok).cells in omega arith)
