-- The check of a table moves with what it reads: `table_change` gives it again for rows that agree with the old ones below the counts, with other
-- literals, marks and counters whose own facts are given. `used_facts` is its case for the parts in use of the rows. Assumes nothing.
use Rattle.std.specs.Prelude.{ℕ, zero, suc, ◌+◌, ◌/◌, ◌<◌, ◌≤◌, List, true, ◌≡◌, refl, length, get_or, ℤ, pos}
use Rattle.std.proofs.Common.{sym, ap, ap₂, ◌∙◌, arith}
use Rattle.paper.specs.Limits.{node_words}
use Rattle.paper.specs.Below.{sum_below}
use Rattle.paper.specs.Rows.{node_at}
use Rattle.paper.specs.Keys.{node_keys}
use Rattle.paper.specs.Table.{leaf_step, leaves_before, cells_before, table_ok}
use Rattle.paper.specs.Demand.{nodes_used, inputs_used, cells_used}
use Rattle.paper.specs.declared.Node.{Node}
use Rattle.paper.specs.declared.Counters.{Counters}
use Rattle.facts.specs.Facts.{CellFacts, NodeFacts, a_leaf, a_dummy, a_unit, a_general, NodeFactsAt, TableFacts, Under}
use Rattle.facts.proofs.Facts.{table_facts, left_there, right_there, node_under, node_used, used_at, used_length}
use Rattle.facts.proofs.Members.{node_same}
use Rattle.facts.specs.Carry.{Agree, moved}

pub sum_cong : (n : ℕ) (f g : ℕ → ℕ) → ((k : ℕ) → k < n → f k ≡ g k) → sum_below n f ≡ sum_below n g
unfolding sum_below
sum_cong zero f g h = refl
sum_cong (suc n) f g h = ap₂ (λ (x : ℕ) (y : ℕ). x + y) (sum_cong n f g (λ k l. h k (omega arith))) (h n (omega arith))

-- the same node, read elsewhere
pub node_moved : {keys marks : List ℕ} {n l r n' l' r' : Node} {id inputs cells inputs' cells' limit : ℕ} → n' ≡ n → l' ≡ l → r' ≡ r → inputs' ≡ inputs → cells' ≡ cells
    → NodeFacts keys marks n l r id inputs cells limit → NodeFacts keys marks n' l' r' id inputs' cells' limit
node_moved en el er ei ec t = rw (en, el, er, ei, ec) t

-- the same node over other keys and marks, with as many cells in use or more
pub node_carry : {keys marks : List ℕ} {n l r : Node} {id inputs cells limit : ℕ} (keys' marks' : List ℕ) (limit' : ℕ)
    → limit ≤ limit' → Agree limit 0 keys' keys → limit ≤ length marks' → Under l limit → Under r limit
    → (n.kind ≡ 2 → (i : ℕ) → i < n.count → get_or marks' (n.first + i) 0 ≤ 1)
    → NodeFacts keys marks n l r id inputs cells limit → NodeFacts keys' marks' n l r id inputs cells limit'
node_carry keys' marks' limit' up same row ul ur low (a_leaf k f) = a_leaf k f
node_carry keys' marks' limit' up same row ul ur low (a_dummy k f) = a_dummy k f
node_carry {n = n} keys' marks' limit' up same row ul ur low (a_unit k f g) =
    a_unit k
    (record { left_low = f.left_low; right_low = f.right_low; follows = f.follows; within = omega (arith, f.within); shallow = f.shallow; depth = f.depth })
    (record { lmul = g.lmul; rmul = g.rmul; left_plain = g.left_plain; right_plain = g.right_plain; sum = g.sum; key = λ i h. same (n.first + i) (omega (arith, f.within)) ∙ g.key i h })
node_carry {keys = keys} {n = n} {l = l} {r = r} {limit = limit} keys' marks' limit' up same row ul ur low (a_general k f g) =
    let e : node_keys keys' l n.lmul r n.rmul ≡ node_keys keys l n.lmul r n.rmul = node_same keys' keys l n.lmul r n.rmul limit same ul ur in
    let at : (i : ℕ) → i < n.count → get_or keys' (n.first + i) 0 ≡ get_or keys (n.first + i) 0 = λ i h. same (n.first + i) (omega (arith, f.within)) in
    a_general k
    (record { left_low = f.left_low; right_low = f.right_low; follows = f.follows; within = omega (arith, f.within); shallow = f.shallow; depth = f.depth })
    (record {
      lmul_low = g.lmul_low;
      lmul_high = g.lmul_high;
      rmul_low = g.rmul_low;
      rmul_high = g.rmul_high;
      otherwise = g.otherwise;
      some = g.some;
      marks_row = omega (arith, f.within);
      mark = λ i h. low k i h;
      size = ap length e ∙ g.size;
      key = λ i h. at i h ∙ g.key i h ∙ ap (λ (s : List ℕ). get_or s i 0) (sym e);
      key_low = λ i h. omega (arith, at i h, g.key_low i h);
    })

-- the marks of general nodes
pub general_mark : {keys marks : List ℕ} {n l r : Node} {id inputs cells limit : ℕ} → NodeFacts keys marks n l r id inputs cells limit
    → n.kind ≡ 2 → (i : ℕ) → i < n.count → get_or marks (n.first + i) 0 ≤ 1
general_mark (a_leaf k f) q i h = absurd (omega arith)
general_mark (a_dummy k f) q i h = absurd (omega arith)
general_mark (a_unit k f g) q i h = absurd (omega arith)
general_mark (a_general k f g) q i h = g.mark i h

pub general_within : {keys marks : List ℕ} {n l r : Node} {id inputs cells limit : ℕ} → NodeFacts keys marks n l r id inputs cells limit
    → n.kind ≡ 2 → n.first + n.count ≤ limit
general_within (a_leaf k f) q = absurd (omega arith)
general_within (a_dummy k f) q = absurd (omega arith)
general_within (a_unit k f g) q = absurd (omega arith)
general_within (a_general k f g) q = f.within

module _ {at : ℕ → Node} {holds : ℕ} {inputs : List ℤ} {keys : List ℕ} {lits : List ℤ} {marks : List ℕ} {clauses : ℕ} {c : Counters}
    (t : TableFacts at holds inputs keys lits marks clauses c) (at' : ℕ → Node) (same : (i : ℕ) → i < c.nodes → at' i ≡ at i) where
  pub leaves_same : (i : ℕ) → i ≤ c.nodes → leaves_before at' i ≡ leaves_before at i
  leaves_same i h = sum_cong i _ _ (λ k l. ap leaf_step (same k (omega arith)))

  pub cells_same : (i : ℕ) → i ≤ c.nodes → cells_before at' i ≡ cells_before at i
  cells_same i h = sum_cong i _ _ (λ k l. ap (λ (m : Node). m.count) (same k (omega arith)))

  -- a node that was there, over the new rows
  pub old_node : (keys' marks' : List ℕ) (limit' : ℕ) → c.cells ≤ limit' → Agree c.cells 0 keys' keys → c.cells ≤ length marks'
      → ((i : ℕ) → i < c.nodes → (at i).kind ≡ 2 → (j : ℕ) → j < (at i).count → get_or marks' ((at i).first + j) 0 ≤ 1)
      → (i : ℕ) → i < c.nodes → NodeFactsAt at' keys' marks' limit' i
  old_node keys' marks' limit' up agree row low i h =
      let n = t.node i h in
      let l = left_there n h in
      let r = right_there n h in
      let e = same i h in
      node_moved e (ap (λ (m : Node). at' m.left) e ∙ same (at i).left l) (ap (λ (m : Node). at' m.right) e ∙ same (at i).right r)
      (leaves_same i (omega arith)) (cells_same i (omega arith))
      (node_carry keys' marks' limit' up agree row (node_under t (at i).left l) (node_under t (at i).right r) (low i h) n)

  -- THE LAW: other rows and counters
  pub table_change : (holds' : ℕ) (inputs' : List ℤ) (keys' : List ℕ) (lits' : List ℤ) (marks' : List ℕ) (clauses' next words : ℕ)
      → c.nodes ≤ holds' → c.inputs ≤ length inputs' → Agree c.inputs (pos 0) inputs' inputs → c.cells ≤ length keys' → Agree c.cells 0 keys' keys
      → c.cells ≤ length lits' → c.cells ≤ length marks' → c.first ≤ next → next ≤ c.last + 1 → words ≤ clauses'
      → ((i : ℕ) → i < c.cells → CellFacts (get_or lits' i (pos 0)) (get_or marks' i 0) c.first next)
      → ((i : ℕ) → i < c.nodes → (at i).kind ≡ 2 → (j : ℕ) → j < (at i).count → get_or marks' ((at i).first + j) 0 ≤ 1)
      → TableFacts at' holds' inputs' keys' lits' marks' clauses' (moved c next words)
  table_change holds' inputs' keys' lits' marks' clauses' next words hn hi ai hk ak hl hm lo hi' hw cell low =
      let f = t.counters in
      record {
        counters = record { node_limit_met = f.node_limit_met; node_row = hn; first_low = f.first_low; next_low = lo; next_high = hi'; last_high = f.last_high; cell_limit_met = f.cell_limit_met; cell_row = hk; word_row = hw };
        input_row = hi;
        input = λ i h. rw (ai i h) (t.input i h);
        lit_row = hl;
        mark_row = hm;
        cell = cell;
        node = old_node keys' marks' c.cells (omega arith) ak hm low;
        leaves = leaves_same c.nodes (omega arith) ∙ t.leaves;
        cells = cells_same c.nodes (omega arith) ∙ t.cells;
      }

-- a table that passes, over the parts in use of its rows
pub used_facts : (nodes : List ℕ) (inputs : List ℤ) (keys : List ℕ) (lits : List ℤ) (marks : List ℕ) (clauses : ℕ) (c : Counters)
    → table_ok nodes inputs keys lits marks clauses c ≡ true
    → TableFacts (node_at (nodes_used nodes c)) c.nodes (inputs_used inputs c) (cells_used keys c) (cells_used lits c) (cells_used marks c) clauses c
used_facts nodes inputs keys lits marks clauses c h =
    let t = table_facts (node_at nodes) (length nodes / node_words) inputs keys lits marks clauses c h in
    let el = used_length c.cells lits t.lit_row in
    let em = used_length c.cells marks t.mark_row in
    let ek = used_length c.cells keys t.counters.cell_row in
    let ei = used_length c.inputs inputs t.input_row in
    table_change t (node_at (nodes_used nodes c)) (λ i l. node_used nodes c.nodes i l) c.nodes (inputs_used inputs c) (cells_used keys c) (cells_used lits c) (cells_used marks c) clauses c.next c.words
    (omega arith) (omega arith) (λ k l. used_at c.inputs inputs k (pos 0) l) (omega arith) (λ k l. used_at c.cells keys k 0 l)
    (omega arith) (omega arith) t.counters.next_low t.counters.next_high t.counters.word_row
    (λ i l. rw (used_at c.cells lits i (pos 0) l, used_at c.cells marks i 0 l) (t.cell i l))
    (λ i l k j b. let w = general_within (t.node i l) k in rw (used_at c.cells marks ((node_at nodes i).first + j) 0 (omega arith)) (general_mark (t.node i l) k j b))
