-- Adding a node to a table that passes leaves a table that passes, if the new node, input and cells do. Assumes nothing.
use Rattle.std.specs.Prelude.{ℕ, ◌+◌, ◌<◌, ◌≤◌, List, ◌≡◌, get_or, ℤ}
use Rattle.std.proofs.Common.{sym, ap, ap₂, subst, ◌∙◌, ⊎_elim, arith}
use Rattle.paper.specs.Below.{sum_more, side}
use Rattle.paper.specs.Table.{leaf_step}
use Rattle.paper.specs.declared.Node.{Node}
use Rattle.paper.specs.declared.Counters.{Counters}
use Rattle.facts.specs.Facts.{NodeFactsAt, TableFacts}
use Rattle.facts.proofs.Carry.{node_moved, general_mark, general_within, leaves_same, cells_same, old_node}
use Rattle.facts.specs.Add.{AddNode}

module _ {at : ℕ → Node} {holds : ℕ} {inputs : List ℤ} {keys : List ℕ} {lits : List ℤ} {marks : List ℕ} {clauses : ℕ} {c : Counters}
    (t : TableFacts at holds inputs keys lits marks clauses c) (at' : ℕ → Node) (same : (i : ℕ) → i < c.nodes → at' i ≡ at i)
    (n : Node) (new : at' c.nodes ≡ n) where
  -- the node's own check is `self`; what stands below the counts is as it was
  pub add_node : AddNode at' holds inputs keys lits marks clauses c n
  add_node inputs' keys' lits' marks' ni nc ei ec few room cells hi ai new_lit hk ak hl al hm am new_cell self =
      let f = t.counters in
      let low : (i : ℕ) → i < c.nodes → (at i).kind ≡ 2 → (j : ℕ) → j < (at i).count → get_or marks' ((at i).first + j) 0 ≤ 1 = λ i h k j b.
      let w = general_within (t.node i h) k in rw (am ((at i).first + j) (omega arith)) (general_mark (t.node i h) k j b) in
      let old = old_node t at' same keys' marks' nc (omega arith) ak (omega arith) low in
      let here : NodeFactsAt at' keys' marks' nc c.nodes =
      node_moved new (ap (λ (m : Node). at' m.left) new) (ap (λ (m : Node). at' m.right) new)
      (leaves_same t at' same c.nodes (omega arith) ∙ t.leaves) (cells_same t at' same c.nodes (omega arith) ∙ t.cells) self in
      record {
        counters = record { node_limit_met = omega arith; node_row = omega arith; first_low = f.first_low; next_low = f.next_low; next_high = f.next_high; last_high = f.last_high; cell_limit_met = cells; cell_row = hk; word_row = f.word_row };
        input_row = hi;
        input = λ i h. ⊎_elim (λ (l : i < c.inputs). rw (ai i l) (t.input i l)) (λ (l : c.inputs ≤ i). new_lit i l h) (side i c.inputs);
        lit_row = hl;
        mark_row = hm;
        cell = λ i h. ⊎_elim (λ (l : i < c.cells). rw (al i l, am i l) (t.cell i l)) (λ (l : c.cells ≤ i). new_cell i l h) (side i c.cells);
        node = λ i h. ⊎_elim (λ (l : i < c.nodes). old i l) (λ (l : c.nodes ≤ i). let q : c.nodes ≡ i = omega arith in subst (λ (k : ℕ). NodeFactsAt at' keys' marks' nc k) q here) (side i c.nodes);
        leaves = sum_more c.nodes _ ∙ ap₂ (λ (a : ℕ) (b : ℕ). a + b) (leaves_same t at' same c.nodes (omega arith) ∙ t.leaves) (ap leaf_step new) ∙ sym ei;
        cells = sum_more c.nodes _ ∙ ap₂ (λ (a : ℕ) (b : ℕ). a + b) (cells_same t at' same c.nodes (omega arith) ∙ t.cells) (ap (λ (m : Node). m.count) new) ∙ sym ec;
      }
