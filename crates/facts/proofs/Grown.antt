-- fresh, leaf, dummy and inner leave a table that passes. Assumes nothing.
use Rattle.std.specs.Prelude.{ℕ, ◌+◌, ◌-◌, ◌*◌, ◌/◌, ◌<◌, ◌≤◌, max, List, Bool, true, false, cond, ◌&&◌, ◌≡◌, refl, length, get_or, set, replicate, leb, ℤ, pos}
use Rattle.std.proofs.Common.{sym, ap, subst, ◌∙◌, inl, ⊎_elim, add-zero, arith, length-set, get_or-set_other, get_or-set_same, leb-true, Err, None, Ok}
use Rattle.std.proofs.lemmas.List.{length-replicate, get_or-replicate}
use Rattle.std.proofs.Math.Seq.{paste}
use Rattle.std.proofs.lemmas.List.Edits.{length-paste}
use Rattle.paper.specs.Limits.{var_limit, node_words}
use Rattle.paper.specs.Below.{and_left, and_right, ands3, sum_none}
use Rattle.paper.specs.Rows.{node_at, con_len}
use Rattle.paper.specs.Keys.{node_keys}
use Rattle.paper.specs.Table.{range_ok, leaf_step, table_ok_at, table_ok}
use Rattle.paper.specs.Grow.{begun, fresh_of, put_node, leaf_node, dummy_node, leaf_plan, dummy_plan, with_leaf, with_dummy}
use Rattle.paper.specs.Join.{count_up, inner_node, inner_plan, new_keys}
use Rattle.paper.specs.declared.Node.{Node}
use Rattle.paper.specs.declared.Counters.{Counters}
use Rattle.paper.specs.declared.Refusal.TheVariants.{BadVariables}
use Rattle.paper.specs.declared.Pair.{Pair}
use Rattle.paper.specs.declared.Sizes.{Sizes}
use Rattle.facts.specs.Facts.{LitFacts, CellFacts, NodeFacts, a_leaf, a_dummy, a_unit, a_general, TableFacts}
use Rattle.facts.proofs.Facts.{lit_facts, table_facts, table_made, node_under}
use Rattle.facts.proofs.Members.{node_same}
use Rattle.facts.proofs.Carry.{node_moved}
use Rattle.facts.proofs.Words.{put_length, put_old, put_new}
use Rattle.facts.proofs.Pastes.{paste_below, paste_at, count_length, count_at}
use Rattle.facts.specs.Add.{with_node}
use Rattle.facts.proofs.Add.{add_node}
use Rattle.facts.specs.Plans.{NodeRoom, CellRoom, UnitMade, GeneralMade}
use Rattle.facts.proofs.Plans.{leaf_new, dummy_new, inner_made}

-- ---- fresh: whatever the rows hold

pub fresh_table : (nodes : List ℕ) (inputs : List ℤ) (keys : List ℕ) (lits : List ℤ) (marks : List ℕ) (clauses first last : ℕ)
    → range_ok first first last ≡ true → table_ok nodes inputs keys lits marks clauses (begun first last) ≡ true
fresh_table nodes inputs keys lits marks clauses first last h =
    let tests = (leb 1 first && leb first first) && leb first (last + 1) in
    let k = ands3 (leb 1 first) (leb first first) (leb first (last + 1)) (and_right (leb last var_limit) tests h) in
    table_made (node_at nodes) (length nodes / node_words) inputs keys lits marks clauses (begun first last)
    (record {
      counters = record {
        node_limit_met = omega arith;
        node_row = omega arith;
        first_low = leb-true _ _ k.0;
        next_low = omega arith;
        next_high = leb-true _ _ k.2;
        last_high = leb-true _ _ (and_left (leb last var_limit) tests h);
        cell_limit_met = omega arith;
        cell_row = omega arith;
        word_row = omega arith;
      };
      input_row = omega arith;
      input = λ i l. absurd (omega arith);
      lit_row = omega arith;
      mark_row = omega arith;
      cell = λ i l. absurd (omega arith);
      node = λ i l. absurd (omega arith);
      leaves = sum_none _;
      cells = sum_none _;
    })

-- a fresh call that is done begins a table that passes
pub fresh_passes : (nodes : List ℕ) (inputs : List ℤ) (keys : List ℕ) (lits : List ℤ) (marks : List ℕ) (clauses first last : ℕ) (c : Counters)
    → fresh_of first last ≡ Ok c → table_ok nodes inputs keys lits marks clauses c ≡ true
unfolding fresh_of
fresh_passes nodes inputs keys lits marks clauses first last c h = go (range_ok first first last) refl h
  where
    go : (b : Bool) → range_ok first first last ≡ b → cond b (Ok (begun first last)) (Err BadVariables) ≡ Ok c → table_ok nodes inputs keys lits marks clauses c ≡ true
    go true e q = let p : begun first last ≡ c = cc in subst (λ (x : Counters). table_ok nodes inputs keys lits marks clauses x ≡ true) p (fresh_table nodes inputs keys lits marks clauses first last e)
    go false e q = absurd (let z : ◌≡◌ {A = ℕ} 0 1 = cc in omega arith)

-- ---- leaf and dummy

module _ (nodes : List ℕ) (inputs : List ℤ) (keys : List ℕ) (lits : List ℤ) (marks : List ℕ) (clauses : ℕ) (c : Counters)
    (ok : table_ok nodes inputs keys lits marks clauses c ≡ true) where
  facts : TableFacts (node_at nodes) (length nodes / node_words) inputs keys lits marks clauses c
  facts = table_facts (node_at nodes) (length nodes / node_words) inputs keys lits marks clauses c ok

  -- the row has the words of one node more
  one_more : NodeRoom c (length nodes) → c.nodes * node_words + node_words ≤ length nodes
  one_more m = omega (arith, m.row)

  -- the facts of the nodes as written are the check of the row as written
  written : (n : Node) (inputs' : List ℤ) (keys' : List ℕ) (lits' : List ℤ) (marks' : List ℕ) (c' : Counters)
      → TableFacts (node_at (put_node nodes c.nodes n)) (length nodes / node_words) inputs' keys' lits' marks' clauses c'
      → table_ok (put_node nodes c.nodes n) inputs' keys' lits' marks' clauses c' ≡ true
  written n inputs' keys' lits' marks' c' f =
      ap (λ (k : ℕ). table_ok_at (node_at (put_node nodes c.nodes n)) (k / node_words) inputs' keys' lits' marks' clauses c') (put_length nodes c.nodes n)
      ∙ table_made (node_at (put_node nodes c.nodes n)) (length nodes / node_words) inputs' keys' lits' marks' clauses c' f

  pub leaf_keeps : (x : ℤ) → leaf_plan nodes inputs keys lits marks clauses c x ≡ Ok None
      → table_ok (put_node nodes c.nodes (leaf_node c.inputs)) (set inputs c.inputs x) keys lits marks clauses (with_leaf c) ≡ true
  leaf_keeps x h =
      let p = leaf_new nodes inputs keys lits marks clauses c x h in
      let n = leaf_node c.inputs in
      let len : length (set inputs c.inputs x) ≡ length inputs = length-set inputs c.inputs x in
      written n (set inputs c.inputs x) keys lits marks (with_leaf c)
      (add_node facts (node_at (put_node nodes c.nodes n)) (λ i l. put_old nodes c.nodes n i l) n (put_new nodes c.nodes n (one_more p.1))
      (set inputs c.inputs x) keys lits marks (c.inputs + 1) c.cells
      refl (sym (add-zero c.cells)) p.1.few p.1.row facts.counters.cell_limit_met
      (omega (arith, p.2)) (λ k l. get_or-set_other inputs c.inputs k x (pos 0) (λ e. omega arith))
      (λ i l m. let q : c.inputs ≡ i = omega arith in subst (λ (k : ℕ). LitFacts (get_or (set inputs c.inputs x) k (pos 0)) c.first) q
      (rw (get_or-set_same inputs c.inputs x (pos 0) p.2) (lit_facts x c.first p.0)))
      facts.counters.cell_row (λ k l. refl) facts.lit_row (λ k l. refl) facts.mark_row (λ k l. refl)
      (λ i l m. absurd (omega arith))
      (a_leaf refl (record { left = refl; lmul = refl; right = refl; rmul = refl; place = refl; count = refl; depth = refl })))

  pub dummy_keeps : dummy_plan nodes inputs keys lits marks clauses c ≡ Ok None
      → table_ok (put_node nodes c.nodes dummy_node) inputs keys lits marks clauses (with_dummy c) ≡ true
  dummy_keeps h =
      let p = dummy_new nodes inputs keys lits marks clauses c h in
      written dummy_node inputs keys lits marks (with_dummy c)
      (add_node facts (node_at (put_node nodes c.nodes dummy_node)) (λ i l. put_old nodes c.nodes dummy_node i l) dummy_node (put_new nodes c.nodes dummy_node (one_more p))
      inputs keys lits marks c.inputs c.cells
      (sym (add-zero c.inputs)) (sym (add-zero c.cells)) p.few p.row facts.counters.cell_limit_met
      facts.input_row (λ k l. refl) (λ i l m. absurd (omega arith))
      facts.counters.cell_row (λ k l. refl) facts.lit_row (λ k l. refl) facts.mark_row (λ k l. refl)
      (λ i l m. absurd (omega arith))
      (a_dummy refl (record { left = refl; lmul = refl; right = refl; rmul = refl; place = refl; count = refl; depth = refl })))

  -- ---- inner: the keys S of the new node, no literals and no marks are written above the cells in use

  module _ (count : ℕ) (S : List ℕ) (long : count ≤ length S) where
    abbrev K : List ℕ
    K = paste keys c.cells S count

    abbrev L : List ℤ
    L = paste lits c.cells (replicate count (pos 0)) count

    abbrev M : List ℕ
    M = paste marks c.cells (replicate count 0) count

    -- a new cell has no literal and no mark
    blank : (i : ℕ) → i < count → CellFacts (get_or L (c.cells + i) (pos 0)) (get_or M (c.cells + i) 0) c.first c.next
    blank i h =
        let el : get_or L (c.cells + i) (pos 0) ≡ pos 0 = paste_at lits c.cells (replicate count (pos 0)) count i (pos 0) facts.lit_row (omega (arith, length-replicate {A = ℤ} count (pos 0))) h ∙ get_or-replicate count i (pos 0) (pos 0) h in
        let em : get_or M (c.cells + i) 0 ≡ 0 = paste_at marks c.cells (replicate count 0) count i 0 facts.mark_row (omega (arith, length-replicate {A = ℕ} count 0)) h ∙ get_or-replicate count i 0 0 h in
        record { mark_high = omega arith; mark_held = λ q. em; lit = inl el }

    -- the node n over children that are there, its own check given
    add_inner : (n : Node) → leaf_step n ≡ 0 → n.count ≡ count → n.left < c.nodes → n.right < c.nodes
        → CellRoom c count (record { nodes = length nodes; keys = length keys; lits = length lits; marks = length marks })
        → NodeFacts K M n (node_at nodes n.left) (node_at nodes n.right) c.nodes c.inputs c.cells (c.cells + count)
        → table_ok (put_node nodes c.nodes n) inputs K L M clauses (with_node c c.inputs (c.cells + count)) ≡ true
    add_inner n inner size left right room self =
        let lk : length K ≡ length keys = length-paste keys c.cells S count room.keys long in
        let ll : length L ≡ length lits = length-paste lits c.cells (replicate count (pos 0)) count room.lits (omega (arith, length-replicate {A = ℤ} count (pos 0))) in
        let lm : length M ≡ length marks = length-paste marks c.cells (replicate count 0) count room.marks (omega (arith, length-replicate {A = ℕ} count 0)) in
        written n inputs K L M (with_node c c.inputs (c.cells + count))
        (add_node facts (node_at (put_node nodes c.nodes n)) (λ i l. put_old nodes c.nodes n i l) n (put_new nodes c.nodes n (one_more room.node))
        inputs K L M c.inputs (c.cells + count)
        (omega arith) (omega arith) room.node.few room.node.row room.limit
        facts.input_row (λ k l. refl) (λ i l m. absurd (omega arith))
        (omega (arith, lk, room.keys)) (λ k l. paste_below keys c.cells S count k 0 facts.counters.cell_row l)
        (omega (arith, ll, room.lits)) (λ k l. paste_below lits c.cells (replicate count (pos 0)) count k (pos 0) facts.lit_row l)
        (omega (arith, lm, room.marks)) (λ k l. paste_below marks c.cells (replicate count 0) count k 0 facts.mark_row l)
        (λ i l m. let q : c.cells + (i - c.cells) ≡ i = omega arith in subst (λ (k : ℕ). CellFacts (get_or L k (pos 0)) (get_or M k 0) c.first c.next) q (blank (i - c.cells) (omega arith)))
        (node_moved refl (put_old nodes c.nodes n n.left left) (put_old nodes c.nodes n n.right right) refl refl self))

  abbrev sizes : Sizes
  sizes = record { nodes = length nodes; keys = length keys; lits = length lits; marks = length marks }

  abbrev pub InnerPasses : Node → Type 0
  InnerPasses n =
      table_ok (put_node nodes c.nodes n) inputs (paste keys n.first (new_keys nodes keys n) n.count) (paste lits n.first (replicate n.count (pos 0)) n.count)
      (paste marks n.first (replicate n.count 0) n.count) clauses (with_node c c.inputs (n.first + n.count)) ≡ true

  unit_keeps : (j : Pair) (n : Node) → j.left < c.nodes → j.right < c.nodes → UnitMade j (node_at nodes j.left) (node_at nodes j.right) c sizes n → InnerPasses n
  unit_keeps j n left right u =
      let l = node_at nodes j.left in
      let r = node_at nodes j.right in
      let count = con_len l + con_len r in
      let S = count_up count in
      let m = inner_node 1 j c.cells count (max l.depth r.depth + 1) in
      let long : count ≤ length S = omega (arith, count_length 1 count) in
      subst InnerPasses (sym u.fitted.is)
      (add_inner count S long m refl refl left right u.fitted.room
      (a_unit refl
      (record { left_low = left; right_low = right; follows = refl; within = omega arith; shallow = u.fitted.shallow; depth = refl })
      (record {
        lmul = u.lmul;
        rmul = u.rmul;
        left_plain = u.left_plain;
        right_plain = u.right_plain;
        sum = refl;
        key = λ i h. paste_at keys c.cells S count i 0 facts.counters.cell_row long h ∙ count_at 1 count i h;
      })))

  general_keeps : (j : Pair) (n : Node) → j.left < c.nodes → j.right < c.nodes → GeneralMade keys j (node_at nodes j.left) (node_at nodes j.right) c sizes n → InnerPasses n
  general_keeps j n left right u =
      let l = node_at nodes j.left in
      let r = node_at nodes j.right in
      let S = node_keys keys l j.lmul r j.rmul in
      let count = length S in
      let m = inner_node 2 j c.cells count (max l.depth r.depth + 1) in
      let long : count ≤ length S = omega arith in
      let e : node_keys (K count S long) l j.lmul r j.rmul ≡ S =
      node_same (K count S long) keys l j.lmul r j.rmul c.cells (λ k h. paste_below keys c.cells S count k 0 facts.counters.cell_row h)
      (node_under facts j.left left) (node_under facts j.right right) in
      let at : (i : ℕ) → i < count → get_or (K count S long) (c.cells + i) 0 ≡ get_or S i 0 = λ i h. paste_at keys c.cells S count i 0 facts.counters.cell_row long h in
      let none : (i : ℕ) → i < count → get_or (M count S long) (c.cells + i) 0 ≡ 0 = λ i h.
      paste_at marks c.cells (replicate count 0) count i 0 facts.mark_row (omega (arith, length-replicate {A = ℕ} count 0)) h ∙ get_or-replicate count i 0 0 h in
      let lm : length (M count S long) ≡ length marks = length-paste marks c.cells (replicate count 0) count u.fitted.room.marks (omega (arith, length-replicate {A = ℕ} count 0)) in
      subst InnerPasses (sym u.fitted.is)
      (add_inner count S long m refl refl left right u.fitted.room
      (a_general refl
      (record { left_low = left; right_low = right; follows = refl; within = omega arith; shallow = u.fitted.shallow; depth = refl })
      (record {
        lmul_low = u.muls.lmul_low;
        lmul_high = u.muls.lmul_high;
        rmul_low = u.muls.rmul_low;
        rmul_high = u.muls.rmul_high;
        otherwise = u.otherwise;
        some = u.some;
        marks_row = omega (arith, lm, u.fitted.room.marks);
        mark = λ i h. omega (arith, none i h);
        size = ap length e;
        key = λ i h. at i h ∙ ap (λ (s : List ℕ). get_or s i 0) (sym e);
        key_low = λ i h. omega (arith, at i h, u.low i h);
      })))

  pub inner_keeps : (j : Pair) (n : Node) → inner_plan nodes inputs keys lits marks clauses c j ≡ Ok n → InnerPasses n
  inner_keeps j n h =
      let p = inner_made nodes inputs keys lits marks clauses c j n h in
      ⊎_elim (λ u. unit_keeps j n p.left_there p.right_there u) (λ u. general_keeps j n p.left_there p.right_there u) p.made
