-- What the table check says, as plain facts: `table_facts` takes a check that passes apart, and `table_made` makes it again of the facts.
-- Assumes nothing.
use Rattle.std.specs.Prelude.{ℕ, zero, suc, ◌+◌, ◌-◌, ◌*◌, ◌/◌, ◌<◌, ◌≤◌, max, List, Bool, true, false, cond, not, ◌&&◌, ◌||◌, ◌≡◌, refl, length, get_or, take, eqb, leb, ltb, ℤ, pos, negsuc, nat_abs}
use Rattle.std.proofs.Common.{ap, inl, inr, ⊎_elim, add-zero, arith, length-take-le, get_or-take, leb-true, ltb-true, eqb-true, eq-eqb, ne_eqb, le-leb, lt-ltb}
use Rattle.std.proofs.lemmas.Bool.{eqb-false, not-true}
use Rattle.paper.specs.Limits.{node_limit, cell_limit, depth_limit, mul_limit, key_limit, var_limit, node_words}
use Rattle.paper.specs.Below.{all_below, sum_below, and_left, and_right, and_both, ands3, ands5, ands6, ands7, all_at, all_made, sum_more}
use Rattle.paper.specs.Rows.{node_at, word_from, is_leaf, is_general, is_dummy, value_count, con_len, lit_ok, cell_ok, marks_low, keys_count, inputs_ok, cells_ok}
use Rattle.paper.specs.Keys.{node_keys, row_equals}
use Rattle.paper.specs.Table.{nodes_fit, range_ok, counters_ok, leaf_ok, dummy_ok, depth_ok, inner_ok, unit_ok, general_ok, node_ok, leaf_step, leaves_before, cells_before, node_ok_at, nodes_ok, table_ok_at}
use Rattle.paper.specs.declared.Node.{Node}
use Rattle.paper.specs.declared.Counters.{Counters}
use Rattle.facts.specs.Facts.{CellsApart, CellFacts, CountersFit, GeneralFacts, Held, InnerFacts, LeafFacts, LitFacts, NodeFacts, NodeFactsAt, TableFacts, Under, UnitFacts, a_dummy, a_general, a_leaf, a_unit}

pub counters_fit : (c : Counters) (holds keys clauses : ℕ) → counters_ok c holds keys clauses ≡ true → CountersFit c holds keys clauses
unfolding counters_ok
counters_fit c holds keys clauses h =
    let k = ands5 (nodes_fit c.nodes holds) (range_ok c.first c.next c.last) (leb c.cells cell_limit) (leb c.cells keys) (leb c.words clauses) h in
    let tests = (leb 1 c.first && leb c.first c.next) && leb c.next (c.last + 1) in
    let t = ands3 (leb 1 c.first) (leb c.first c.next) (leb c.next (c.last + 1)) (and_right (leb c.last var_limit) tests k.1) in
    record {
      node_limit_met = leb-true _ _ (and_left (leb c.nodes node_limit) (leb c.nodes holds) k.0);
      node_row = leb-true _ _ (and_right (leb c.nodes node_limit) (leb c.nodes holds) k.0);
      first_low = leb-true _ _ t.0;
      next_low = leb-true _ _ t.1;
      next_high = leb-true _ _ t.2;
      last_high = leb-true _ _ (and_left (leb c.last var_limit) tests k.1);
      cell_limit_met = leb-true _ _ k.2;
      cell_row = leb-true _ _ k.3;
      word_row = leb-true _ _ k.4;
    }

pub counters_made : (c : Counters) (holds keys clauses : ℕ) → CountersFit c holds keys clauses → counters_ok c holds keys clauses ≡ true
unfolding counters_ok
counters_made c holds keys clauses f =
    and_both _ _
    (and_both _ _
    (and_both _ _
    (and_both _ _
    (and_both _ _ (le-leb c.nodes node_limit f.node_limit_met) (le-leb c.nodes holds f.node_row))
    (and_both _ _ (le-leb c.last var_limit f.last_high)
    (and_both _ _ (and_both _ _ (le-leb 1 c.first f.first_low) (le-leb c.first c.next f.next_low)) (le-leb c.next (c.last + 1) f.next_high))))
    (le-leb c.cells cell_limit f.cell_limit_met))
    (le-leb c.cells keys f.cell_row))
    (le-leb c.words clauses f.word_row)

pub lit_facts : (x : ℤ) (f : ℕ) → lit_ok x f ≡ true → LitFacts x f
lit_facts x f h =
    let ne : nat_abs x ≡ 0 → ⊥ = eqb-false (nat_abs x) 0 (not-true (eqb (nat_abs x) 0) (and_left (not (eqb (nat_abs x) 0)) (ltb (nat_abs x) f) h)) in
    record { some = omega arith; low = ltb-true _ _ (and_right (not (eqb (nat_abs x) 0)) (ltb (nat_abs x) f) h) }

pub lit_made : (x : ℤ) (f : ℕ) → LitFacts x f → lit_ok x f ≡ true
lit_made x f t = rw (ne_eqb (nat_abs x) 0 (λ e. omega (arith, t.some)), lt-ltb (nat_abs x) f t.low)

or_false : (a : Bool) → (a || false) ≡ true → a ≡ true
or_false true h = refl
or_false false h = h

pub cell_facts : (x : ℤ) (m f next : ℕ) → cell_ok x m f next ≡ true → CellFacts x m f next
cell_facts (pos zero) m f next h =
    let k = and_left (leb m 3 && (eqb m 0 || false)) true h in
    record {
      mark_high = leb-true _ _ (and_left (leb m 3) (eqb m 0 || false) k);
      mark_held = λ e. eqb-true _ _ (or_false (eqb m 0) (and_right (leb m 3) (eqb m 0 || false) k));
      lit = inl refl;
    }
cell_facts (pos (suc n)) m f next h =
    let A = leb m 3 && (eqb m 0 || true) in
    let B = leb f (suc n) && ltb (suc n) next in
    let g : (A && B) ≡ true = rw (ne_eqb (suc n) 0 (λ e. omega arith)) at h in
    record {
      mark_high = leb-true _ _ (and_left (leb m 3) (eqb m 0 || true) (and_left A B g));
      mark_held = λ e. absurd (let z : suc n ≡ 0 = ap nat_abs e in omega arith);
      lit = inr (record { var = suc n; is = refl; from = leb-true _ _ (and_left (leb f (suc n)) (ltb (suc n) next) (and_right A B g)); below = ltb-true _ _ (and_right (leb f (suc n)) (ltb (suc n) next) (and_right A B g)) });
    }
cell_facts (negsuc n) m f next h = absurd (let g : ((leb m 3 && (eqb m 0 || true)) && false) ≡ true = rw (ne_eqb (suc n) 0 (λ e. omega arith)) at h in let z : false ≡ true = and_right (leb m 3 && (eqb m 0 || true)) false g in let y : ◌≡◌ {A = ℕ} 0 1 = cc in omega arith)

pub cell_made : (x : ℤ) (m f next : ℕ) → CellFacts x m f next → cell_ok x m f next ≡ true
cell_made x m f next t = ⊎_elim none some t.lit
  where
    or_true : (a : Bool) → (a || true) ≡ true
    or_true true = refl
    or_true false = refl

    none : x ≡ pos 0 → cell_ok x m f next ≡ true
    none e = rw (e, le-leb m 3 t.mark_high, eq-eqb m 0 (t.mark_held e))

    some : Held x f next → cell_ok x m f next ≡ true
    some v = go v.var v.is v.from v.below
      where
        go : (n : ℕ) → x ≡ pos n → f ≤ n → n < next → cell_ok x m f next ≡ true
        go zero e l h = none e
        go (suc n) e l h = rw (e, ne_eqb (suc n) 0 (λ q. omega arith), le-leb m 3 t.mark_high, or_true (eqb m 0), le-leb f (suc n) l, lt-ltb (suc n) next h)

pub leaf_facts : (n : Node) (inputs : ℕ) → leaf_ok n inputs ≡ true → LeafFacts n inputs
unfolding leaf_ok
leaf_facts n inputs h =
    let k = ands7 (eqb n.left 0) (eqb n.lmul 0) (eqb n.right 0) (eqb n.rmul 0) (eqb n.first inputs) (eqb n.count 0) (eqb n.depth 1) h in
    record { left = eqb-true _ _ k.0; lmul = eqb-true _ _ k.1; right = eqb-true _ _ k.2; rmul = eqb-true _ _ k.3; place = eqb-true _ _ k.4; count = eqb-true _ _ k.5; depth = eqb-true _ _ k.6 }

pub leaf_made : (n : Node) (inputs : ℕ) → LeafFacts n inputs → leaf_ok n inputs ≡ true
unfolding leaf_ok
leaf_made n inputs f =
    rw (eq-eqb n.left 0 f.left, eq-eqb n.lmul 0 f.lmul, eq-eqb n.right 0 f.right, eq-eqb n.rmul 0 f.rmul, eq-eqb n.first inputs f.place, eq-eqb n.count 0 f.count, eq-eqb n.depth 1 f.depth)

-- a dummy is checked as a leaf at place 0 is
pub dummy_facts : (n : Node) → dummy_ok n ≡ true → LeafFacts n 0
unfolding dummy_ok leaf_ok
dummy_facts n h = leaf_facts n 0 h

pub dummy_made : (n : Node) → LeafFacts n 0 → dummy_ok n ≡ true
unfolding dummy_ok leaf_ok
dummy_made n f = leaf_made n 0 f

pub inner_facts : (n l r : Node) (id cells limit : ℕ) → inner_ok n l r id cells limit ≡ true → InnerFacts n l r id cells limit
unfolding inner_ok
inner_facts n l r id cells limit h =
    let k = ands5 (ltb n.left id) (ltb n.right id) (eqb n.first cells) (leb (n.first + n.count) limit) (depth_ok n.depth l.depth r.depth) h in
    let m = max l.depth r.depth in
    record {
      left_low = ltb-true _ _ k.0;
      right_low = ltb-true _ _ k.1;
      follows = eqb-true _ _ k.2;
      within = leb-true _ _ k.3;
      shallow = ltb-true _ _ (and_left (ltb m depth_limit) (eqb n.depth (m + 1)) k.4);
      depth = eqb-true _ _ (and_right (ltb m depth_limit) (eqb n.depth (m + 1)) k.4);
    }

pub inner_made : (n l r : Node) (id cells limit : ℕ) → InnerFacts n l r id cells limit → inner_ok n l r id cells limit ≡ true
unfolding inner_ok
inner_made n l r id cells limit f =
    and_both _ _
    (and_both _ _ (and_both _ _ (and_both _ _ (lt-ltb n.left id f.left_low) (lt-ltb n.right id f.right_low)) (eq-eqb n.first cells f.follows)) (le-leb (n.first + n.count) limit f.within))
    (and_both _ _ (lt-ltb (max l.depth r.depth) depth_limit f.shallow) (eq-eqb n.depth (max l.depth r.depth + 1) f.depth))

pub unit_facts : (keys : List ℕ) (n l r : Node) → unit_ok keys n l r ≡ true → UnitFacts keys n l r
unfolding unit_ok
unit_facts keys n l r h =
    let head = (((eqb n.lmul 1 && eqb n.rmul 1) && not (is_general l)) && not (is_general r)) && eqb n.count (con_len l + con_len r) in
    let k = ands5 (eqb n.lmul 1) (eqb n.rmul 1) (not (is_general l)) (not (is_general r)) (eqb n.count (con_len l + con_len r)) (and_left head (keys_count keys n.first n.count) h) in
    let a = and_right head (keys_count keys n.first n.count) h in
    record {
      lmul = eqb-true _ _ k.0;
      rmul = eqb-true _ _ k.1;
      left_plain = not-true _ k.2;
      right_plain = not-true _ k.3;
      sum = eqb-true _ _ k.4;
      key = λ i l. eqb-true _ _ (all_at n.count (λ i. eqb (word_from keys n.first i) (i + 1)) a i l);
    }

pub unit_made : (keys : List ℕ) (n l r : Node) → UnitFacts keys n l r → unit_ok keys n l r ≡ true
unfolding unit_ok
unit_made keys n l r f =
    let head = (((eqb n.lmul 1 && eqb n.rmul 1) && not (is_general l)) && not (is_general r)) && eqb n.count (con_len l + con_len r) in
    and_both head (keys_count keys n.first n.count)
    (rw (eq-eqb n.lmul 1 f.lmul, eq-eqb n.rmul 1 f.rmul, f.left_plain, f.right_plain, eq-eqb n.count (con_len l + con_len r) f.sum))
    (all_made n.count (λ i. eqb (word_from keys n.first i) (i + 1)) (λ i h. eq-eqb (word_from keys n.first i) (i + 1) (f.key i h)))

pub general_facts : (keys marks : List ℕ) (n l r : Node) → general_ok keys marks n l r ≡ true → GeneralFacts keys marks n l r
unfolding general_ok
general_facts keys marks n l r h =
    let kinds = (is_general l || is_general r) || not (eqb n.lmul n.rmul) in
    let head = ((((leb 1 n.lmul && leb n.lmul mul_limit) && leb 1 n.rmul) && leb n.rmul mul_limit) && kinds) && leb 1 n.count in
    let S = node_keys keys l n.lmul r n.rmul in
    let ml = marks_low marks n.first n.count in
    let rest = ml && row_equals keys n.first n.count S in
    let k = ands6 (leb 1 n.lmul) (leb n.lmul mul_limit) (leb 1 n.rmul) (leb n.rmul mul_limit) kinds (leb 1 n.count) (and_left head rest h) in
    let m = and_left ml (row_equals keys n.first n.count S) (and_right head rest h) in
    let mr = leb n.count (length marks - n.first) && all_below n.count (λ i. leb (get_or marks (n.first + i) 0) 1) in
    let w = and_right ml (row_equals keys n.first n.count S) (and_right head rest h) in
    let key_tests = all_below n.count (λ i. eqb (word_from keys n.first i) (get_or S i 0) && leb (word_from keys n.first i) key_limit) in
    let wk = all_at n.count (λ i. eqb (word_from keys n.first i) (get_or S i 0) && leb (word_from keys n.first i) key_limit) (and_right (eqb (length S) n.count) key_tests w) in
    let mm = and_right (leb n.first (length marks)) mr m in
    let m0 : n.first ≤ length marks = leb-true _ _ (and_left (leb n.first (length marks)) mr m) in
    let m1 : n.count ≤ length marks - n.first = leb-true _ _ (and_left (leb n.count (length marks - n.first)) (all_below n.count (λ i. leb (get_or marks (n.first + i) 0) 1)) mm) in
    let ma = and_right (leb n.count (length marks - n.first)) (all_below n.count (λ i. leb (get_or marks (n.first + i) 0) 1)) mm in
    record {
      lmul_low = leb-true _ _ k.0;
      lmul_high = leb-true _ _ k.1;
      rmul_low = leb-true _ _ k.2;
      rmul_high = leb-true _ _ k.3;
      otherwise = k.4;
      some = leb-true _ _ k.5;
      marks_row = omega arith;
      mark = λ i l. leb-true _ _ (all_at n.count (λ i. leb (get_or marks (n.first + i) 0) 1) ma i l);
      size = eqb-true _ _ (and_left (eqb (length S) n.count) key_tests w);
      key = λ i l. eqb-true _ _ (and_left (eqb (word_from keys n.first i) (get_or S i 0)) (leb (word_from keys n.first i) key_limit) (wk i l));
      key_low = λ i l. leb-true _ _ (and_right (eqb (word_from keys n.first i) (get_or S i 0)) (leb (word_from keys n.first i) key_limit) (wk i l));
    }

pub general_made : (keys marks : List ℕ) (n l r : Node) → GeneralFacts keys marks n l r → general_ok keys marks n l r ≡ true
unfolding general_ok
general_made keys marks n l r f =
    let S = node_keys keys l n.lmul r n.rmul in
    let kinds = (is_general l || is_general r) || not (eqb n.lmul n.rmul) in
    let head = ((((leb 1 n.lmul && leb n.lmul mul_limit) && leb 1 n.rmul) && leb n.rmul mul_limit) && kinds) && leb 1 n.count in
    and_both head (marks_low marks n.first n.count && row_equals keys n.first n.count S)
    (rw (le-leb 1 n.lmul f.lmul_low, le-leb n.lmul mul_limit f.lmul_high, le-leb 1 n.rmul f.rmul_low, le-leb n.rmul mul_limit f.rmul_high, f.otherwise, le-leb 1 n.count f.some))
    (and_both _ _
    (and_both _ _ (le-leb n.first (length marks) (omega (arith, f.marks_row)))
    (and_both _ _ (le-leb n.count (length marks - n.first) (omega (arith, f.marks_row)))
    (all_made n.count (λ i. leb (get_or marks (n.first + i) 0) 1) (λ i h. le-leb (get_or marks (n.first + i) 0) 1 (f.mark i h)))))
    (and_both _ _ (eq-eqb (length S) n.count f.size)
    (all_made n.count (λ i. eqb (word_from keys n.first i) (get_or S i 0) && leb (word_from keys n.first i) key_limit)
    (λ i h. and_both _ _ (eq-eqb (word_from keys n.first i) (get_or S i 0) (f.key i h)) (le-leb (word_from keys n.first i) key_limit (f.key_low i h))))))

pub node_facts : (keys marks : List ℕ) (n l r : Node) (id inputs cells limit : ℕ) → node_ok keys marks n l r id inputs cells limit ≡ true
    → NodeFacts keys marks n l r id inputs cells limit
unfolding node_ok
node_facts keys marks n l r id inputs cells limit h = go (eqb n.kind 0) refl (eqb n.kind 3) refl (eqb n.kind 1) refl (eqb n.kind 2) refl h
  where
    inner : (x : Bool) → (inner_ok n l r id cells limit && x) ≡ true → InnerFacts n l r id cells limit
    inner x q = inner_facts n l r id cells limit (and_left (inner_ok n l r id cells limit) x q)

    go : (t0 : Bool) → eqb n.kind 0 ≡ t0 → (t3 : Bool) → eqb n.kind 3 ≡ t3 → (t1 : Bool) → eqb n.kind 1 ≡ t1 → (t2 : Bool) → eqb n.kind 2 ≡ t2
        → cond t0 (leaf_ok n inputs) (cond t3 (dummy_ok n) (inner_ok n l r id cells limit && cond t1 (unit_ok keys n l r) (cond t2 (general_ok keys marks n l r) false))) ≡ true
        → NodeFacts keys marks n l r id inputs cells limit
    go true e0 t3 e3 t1 e1 t2 e2 q = a_leaf (eqb-true _ _ e0) (leaf_facts n inputs q)
    go false e0 true e3 t1 e1 t2 e2 q = a_dummy (eqb-true _ _ e3) (dummy_facts n q)
    go false e0 false e3 true e1 t2 e2 q = a_unit (eqb-true _ _ e1) (inner (unit_ok keys n l r) q) (unit_facts keys n l r (and_right (inner_ok n l r id cells limit) (unit_ok keys n l r) q))
    go false e0 false e3 false e1 true e2 q = a_general (eqb-true _ _ e2) (inner (general_ok keys marks n l r) q) (general_facts keys marks n l r (and_right (inner_ok n l r id cells limit) (general_ok keys marks n l r) q))
    go false e0 false e3 false e1 false e2 q = absurd (let e : false ≡ true = and_right (inner_ok n l r id cells limit) false q in let z : ◌≡◌ {A = ℕ} 0 1 = cc in omega arith)

pub node_made : (keys marks : List ℕ) (n l r : Node) (id inputs cells limit : ℕ) → NodeFacts keys marks n l r id inputs cells limit
    → node_ok keys marks n l r id inputs cells limit ≡ true
unfolding node_ok
node_made keys marks n l r id inputs cells limit (a_leaf k f) = rw (eq-eqb n.kind 0 k) (leaf_made n inputs f)
node_made keys marks n l r id inputs cells limit (a_dummy k f) = rw (ne_eqb n.kind 0 (λ e. omega arith), eq-eqb n.kind 3 k) (dummy_made n f)
node_made keys marks n l r id inputs cells limit (a_unit k f g) =
    rw (ne_eqb n.kind 0 (λ e. omega arith), ne_eqb n.kind 3 (λ e. omega arith), eq-eqb n.kind 1 k, inner_made n l r id cells limit f) (unit_made keys n l r g)
node_made keys marks n l r id inputs cells limit (a_general k f g) =
    rw (ne_eqb n.kind 0 (λ e. omega arith), ne_eqb n.kind 3 (λ e. omega arith), ne_eqb n.kind 1 (λ e. omega arith), eq-eqb n.kind 2 k, inner_made n l r id cells limit f) (general_made keys marks n l r g)

-- the check of a node, made of what was read
pub at_node : (at : ℕ → Node) (keys marks : List ℕ) (limit i : ℕ) (n l r : Node) (inputs cells : ℕ)
    → n ≡ at i → l ≡ at n.left → r ≡ at n.right → inputs ≡ leaves_before at i → cells ≡ cells_before at i
    → node_ok keys marks n l r i inputs cells limit ≡ node_ok_at at keys marks limit i
at_node at keys marks limit i n l r inputs cells hn hl hr hi hc = rw (hl, hr, hi, hc, hn)

pub table_facts : (at : ℕ → Node) (holds : ℕ) (inputs : List ℤ) (keys : List ℕ) (lits : List ℤ) (marks : List ℕ) (clauses : ℕ) (c : Counters)
    → table_ok_at at holds inputs keys lits marks clauses c ≡ true → TableFacts at holds inputs keys lits marks clauses c
unfolding table_ok_at nodes_ok
table_facts at holds inputs keys lits marks clauses c h =
    let C = counters_ok c holds (length keys) clauses in
    let I = inputs_ok inputs c.inputs c.first in
    let E = cells_ok lits marks c.cells c.first c.next in
    let A = all_below c.nodes (node_ok_at at keys marks c.cells) in
    let X = eqb (leaves_before at c.nodes) c.inputs in
    let Y = eqb (cells_before at c.nodes) c.cells in
    let lit_test : ℕ → Bool = λ i. lit_ok (get_or inputs i (pos 0)) c.first in
    let cell_test : ℕ → Bool = λ i. cell_ok (get_or lits i (pos 0)) (get_or marks i 0) c.first c.next in
    let h1 = and_right C (I && (E && (A && (X && Y)))) h in
    let h2 = and_right I (E && (A && (X && Y))) h1 in
    let h3 = and_right E (A && (X && Y)) h2 in
    let h4 = and_right A (X && Y) h3 in
    let i1 = and_left I (E && (A && (X && Y))) h1 in
    let e1 = and_left E (A && (X && Y)) h2 in
    let e2 = and_right (leb c.cells (length lits)) (leb c.cells (length marks) && all_below c.cells cell_test) e1 in
    record {
      counters = counters_fit c holds (length keys) clauses (and_left C (I && (E && (A && (X && Y)))) h);
      input_row = leb-true _ _ (and_left (leb c.inputs (length inputs)) (all_below c.inputs lit_test) i1);
      input = λ i l. lit_facts _ _ (all_at c.inputs lit_test (and_right (leb c.inputs (length inputs)) (all_below c.inputs lit_test) i1) i l);
      lit_row = leb-true _ _ (and_left (leb c.cells (length lits)) (leb c.cells (length marks) && all_below c.cells cell_test) e1);
      mark_row = leb-true _ _ (and_left (leb c.cells (length marks)) (all_below c.cells cell_test) e2);
      cell = λ i l. cell_facts _ _ _ _ (all_at c.cells cell_test (and_right (leb c.cells (length marks)) (all_below c.cells cell_test) e2) i l);
      node = λ i l. node_facts keys marks _ _ _ i _ _ c.cells (all_at c.nodes (node_ok_at at keys marks c.cells) (and_left A (X && Y) h3) i l);
      leaves = eqb-true _ _ (and_left X Y h4);
      cells = eqb-true _ _ (and_right X Y h4);
    }

pub table_made : (at : ℕ → Node) (holds : ℕ) (inputs : List ℤ) (keys : List ℕ) (lits : List ℤ) (marks : List ℕ) (clauses : ℕ) (c : Counters)
    → TableFacts at holds inputs keys lits marks clauses c → table_ok_at at holds inputs keys lits marks clauses c ≡ true
unfolding table_ok_at nodes_ok
table_made at holds inputs keys lits marks clauses c t =
    and_both _ _ (counters_made c holds (length keys) clauses t.counters)
    (and_both _ _
    (and_both _ _ (le-leb c.inputs (length inputs) t.input_row) (all_made c.inputs (λ i. lit_ok (get_or inputs i (pos 0)) c.first) (λ i h. lit_made _ _ (t.input i h))))
    (and_both _ _
    (and_both _ _ (le-leb c.cells (length lits) t.lit_row)
    (and_both _ _ (le-leb c.cells (length marks) t.mark_row)
    (all_made c.cells (λ i. cell_ok (get_or lits i (pos 0)) (get_or marks i 0) c.first c.next) (λ i h. cell_made _ _ _ _ (t.cell i h)))))
    (and_both _ _ (all_made c.nodes (node_ok_at at keys marks c.cells) (λ i h. node_made keys marks _ _ _ i _ _ c.cells (t.node i h)))
    (and_both _ _ (eq-eqb _ _ t.leaves) (eq-eqb _ _ t.cells)))))

-- the children of a node that is there are there: ids fall, and a leaf's and a dummy's are 0
pub left_there : {keys marks : List ℕ} {n l r : Node} {id inputs cells limit nodes : ℕ} → NodeFacts keys marks n l r id inputs cells limit → id < nodes → n.left < nodes
left_there (a_leaf k f) h = omega (arith, f.left)
left_there (a_dummy k f) h = omega (arith, f.left)
left_there (a_unit k f g) h = omega (arith, f.left_low)
left_there (a_general k f g) h = omega (arith, f.left_low)

pub right_there : {keys marks : List ℕ} {n l r : Node} {id inputs cells limit nodes : ℕ} → NodeFacts keys marks n l r id inputs cells limit → id < nodes → n.right < nodes
right_there (a_leaf k f) h = omega (arith, f.right)
right_there (a_dummy k f) h = omega (arith, f.right)
right_there (a_unit k f g) h = omega (arith, f.right_low)
right_there (a_general k f g) h = omega (arith, f.right_low)

pub node_below : {keys marks : List ℕ} {n l r : Node} {id inputs cells limit : ℕ} → NodeFacts keys marks n l r id inputs cells limit → Under n limit
unfolding value_count
node_below (a_leaf k f) q = absurd (eqb-false _ _ q k)
node_below {n = n} (a_dummy k f) q = rw (q, eq-eqb n.kind 3 k) (omega (arith, f.place))
node_below {n = n} (a_unit k f g) q = rw (q, ne_eqb n.kind 3 (λ e. omega arith)) f.within
node_below {n = n} (a_general k f g) q = rw (q, ne_eqb n.kind 3 (λ e. omega arith)) f.within

-- how many outputs a node of each kind has
pub leaf_outputs : (n : Node) → n.kind ≡ 0 → value_count n ≡ 1
unfolding value_count
leaf_outputs n k = rw (eq-eqb n.kind 0 k)

pub dummy_outputs : (n : Node) → n.kind ≡ 3 → value_count n ≡ 0
unfolding value_count
dummy_outputs n k = rw (ne_eqb n.kind 0 (λ e. omega arith), eq-eqb n.kind 3 k)

pub unit_outputs : (n : Node) → n.kind ≡ 1 → value_count n ≡ n.count
unfolding value_count
unit_outputs n k = rw (ne_eqb n.kind 0 (λ e. omega arith), ne_eqb n.kind 3 (λ e. omega arith))

pub general_outputs : (n : Node) → n.kind ≡ 2 → value_count n ≡ n.count
unfolding value_count
general_outputs n k = rw (ne_eqb n.kind 0 (λ e. omega arith), ne_eqb n.kind 3 (λ e. omega arith))

pub step_small : (n : Node) → leaf_step n ≤ 1
step_small n = go (eqb n.kind 0)
  where
    go : (t : Bool) → cond t 1 0 ≤ 1
    go true = omega arith
    go false = omega arith

pub leaves_few : (at : ℕ → Node) (i : ℕ) → leaves_before at i ≤ i
unfolding sum_below
leaves_few at zero = omega arith
leaves_few at (suc i) = omega (arith, leaves_few at i, step_small (at i))

-- a sum with more terms is no smaller
pub sum_mono : (f : ℕ → ℕ) (i d : ℕ) → sum_below i f ≤ sum_below (i + d) f
sum_mono f i zero = rw (add-zero i) (omega arith)
sum_mono f i (suc d) = let e : i + suc d ≡ (i + d) + 1 = omega arith in rw (e, sum_more (i + d) f) (omega (arith, sum_mono f i d))

-- a term lies in the sum before any later place
pub sum_apart : (f : ℕ → ℕ) (i k : ℕ) → i < k → sum_below i f + f i ≤ sum_below k f
sum_apart f i k h =
    let e : k ≡ (i + 1) + (k - (i + 1)) = omega arith in
    rw (e) (omega (arith, sum_more i f, sum_mono f (i + 1) (k - (i + 1))))

module _ {at : ℕ → Node} {holds : ℕ} {inputs : List ℤ} {keys : List ℕ} {lits : List ℤ} {marks : List ℕ} {clauses : ℕ} {c : Counters}
    (t : TableFacts at holds inputs keys lits marks clauses c) where
  pub inputs_few : c.inputs ≤ node_limit
  inputs_few = omega (arith, t.leaves, leaves_few at c.nodes, t.counters.node_limit_met)

  -- every node's cells lie below the cells in use
  pub node_under : (i : ℕ) → i < c.nodes → Under (at i) c.cells
  node_under i h q = node_below (t.node i h) q

  -- a leaf's literal lies below the inputs in use
  pub leaf_low : (i : ℕ) → i < c.nodes → (at i).kind ≡ 0 → (at i).first < c.inputs
  leaf_low i h k = go (t.node i h)
    where
      one : leaf_step (at i) ≡ 1
      one = rw (eq-eqb (at i).kind 0 k)

      go : NodeFactsAt at keys marks c.cells i → (at i).first < c.inputs
      go (a_leaf q f) = omega (arith, f.place, sum_apart (λ k. leaf_step (at k)) i c.nodes h, t.leaves, one)
      go (a_dummy q f) = absurd (omega arith)
      go (a_unit q f g) = absurd (omega arith)
      go (a_general q f g) = absurd (omega arith)

  -- an inner node's cells follow those of the nodes before it, so cells of different nodes lie apart
  pub cells_follow : (i : ℕ) → i < c.nodes → is_leaf (at i) ≡ false → is_dummy (at i) ≡ false → (at i).first ≡ cells_before at i
  cells_follow i h a b = go (t.node i h)
    where
      go : NodeFactsAt at keys marks c.cells i → (at i).first ≡ cells_before at i
      go (a_leaf k f) = absurd (eqb-false _ _ a k)
      go (a_dummy k f) = absurd (eqb-false _ _ b k)
      go (a_unit k f g) = f.follows
      go (a_general k f g) = f.follows

  pub cells_apart : CellsApart at c
  cells_apart i k h l a b d e =
      omega (arith, cells_follow i (omega arith) a b, cells_follow k l d e, sum_apart (λ j. (at j).count) i k h)

-- over the words: the row has eight words for each node in use
pub words_fit : {c : Counters} {words keys clauses : ℕ} → CountersFit c (words / node_words) keys clauses → c.nodes * node_words ≤ words
words_fit f = omega (arith, f.node_row)

-- ---- the parts in use of the rows read the same

pub node_used : (ns : List ℕ) (n k : ℕ) → k < n → node_at (take (n * node_words) ns) k ≡ node_at ns k
unfolding node_at
node_used ns n k h = λ t. record {
  kind = get_or-take (n * node_words) ns (k * node_words + 0) 0 (omega arith) t;
  left = get_or-take (n * node_words) ns (k * node_words + 1) 0 (omega arith) t;
  lmul = get_or-take (n * node_words) ns (k * node_words + 2) 0 (omega arith) t;
  right = get_or-take (n * node_words) ns (k * node_words + 3) 0 (omega arith) t;
  rmul = get_or-take (n * node_words) ns (k * node_words + 4) 0 (omega arith) t;
  first = get_or-take (n * node_words) ns (k * node_words + 5) 0 (omega arith) t;
  count = get_or-take (n * node_words) ns (k * node_words + 6) 0 (omega arith) t;
  depth = get_or-take (n * node_words) ns (k * node_words + 7) 0 (omega arith) t;
}

pub used_at : {A : Type 0} (n : ℕ) (l : List A) (k : ℕ) (d : A) → k < n → get_or (take n l) k d ≡ get_or l k d
used_at n l k d h = get_or-take n l k d h

pub used_length : {A : Type 0} (n : ℕ) (l : List A) → n ≤ length l → length (take n l) ≡ n
used_length n l h = length-take-le n l h
