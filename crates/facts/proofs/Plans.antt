-- What the plans of the calls that add a node say of the node they add. Assumes nothing.
use Rattle.std.specs.Prelude.{ℕ, ◌+◌, ◌/◌, ◌<◌, ◌≤◌, max, List, Bool, true, false, cond, not, ◌&&◌, ◌||◌, ◌≡◌, refl, length, get_or, eqb, leb, ltb, ℤ}
use Rattle.std.proofs.Common.{inl, inr, arith, leb-true, leb-false, ltb-true, eqb-true, Err, None, Ok, Some}
use Rattle.std.proofs.lemmas.Bool.{eqb-false}
use Rattle.paper.specs.Limits.{node_limit, cell_limit, depth_limit, mul_limit, key_limit, node_words}
use Rattle.paper.specs.Below.{all_at, and_left, and_right, ands5}
use Rattle.paper.specs.Rows.{node_at, is_general, con_len, lit_ok}
use Rattle.paper.specs.Keys.{node_keys}
use Rattle.paper.specs.Table.{table_ok}
use Rattle.paper.specs.Grow.{room_for_node, choose, leaf_plan, dummy_plan, first_leaf, first_dummy}
use Rattle.paper.specs.Join.{room_for, muls_ok, inner_node, fit_plan, within_limit, keys_plan, unit_plan, general_plan, plain_pair, join_plan, inner_plan}
use Rattle.paper.specs.declared.Node.{Node}
use Rattle.paper.specs.declared.Counters.{Counters}
use Rattle.paper.specs.declared.Refusal.{Refusal}
use Rattle.paper.specs.declared.Refusal.TheVariants.{TableFails, BadLiteral, NoRoom, NoSuchNode, BadMultiplier, NoValue, KeyTooLarge, TooDeep}
use Rattle.paper.specs.declared.Pair.{Pair}
use Rattle.paper.specs.declared.Sizes.{Sizes}
use Rattle.facts.specs.Plans.{CellRoom, Fitted, InnerMade, MulsFit, NodeRoom}

pub room_facts : (c : Counters) (words : ℕ) → room_for_node c.nodes words ≡ true → NodeRoom c words
room_facts c words h =
    record {
      few = ltb-true _ _ (and_left (ltb c.nodes node_limit) (ltb c.nodes (words / node_words)) h);
      row = ltb-true _ _ (and_right (ltb c.nodes node_limit) (ltb c.nodes (words / node_words)) h);
    }

pub choose_new : (table literal : Bool) (found count : ℕ) (room : Bool) → choose table literal found count room ≡ Ok None → (table ≡ true) × (literal ≡ true) × (room ≡ true)
unfolding choose
choose_new table literal found count room h = go table literal (ltb found count) room h
  where
    go : (a b f r : Bool) → cond a (cond b (cond f (Ok (Some found)) (cond r (Ok None) (Err NoRoom))) (Err BadLiteral)) (Err TableFails) ≡ Ok None → (a ≡ true) × (b ≡ true) × (r ≡ true)
    go true true false true q = (refl, refl, refl)
    go true true true r q = absurd (let z : ◌≡◌ {A = ℕ} 0 1 = cc in omega arith)
    go true true false false q = absurd (let z : ◌≡◌ {A = ℕ} 0 1 = cc in omega arith)
    go true false f r q = absurd (let z : ◌≡◌ {A = ℕ} 0 1 = cc in omega arith)
    go false b f r q = absurd (let z : ◌≡◌ {A = ℕ} 0 1 = cc in omega arith)

pub leaf_new : (nodes : List ℕ) (inputs : List ℤ) (keys : List ℕ) (lits : List ℤ) (marks : List ℕ) (clauses : ℕ) (c : Counters) (x : ℤ)
    → leaf_plan nodes inputs keys lits marks clauses c x ≡ Ok None → (lit_ok x c.first ≡ true) × NodeRoom c (length nodes) × (c.inputs < length inputs)
unfolding leaf_plan
leaf_new nodes inputs keys lits marks clauses c x h =
    let A = room_for_node c.nodes (length nodes) in
    let B = ltb c.inputs (length inputs) in
    let k = choose_new (table_ok nodes inputs keys lits marks clauses c) (lit_ok x c.first) (first_leaf nodes inputs c.nodes x) c.nodes (A && B) h in
    (k.1, room_facts c (length nodes) (and_left A B k.2), ltb-true _ _ (and_right A B k.2))

pub dummy_new : (nodes : List ℕ) (inputs : List ℤ) (keys : List ℕ) (lits : List ℤ) (marks : List ℕ) (clauses : ℕ) (c : Counters)
    → dummy_plan nodes inputs keys lits marks clauses c ≡ Ok None → NodeRoom c (length nodes)
unfolding dummy_plan
dummy_new nodes inputs keys lits marks clauses c h =
    room_facts c (length nodes) (choose_new (table_ok nodes inputs keys lits marks clauses c) true (first_dummy nodes c.nodes) c.nodes (room_for_node c.nodes (length nodes)) h).2

pub cell_room : (c : Counters) (count : ℕ) (s : Sizes) → room_for c count s ≡ true → CellRoom c count s
unfolding room_for
cell_room c count s h =
    let k = ands5 (room_for_node c.nodes s.nodes) (leb (c.cells + count) cell_limit) (leb (c.cells + count) s.keys) (leb (c.cells + count) s.lits) (leb (c.cells + count) s.marks) h in
    record { node = room_facts c s.nodes k.0; limit = leb-true _ _ k.1; keys = leb-true _ _ k.2; lits = leb-true _ _ k.3; marks = leb-true _ _ k.4 }

pub fit_made : (kind : ℕ) (j : Pair) (l r : Node) (c : Counters) (count : ℕ) (s : Sizes) (n : Node) → fit_plan kind j l r c count s ≡ Ok n → Fitted kind j l r c count s n
unfolding fit_plan
fit_made kind j l r c count s n h = go (ltb (max l.depth r.depth) depth_limit) refl (room_for c count s) refl h
  where
    go : (a : Bool) → ltb (max l.depth r.depth) depth_limit ≡ a → (b : Bool) → room_for c count s ≡ b
        → cond a (cond b (Ok (inner_node kind j c.cells count (max l.depth r.depth + 1))) (Err NoRoom)) (Err TooDeep) ≡ Ok n → Fitted kind j l r c count s n
    go true ea true eb q = record { is = cc; shallow = ltb-true _ _ ea; room = cell_room c count s eb }
    go true ea false eb q = absurd (let z : ◌≡◌ {A = ℕ} 0 1 = cc in omega arith)
    go false ea b eb q = absurd (let z : ◌≡◌ {A = ℕ} 0 1 = cc in omega arith)

pub muls_fit : (j : Pair) (plain : Bool) → muls_ok j plain ≡ true → MulsFit j plain
unfolding muls_ok
muls_fit j plain h =
    let k = ands5 (leb 1 j.lmul) (leb j.lmul mul_limit) (leb 1 j.rmul) (leb j.rmul mul_limit) ((not plain || not (eqb j.lmul j.rmul)) || eqb j.lmul 1) h in
    record { lmul_low = leb-true _ _ k.0; lmul_high = leb-true _ _ k.1; rmul_low = leb-true _ _ k.2; rmul_high = leb-true _ _ k.3; equal = k.4 }

keys_made : (ks : List ℕ) (j : Pair) (l r : Node) (c : Counters) (s : Sizes) (n : Node) → keys_plan ks j l r c s ≡ Ok n
    → (1 ≤ length ks) × ((i : ℕ) → i < length ks → get_or ks i 0 ≤ key_limit) × Fitted 2 j l r c (length ks) s n
unfolding keys_plan
keys_made ks j l r c s n h = go (eqb (length ks) 0) refl (within_limit ks) refl h
  where
    go : (a : Bool) → eqb (length ks) 0 ≡ a → (b : Bool) → within_limit ks ≡ b → cond a (Err NoValue) (cond b (fit_plan 2 j l r c (length ks) s) (Err KeyTooLarge)) ≡ Ok n
        → (1 ≤ length ks) × ((i : ℕ) → i < length ks → get_or ks i 0 ≤ key_limit) × Fitted 2 j l r c (length ks) s n
    go true ea b eb q = absurd (let z : ◌≡◌ {A = ℕ} 0 1 = cc in omega arith)
    go false ea false eb q = absurd (let z : ◌≡◌ {A = ℕ} 0 1 = cc in omega arith)
    go false ea true eb q =
        let ne : length ks ≡ 0 → ⊥ = eqb-false (length ks) 0 ea in
        (omega arith, (λ i h. leb-true _ _ (all_at (length ks) (λ i. leb (get_or ks i 0) key_limit) eb i h)), fit_made 2 j l r c (length ks) s n q)

pub inner_made : (nodes : List ℕ) (inputs : List ℤ) (keys : List ℕ) (lits : List ℤ) (marks : List ℕ) (clauses : ℕ) (c : Counters) (j : Pair) (n : Node)
    → inner_plan nodes inputs keys lits marks clauses c j ≡ Ok n
    → InnerMade nodes keys c j (record { nodes = length nodes; keys = length keys; lits = length lits; marks = length marks }) n
unfolding inner_plan join_plan
inner_made nodes inputs keys lits marks clauses c j n h =
    go (table_ok nodes inputs keys lits marks clauses c) (leb c.nodes j.left) refl (leb c.nodes j.right) refl (muls_ok j (plain_pair l r)) refl (is_general l) refl (is_general r) refl (eqb j.lmul j.rmul) refl h
  where
    l : Node
    l = node_at nodes j.left

    r : Node
    r = node_at nodes j.right

    s : Sizes
    s = record { nodes = length nodes; keys = length keys; lits = length lits; marks = length marks }

    bad : {G : Type 0} (w : Refusal) → Err w ≡ Ok n → G
    bad w q = absurd (let z : ◌≡◌ {A = ℕ} 0 1 = cc in omega arith)

    general : leb c.nodes j.left ≡ false → leb c.nodes j.right ≡ false → muls_ok j (plain_pair l r) ≡ true
        → ((is_general l || is_general r) || not (eqb j.lmul j.rmul)) ≡ true → general_plan keys j l r c s ≡ Ok n → InnerMade nodes keys c j s n
    general ea eb em o q =
        let k = keys_made (node_keys keys l j.lmul r j.rmul) j l r c s n q in
        record { left_there = leb-false _ _ ea; right_there = leb-false _ _ eb; made = inr (record { muls = muls_fit j (plain_pair l r) em; otherwise = o; some = k.0; low = k.1; fitted = k.2 }) }

    unit : leb c.nodes j.left ≡ false → leb c.nodes j.right ≡ false → muls_ok j (plain_pair l r) ≡ true
        → is_general l ≡ false → is_general r ≡ false → eqb j.lmul j.rmul ≡ true → unit_plan j l r c s ≡ Ok n → InnerMade nodes keys c j s n
    unit ea eb em egl egr ee q =
        let f : ((not (not (is_general l) && not (is_general r)) || not (eqb j.lmul j.rmul)) || eqb j.lmul 1) ≡ true = (muls_fit j (plain_pair l r) em).equal in
        let g : eqb j.lmul 1 ≡ true = rw (egl, egr, ee) at f in
        let a : j.lmul ≡ 1 = eqb-true j.lmul 1 g in
        let b : j.lmul ≡ j.rmul = eqb-true j.lmul j.rmul ee in
        record { left_there = leb-false _ _ ea; right_there = leb-false _ _ eb; made = inl (record { lmul = a; rmul = omega arith; left_plain = egl; right_plain = egr; fitted = fit_made 1 j l r c (con_len l + con_len r) s n q }) }

    go : (t : Bool) (a : Bool) → leb c.nodes j.left ≡ a → (b : Bool) → leb c.nodes j.right ≡ b → (m : Bool) → muls_ok j (plain_pair l r) ≡ m
        → (gl : Bool) → is_general l ≡ gl → (gr : Bool) → is_general r ≡ gr → (e : Bool) → eqb j.lmul j.rmul ≡ e
        → cond t (cond (a || b) (Err NoSuchNode) (cond m (cond ((not gl && not gr) && e) (unit_plan j l r c s) (general_plan keys j l r c s)) (Err BadMultiplier))) (Err TableFails) ≡ Ok n
        → InnerMade nodes keys c j s n
    go false a ea b eb m em gl egl gr egr e ee q = bad TableFails q
    go true true ea b eb m em gl egl gr egr e ee q = bad NoSuchNode q
    go true false ea true eb m em gl egl gr egr e ee q = bad NoSuchNode q
    go true false ea false eb false em gl egl gr egr e ee q = bad BadMultiplier q
    go true false ea false eb true em false egl false egr true ee q = unit ea eb em egl egr ee q
    go true false ea false eb true em false egl false egr false ee q = general ea eb em (rw (egl, egr, ee)) q
    go true false ea false eb true em false egl true egr e ee q = general ea eb em (rw (egl, egr)) q
    go true false ea false eb true em true egl gr egr e ee q = general ea eb em (rw (egl)) q
