-- The cases of the plan of an inner node, and what a node that is to be made rests on. Assumes nothing.
use Rattle.paper.specs.declared.Refusal.{Refusal}
use Rattle.std.specs.Prelude.{Err, Ok, Result}
use Rattle.paper.specs.Limits.{node_limit, cell_limit, depth_limit, mul_limit, key_limit, node_words}
use Prim.Native.Nat.{ℕ, zero, suc, ◌+◌, ◌-◌, ◌*◌, ◌/◌, ◌<◌, ◌≤◌, ◌^◌, max, min}
use mathlib.Core.List.{List}
use mathlib.Core.Bool.{Bool, true, false, cond, not, ◌||◌}
use mathlib.Core.Path.{◌≡◌, refl, sym, ap, subst, ◌∙◌}
use mathlib.Core.Logic.{◌⊎◌, inl, inr, ⊎_elim}
use native.Mathlib.Omega.{arith}
use lib.ListN.{length, get_or}
use lib.Dec.{eqb, leb, ltb}
use lib.IntN.{ℤ}
use borrow.Author.Tests.{lt-ltb, le-ltb, ltb-true, leb-true, leb-false, eqb-false}
use Rattle.paper.specs.Below.{all_at, ands5, side}
use Rattle.paper.specs.Rows.{node_at, con_len, value_count, value_at}
use Rattle.paper.specs.Table.{table_ok}
use Rattle.keys.specs.Least.{Mono}
use Rattle.join_plan.proofs.Largest.{node_mono}
use Rattle.paper.specs.declared.Node.{Node}
use Rattle.paper.specs.declared.Counters.{Counters}
use Rattle.paper.specs.Keys.{node_keys}
use Rattle.facts.specs.Facts.{Under, TableFacts}
use Rattle.facts.proofs.Facts.{table_facts, node_under}
use Rattle.grow.specs.Small.{Small}
use Rattle.paper.specs.Grow.{room_for_node}
use Rattle.grow.proofs.Choose.{room_facts}
use Rattle.paper.specs.declared.Refusal.TheVariants.{NoValue, KeyTooLarge, TooDeep, NoRoom}
use Rattle.paper.specs.declared.Pair.{Pair}
use Rattle.paper.specs.declared.Sizes.{Sizes}
use Rattle.join_plan.specs.Ready.{RowReady}
use Rattle.paper.specs.Join.{count_from, room_for, muls_ok, inner_node, fit_plan, unit_plan, within_limit, keys_plan, general_plan, join_plan, inner_plan}

-- 1, 2, ..
pub count_size : (k n : ℕ) → length (count_from k n) ≡ n
unfolding count_from
count_size k zero = refl
count_size k (suc n) = ap suc (count_size (suc k) n)

pub count_at : (k n i d : ℕ) → i < n → get_or (count_from k n) i d ≡ k + i
unfolding count_from
count_at k zero i d l = absurd (omega arith)
count_at k (suc n) zero d l = omega arith
count_at k (suc n) (suc i) d l = let q : get_or (count_from (suc k) n) i d ≡ suc k + i = count_at (suc k) n i d (omega arith) in omega arith

pub or_none : (a b : Bool) → (a || b) ≡ false → (a ≡ false) × (b ≡ false)
or_none true b h = absurd (let z : ◌≡◌ {A = ℕ} 0 1 = cc in omega arith)
or_none false b h = (refl, h)

-- depth, then room
module _ (kind : ℕ) (j : Pair) (l r : Node) (c : Counters) (count : ℕ) (s : Sizes) where
  pub fit_deep : depth_limit ≤ max l.depth r.depth → Err TooDeep ≡ fit_plan kind j l r c count s
  unfolding fit_plan
  fit_deep h = rw (le-ltb (max l.depth r.depth) depth_limit h)

  pub fit_full : max l.depth r.depth < depth_limit → room_for c count s ≡ false → Err NoRoom ≡ fit_plan kind j l r c count s
  unfolding fit_plan
  fit_full h g = rw (lt-ltb (max l.depth r.depth) depth_limit h, g)

  pub fit_rests : (n : Node) → fit_plan kind j l r c count s ≡ Ok n
      → (max l.depth r.depth < depth_limit) × (room_for c count s ≡ true) × (inner_node kind j c.cells count (max l.depth r.depth + 1) ≡ n)
  unfolding fit_plan
  fit_rests n = go (ltb (max l.depth r.depth) depth_limit) refl (room_for c count s) refl
    where
      go : (t : Bool) → ltb (max l.depth r.depth) depth_limit ≡ t → (u : Bool) → room_for c count s ≡ u
          → cond t (cond u (Ok (inner_node kind j c.cells count (max l.depth r.depth + 1))) (Err NoRoom)) (Err TooDeep) ≡ Ok n
          → (max l.depth r.depth < depth_limit) × (room_for c count s ≡ true) × (inner_node kind j c.cells count (max l.depth r.depth + 1) ≡ n)
      go true e true f q = (ltb-true _ _ e, f, cc)
      go true e false f q = absurd (let z : ◌≡◌ {A = ℕ} 0 1 = cc in omega arith)
      go false e u f q = absurd (let z : ◌≡◌ {A = ℕ} 0 1 = cc in omega arith)

-- what room means
pub record RoomFacts (c : Counters) (count : ℕ) (s : Sizes) : Type 0 where
  pub node_few : c.nodes < node_limit
  pub node_row : c.nodes * node_words + node_words ≤ s.nodes
  pub cell_few : c.cells + count ≤ cell_limit
  pub key_row : c.cells + count ≤ s.keys
  pub lit_row : c.cells + count ≤ s.lits
  pub mark_row : c.cells + count ≤ s.marks

pub room_is : (c : Counters) (count : ℕ) (s : Sizes) → room_for c count s ≡ true → RoomFacts c count s
unfolding room_for
room_is c count s h =
    let k = ands5 (room_for_node c.nodes s.nodes) (leb (c.cells + count) cell_limit) (leb (c.cells + count) s.keys) (leb (c.cells + count) s.lits) (leb (c.cells + count) s.marks) h in
    let m = room_facts c.nodes s.nodes k.0 in
    record { node_few = m.0; node_row = m.1; cell_few = leb-true _ _ k.1; key_row = leb-true _ _ k.2; lit_row = leb-true _ _ k.3; mark_row = leb-true _ _ k.4 }

-- too many cells: no room
pub room_none : (c : Counters) (count : ℕ) (s : Sizes) → cell_limit < c.cells + count → room_for c count s ≡ false
room_none c count s h = go (room_for c count s) refl
  where
    go : (t : Bool) → room_for c count s ≡ t → t ≡ false
    go true e = absurd (let f = room_is c count s e in omega (arith, f.cell_few))
    go false e = refl

-- a count of more cells than are left may be cut to one more than those
pub fit_min : (j : Pair) (l r : Node) (c : Counters) (n : ℕ) (s : Sizes) → c.cells ≤ cell_limit
    → fit_plan 2 j l r c (min n (cell_limit - c.cells + 1)) s ≡ fit_plan 2 j l r c n s
fit_min j l r c n s f =
    let top = cell_limit - c.cells + 1 in
    ⊎_elim (λ (h : n < top). ap (λ (k : ℕ). fit_plan 2 j l r c k s) (let q : min n top ≡ n = omega arith in q))
    (λ (h : top ≤ n). ⊎_elim
    (λ (d : max l.depth r.depth < depth_limit). sym (fit_full 2 j l r c (min n top) s d (room_none c (min n top) s (omega arith))) ∙ fit_full 2 j l r c n s d (room_none c n s (omega arith)))
    (λ (d : depth_limit ≤ max l.depth r.depth). sym (fit_deep 2 j l r c (min n top) s d) ∙ fit_deep 2 j l r c n s d)
    (side (max l.depth r.depth) depth_limit))
    (side n top)

-- keys that make a node
module _ (ks : List ℕ) (j : Pair) (l r : Node) (c : Counters) (s : Sizes) where
  pub keys_rest : (n : Node) → keys_plan ks j l r c s ≡ Ok n → (within_limit ks ≡ true) × (fit_plan 2 j l r c (length ks) s ≡ Ok n)
  unfolding keys_plan
  keys_rest n = go (eqb (length ks) 0) (within_limit ks) refl
    where
      go : (t u : Bool) → within_limit ks ≡ u → cond t (Err NoValue) (cond u (fit_plan 2 j l r c (length ks) s) (Err KeyTooLarge)) ≡ Ok n → (within_limit ks ≡ true) × (fit_plan 2 j l r c (length ks) s ≡ Ok n)
      go true u e q = absurd (let z : ◌≡◌ {A = ℕ} 0 1 = cc in omega arith)
      go false true e q = (e, q)
      go false false e q = absurd (let z : ◌≡◌ {A = ℕ} 0 1 = cc in omega arith)

-- table, ids, multipliers, kind: what a plan that makes a node rests on
pub plan_rests : (t m k u : Bool) (U G : Result Node Refusal) (n : Node) → join_plan t m k u U G ≡ Ok n
    → (t ≡ true) × (m ≡ false) × (k ≡ true) × ((U ≡ Ok n) ⊎ (G ≡ Ok n))
unfolding join_plan
plan_rests true false true true U G n q = (refl, refl, refl, inl q)
plan_rests true false true false U G n q = (refl, refl, refl, inr q)
plan_rests true false false u U G n q = absurd (let z : ◌≡◌ {A = ℕ} 0 1 = cc in omega arith)
plan_rests true true k u U G n q = absurd (let z : ◌≡◌ {A = ℕ} 0 1 = cc in omega arith)
plan_rests false m k u U G n q = absurd (let z : ◌≡◌ {A = ℕ} 0 1 = cc in omega arith)

pub record MulFacts (j : Pair) : Type 0 where
  pub lmul_high : j.lmul ≤ mul_limit
  pub rmul_high : j.rmul ≤ mul_limit

pub mul_facts : (j : Pair) (plain : Bool) → muls_ok j plain ≡ true → MulFacts j
unfolding muls_ok
mul_facts j plain h =
    let k = ands5 (leb 1 j.lmul) (leb j.lmul mul_limit) (leb 1 j.rmul) (leb j.rmul mul_limit) ((not plain || not (eqb j.lmul j.rmul)) || eqb j.lmul 1) h in
    record { lmul_high = leb-true _ _ k.1; rmul_high = leb-true _ _ k.3 }

-- a node of the table has few values
pub value_few : (n : Node) (cells : ℕ) → cells ≤ cell_limit → Under n cells → con_len n ≤ cell_limit
unfolding value_count
value_few n cells h u = go (eqb n.kind 0) refl
  where
    go : (t : Bool) → eqb n.kind 0 ≡ t → con_len n ≤ cell_limit
    go true e = rw e (omega arith)
    go false e = let q : n.first + con_len n ≤ cells = u e in omega arith

-- the two children of a checked table
pub record ChildFacts (keys : List ℕ) (c : Counters) (l r : Node) : Type 0 where
  pub cell_few : c.cells ≤ cell_limit
  pub left_few : con_len l ≤ cell_limit
  pub right_few : con_len r ≤ cell_limit
  pub left_mono : Mono (con_len l) (λ (k : ℕ). value_at keys l k)
  pub right_mono : Mono (con_len r) (λ (k : ℕ). value_at keys r k)

pub child_facts : (nodes : List ℕ) (inputs : List ℤ) (keys : List ℕ) (lits : List ℤ) (marks : List ℕ) (clauses : ℕ) (c : Counters) (i j : ℕ)
    → table_ok nodes inputs keys lits marks clauses c ≡ true → (leb c.nodes i || leb c.nodes j) ≡ false → (l r : Node) → l ≡ node_at nodes i → r ≡ node_at nodes j → ChildFacts keys c l r
child_facts nodes inputs keys lits marks clauses c i j checked there l r e d =
    let t = table_facts (node_at nodes) (length nodes / node_words) inputs keys lits marks clauses c checked in
    let o = or_none (leb c.nodes i) (leb c.nodes j) there in
    let few : (k : ℕ) → k < c.nodes → con_len (node_at nodes k) ≤ cell_limit = λ k h. value_few (node_at nodes k) c.cells t.counters.cell_limit_met (node_under t k h) in
    record {
      cell_few = t.counters.cell_limit_met;
      left_few = rw e (few i (leb-false _ _ o.0));
      right_few = rw d (few j (leb-false _ _ o.1));
      left_mono = rw e (node_mono (t.node i (leb-false _ _ o.0)));
      right_mono = rw d (node_mono (t.node j (leb-false _ _ o.1)));
    }

-- what a node that is to be made rests on
pub record MakeFacts (nodes keys : List ℕ) (lits : List ℤ) (marks : List ℕ) (c : Counters) (n : Node) : Type 0 where
  pub ready : RowReady nodes keys n
  pub lit_row : n.first + n.count ≤ length lits
  pub mark_row : n.first + n.count ≤ length marks
  pub node_few : c.nodes < node_limit
  pub node_row : c.nodes * node_words + node_words ≤ length nodes
  pub small : Small n

module _ (nodes : List ℕ) (inputs : List ℤ) (keys : List ℕ) (lits : List ℤ) (marks : List ℕ) (clauses : ℕ) (c : Counters) (j : Pair) where
  abbrev sizes : Sizes
  sizes = record { nodes = length nodes; keys = length keys; lits = length lits; marks = length marks }

  made : TableFacts (node_at nodes) (length nodes / node_words) inputs keys lits marks clauses c → j.left < c.nodes → j.right < c.nodes → MulFacts j
      → (kind count d : ℕ) → kind ≤ 2 → d < depth_limit → RoomFacts c count sizes
      → (eqb kind 1 ≡ false → count ≤ length (node_keys keys (node_at nodes j.left) j.lmul (node_at nodes j.right) j.rmul))
      → (eqb kind 1 ≡ false → (i : ℕ) → i < count → get_or (node_keys keys (node_at nodes j.left) j.lmul (node_at nodes j.right) j.rmul) i 0 < 2 ^ 32)
      → MakeFacts nodes keys lits marks c (inner_node kind j c.cells count (d + 1))
  made t hl hr m kind count d hk hd room size low =
      record {
        ready = record {
          row = room.key_row;
          few = omega (arith, room.cell_few);
          lmul_high = m.lmul_high;
          rmul_high = m.rmul_high;
          left_under = node_under t j.left hl;
          right_under = node_under t j.right hr;
          size = size;
          low = low;
        };
        lit_row = room.lit_row;
        mark_row = room.mark_row;
        node_few = room.node_few;
        node_row = room.node_row;
        small = record {
          kind = omega arith;
          left = omega (arith, room.node_few);
          lmul = omega (arith, m.lmul_high);
          right = omega (arith, room.node_few);
          rmul = omega (arith, m.rmul_high);
          first = omega (arith, room.cell_few);
          count = omega (arith, room.cell_few);
          depth = omega arith;
        };
      }

  pub make_facts : (n : Node) → inner_plan nodes inputs keys lits marks clauses c j ≡ Ok n → MakeFacts nodes keys lits marks c n
  unfolding inner_plan
  make_facts n q =
      let p = plan_rests _ _ _ _ _ _ n q in
      let t = table_facts (node_at nodes) (length nodes / node_words) inputs keys lits marks clauses c p.0 in
      let o = or_none (leb c.nodes j.left) (leb c.nodes j.right) p.1 in
      let hl : j.left < c.nodes = leb-false _ _ o.0 in
      let hr : j.right < c.nodes = leb-false _ _ o.1 in
      let m = mul_facts j _ p.2 in
      let L = node_at nodes j.left in
      let R = node_at nodes j.right in
      let ks = node_keys keys L j.lmul R j.rmul in
      ⊎_elim
      (λ (e : unit_plan j L R c sizes ≡ Ok n).
      let f = fit_rests 1 j L R c (con_len L + con_len R) sizes n e in
      subst (λ (n : Node). MakeFacts nodes keys lits marks c n) f.2
      (made t hl hr m 1 (con_len L + con_len R) (max L.depth R.depth) (omega arith) f.0 (room_is c _ sizes f.1)
      (λ z. absurd (eqb-false 1 1 z refl)) (λ z. absurd (eqb-false 1 1 z refl))))
      (λ (e : general_plan keys j L R c sizes ≡ Ok n).
      let g = keys_rest ks j L R c sizes n e in
      let f = fit_rests 2 j L R c (length ks) sizes n g.1 in
      subst (λ (n : Node). MakeFacts nodes keys lits marks c n) f.2
      (made t hl hr m 2 (length ks) (max L.depth R.depth) (omega arith) f.0 (room_is c _ sizes f.1)
      (λ z. omega arith) (λ z i l. let k : get_or ks i 0 ≤ key_limit = leb-true _ _ (all_at (length ks) _ g.0 i l) in omega arith)))
      p.3
