-- The walk over the records comes to the verdict of the table check; and the words of the records, written out, have the same verdict. Assumes nothing.
use mathlib.Core.Path.{◌≡◌, refl, sym, ap, ◌∙◌}
use mathlib.Core.Bool.{Bool, true, false, cond, ◌&&◌, and-false}
use mathlib.Core.Logic.{⊎_elim}
use mathlib.Core.List.{List, [], ◌∷◌}
use Prim.Native.Nat.{ℕ, zero, suc, ◌+◌, ◌-◌, ◌*◌, ◌/◌, ◌<◌, ◌≤◌}
use native.Mathlib.Omega.{arith}
use borrow.Author.Tests.{lt-ltb, le-ltb, le-leb, lt-leb, eq-eqb, ne_eqb}
use lib.Dec.{ltb, leb, eqb}
use lib.IntN.{ℤ}
use lib.ListN.{length, get_or}
use Rattle.paper.specs.Limits.{node_words, node_limit, cell_limit}
use Rattle.paper.specs.Below.{all_below, sum_below, side}
use Rattle.paper.specs.Rows.{node_at, word_from, is_leaf, is_dummy, inputs_ok, cells_ok}
use Rattle.paper.specs.Table.{range_ok, counters_ok, inner_ok, node_ok, leaf_step, leaves_before, cells_before, node_ok_at, nodes_ok, table_ok_at, table_ok, leaf_ok, dummy_ok}
use Rattle.paper.specs.declared.Node.{Node}
use Rattle.paper.specs.declared.Counters.{Counters}
use Rattle.facts.specs.Facts.{NodeFacts, a_leaf, a_dummy, a_unit, a_general}
use Rattle.facts.proofs.Facts.{node_facts, leaves_few}
use Rattle.records.specs.declared.Record.{Record}
use Rattle.records.specs.declared.Seen.{Seen}
use Rattle.records.specs.Table.{node_of, record_in, records_ok, words_of, earlier_of, begin_of, takes, step_of, finish_of, seen_at}
use Rattle.records.proofs.Laws.{step_failed, step_past, step_not, step_passed}

differ : false ≡ true → ⊥
differ e = let z : ◌≡◌ {A = ℕ} 0 1 = cc in omega arith

-- ---- a child that is not earlier is refused, whatever was read for it

left_late : (n x y : Node) (id cells limit : ℕ) → id ≤ n.left → inner_ok n x y id cells limit ≡ false
unfolding inner_ok
left_late n x y id cells limit a = rw (le-ltb n.left id a)

right_late : (n x y : Node) (id cells limit : ℕ) → id ≤ n.right → inner_ok n x y id cells limit ≡ false
unfolding inner_ok
right_late n x y id cells limit b = rw (le-ltb n.right id b, and-false (ltb n.left id))

no_inner : (keys marks : List ℕ) (n l r : Node) (id inputs cells limit : ℕ) → inner_ok n l r id cells limit ≡ false
    → node_ok keys marks n l r id inputs cells limit ≡ cond (is_leaf n) (leaf_ok n inputs) (cond (is_dummy n) (dummy_ok n) false)
unfolding node_ok
no_inner keys marks n l r id inputs cells limit e = rw e

-- two children that are the same where the id falls
near : (keys marks : List ℕ) (n l r l' r' : Node) (id inputs cells limit : ℕ) → (n.left < id → l ≡ l') → (n.right < id → r ≡ r')
    → node_ok keys marks n l r id inputs cells limit ≡ node_ok keys marks n l' r' id inputs cells limit
near keys marks n l r l' r' id inputs cells limit p q =
    ⊎_elim
    (λ (a : n.left < id).
    ⊎_elim (λ (b : n.right < id). rw (p a, q b))
    (λ (b : id ≤ n.right). no_inner keys marks n l r id inputs cells limit (right_late n l r id cells limit b) ∙ sym (no_inner keys marks n l' r' id inputs cells limit (right_late n l' r' id cells limit b)))
    (side n.right id))
    (λ (a : id ≤ n.left). no_inner keys marks n l r id inputs cells limit (left_late n l r id cells limit a) ∙ sym (no_inner keys marks n l' r' id inputs cells limit (left_late n l' r' id cells limit a)))
    (side n.left id)

earlier_is : (child id : ℕ) → child < id → earlier_of child id ≡ child
earlier_is child id h = rw (lt-ltb child id h)

-- a node that passes keeps the cells within the limit
cells_within : (keys marks : List ℕ) (n l r : Node) (id inputs cells limit : ℕ) → cells ≤ limit → NodeFacts keys marks n l r id inputs cells limit → cells + n.count ≤ limit
cells_within keys marks n l r id inputs cells limit h (a_leaf k f) = omega (arith, h, f.count)
cells_within keys marks n l r id inputs cells limit h (a_dummy k f) = omega (arith, h, f.count)
cells_within keys marks n l r id inputs cells limit h (a_unit k f g) = omega (arith, f.within, f.follows)
cells_within keys marks n l r id inputs cells limit h (a_general k f g) = omega (arith, f.within, f.follows)

-- ---- what needs no node, and the length of the row

and_yes : (b : Bool) → (b && true) ≡ b
and_yes true = refl
and_yes false = refl

counters_split : (c : Counters) (holds keys clauses : ℕ) → counters_ok c holds keys clauses ≡ (counters_ok c c.nodes keys clauses && leb c.nodes holds)
unfolding counters_ok
counters_split c holds keys clauses =
    rw (le-leb c.nodes c.nodes (omega arith)) (go (leb c.nodes node_limit) (leb c.nodes holds) (range_ok c.first c.next c.last) (leb c.cells cell_limit) (leb c.cells keys) (leb c.words clauses))
  where
    go : (a h r x y z : Bool) → (((((a && h) && r) && x) && y) && z) ≡ ((((((a && true) && r) && x) && y) && z) && h)
    go false h r x y z = refl
    go true true r x y z = sym (and_yes (((r && x) && y) && z))
    go true false r x y z = sym (and-false (((r && x) && y) && z))

no_rows : (a h i e n : Bool) → ((a && i) && e) ≡ false → ((a && h) && (i && (e && n))) ≡ false
no_rows false h i e n q = refl
no_rows true false i e n q = refl
no_rows true true false e n q = refl
no_rows true true true false n q = refl
no_rows true true true true n q = absurd (differ (sym q))

rows_yes : (a h i e n : Bool) → ((a && i) && e) ≡ true → ((a && h) && (i && (e && n))) ≡ (h && n)
rows_yes false h i e n q = absurd (differ q)
rows_yes true h false e n q = absurd (differ q)
rows_yes true h true false n q = absurd (differ q)
rows_yes true h true true n q = refl

-- ---- the walk

finish_failed : (s : Seen) (inputs : List ℤ) (keys : List ℕ) (lits : List ℤ) (marks : List ℕ) (clauses : List ℤ) (c : Counters) → s.ok ≡ false → finish_of s inputs keys lits marks clauses c ≡ false
unfolding finish_of
finish_failed s inputs keys lits marks clauses c e = rw e

finish_todo : (s : Seen) (inputs : List ℤ) (keys : List ℕ) (lits : List ℤ) (marks : List ℕ) (clauses : List ℤ) (c : Counters) → (s.todo ≡ 0 → ⊥) → finish_of s inputs keys lits marks clauses c ≡ false
unfolding finish_of
finish_todo s inputs keys lits marks clauses c z = rw (ne_eqb s.todo 0 z, and-false s.ok)

module _ (at : ℕ → Record) (inputs : List ℤ) (keys : List ℕ) (lits : List ℤ) (marks : List ℕ) (clauses : List ℤ) (c : Counters) where
  abbrev node : ℕ → Node
  node i = node_of (at i)

  abbrev test : ℕ → Bool
  test = node_ok_at node keys marks c.cells

  abbrev seen : ℕ → Seen
  seen i = seen_at at inputs keys lits marks clauses c i

  -- the state where no record was refused
  abbrev good : ℕ → Seen
  good i = record { ok = true; leaves = leaves_before node i; cells = cells_before node i; todo = c.nodes - i }

  pub record Good (i : ℕ) (s : Seen) : Type 0 where
    pub is : s ≡ good i
    pub within : cells_before node i ≤ c.cells

  -- what the state after i records is, by whether they all passed
  abbrev After : Bool → ℕ → Seen → Type 0
  After true i s = Good i s
  After false i s = s.ok ≡ false

  -- the test of a step over that state is the check of the node
  takes_is : (i : ℕ) → i < c.nodes → cells_before node i ≤ c.cells
      → takes (node i) (node (earlier_of (at i).left i)) (node (earlier_of (at i).right i)) i (good i) keys marks c ≡ test i
  takes_is i h w = go (test i) refl
    where
      same : node_ok keys marks (node i) (node (earlier_of (at i).left i)) (node (earlier_of (at i).right i)) i (leaves_before node i) (cells_before node i) c.cells ≡ test i
      same = near keys marks (node i) (node (earlier_of (at i).left i)) (node (earlier_of (at i).right i)) (node (at i).left) (node (at i).right) i (leaves_before node i) (cells_before node i) c.cells
          (λ l. ap node (earlier_is (at i).left i l)) (λ l. ap node (earlier_is (at i).right i l))

      go : (t : Bool) → test i ≡ t → takes (node i) (node (earlier_of (at i).left i)) (node (earlier_of (at i).right i)) i (good i) keys marks c ≡ t
      go false e = rw (same, e)
      go true e =
          let f = cells_within keys marks (node i) (node (at i).left) (node (at i).right) i (leaves_before node i) (cells_before node i) c.cells w
          (node_facts keys marks (node i) (node (at i).left) (node (at i).right) i (leaves_before node i) (cells_before node i) c.cells e) in
          rw (same, e, lt-ltb (leaves_before node i) c.nodes (omega (arith, leaves_few node i)), le-leb (cells_before node i + (node i).count) c.cells f)

  -- one record more
  after_more : (i : ℕ) → i < c.nodes → (a : Bool) → (s : Seen) → After a i s → After (a && test i) (suc i) (step_of (at i) (at (earlier_of (at i).left i)) (at (earlier_of (at i).right i)) i s inputs keys lits marks clauses c)
  unfolding sum_below
  after_more i h false s b = rw (← step_failed (at i) (at (earlier_of (at i).left i)) (at (earlier_of (at i).right i)) i s inputs keys lits marks clauses c b) b
  after_more i h true s g = rw g.is (go (test i) refl)
    where
      z : c.nodes - i ≡ 0 → ⊥
      z e = omega arith

      go : (t : Bool) → test i ≡ t → After t (suc i) (step_of (at i) (at (earlier_of (at i).left i)) (at (earlier_of (at i).right i)) i (good i) inputs keys lits marks clauses c)
      go false e = ap (λ (u : Seen). u.ok) (sym (step_not (at i) (at (earlier_of (at i).left i)) (at (earlier_of (at i).right i)) i (good i) inputs keys lits marks clauses c refl z (takes_is i h g.within ∙ e)))
      go true e =
          let d : c.nodes - suc i ≡ c.nodes - i - 1 = omega arith in
          record {
            is = sym (step_passed (at i) (at (earlier_of (at i).left i)) (at (earlier_of (at i).right i)) i (good i) inputs keys lits marks clauses c refl z (takes_is i h g.within ∙ e))
                ∙ ap (λ (k : ℕ). record { ok = true; leaves = leaves_before node i + leaf_step (node i); cells = cells_before node i + (node i).count; todo = k }) (sym d);
            within = cells_within keys marks (node i) (node (at i).left) (node (at i).right) i (leaves_before node i) (cells_before node i) c.cells g.within
                (node_facts keys marks (node i) (node (at i).left) (node (at i).right) i (leaves_before node i) (cells_before node i) c.cells e);
          }

  -- after i records, where the rows passed
  after : (begin_of inputs keys lits marks clauses c).ok ≡ true → (i : ℕ) → i ≤ c.nodes → After (all_below i test) i (seen i)
  unfolding seen_at all_below sum_below begin_of
  after b zero h = record { is = λ t. record { ok = b t; leaves = 0; cells = 0; todo = (let q : c.nodes ≡ c.nodes - 0 = omega arith in q) t }; within = omega arith }
  after b (suc i) h = after_more i (omega arith) (all_below i test) (seen i) (after b i (omega arith))

  -- where they did not, or the state is done, nothing changes
  seen_failed : (k i : ℕ) → (seen i).ok ≡ false → seen (k + i) ≡ seen i
  unfolding seen_at
  seen_failed zero i b = let q : 0 + i ≡ i = omega arith in rw q
  seen_failed (suc k) i b =
      let e = seen_failed k i b in
      let q : suc k + i ≡ suc (k + i) = omega arith in
      rw q (sym (step_failed _ _ _ _ _ inputs keys lits marks clauses c (ap (λ (u : Seen). u.ok) e ∙ b)) ∙ e)

  seen_past : (k i : ℕ) → (seen i).ok ≡ true → (seen i).todo ≡ 0 → seen (k + i) ≡ seen i
  unfolding seen_at
  seen_past zero i b z = let q : 0 + i ≡ i = omega arith in rw q
  seen_past (suc k) i b z =
      let e = seen_past k i b z in
      let q : suc k + i ≡ suc (k + i) = omega arith in
      rw q (sym (step_past _ _ _ _ _ inputs keys lits marks clauses c (ap (λ (u : Seen). u.ok) e ∙ b) (ap (λ (u : Seen). u.todo) e ∙ z)) ∙ e)

  -- the table check, by what needs no node
  table_no : (n : ℕ) → (begin_of inputs keys lits marks clauses c).ok ≡ false → table_ok_at node n inputs keys lits marks (length clauses) c ≡ false
  unfolding begin_of table_ok_at
  table_no n q =
      ap (λ (b : Bool). b && (inputs_ok inputs c.inputs c.first && (cells_ok lits marks c.cells c.first c.next && nodes_ok node keys marks c))) (counters_split c n (length keys) (length clauses))
      ∙ no_rows (counters_ok c c.nodes (length keys) (length clauses)) (leb c.nodes n) (inputs_ok inputs c.inputs c.first) (cells_ok lits marks c.cells c.first c.next) (nodes_ok node keys marks c) q

  table_yes : (n : ℕ) → (begin_of inputs keys lits marks clauses c).ok ≡ true → table_ok_at node n inputs keys lits marks (length clauses) c ≡ (leb c.nodes n && nodes_ok node keys marks c)
  unfolding begin_of table_ok_at
  table_yes n q =
      ap (λ (b : Bool). b && (inputs_ok inputs c.inputs c.first && (cells_ok lits marks c.cells c.first c.next && nodes_ok node keys marks c))) (counters_split c n (length keys) (length clauses))
      ∙ rows_yes (counters_ok c c.nodes (length keys) (length clauses)) (leb c.nodes n) (inputs_ok inputs c.inputs c.first) (cells_ok lits marks c.cells c.first c.next) (nodes_ok node keys marks c) q

  finish_good : finish_of (good c.nodes) inputs keys lits marks clauses c ≡ (eqb (leaves_before node c.nodes) c.inputs && eqb (cells_before node c.nodes) c.cells)
  unfolding finish_of
  finish_good = let z : c.nodes - c.nodes ≡ 0 = omega arith in rw (eq-eqb (c.nodes - c.nodes) 0 z)

  nodes_is : nodes_ok node keys marks c ≡ (all_below c.nodes test && (eqb (leaves_before node c.nodes) c.inputs && eqb (cells_before node c.nodes) c.cells))
  unfolding nodes_ok
  nodes_is = refl

  -- fewer records than nodes
  short : (n : ℕ) → n < c.nodes → (a : Bool) → After a n (seen n) → finish_of (seen n) inputs keys lits marks clauses c ≡ false
  short n h false b = finish_failed (seen n) inputs keys lits marks clauses c b
  short n h true g =
      finish_todo (seen n) inputs keys lits marks clauses c (λ z. let y : c.nodes - n ≡ 0 = sym (ap (λ (u : Seen). u.todo) g.is) ∙ z in omega arith)

  -- all of them
  whole : (n : ℕ) → c.nodes ≤ n → (a : Bool) → After a c.nodes (seen c.nodes) → finish_of (seen n) inputs keys lits marks clauses c ≡ (a && (eqb (leaves_before node c.nodes) c.inputs && eqb (cells_before node c.nodes) c.cells))
  whole n h false b =
      let q : n ≡ n - c.nodes + c.nodes = omega arith in
      ap (λ (k : ℕ). finish_of (seen k) inputs keys lits marks clauses c) q
      ∙ finish_failed (seen (n - c.nodes + c.nodes)) inputs keys lits marks clauses c (ap (λ (u : Seen). u.ok) (seen_failed (n - c.nodes) c.nodes b) ∙ b)
  whole n h true g =
      let q : n ≡ n - c.nodes + c.nodes = omega arith in
      let z : c.nodes - c.nodes ≡ 0 = omega arith in
      ap (λ (k : ℕ). finish_of (seen k) inputs keys lits marks clauses c) q
      ∙ ap (λ (u : Seen). finish_of u inputs keys lits marks clauses c) (seen_past (n - c.nodes) c.nodes (ap (λ (u : Seen). u.ok) g.is) (ap (λ (u : Seen). u.todo) g.is ∙ z) ∙ g.is)
      ∙ finish_good

  -- the walk over n records comes to the table check
  pub verdict : (n : ℕ) → finish_of (seen n) inputs keys lits marks clauses c ≡ table_ok_at node n inputs keys lits marks (length clauses) c
  unfolding seen_at
  verdict n = by_rows (begin_of inputs keys lits marks clauses c).ok refl
    where
      by_rows : (b : Bool) → (begin_of inputs keys lits marks clauses c).ok ≡ b → finish_of (seen n) inputs keys lits marks clauses c ≡ table_ok_at node n inputs keys lits marks (length clauses) c
      by_rows false q =
          let e : n ≡ n + 0 = omega arith in
          ap (λ (k : ℕ). finish_of (seen k) inputs keys lits marks clauses c) e
          ∙ finish_failed (seen (n + 0)) inputs keys lits marks clauses c (ap (λ (u : Seen). u.ok) (seen_failed n 0 q) ∙ q) ∙ sym (table_no n q)
      by_rows true q =
          ⊎_elim
          (λ (h : n < c.nodes).
          short n h (all_below n test) (after q n (omega arith)) ∙ sym (table_yes n q ∙ ap (λ (b : Bool). b && nodes_ok node keys marks c) (lt-leb c.nodes n h)))
          (λ (h : c.nodes ≤ n).
          whole n h (all_below c.nodes test) (after q c.nodes (omega arith)) ∙ sym (table_yes n q ∙ ap (λ (b : Bool). b && nodes_ok node keys marks c) (le-leb c.nodes n h) ∙ nodes_is))
          (side n c.nodes)

-- ---- the same verdict over the words

later : (x : Record) (xs : List Record) (i k : ℕ) → word_from (words_of (x ∷ xs)) (suc i * node_words) k ≡ word_from (words_of xs) (i * node_words) k
unfolding words_of
later x xs i k =
    let e : suc i * node_words + k ≡ suc (suc (suc (suc (suc (suc (suc (suc (i * node_words + k)))))))) = omega arith in
    ap (λ (j : ℕ). get_or (words_of (x ∷ xs)) j 0) e

pub node_words_at : (rs : List Record) (i : ℕ) → node_at (words_of rs) i ≡ node_of (record_in rs i)
unfolding words_of node_at
node_words_at [] i = refl
node_words_at (x ∷ xs) zero = refl
node_words_at (x ∷ xs) (suc i) =
    (λ t. record {
      kind = later x xs i 0 t;
      left = later x xs i 1 t;
      lmul = later x xs i 2 t;
      right = later x xs i 3 t;
      rmul = later x xs i 4 t;
      first = later x xs i 5 t;
      count = later x xs i 6 t;
      depth = later x xs i 7 t;
    })
    ∙ node_words_at xs i

length_words : (rs : List Record) → length (words_of rs) ≡ length rs * node_words
unfolding words_of
length_words [] = refl
length_words (x ∷ xs) = omega (arith, length_words xs)

pub words_same : (rs : List Record) (inputs : List ℤ) (keys : List ℕ) (lits : List ℤ) (marks : List ℕ) (clauses : List ℤ) (c : Counters)
    → table_ok (words_of rs) inputs keys lits marks (length clauses) c ≡ records_ok rs inputs keys lits marks clauses c
words_same rs inputs keys lits marks clauses c =
    let h : length (words_of rs) / node_words ≡ length rs = omega (arith, length_words rs) in
    ap (λ (at : ℕ → Node). table_ok_at at (length (words_of rs) / node_words) inputs keys lits marks (length clauses) c) (λ j i. node_words_at rs i j)
    ∙ ap (λ (n : ℕ). table_ok_at (λ i. node_of (record_in rs i)) n inputs keys lits marks (length clauses) c) h
