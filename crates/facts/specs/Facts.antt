-- What the table check says, as plain facts: `table_facts` takes a check that passes apart, and `table_made` makes it again of the facts.
-- Assumes nothing.
use Rattle.std.specs.Prelude.{ℕ, ◌+◌, ◌<◌, ◌≤◌, max, List, true, false, not, ◌||◌, ◌≡◌, ◌⊎◌, length, get_or, eqb, ℤ, pos, nat_abs}
use Rattle.paper.specs.Limits.{node_limit, cell_limit, depth_limit, mul_limit, key_limit, var_limit}
use Rattle.paper.specs.Rows.{word_from, is_leaf, is_general, value_count, con_len}
use Rattle.paper.specs.Keys.{node_keys}
use Rattle.paper.specs.Table.{leaves_before, cells_before}
use Rattle.paper.specs.declared.Node.{Node}
use Rattle.paper.specs.declared.Counters.{Counters}
use Rattle.paper.specs.Rows.{is_dummy}

-- ---- counters

pub record CountersFit (c : Counters) (holds keys clauses : ℕ) : Type 0 where
  pub node_limit_met : c.nodes ≤ node_limit
  pub node_row : c.nodes ≤ holds
  pub first_low : 1 ≤ c.first
  pub next_low : c.first ≤ c.next
  pub next_high : c.next ≤ c.last + 1
  pub last_high : c.last ≤ var_limit
  pub cell_limit_met : c.cells ≤ cell_limit
  pub cell_row : c.cells ≤ keys
  pub word_row : c.words ≤ clauses

-- ---- literals and marks

-- an input literal: nonzero, its variable below F
pub record LitFacts (x : ℤ) (f : ℕ) : Type 0 where
  pub some : 1 ≤ nat_abs x
  pub low : nat_abs x < f

-- a cell's literal that is there: a variable from F to next - 1
pub record Held (x : ℤ) (f next : ℕ) : Type 0 where
  pub var : ℕ
  pub is : x ≡ pos var
  pub from : f ≤ var
  pub below : var < next

pub record CellFacts (x : ℤ) (m f next : ℕ) : Type 0 where
  pub mark_high : m ≤ 3
  pub mark_held : x ≡ pos 0 → m ≡ 0
  pub lit : (x ≡ pos 0) ⊎ Held x f next

-- ---- nodes

pub record LeafFacts (n : Node) (inputs : ℕ) : Type 0 where
  pub left : n.left ≡ 0
  pub lmul : n.lmul ≡ 0
  pub right : n.right ≡ 0
  pub rmul : n.rmul ≡ 0
  pub place : n.first ≡ inputs
  pub count : n.count ≡ 0
  pub depth : n.depth ≡ 1

pub record InnerFacts (n l r : Node) (id cells limit : ℕ) : Type 0 where
  pub left_low : n.left < id
  pub right_low : n.right < id
  pub follows : n.first ≡ cells
  pub within : n.first + n.count ≤ limit
  pub shallow : max l.depth r.depth < depth_limit
  pub depth : n.depth ≡ max l.depth r.depth + 1

pub record UnitFacts (keys : List ℕ) (n l r : Node) : Type 0 where
  pub lmul : n.lmul ≡ 1
  pub rmul : n.rmul ≡ 1
  pub left_plain : is_general l ≡ false
  pub right_plain : is_general r ≡ false
  pub sum : n.count ≡ con_len l + con_len r
  pub key : (i : ℕ) → i < n.count → word_from keys n.first i ≡ i + 1

pub record GeneralFacts (keys marks : List ℕ) (n l r : Node) : Type 0 where
  pub lmul_low : 1 ≤ n.lmul
  pub lmul_high : n.lmul ≤ mul_limit
  pub rmul_low : 1 ≤ n.rmul
  pub rmul_high : n.rmul ≤ mul_limit
  -- "General otherwise": a child is general, or the multipliers differ
  pub otherwise : ((is_general l || is_general r) || not (eqb n.lmul n.rmul)) ≡ true
  pub some : 1 ≤ n.count
  pub marks_row : n.first + n.count ≤ length marks
  pub mark : (i : ℕ) → i < n.count → get_or marks (n.first + i) 0 ≤ 1
  pub size : length (node_keys keys l n.lmul r n.rmul) ≡ n.count
  pub key : (i : ℕ) → i < n.count → word_from keys n.first i ≡ get_or (node_keys keys l n.lmul r n.rmul) i 0
  pub key_low : (i : ℕ) → i < n.count → word_from keys n.first i ≤ key_limit

-- a node that passes is of one of the four kinds
pub data NodeFacts (keys marks : List ℕ) (n l r : Node) (id inputs cells limit : ℕ) : Type 0 where
  a_leaf : n.kind ≡ 0 → LeafFacts n inputs → NodeFacts keys marks n l r id inputs cells limit
  a_dummy : n.kind ≡ 3 → LeafFacts n 0 → NodeFacts keys marks n l r id inputs cells limit
  a_unit : n.kind ≡ 1 → InnerFacts n l r id cells limit → UnitFacts keys n l r → NodeFacts keys marks n l r id inputs cells limit
  a_general : n.kind ≡ 2 → InnerFacts n l r id cells limit → GeneralFacts keys marks n l r → NodeFacts keys marks n l r id inputs cells limit

-- node i of a table that is read by `at`
abbrev pub NodeFactsAt : (ℕ → Node) → List ℕ → List ℕ → ℕ → ℕ → Type 0
NodeFactsAt at keys marks limit i = NodeFacts keys marks (at i) (at (at i).left) (at (at i).right) i (leaves_before at i) (cells_before at i) limit

-- ---- the table

pub record TableFacts (at : ℕ → Node) (holds : ℕ) (inputs : List ℤ) (keys : List ℕ) (lits : List ℤ) (marks : List ℕ) (clauses : ℕ) (c : Counters) : Type 0 where
  pub counters : CountersFit c holds (length keys) clauses
  pub input_row : c.inputs ≤ length inputs
  pub input : (i : ℕ) → i < c.inputs → LitFacts (get_or inputs i (pos 0)) c.first
  pub lit_row : c.cells ≤ length lits
  pub mark_row : c.cells ≤ length marks
  pub cell : (i : ℕ) → i < c.cells → CellFacts (get_or lits i (pos 0)) (get_or marks i 0) c.first c.next
  pub node : (i : ℕ) → i < c.nodes → NodeFactsAt at keys marks c.cells i
  pub leaves : leaves_before at c.nodes ≡ c.inputs
  pub cells : cells_before at c.nodes ≡ c.cells

-- the cells of a node, if it is no leaf, lie below a place
abbrev pub Under : Node → ℕ → Type 0
Under n limit = is_leaf n ≡ false → n.first + value_count n ≤ limit

-- the statement of `cells_apart`: the cells of different nodes lie apart
abbrev pub CellsApart : (ℕ → Node) → Counters → Type 0
CellsApart at c = (i k : ℕ) → i < k → k < c.nodes → is_leaf (at i) ≡ false → is_dummy (at i) ≡ false → is_leaf (at k) ≡ false → is_dummy (at k) ≡ false
    → (at i).first + (at i).count ≤ (at k).first
