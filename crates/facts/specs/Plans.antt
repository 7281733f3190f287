-- What the plans of the calls that add a node say of the node they add. Assumes nothing.
use Rattle.std.specs.Prelude.{ℕ, ◌+◌, ◌/◌, ◌<◌, ◌≤◌, max, List, Bool, true, false, not, ◌||◌, ◌≡◌, ◌⊎◌, length, get_or, eqb}
use Rattle.paper.specs.Limits.{node_limit, cell_limit, depth_limit, mul_limit, key_limit, node_words}
use Rattle.paper.specs.Rows.{node_at, is_general, con_len}
use Rattle.paper.specs.Keys.{node_keys}
use Rattle.paper.specs.Join.{inner_node, plain_pair}
use Rattle.paper.specs.declared.Node.{Node}
use Rattle.paper.specs.declared.Counters.{Counters}
use Rattle.paper.specs.declared.Pair.{Pair}
use Rattle.paper.specs.declared.Sizes.{Sizes}

-- ---- leaf and dummy

pub record NodeRoom (c : Counters) (words : ℕ) : Type 0 where
  pub few : c.nodes < node_limit
  pub row : c.nodes < words / node_words

-- ---- inner

pub record CellRoom (c : Counters) (count : ℕ) (s : Sizes) : Type 0 where
  pub node : NodeRoom c s.nodes
  pub limit : c.cells + count ≤ cell_limit
  pub keys : c.cells + count ≤ s.keys
  pub lits : c.cells + count ≤ s.lits
  pub marks : c.cells + count ≤ s.marks

pub record Fitted (kind : ℕ) (j : Pair) (l r : Node) (c : Counters) (count : ℕ) (s : Sizes) (n : Node) : Type 0 where
  pub is : n ≡ inner_node kind j c.cells count (max l.depth r.depth + 1)
  pub shallow : max l.depth r.depth < depth_limit
  pub room : CellRoom c count s

-- the multipliers that 7 lets through
pub record MulsFit (j : Pair) (plain : Bool) : Type 0 where
  pub lmul_low : 1 ≤ j.lmul
  pub lmul_high : j.lmul ≤ mul_limit
  pub rmul_low : 1 ≤ j.rmul
  pub rmul_high : j.rmul ≤ mul_limit
  pub equal : ((not plain || not (eqb j.lmul j.rmul)) || eqb j.lmul 1) ≡ true

-- the node that is made: a unit, or a general node
pub record UnitMade (j : Pair) (l r : Node) (c : Counters) (s : Sizes) (n : Node) : Type 0 where
  pub lmul : j.lmul ≡ 1
  pub rmul : j.rmul ≡ 1
  pub left_plain : is_general l ≡ false
  pub right_plain : is_general r ≡ false
  pub fitted : Fitted 1 j l r c (con_len l + con_len r) s n

pub record GeneralMade (keys : List ℕ) (j : Pair) (l r : Node) (c : Counters) (s : Sizes) (n : Node) : Type 0 where
  pub muls : MulsFit j (plain_pair l r)
  pub otherwise : ((is_general l || is_general r) || not (eqb j.lmul j.rmul)) ≡ true
  pub some : 1 ≤ length (node_keys keys l j.lmul r j.rmul)
  pub low : (i : ℕ) → i < length (node_keys keys l j.lmul r j.rmul) → get_or (node_keys keys l j.lmul r j.rmul) i 0 ≤ key_limit
  pub fitted : Fitted 2 j l r c (length (node_keys keys l j.lmul r j.rmul)) s n

pub record InnerMade (nodes : List ℕ) (keys : List ℕ) (c : Counters) (j : Pair) (s : Sizes) (n : Node) : Type 0 where
  pub left_there : j.left < c.nodes
  pub right_there : j.right < c.nodes
  pub made : UnitMade j (node_at nodes j.left) (node_at nodes j.right) c s n ⊎ GeneralMade keys j (node_at nodes j.left) (node_at nodes j.right) c s n
