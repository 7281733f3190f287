-- What the lookups of a weighted demand ask of the table.
use Rattle.std.specs.Prelude.{◌≡◌, List, ℕ, ◌+◌, ◌<◌, ◌≤◌, ◌^◌, get_or}
use Rattle.paper.specs.Rows.{node_at, word_from, value_count, con_len, con_val}
use Rattle.paper.specs.declared.Node.{Node}
use Rattle.paper.specs.declared.Span.{Span}
use Rattle.keys.specs.Least.{largest_of}

-- the keys behind `first`, count of them, ascend
pub record Rising (keys : List ℕ) (first count : ℕ) : Type 0 where
  pub rise : (i j : ℕ) → i < j → j < count → get_or keys (first + i) 0 < get_or keys (first + j) 0

-- .. as those of a general node do; those of a unit are 1, 2, ..
pub record Sorted (keys : List ℕ) (n : Node) : Type 0 where
  pub general : n.kind ≡ 2 → Rising keys n.first n.count
  pub counted : (n.kind ≡ 2 → ⊥) → (n.kind ≡ 0 → ⊥) → (i : ℕ) → i < value_count n → word_from keys n.first i ≡ i + 1

-- the multipliers of a general node: a rest is divided by one, and two values times them, added, have 64 bits
pub record Muls (n : Node) : Type 0 where
  pub left_some : 1 ≤ n.lmul
  pub left_small : n.lmul < 2 ^ 16
  pub right_some : 1 ≤ n.rmul
  pub right_small : n.rmul < 2 ^ 16

-- place y of node k, where the rows have nc cells: 0, or an output; and a general node's cells are there
pub record Place (ns : List ℕ) (nc k y : ℕ) : Type 0 where
  pub out : y ≤ value_count (node_at ns k)
  pub cells : (node_at ns k).kind ≡ 2 → (node_at ns k).first + (node_at ns k).count ≤ nc

-- the place from which on the values of n times m, with `more` on top, are at least v
pub record Cut (keys : List ℕ) (n : Node) (m more v at : ℕ) : Type 0 where
  pub inside : at ≤ con_len n
  pub below : (i : ℕ) → i < at → con_val keys n m i + more < v
  pub above : (i : ℕ) → at ≤ i → i < con_len n → v ≤ con_val keys n m i + more

-- the left outputs that can be one of a pair for v: at least v with the largest right value on top, and below v alone
pub record Pairing (ns keys : List ℕ) (k v : ℕ) (w : Span) : Type 0 where
  pub low : Cut keys (node_at ns (node_at ns k).left) (node_at ns k).lmul (largest_of keys (node_at ns (node_at ns k).right) (node_at ns k).rmul) v w.from
  pub high : Cut keys (node_at ns (node_at ns k).left) (node_at ns k).lmul 0 v w.to
