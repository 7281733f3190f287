-- What writing a new node's keys rests on.
use Rattle.std.specs.Prelude.{ℕ, ◌+◌, ◌<◌, ◌≤◌, ◌^◌, List, false, ◌≡◌, length, get_or}
use Rattle.paper.specs.Limits.{cell_limit, mul_limit}
use Rattle.paper.specs.Rows.{node_at, is_unit}
use Rattle.paper.specs.Keys.{node_keys}
use Rattle.paper.specs.declared.Node.{Node}
use Rattle.facts.specs.Facts.{Under}

pub record RowReady (nodes keys : List ℕ) (n : Node) : Type 0 where
  pub row : n.first + n.count ≤ length keys
  pub few : n.count ≤ cell_limit
  pub lmul_high : n.lmul ≤ mul_limit
  pub rmul_high : n.rmul ≤ mul_limit
  pub left_under : Under (node_at nodes n.left) n.first
  pub right_under : Under (node_at nodes n.right) n.first
  pub size : is_unit n ≡ false → n.count ≤ length (node_keys keys (node_at nodes n.left) n.lmul (node_at nodes n.right) n.rmul)
  pub low : is_unit n ≡ false → (i : ℕ) → i < n.count → get_or (node_keys keys (node_at nodes n.left) n.lmul (node_at nodes n.right) n.rmul) i 0 < 2 ^ 32
