-- The net that the words of a table show, what is asked of it, and the literals that a parent reads of a child.
use Rattle.std.specs.Prelude.{◌≡◌, List, ℕ, zero, suc, ◌+◌, ◌<◌, ◌≤◌, ℤ, pos, length, get_or}
use Rattle.paper.specs.Rows.{node_at, value_count}
use Rattle.meaning.specs.Table.{Kind, leaf, dummy, unit, general, Node}
use Rattle.meaning.specs.Rows.{Net, key_in, Room}

-- 0 leaf, 1 unit, 2 general, 3 dummy
abbrev pub kind_of : ℕ → Kind
kind_of zero = leaf
kind_of (suc zero) = unit
kind_of (suc (suc zero)) = general
kind_of (suc (suc (suc k))) = dummy

abbrev pub code_of : Kind → ℕ
code_of leaf = 0
code_of unit = 1
code_of general = 2
code_of dummy = 3

-- only a leaf reads the input row: in another node that word is the first cell
abbrev pub input_of : Kind → ℤ → ℤ
input_of leaf z = z
input_of dummy z = pos 0
input_of unit z = pos 0
input_of general z = pos 0

abbrev pub node_of : List ℕ → List ℤ → ℕ → Node
node_of ns ins n =
    record {
      kind = kind_of (node_at ns n).kind;
      input = input_of (kind_of (node_at ns n).kind) (get_or ins (node_at ns n).first (pos 0));
      left = (node_at ns n).left;
      lmul = (node_at ns n).lmul;
      right = (node_at ns n).right;
      rmul = (node_at ns n).rmul;
      count = value_count (node_at ns n);
    }

abbrev pub net_of : List ℕ → List ℤ → List ℕ → ℕ → ℕ → Net
net_of ns ins keys size f = record { size = size; node = node_of ns ins; first = λ n. (node_at ns n).first; keys = keys; from = f }

-- the value that output j of node n tells of
abbrev pub key_of : Net → ℕ → ℕ → ℕ
key_of g n j = key_in (g.node n).kind (get_or g.keys (g.first n + j) 0)

-- what the rules of keys and multipliers give
pub record Sharp (g : Net) : Type 0 where
  pub lpos : (n : ℕ) → n < g.size → (g.node n).kind ≡ general → 0 < (g.node n).lmul
  pub rpos : (n : ℕ) → n < g.size → (g.node n).kind ≡ general → 0 < (g.node n).rmul
  pub kpos : (n j : ℕ) → n < g.size → j < (g.node n).count → 0 < key_of g n j
  pub apart : (n j i : ℕ) → n < g.size → j < (g.node n).count → i < (g.node n).count → key_of g n j ≡ key_of g n i → j ≡ i

-- what a run needs of the words: size nodes, len cells
pub record Fit (ns : List ℕ) (ins : List ℤ) (keys : List ℕ) (size from len : ℕ) : Type 0 where
  pub kinds : (n : ℕ) → n < size → (node_at ns n).kind ≤ 3
  pub leaf_in : (n : ℕ) → n < size → (node_at ns n).kind ≡ 0 → (node_at ns n).first < length ins
  pub room : Room (net_of ns ins keys size from) len
