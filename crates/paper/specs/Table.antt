-- 01: "The table check accepts exactly: counters inside the rows, the limits and 1 ≤ F ≤ next ≤ last + 1 ≤ 2147483648; child ids smaller
-- than the node's own; every word, key and depth by the rules above; input literals nonzero with variables below F; marks at most 3
-- (general: at most 1); a mark only where there is a literal; cell literals 0 or from F to next - 1."
-- The nodes are read by `at`, and their row holds `holds` of them: over the words `at` is `node_at nodes`, over records it is the record itself.
use Rattle.std.specs.Prelude.{ℕ, ◌+◌, ◌/◌, max, List, Bool, false, cond, not, ◌&&◌, ◌||◌, length, eqb, leb, ltb, ℤ}
use Rattle.paper.specs.Limits.{node_limit, cell_limit, depth_limit, mul_limit, var_limit, node_words}
use Rattle.paper.specs.Below.{all_below, sum_below}
use Rattle.paper.specs.Rows.{node_at, is_leaf, is_unit, is_general, is_dummy, con_len, inputs_ok, cells_ok, marks_low, keys_count}
use Rattle.paper.specs.Keys.{node_keys, row_equals}
use Rattle.paper.specs.declared.Node.{Node}
use Rattle.paper.specs.declared.Counters.{Counters}

abbrev pub nodes_fit : ℕ → ℕ → Bool
nodes_fit n holds = leb n node_limit && leb n holds

-- "1 ≤ F ≤ next ≤ last + 1 ≤ 2147483648"
abbrev pub range_ok : ℕ → ℕ → ℕ → Bool
range_ok first next last = leb last var_limit && ((leb 1 first && leb first next) && leb next (last + 1))

-- "counters inside the rows, the limits": the input, literal and mark rows have this in `inputs_ok` and `cells_ok`
unfoldable pub counters_ok : Counters → ℕ → ℕ → ℕ → Bool
counters_ok c holds keys clauses =
    (((nodes_fit c.nodes holds && range_ok c.first c.next c.last) && leb c.cells cell_limit) && leb c.cells keys) && leb c.words clauses

-- "A leaf's first is its place in the input row; its other middle words are 0." "Leaf and dummy have depth 1"
unfoldable pub leaf_ok : Node → ℕ → Bool
leaf_ok n inputs =
    (((((eqb n.left 0 && eqb n.lmul 0) && eqb n.right 0) && eqb n.rmul 0) && eqb n.first inputs) && eqb n.count 0) && eqb n.depth 1

-- "A dummy's are all 0."
unfoldable pub dummy_ok : Node → Bool
dummy_ok n =
    (((((eqb n.left 0 && eqb n.lmul 0) && eqb n.right 0) && eqb n.rmul 0) && eqb n.first 0) && eqb n.count 0) && eqb n.depth 1

-- "an inner node has 1 + the larger child depth", at most 64
abbrev pub depth_ok : ℕ → ℕ → ℕ → Bool
depth_ok depth a b = ltb (max a b) depth_limit && eqb depth (max a b + 1)

-- "child ids smaller than the node's own"; "Inner nodes' cells follow each other in node order without gaps"; the depth
unfoldable pub inner_ok : Node → Node → Node → ℕ → ℕ → ℕ → Bool
inner_ok n l r id cells limit =
    (((ltb n.left id && ltb n.right id) && eqb n.first cells) && leb (n.first + n.count) limit) && depth_ok n.depth l.depth r.depth

-- "Unit, when no child is general and the multipliers are equal: they must both be 1; cells = left count + right count, keys 1, 2, ..."
unfoldable pub unit_ok : List ℕ → Node → Node → Node → Bool
unit_ok keys n l r =
    ((((eqb n.lmul 1 && eqb n.rmul 1) && not (is_general l)) && not (is_general r)) && eqb n.count (con_len l + con_len r))
    && keys_count keys n.first n.count

-- "General otherwise: keys are L, R and all sums l + r, ascending, each once; there is at least one."
unfoldable pub general_ok : List ℕ → List ℕ → Node → Node → Node → Bool
general_ok keys marks n l r =
    (((((leb 1 n.lmul && leb n.lmul mul_limit) && leb 1 n.rmul) && leb n.rmul mul_limit) && ((is_general l || is_general r) || not (eqb n.lmul n.rmul))) && leb 1 n.count)
    && (marks_low marks n.first n.count && row_equals keys n.first n.count (node_keys keys l n.lmul r n.rmul))

-- a node by the rules of its kind: its children, its id, the inputs and cells of the nodes before it, and the cells in use
unfoldable pub node_ok : List ℕ → List ℕ → Node → Node → Node → ℕ → ℕ → ℕ → ℕ → Bool
node_ok keys marks n l r id inputs cells limit =
    cond (is_leaf n) (leaf_ok n inputs)
    (cond (is_dummy n) (dummy_ok n)
    (inner_ok n l r id cells limit
    && cond (is_unit n) (unit_ok keys n l r) (cond (is_general n) (general_ok keys marks n l r) false)))

abbrev pub leaf_step : Node → ℕ
leaf_step n = cond (is_leaf n) 1 0

-- the leaves, and the cells, of the nodes before node i
abbrev pub leaves_before : (ℕ → Node) → ℕ → ℕ
leaves_before at i = sum_below i (λ k. leaf_step (at k))

abbrev pub cells_before : (ℕ → Node) → ℕ → ℕ
cells_before at i = sum_below i (λ k. (at k).count)

abbrev pub node_ok_at : (ℕ → Node) → List ℕ → List ℕ → ℕ → ℕ → Bool
node_ok_at at keys marks limit i =
    node_ok keys marks (at i) (at (at i).left) (at (at i).right) i (leaves_before at i) (cells_before at i) limit

-- every node; and the inputs and cells in use are those of the nodes
unfoldable pub nodes_ok : (ℕ → Node) → List ℕ → List ℕ → Counters → Bool
nodes_ok at keys marks c =
    all_below c.nodes (node_ok_at at keys marks c.cells)
    && (eqb (leaves_before at c.nodes) c.inputs && eqb (cells_before at c.nodes) c.cells)

unfoldable pub table_ok_at : (ℕ → Node) → ℕ → List ℤ → List ℕ → List ℤ → List ℕ → ℕ → Counters → Bool
table_ok_at at holds inputs keys lits marks clauses c =
    counters_ok c holds (length keys) clauses
    && (inputs_ok inputs c.inputs c.first && (cells_ok lits marks c.cells c.first c.next && nodes_ok at keys marks c))

-- over the words: a row of n words holds n / 8 nodes, rounded down
abbrev pub table_ok : List ℕ → List ℤ → List ℕ → List ℤ → List ℕ → ℕ → Counters → Bool
table_ok nodes inputs keys lits marks clauses c = table_ok_at (node_at nodes) (length nodes / node_words) inputs keys lits marks clauses c

-- "Working area: a signed row and a byte row, each at least as long as the larger of cells used and nodes used."
unfoldable pub work_ok : ℕ → ℕ → Counters → Bool
work_ok ints bytes c = leb (max c.cells c.nodes) ints && leb (max c.cells c.nodes) bytes
