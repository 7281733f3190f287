-- 01, "Rows and counters": what the rows say. A word past a row's end reads as 0.
use Rattle.std.specs.Prelude.{ℕ, zero, suc, ◌+◌, ◌-◌, ◌*◌, List, Bool, true, false, cond, not, ◌&&◌, ◌||◌, length, get_or, take, drop, eqb, leb, ltb, ℤ, pos, negsuc, nat_abs}
use Rattle.paper.specs.Limits.{node_words}
use Rattle.paper.specs.Below.{all_below}
use Rattle.paper.specs.declared.Node.{Node}

abbrev pub word_from : List ℕ → ℕ → ℕ → ℕ
word_from row base i = get_or row (base + i) 0

-- "eight 32-bit words each: kind (0 leaf, 1 unit, 2 general, 3 dummy), left id, left multiplier, right id, right multiplier, first, number of cells, depth"
unfoldable pub node_at : List ℕ → ℕ → Node
node_at ws id =
    record {
      kind = word_from ws (id * node_words) 0;
      left = word_from ws (id * node_words) 1;
      lmul = word_from ws (id * node_words) 2;
      right = word_from ws (id * node_words) 3;
      rmul = word_from ws (id * node_words) 4;
      first = word_from ws (id * node_words) 5;
      count = word_from ws (id * node_words) 6;
      depth = word_from ws (id * node_words) 7;
    }

abbrev pub is_leaf : Node → Bool
is_leaf n = eqb n.kind 0

abbrev pub is_unit : Node → Bool
is_unit n = eqb n.kind 1

abbrev pub is_general : Node → Bool
is_general n = eqb n.kind 2

abbrev pub is_dummy : Node → Bool
is_dummy n = eqb n.kind 3

-- "Values of a node: leaf {1}; dummy none; unit 1 to its cell count; general its keys."
-- How many there are; and the value at an index, which an inner node's keys hold: a unit's are 1, 2, .. by the table check
unfoldable pub value_count : Node → ℕ
value_count n = cond (is_leaf n) 1 (cond (is_dummy n) 0 n.count)

unfoldable pub value_at : List ℕ → Node → ℕ → ℕ
value_at keys n i = cond (is_leaf n) 1 (word_from keys n.first i)

-- What a parent sees of a child: how many outputs, the value of output j through the multiplier, and the literals.
-- The crate's `con_len`, `map` and `get_lit_slice`. Every connection goes through these three.
abbrev pub con_len : Node → ℕ
con_len child = value_count child

abbrev pub con_val : List ℕ → Node → ℕ → ℕ → ℕ
con_val keys child mul j = mul * value_at keys child j

-- "A child's literals are read where they lie: a part of the input row for a leaf, of the cell row for a unit."
unfoldable pub con_lits : List ℕ → List ℤ → List ℤ → ℕ → List ℤ
con_lits ns ins lits id =
    cond (is_leaf (node_at ns id)) (take 1 (drop (node_at ns id).first ins)) (take (con_len (node_at ns id)) (drop (node_at ns id).first lits))

-- "A literal is a nonzero 32-bit signed number: v, or -v for its negation."
abbrev pub is_neg : ℤ → Bool
is_neg (pos n) = false
is_neg (negsuc n) = true

-- "literals (0 = none)"
abbrev pub is_zero : ℤ → Bool
is_zero (pos zero) = true
is_zero (pos (suc n)) = false
is_zero (negsuc n) = false

-- "input literals nonzero with variables below F"
abbrev pub lit_ok : ℤ → ℕ → Bool
lit_ok x f = not (eqb (nat_abs x) 0) && ltb (nat_abs x) f

-- "marks at most 3 ..; a mark only where there is a literal; cell literals 0 or from F to next - 1"
abbrev pub cell_ok : ℤ → ℕ → ℕ → ℕ → Bool
cell_ok x m f next =
    (leb m 3 && (eqb m 0 || not (eqb (nat_abs x) 0))) && (eqb (nat_abs x) 0 || ((not (is_neg x) && leb f (nat_abs x)) && ltb (nat_abs x) next))

-- the first n input literals
abbrev pub inputs_ok : List ℤ → ℕ → ℕ → Bool
inputs_ok inputs n f = leb n (length inputs) && all_below n (λ i. lit_ok (get_or inputs i (pos 0)) f)

-- the first n cells
abbrev pub cells_ok : List ℤ → List ℕ → ℕ → ℕ → ℕ → Bool
cells_ok lits marks n f next =
    leb n (length lits) && (leb n (length marks) && all_below n (λ i. cell_ok (get_or lits i (pos 0)) (get_or marks i 0) f next))

-- "marks at most 3 (general: at most 1)": those of count cells from first on
abbrev pub marks_low : List ℕ → ℕ → ℕ → Bool
marks_low marks first count =
    leb first (length marks) && (leb count (length marks - first) && all_below count (λ i. leb (get_or marks (first + i) 0) 1))

-- "keys 1, 2, ...": those of count cells from first on
abbrev pub keys_count : List ℕ → ℕ → ℕ → Bool
keys_count keys first count = all_below count (λ i. eqb (word_from keys first i) (i + 1))
