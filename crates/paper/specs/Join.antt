-- 01: inner. What the call that adds an inner node answers, and what it leaves in the rows. "inner 2, 4, 7, 8, 9, 10, 11".
use Rattle.paper.specs.Answers.{adds}
use Rattle.paper.specs.declared.Refusal.{Refusal}
use Rattle.std.specs.Prelude.{ℕ, zero, suc, ◌+◌, max, List, [], ◌∷◌, Bool, cond, not, ◌&&◌, ◌||◌, length, get_or, replicate, eqb, leb, ltb, ℤ, pos, Err, Ok, Result}
use Rattle.std.proofs.Math.Seq.{paste}
use Rattle.paper.specs.Limits.{cell_limit, depth_limit, mul_limit, key_limit}
use Rattle.paper.specs.Below.{all_below}
use Rattle.paper.specs.Rows.{node_at, is_unit, is_general, con_len}
use Rattle.paper.specs.Keys.{node_keys}
use Rattle.paper.specs.Table.{table_ok}
use Rattle.paper.specs.Grow.{room_for_node, put_node}
use Rattle.paper.specs.declared.Node.{Node}
use Rattle.paper.specs.declared.Counters.{Counters}
use Rattle.paper.specs.declared.Refusal.TheVariants.{TableFails, NoSuchNode, BadMultiplier, NoValue, KeyTooLarge, TooDeep, NoRoom}
use Rattle.paper.specs.declared.Added.{Added}
use Rattle.paper.specs.declared.Pair.{Pair}
use Rattle.paper.specs.declared.Sizes.{Sizes}

-- k, k + 1, .., n of them; and 1, .., n
unfoldable pub count_from : ℕ → ℕ → List ℕ
count_from k zero = []
count_from k (suc n) = k ∷ count_from (suc k) n

abbrev pub count_up : ℕ → List ℕ
count_up n = count_from 1 n

-- 11 "what is added does not fit the node, input or cell row or limit"
unfoldable pub room_for : Counters → ℕ → Sizes → Bool
room_for c count s =
    (((room_for_node c.nodes s.nodes && leb (c.cells + count) cell_limit) && leb (c.cells + count) s.keys) && leb (c.cells + count) s.lits) && leb (c.cells + count) s.marks

-- 7 "multiplier outside 1 to 65,535, or equal and not 1 with no general child"
unfoldable pub muls_ok : Pair → Bool → Bool
muls_ok j plain =
    (((leb 1 j.lmul && leb j.lmul mul_limit) && leb 1 j.rmul) && leb j.rmul mul_limit) && ((not plain || not (eqb j.lmul j.rmul)) || eqb j.lmul 1)

abbrev pub inner_node : ℕ → Pair → ℕ → ℕ → ℕ → Node
inner_node kind j first count depth =
    record { kind = kind; left = j.left; lmul = j.lmul; right = j.right; rmul = j.rmul; first = first; count = count; depth = depth }

-- 10 "depth above 64", then 11
unfoldable pub fit_plan : ℕ → Pair → Node → Node → Counters → ℕ → Sizes → Result Node Refusal
fit_plan kind j l r c count s =
    cond (ltb (max l.depth r.depth) depth_limit)
    (cond (room_for c count s) (Ok (inner_node kind j c.cells count (max l.depth r.depth + 1))) (Err NoRoom))
    (Err TooDeep)

-- "cells = left count + right count, keys 1, 2, ... A unit over two dummies has no cells and is allowed."
abbrev pub unit_plan : Pair → Node → Node → Counters → Sizes → Result Node Refusal
unit_plan j l r c s = fit_plan 1 j l r c (con_len l + con_len r) s

abbrev pub within_limit : List ℕ → Bool
within_limit s = all_below (length s) (λ i. leb (get_or s i 0) key_limit)

-- 8 "general node without any value", 9 "a key above the limit", then depth and room
unfoldable pub keys_plan : List ℕ → Pair → Node → Node → Counters → Sizes → Result Node Refusal
keys_plan ks j l r c s =
    cond (eqb (length ks) 0) (Err NoValue) (cond (within_limit ks) (fit_plan 2 j l r c (length ks) s) (Err KeyTooLarge))

abbrev pub general_plan : List ℕ → Pair → Node → Node → Counters → Sizes → Result Node Refusal
general_plan keys j l r c s = keys_plan (node_keys keys l j.lmul r j.rmul) j l r c s

-- "no child is general"
abbrev pub plain_pair : Node → Node → Bool
plain_pair l r = not (is_general l) && not (is_general r)

-- 2 the table, 4 the ids, 7 the multipliers, then by kind
unfoldable pub join_plan : Bool → Bool → Bool → Bool → Result Node Refusal → Result Node Refusal → Result Node Refusal
join_plan table missing muls unit u g =
    cond table (cond missing (Err NoSuchNode) (cond muls (cond unit u g) (Err BadMultiplier))) (Err TableFails)

-- "Unit, when no child is general and the multipliers are equal"
abbrev pub nodes_plan : Bool → List ℕ → Node → Node → Counters → Pair → Sizes → Result Node Refusal
nodes_plan table keys l r c j s =
    join_plan table (leb c.nodes j.left || leb c.nodes j.right) (muls_ok j (plain_pair l r)) (plain_pair l r && eqb j.lmul j.rmul) (unit_plan j l r c s) (general_plan keys j l r c s)

unfoldable pub inner_plan : List ℕ → List ℤ → List ℕ → List ℤ → List ℕ → ℕ → Counters → Pair → Result Node Refusal
inner_plan nodes inputs keys lits marks clauses c j =
    nodes_plan (table_ok nodes inputs keys lits marks clauses c) keys (node_at nodes j.left) (node_at nodes j.right) c j
    (record { nodes = length nodes; keys = length keys; lits = length lits; marks = length marks })

-- a new node's keys
abbrev pub new_keys : List ℕ → List ℕ → Node → List ℕ
new_keys nodes keys n =
    cond (is_unit n) (count_up n.count) (node_keys keys (node_at nodes n.left) n.lmul (node_at nodes n.right) n.rmul)

-- the answer, and the rows after it. "A new cell has literal 0 and mark 0."
abbrev pub inner_added : Result Node Refusal → Counters → Result Added Refusal
inner_added (Ok n) c = adds c.nodes (record { first = c.first; next = c.next; last = c.last; nodes = c.nodes + 1; inputs = c.inputs; cells = n.first + n.count; words = c.words })
inner_added (Err why) c = Err why

abbrev pub inner_nodes : Result Node Refusal → List ℕ → Counters → List ℕ
inner_nodes (Ok n) nodes c = put_node nodes c.nodes n
inner_nodes (Err why) nodes c = nodes

abbrev pub inner_keys : Result Node Refusal → List ℕ → List ℕ → List ℕ
inner_keys (Ok n) nodes keys = paste keys n.first (new_keys nodes keys n) n.count
inner_keys (Err why) nodes keys = keys

abbrev pub inner_lits : Result Node Refusal → List ℤ → List ℤ
inner_lits (Ok n) lits = paste lits n.first (replicate n.count (pos 0)) n.count
inner_lits (Err why) lits = lits

abbrev pub inner_marks : Result Node Refusal → List ℕ → List ℕ
inner_marks (Ok n) marks = paste marks n.first (replicate n.count 0) n.count
inner_marks (Err why) marks = marks
