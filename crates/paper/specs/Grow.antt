-- 01: fresh, leaf, dummy. What the calls that begin a table and add a leaf or the dummy answer, and what they leave in the rows.
use Rattle.paper.specs.Answers.{adds}
use Rattle.paper.specs.declared.Refusal.{Refusal}
use Rattle.std.specs.Prelude.{ℕ, ◌+◌, ◌*◌, ◌/◌, List, Bool, true, cond, ◌&&◌, length, get_or, set, eqb, ltb, ℤ, pos, nat_abs, Err, None, Ok, Option, Result, Some}
use Rattle.std.specs.Bool.{beq}
use Rattle.paper.specs.Limits.{node_limit, node_words}
use Rattle.paper.specs.Below.{first_below}
use Rattle.paper.specs.Rows.{node_at, is_leaf, is_dummy, is_neg, lit_ok}
use Rattle.paper.specs.Table.{range_ok, table_ok}
use Rattle.paper.specs.declared.Node.{Node}
use Rattle.paper.specs.declared.Counters.{Counters}
use Rattle.paper.specs.declared.Refusal.TheVariants.{TableFails, BadLiteral, NoRoom, BadVariables}
use Rattle.paper.specs.declared.Added.{Added}

-- "F and last are set by the fresh call, which sets next, the first free variable, to F and zeroes the counts, clause length included."
abbrev pub begun : ℕ → ℕ → Counters
begun first last = record { first = first; next = first; last = last; nodes = 0; inputs = 0; cells = 0; words = 0 }

-- "fresh 15"
unfoldable pub fresh_of : ℕ → ℕ → Result Counters Refusal
fresh_of first last = cond (range_ok first first last) (Ok (begun first last)) (Err BadVariables)

abbrev pub same_lit : ℤ → ℤ → Bool
same_lit x y = eqb (nat_abs x) (nat_abs y) && beq (is_neg x) (is_neg y)

-- the node is a leaf with the literal x
abbrev pub leaf_here : List ℤ → Node → ℤ → Bool
leaf_here inputs n x = is_leaf n && (ltb n.first (length inputs) && same_lit (get_or inputs n.first (pos 0)) x)

-- "an equal literal already present answers with its lowest id"; "existing dummy's lowest id"; count where there is none
abbrev pub first_leaf : List ℕ → List ℤ → ℕ → ℤ → ℕ
first_leaf nodes inputs count x = first_below count (λ i. leaf_here inputs (node_at nodes i) x)

abbrev pub first_dummy : List ℕ → ℕ → ℕ
first_dummy nodes count = first_below count (λ i. is_dummy (node_at nodes i))

-- the eight words of node id, written
unfoldable pub put_node : List ℕ → ℕ → Node → List ℕ
put_node ws id n =
    set (set (set (set (set (set (set (set ws (id * node_words) n.kind) (id * node_words + 1) n.left) (id * node_words + 2) n.lmul) (id * node_words + 3) n.right) (id * node_words + 4) n.rmul) (id * node_words + 5) n.first) (id * node_words + 6) n.count) (id * node_words + 7) n.depth

abbrev pub leaf_node : ℕ → Node
leaf_node place = record { kind = 0; left = 0; lmul = 0; right = 0; rmul = 0; first = place; count = 0; depth = 1 }

abbrev pub dummy_node : Node
dummy_node = record { kind = 3; left = 0; lmul = 0; right = 0; rmul = 0; first = 0; count = 0; depth = 1 }

-- one node more fits the limit and a row of len words
abbrev pub room_for_node : ℕ → ℕ → Bool
room_for_node nodes len = ltb nodes node_limit && ltb nodes (len / node_words)

-- "leaf 2, 6, then an equal literal already present answers with its lowest id, then 11; dummy 2, existing dummy's lowest id, 11"
unfoldable pub choose : Bool → Bool → ℕ → ℕ → Bool → Result (Option ℕ) Refusal
choose table literal found count room =
    cond table (cond literal (cond (ltb found count) (Ok (Some found)) (cond room (Ok None) (Err NoRoom))) (Err BadLiteral)) (Err TableFails)

unfoldable pub leaf_plan : List ℕ → List ℤ → List ℕ → List ℤ → List ℕ → ℕ → Counters → ℤ → Result (Option ℕ) Refusal
leaf_plan nodes inputs keys lits marks clauses c x =
    choose (table_ok nodes inputs keys lits marks clauses c) (lit_ok x c.first) (first_leaf nodes inputs c.nodes x) c.nodes
    (room_for_node c.nodes (length nodes) && ltb c.inputs (length inputs))

unfoldable pub dummy_plan : List ℕ → List ℤ → List ℕ → List ℤ → List ℕ → ℕ → Counters → Result (Option ℕ) Refusal
dummy_plan nodes inputs keys lits marks clauses c =
    choose (table_ok nodes inputs keys lits marks clauses c) true (first_dummy nodes c.nodes) c.nodes (room_for_node c.nodes (length nodes))

abbrev pub with_leaf : Counters → Counters
with_leaf c = record { first = c.first; next = c.next; last = c.last; nodes = c.nodes + 1; inputs = c.inputs + 1; cells = c.cells; words = c.words }

abbrev pub with_dummy : Counters → Counters
with_dummy c = record { first = c.first; next = c.next; last = c.last; nodes = c.nodes + 1; inputs = c.inputs; cells = c.cells; words = c.words }

-- the answer, and the rows after it: only a new node is written
abbrev pub leaf_added : Result (Option ℕ) Refusal → Counters → Result Added Refusal
leaf_added (Ok (Some id)) c = adds id c
leaf_added (Ok None) c = adds c.nodes (with_leaf c)
leaf_added (Err why) c = Err why

abbrev pub leaf_nodes : Result (Option ℕ) Refusal → List ℕ → Counters → List ℕ
leaf_nodes (Ok (Some id)) nodes c = nodes
leaf_nodes (Ok None) nodes c = put_node nodes c.nodes (leaf_node c.inputs)
leaf_nodes (Err why) nodes c = nodes

abbrev pub leaf_inputs : Result (Option ℕ) Refusal → List ℤ → Counters → ℤ → List ℤ
leaf_inputs (Ok (Some id)) inputs c x = inputs
leaf_inputs (Ok None) inputs c x = set inputs c.inputs x
leaf_inputs (Err why) inputs c x = inputs

abbrev pub dummy_added : Result (Option ℕ) Refusal → Counters → Result Added Refusal
dummy_added (Ok (Some id)) c = adds id c
dummy_added (Ok None) c = adds c.nodes (with_dummy c)
dummy_added (Err why) c = Err why

abbrev pub dummy_nodes : Result (Option ℕ) Refusal → List ℕ → Counters → List ℕ
dummy_nodes (Ok (Some id)) nodes c = nodes
dummy_nodes (Ok None) nodes c = put_node nodes c.nodes dummy_node
dummy_nodes (Err why) nodes c = nodes
