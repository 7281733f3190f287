-- 01: unweighted and weighted, with their refusals. "unweighted 2, 3, 4, 5, 1, 12, 13; weighted 2, 3, 4, 1, 12, 13".
use Rattle.paper.specs.Answers.{gives}
use Rattle.paper.specs.declared.Refusal.{Refusal}
use Rattle.std.specs.Prelude.{ℕ, ◌+◌, ◌*◌, List, ◌++◌, Bool, true, false, cond, length, take, drop, leb, ltb, ℤ, Err, Ok, None, Option, Result, Some}
use Rattle.std.proofs.lemmas.List.Edits.{sets}
use Rattle.paper.specs.Limits.{node_words}
use Rattle.paper.specs.Rows.{node_at, is_general, value_count, con_lits}
use Rattle.paper.specs.Table.{table_ok, work_ok}
use Rattle.paper.specs.Plain.{St, lit_at, plain_run}
use Rattle.paper.specs.Weighted.{output_of, place_of, weigh_run}
use Rattle.paper.specs.declared.Want.{Want}
use Rattle.paper.specs.declared.Counters.{Counters}
use Rattle.paper.specs.declared.Refusal.TheVariants.{NoSuchOutput, TableFails, WorkShort, NoSuchNode, GeneralNode, VariablesOut, ClausesShort}
use Rattle.paper.specs.declared.Demanded.{Demanded}

-- ---- the part of a row that is in use: a run is over these parts, and what lies past them is never looked at and stays as it stood

abbrev pub nodes_used : List ℕ → Counters → List ℕ
nodes_used nodes c = take (c.nodes * node_words) nodes

abbrev pub inputs_used : List ℤ → Counters → List ℤ
inputs_used inputs c = take c.inputs inputs

abbrev pub cells_used : {A : Type 0} → List A → Counters → List A
cells_used row c = take c.cells row

abbrev pub cells_back : {A : Type 0} → List A → List A → Counters → List A
cells_back new old c = new ++ drop c.cells old

-- ---- the refusals

abbrev pub ran_counters : St (List ℤ) → Counters → Counters
ran_counters p c = record { first = c.first; next = p.next; last = c.last; nodes = c.nodes; inputs = c.inputs; cells = c.cells; words = c.words + length p.out }

-- "12 and 13 are given exactly if the plain run with unlimited room takes more variables or words than remain."
unfoldable pub room_of : St (List ℤ) → Counters → ℕ → ℤ → Result Demanded Refusal
room_of p c clauses z =
    cond (leb p.next (c.last + 1))
    (cond (leb (c.words + length p.out) clauses) (gives z (ran_counters p c)) (Err ClausesShort))
    (Err VariablesOut)

-- 2 the table, 3 the working area, 4 the node, 5 a general node (never so where the demand is weighted), 1 the output, then 12 and 13
unfoldable pub demanded_of : Bool → Bool → Bool → Bool → Bool → Result Demanded Refusal → Result Demanded Refusal
demanded_of table work here general output room =
    cond table (cond work (cond here (cond general (Err GeneralNode) (cond output room (Err NoSuchOutput))) (Err NoSuchNode)) (Err WorkShort)) (Err TableFails)

-- "Nothing but 0 changes anything outside the working area"
abbrev pub demanded_row : {A : Type 0} → Result Demanded Refusal → A → A → A
demanded_row (Ok a) old new = new
demanded_row (Err why) old new = old

-- ---- unweighted: node id, index i, directions w; clauses, ints and bytes are the lengths of the clause row and of the working area

abbrev pub count_run : List ℕ → List ℤ → List ℤ → List ℕ → Counters → ℕ → ℕ → Want → St (List ℤ)
count_run nodes inputs lits marks c id i w =
    plain_run (nodes_used nodes c) (inputs_used inputs c) (cells_used lits c) (cells_used marks c) c.next id i w

unfoldable pub count_of : List ℕ → List ℤ → List ℕ → List ℤ → List ℕ → ℕ → ℕ → ℕ → Counters → ℕ → ℕ → Want → Result Demanded Refusal
count_of nodes inputs keys lits marks clauses ints bytes c id i w =
    demanded_of (table_ok nodes inputs keys lits marks clauses c) (work_ok ints bytes c) (ltb id c.nodes) (is_general (node_at nodes id)) (ltb i (value_count (node_at nodes id)))
    (room_of (count_run nodes inputs lits marks c id i w) c clauses
    (lit_at (con_lits (nodes_used nodes c) (inputs_used inputs c) (count_run nodes inputs lits marks c id i w).lits id) i))

-- ---- weighted: node id, value v

-- the output of value v, among the outputs of the node
abbrev pub sum_place : List ℕ → List ℕ → Counters → ℕ → ℕ → Option ℕ
sum_place nodes keys c id v = output_of (cells_used keys c) (node_at nodes id) v

abbrev pub is_at : Option ℕ → Bool
is_at (Some j) = true
is_at None = false

abbrev pub index_of : Option ℕ → ℕ
index_of (Some j) = j
index_of None = 0

abbrev pub sum_run : List ℕ → List ℤ → List ℕ → List ℤ → List ℕ → Counters → ℕ → ℕ → St (List ℤ)
sum_run nodes inputs keys lits marks c id v =
    weigh_run (nodes_used nodes c) (inputs_used inputs c) (cells_used keys c) (cells_used lits c) (cells_used marks c) c.next id (place_of (sum_place nodes keys c id v))

unfoldable pub sum_of : List ℕ → List ℤ → List ℕ → List ℤ → List ℕ → ℕ → ℕ → ℕ → Counters → ℕ → ℕ → Result Demanded Refusal
sum_of nodes inputs keys lits marks clauses ints bytes c id v =
    demanded_of (table_ok nodes inputs keys lits marks clauses c) (work_ok ints bytes c) (ltb id c.nodes) false (is_at (sum_place nodes keys c id v))
    (room_of (sum_run nodes inputs keys lits marks c id v) c clauses
    (lit_at (con_lits (nodes_used nodes c) (inputs_used inputs c) (sum_run nodes inputs keys lits marks c id v).lits id) (index_of (sum_place nodes keys c id v))))

-- ---- the rows afterwards, of either demand: r is the answer and p the run

abbrev pub demanded_lits : Result Demanded Refusal → St (List ℤ) → List ℤ → Counters → List ℤ
demanded_lits r p lits c = demanded_row r lits (cells_back p.lits lits c)

abbrev pub demanded_marks : Result Demanded Refusal → St (List ℤ) → List ℕ → Counters → List ℕ
demanded_marks r p marks c = demanded_row r marks (cells_back p.marks marks c)

abbrev pub demanded_clauses : Result Demanded Refusal → St (List ℤ) → List ℤ → Counters → List ℤ
demanded_clauses r p clauses c = demanded_row r clauses (sets clauses c.words p.out)
