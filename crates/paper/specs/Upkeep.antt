-- 01: reserve, reset, emptying, value. "reserve 2, 3, 4, 12; value 2, 3, 4, 14; reset and emptying the clauses 2".
use Rattle.paper.specs.declared.Refusal.{Refusal}
use Rattle.std.specs.Prelude.{ℕ, zero, suc, ◌+◌, ◌-◌, ◌*◌, List, [], ◌∷◌, ◌++◌, Bool, cond, ◌&&◌, length, get_or, replicate, eqb, leb, ltb, ℤ, pos, nat_abs, Err, Ok, Result}
use Rattle.std.proofs.Math.Seq.{paste}
use Rattle.paper.specs.Below.{all_below}
use Rattle.paper.specs.Rows.{node_at, is_leaf, is_dummy, is_neg}
use Rattle.paper.specs.Table.{table_ok, work_ok}
use Rattle.paper.specs.Plain.{taken_lits, taken_next}
use Rattle.paper.specs.declared.Node.{Node}
use Rattle.paper.specs.declared.Counters.{Counters}
use Rattle.paper.specs.declared.Refusal.TheVariants.{TableFails, WorkShort, NoSuchNode, VariablesOut, BadAssignment}

-- ---- reserve

-- the literals of the cells, and the next variable
pub record Stock : Type 0 where
  pub lits : List ℤ
  pub next : ℕ

abbrev pub stock : List ℤ → ℕ → Stock
stock l n = record { lits = l; next = n }

-- "a variable to each cell without a literal"
unfoldable pub give : ℕ → Stock → Stock
give at s = stock (taken_lits s.lits at s.next) (taken_next s.lits at s.next)

unfoldable pub give_all : List ℕ → Stock → Stock
give_all [] s = s
give_all (k ∷ ks) s = give_all ks (give k s)

-- first, first + 1, .., count of them
unfoldable pub cells_from : ℕ → ℕ → List ℕ
cells_from k zero = []
cells_from k (suc n) = k ∷ cells_from (k + 1) n

-- "Reserve gives, left, right, then the node itself, ascending": the cells in this order; the fuel is above the id
unfoldable pub places_of : ℕ → List ℕ → ℕ → List ℕ
places_of zero ns id = []
places_of (suc f) ns id =
    cond (is_leaf (node_at ns id)) []
    (cond (is_dummy (node_at ns id)) []
    ((places_of f ns (node_at ns id).left ++ places_of f ns (node_at ns id).right) ++ cells_from (node_at ns id).first (node_at ns id).count))

-- the plain run with unlimited room
abbrev pub reserved_by : List ℕ → List ℤ → ℕ → ℕ → Stock
reserved_by ns l id next = give_all (places_of (id + 1) ns id) (stock l next)

abbrev pub with_next : Counters → ℕ → Counters
with_next c next = record { first = c.first; next = next; last = c.last; nodes = c.nodes; inputs = c.inputs; cells = c.cells; words = c.words }

-- 2 the table, 3 the working area, 4 the node, 12 the variables
unfoldable pub reserve_answer : Bool → Bool → Bool → Counters → Stock → Result Counters Refusal
reserve_answer table work here c s =
    cond table (cond work (cond here (cond (leb s.next (c.last + 1)) (Ok (with_next c s.next)) (Err VariablesOut)) (Err NoSuchNode)) (Err WorkShort)) (Err TableFails)

unfoldable pub reserve_of : List ℕ → List ℤ → List ℕ → List ℤ → List ℕ → ℕ → ℕ → ℕ → Counters → ℕ → Result Counters Refusal
reserve_of nodes inputs keys lits marks clauses ints bytes c id =
    reserve_answer (table_ok nodes inputs keys lits marks clauses c) (work_ok ints bytes c) (ltb id c.nodes) c (reserved_by nodes lits id c.next)

abbrev pub kept_row : {A : Type 0} → Result Counters Refusal → A → A → A
kept_row (Ok c) old new = new
kept_row (Err why) old new = old

-- ---- reset, emptying

-- "Reset clears both marks of every cell and keeps literals."
unfoldable pub reset_of : List ℕ → List ℤ → List ℕ → List ℤ → List ℕ → ℕ → Counters → Result Counters Refusal
reset_of nodes inputs keys lits marks clauses c = cond (table_ok nodes inputs keys lits marks clauses c) (Ok c) (Err TableFails)

abbrev pub cleared_marks : List ℕ → Counters → List ℕ
cleared_marks marks c = paste marks 0 (replicate c.cells 0) c.cells

-- "Emptying sets the clause length to 0"
abbrev pub emptied : Counters → Counters
emptied c = record { first = c.first; next = c.next; last = c.last; nodes = c.nodes; inputs = c.inputs; cells = c.cells; words = 0 }

unfoldable pub empty_of : List ℕ → List ℤ → List ℕ → List ℤ → List ℕ → ℕ → Counters → Result Counters Refusal
empty_of nodes inputs keys lits marks clauses c = cond (table_ok nodes inputs keys lits marks clauses c) (Ok (emptied c)) (Err TableFails)

-- ---- value

-- "byte v-1 of the assignment is variable v, 1 for true"
unfoldable pub byte_at : List ℕ → ℕ → ℕ
byte_at a v = cond (eqb v 0) 0 (get_or a (v - 1) 0)

-- 1 where the literal is true
unfoldable pub truth_of : List ℕ → ℤ → ℕ
truth_of a x = cond (eqb (byte_at a (nat_abs x)) 1) (cond (is_neg x) 0 1) (cond (is_neg x) 1 0)

-- "leaf 1 if its literal is true, dummy 0, else the children's values times multipliers, added"
unfoldable pub worth_of : Node → List ℤ → List ℕ → ℕ → ℕ → ℕ
worth_of n ins a l r = cond (is_leaf n) (truth_of a (get_or ins n.first (pos 0))) (cond (is_dummy n) 0 (n.lmul * l + n.rmul * r))

-- by recursion over the children; the fuel is above the id
unfoldable pub value_of : ℕ → List ℕ → List ℤ → List ℕ → ℕ → ℕ
value_of zero ns ins a id = 0
value_of (suc f) ns ins a id = worth_of (node_at ns id) ins a (value_of f ns ins a (node_at ns id).left) (value_of f ns ins a (node_at ns id).right)

-- 14 "assignment shorter than F-1, or one of its first F-1 bytes not 0 or 1"
unfoldable pub assigned_ok : List ℕ → ℕ → Bool
assigned_ok a n = leb n (length a) && all_below n (λ i. leb (get_or a i 0) 1)

-- 2 the table, 3 the working area, 4 the node, 14 the assignment
unfoldable pub worth_answer : Bool → Bool → Bool → Bool → ℕ → Result ℕ Refusal
worth_answer table work here assigned v =
    cond table (cond work (cond here (cond assigned (Ok v) (Err BadAssignment)) (Err NoSuchNode)) (Err WorkShort)) (Err TableFails)

unfoldable pub valued_of : List ℕ → List ℤ → List ℕ → List ℤ → List ℕ → ℕ → ℕ → ℕ → Counters → ℕ → List ℕ → Result ℕ Refusal
valued_of nodes inputs keys lits marks clauses ints bytes c id a =
    worth_answer (table_ok nodes inputs keys lits marks clauses c) (work_ok ints bytes c) (ltb id c.nodes) (assigned_ok a (c.first - 1)) (value_of (id + 1) nodes inputs a id)
