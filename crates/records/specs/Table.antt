-- 01: "The check is wanted over the words first, then also over a lent row of node records, one record for each node, with the same verdict."
-- The verdict is the table check with the records as the reader. The walk over the row carries a small state from record to record; proofs/Laws has that
-- the walk comes to the verdict, and that the words of the records, written out, have the same.
use Rattle.std.specs.Prelude.{Bool, true, false, cond, ◌&&◌, List, [], ◌∷◌, ℕ, zero, suc, ◌+◌, ◌-◌, ltb, leb, eqb, ℤ, length, get_or}
use Rattle.paper.specs.Rows.{inputs_ok, cells_ok}
use Rattle.paper.specs.Table.{counters_ok, node_ok, leaf_step, table_ok_at}
use Rattle.paper.specs.declared.Node.{Node}
use Rattle.paper.specs.declared.Counters.{Counters}
use Rattle.records.specs.declared.Record.{Record}
use Rattle.records.specs.declared.Seen.{Seen}

abbrev pub node_of : Record → Node
node_of x = record { kind = x.kind; left = x.left; lmul = x.lmul; right = x.right; rmul = x.rmul; first = x.first; count = x.count; depth = x.depth }

abbrev pub blank : Record
blank = record { kind = 0; left = 0; lmul = 0; right = 0; rmul = 0; first = 0; count = 0; depth = 0 }

-- record i; past the end all words are 0
abbrev pub record_in : List Record → ℕ → Record
record_in rs i = get_or rs i blank

-- ---- the verdict

abbrev pub records_ok : List Record → List ℤ → List ℕ → List ℤ → List ℕ → List ℤ → Counters → Bool
records_ok rs inputs keys lits marks clauses c = table_ok_at (λ i. node_of (record_in rs i)) (length rs) inputs keys lits marks (length clauses) c

-- the words of the records
unfoldable pub words_of : List Record → List ℕ
words_of [] = []
words_of (x ∷ xs) = x.kind ∷ x.left ∷ x.lmul ∷ x.right ∷ x.rmul ∷ x.first ∷ x.count ∷ x.depth ∷ words_of xs

-- ---- the walk

abbrev pub earlier_of : ℕ → ℕ → ℕ
earlier_of child id = cond (ltb child id) child id

-- what needs no node
unfoldable pub begin_of : List ℤ → List ℕ → List ℤ → List ℕ → List ℤ → Counters → Seen
begin_of inputs keys lits marks clauses c =
    record {
      ok = (counters_ok c c.nodes (length keys) (length clauses) && inputs_ok inputs c.inputs c.first) && cells_ok lits marks c.cells c.first c.next;
      leaves = 0;
      cells = 0;
      todo = c.nodes;
    }

-- the node passes, and its leaves and cells stay within what there can be, so that the sums fit
abbrev pub takes : Node → Node → Node → ℕ → Seen → List ℕ → List ℕ → Counters → Bool
takes n l r id s keys marks c =
    (node_ok keys marks n l r id s.leaves s.cells c.cells && ltb s.leaves c.nodes) && leb (s.cells + n.count) c.cells

abbrev pub passed_of : Seen → Node → Seen
passed_of s n = record { ok = true; leaves = s.leaves + leaf_step n; cells = s.cells + n.count; todo = s.todo - 1 }

abbrev pub failed_of : Seen → Seen
failed_of s = record { ok = false; leaves = s.leaves; cells = s.cells; todo = s.todo }

-- one record, with those of its children
unfoldable pub step_of : Record → Record → Record → ℕ → Seen → List ℤ → List ℕ → List ℤ → List ℕ → List ℤ → Counters → Seen
step_of n l r id s inputs keys lits marks clauses c =
    cond s.ok (cond (eqb s.todo 0) s (cond (takes (node_of n) (node_of l) (node_of r) id s keys marks c) (passed_of s (node_of n)) (failed_of s))) s

unfoldable pub finish_of : Seen → List ℤ → List ℕ → List ℤ → List ℕ → List ℤ → Counters → Bool
finish_of s inputs keys lits marks clauses c = ((s.ok && eqb s.todo 0) && eqb s.leaves c.inputs) && eqb s.cells c.cells

-- the state after i records
unfoldable pub seen_at : (ℕ → Record) → List ℤ → List ℕ → List ℤ → List ℕ → List ℤ → Counters → ℕ → Seen
seen_at at inputs keys lits marks clauses c zero = begin_of inputs keys lits marks clauses c
seen_at at inputs keys lits marks clauses c (suc i) =
    step_of (at i) (at (earlier_of (at i).left i)) (at (earlier_of (at i).right i)) i (seen_at at inputs keys lits marks clauses c i) inputs keys lits marks clauses c
