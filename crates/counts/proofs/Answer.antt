-- The answer of the public call by the tests that lead there, and what the table check gives to the run.
use Rattle.paper.specs.declared.Refusal.{Refusal}
use Rattle.std.specs.Prelude.{Err, Result}
use mathlib.Core.Path.{◌≡◌, sym, ◌∙◌, subst}
use mathlib.Core.Bool.{Bool, true, false}
use mathlib.Core.List.{List, ◌++◌}
use Prim.Native.Nat.{ℕ, ◌+◌, ◌/◌, ◌≤◌, ◌<◌, ◌^◌}
use native.Mathlib.Omega.{arith}
use borrow.Author.Tests.{lt-ltb, le-ltb, eq-eqb, ne_eqb}
use lib.IntN.{ℤ}
use lib.ListN.{length, drop}
use Rattle.paper.specs.Limits.{node_words}
use Rattle.paper.specs.Rows.{node_at, value_count, con_lits}
use Rattle.paper.specs.Table.{table_ok, work_ok}
use Rattle.paper.specs.Plain.{lit_at, plain_run}
use Rattle.paper.specs.Demand.{nodes_used, inputs_used, cells_used, count_run, count_of, demanded_lits, demanded_marks, demanded_clauses}
use Rattle.paper.specs.declared.Want.{Want}
use Rattle.paper.specs.declared.Counters.{Counters}
use Rattle.paper.specs.declared.Refusal.TheVariants.{NoSuchOutput, TableFails, WorkShort, NoSuchNode, GeneralNode}
use Rattle.paper.specs.declared.Demanded.{Demanded}
use Rattle.facts.specs.Facts.{TableFacts}
use Rattle.facts.proofs.Facts.{used_length}
use Rattle.count.specs.Run.{Here}
use Rattle.runs.specs.Met.{Met}
use Rattle.runs.proofs.Meets.{is_2, is_3, is_4, is_5, is_1, is_room}
use Rattle.runs.proofs.Used.{nodes_length, same_node, back, work_long}

module _ (nodes : List ℕ) (inputs : List ℤ) (keys : List ℕ) (lits : List ℤ) (marks : List ℕ) (row : List ℤ) (ints bytes : ℕ) (c : Counters) (id i : ℕ) where
  abbrev Checked : Bool → Type 0
  Checked b = table_ok nodes inputs keys lits marks (length row) c ≡ b

  abbrev answer : Want → Result Demanded Refusal
  answer w = count_of nodes inputs keys lits marks (length row) ints bytes c id i w

  module _ (w : Want) where
    pub no_table : Checked false → answer w ≡ Err TableFails
    unfolding count_of
    no_table a = is_2 _ _ _ _ _ _ a

    pub no_work : Checked true → work_ok ints bytes c ≡ false → answer w ≡ Err WorkShort
    unfolding count_of
    no_work a b = is_3 _ _ _ _ _ _ a b

    pub no_node : Checked true → work_ok ints bytes c ≡ true → c.nodes ≤ id → answer w ≡ Err NoSuchNode
    unfolding count_of
    no_node a b h = is_4 _ _ _ _ _ _ a b (le-ltb id c.nodes h)

    pub no_unit : Checked true → work_ok ints bytes c ≡ true → id < c.nodes → (node_at nodes id).kind ≡ 2 → answer w ≡ Err GeneralNode
    unfolding count_of
    no_unit a b h g = is_5 _ _ _ _ _ _ a b (lt-ltb id c.nodes h) (eq-eqb (node_at nodes id).kind 2 g)

    pub no_output : Checked true → work_ok ints bytes c ≡ true → id < c.nodes → ((node_at nodes id).kind ≡ 2 → ⊥) → value_count (node_at nodes id) ≤ i → answer w ≡ Err NoSuchOutput
    unfolding count_of
    no_output a b h g o = is_1 _ _ _ _ _ _ a b (lt-ltb id c.nodes h) (ne_eqb (node_at nodes id).kind 2 g) (le-ltb i (value_count (node_at nodes id)) o)

    -- the run over the parts in use
    abbrev Ran : Want → Result Demanded Refusal → List ℤ → List ℕ → List ℤ → Type 0
    Ran u r l m k =
        Met (plain_run (nodes_used nodes c) (inputs_used inputs c) (cells_used lits c) (cells_used marks c) c.next id i u) c
        (lit_at (con_lits (nodes_used nodes c) (inputs_used inputs c) (plain_run (nodes_used nodes c) (inputs_used inputs c) (cells_used lits c) (cells_used marks c) c.next id i u).lits id) i)
        (cells_used lits c) (cells_used marks c) row r l m k

    pub answered : Checked true → work_ok ints bytes c ≡ true → id < c.nodes → ((node_at nodes id).kind ≡ 2 → ⊥) → i < value_count (node_at nodes id)
        → (u : Want) → u ≡ w → (r : Result Demanded Refusal) (l : List ℤ) (m : List ℕ) (k : List ℤ) → Ran u r l m k
        → (r ≡ answer w) × (l ++ drop c.cells lits ≡ demanded_lits r (count_run nodes inputs lits marks c id i w) lits c)
        × (m ++ drop c.cells marks ≡ demanded_marks r (count_run nodes inputs lits marks c id i w) marks c) × (k ≡ demanded_clauses r (count_run nodes inputs lits marks c id i w) row c)
    unfolding count_of
    answered a b h g o u e r l m k met₀ =
        let met = subst (λ (v : Want). Ran v r l m k) e met₀ in (
          met.answer ∙ sym (is_room _ _ _ _ _ _ a b (lt-ltb id c.nodes h) (ne_eqb (node_at nodes id).kind 2 g) (lt-ltb i (value_count (node_at nodes id)) o)),
          back r c.cells lits _ l met.lits_are,
          back r c.cells marks _ m met.marks_are,
          met.row_is,
        )

-- what a run over the parts in use asks
module _ (nodes : List ℕ) {inputs : List ℤ} {keys : List ℕ} {lits : List ℤ} {marks : List ℕ} {row : ℕ} {c : Counters} (facts : TableFacts (node_at nodes) (length nodes / node_words) inputs keys lits marks row c) where
  pub here : {id i : ℕ} → id < c.nodes → i < value_count (node_at nodes id) → Here (nodes_used nodes c) id i
  here {id} h o =
      let b : id < length (nodes_used nodes c) / node_words = omega (arith, nodes_length nodes facts) in
      record { below = b; out = rw (same_node nodes facts id b) o }

  pub room : {ints bytes : ℕ} → work_ok ints bytes c ≡ true → (length (cells_used lits c) ≤ ints) × (length (cells_used lits c) ≤ bytes)
  room h =
      let e : length (cells_used lits c) ≡ c.cells = used_length c.cells lits facts.lit_row in
      let w = work_long _ _ c h in
      (omega arith, omega arith)

  pub bounds : (length (cells_used lits c) < 2 ^ 31) × (c.words ≤ row) × (c.last < 2 ^ 31) × (c.next ≤ c.last + 1)
  bounds =
      let e : length (cells_used lits c) ≡ c.cells = used_length c.cells lits facts.lit_row in
      (omega (arith, facts.counters.cell_limit_met), facts.counters.word_row, omega (arith, facts.counters.last_high), facts.counters.next_high)
