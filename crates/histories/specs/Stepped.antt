-- Demands, reserve, reset and emptying keep what is upheld; the clauses afterwards are those before and the ones appended.
use Rattle.paper.specs.Answers.{gives}
use Rattle.std.specs.Prelude.{◌≡◌, List, ℕ, ◌+◌, ◌≤◌, ℤ, length, Err, Result}
use Rattle.std.proofs.Math.Bool.{Bool, true, false}
use Rattle.paper.specs.Plain.{St}
use Rattle.paper.specs.Demand.{ran_counters, demanded_lits, demanded_marks, demanded_clauses}
use Rattle.paper.specs.Numbers.{demanded_said}
use Rattle.paper.specs.Calls.{Db}
use Rattle.paper.specs.declared.Counters.{Counters}
use Rattle.paper.specs.declared.Refusal.{Refusal}
use Rattle.paper.specs.declared.Demanded.{Demanded}

-- ---- the demands

-- a demand is refused, or its run is taken over
pub data Went (here general output : Bool) (p : St (List ℤ)) (c : Counters) (len : ℕ) (z : ℤ) : Result Demanded Refusal → Type 0 where
  stayed : (why : Refusal) → Went here general output p c len z (Err why)
  ran : here ≡ true → general ≡ false → output ≡ true → c.words + length p.out ≤ len → Went here general output p c len z (gives z (ran_counters p c))

-- the rows after a demand, by its answer and its run
abbrev pub demanded_db : Db → Result Demanded Refusal → St (List ℤ) → Db
demanded_db d r p =
    record {
      nodes = d.nodes;
      inputs = d.inputs;
      keys = d.keys;
      lits = demanded_lits r p d.lits d.counters;
      marks = demanded_marks r p d.marks d.counters;
      clauses = demanded_clauses r p d.clauses d.counters;
      counters = (demanded_said r d.counters).counters;
    }
