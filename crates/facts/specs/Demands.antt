-- A demand that is done: what its answer says, and that it leaves a table that passes. Assumes nothing.
use Rattle.paper.specs.Answers.{gives}
use Rattle.paper.specs.declared.Refusal.{Refusal}
use Rattle.std.specs.Prelude.{ℕ, ◌+◌, ◌≤◌, List, Bool, true, false, ◌≡◌, length, ℤ, Result}
use Rattle.paper.specs.Plain.{St}
use Rattle.paper.specs.Demand.{ran_counters}
use Rattle.paper.specs.declared.Counters.{Counters}
use Rattle.paper.specs.declared.Demanded.{Demanded}

-- every test before the room was passed
pub record Through (table work here general output : Bool) (room : Result Demanded Refusal) (z : ℤ) (c : Counters) : Type 0 where
  pub table_passes : table ≡ true
  pub work_passes : work ≡ true
  pub here_ok : here ≡ true
  pub not_general : general ≡ false
  pub output_ok : output ≡ true
  pub given : room ≡ gives z c

-- the run p had room
pub record Roomy (p : St (List ℤ)) (c : Counters) (clauses : ℕ) (x z : ℤ) (c' : Counters) : Type 0 where
  pub vars : p.next ≤ c.last + 1
  pub words : c.words + length p.out ≤ clauses
  pub answer : x ≡ z
  pub counters : ran_counters p c ≡ c'
