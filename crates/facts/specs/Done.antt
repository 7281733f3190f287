-- A demand that says 0, as one statement over the whole database; and the same demand once more, which changes nothing. Assumes nothing.
use Rattle.paper.specs.Answers.{gives}
use Rattle.paper.specs.declared.Refusal.{Refusal}
use Rattle.std.specs.Prelude.{ℕ, ◌+◌, ◌≤◌, false, take, drop, ℤ, Result}
use Rattle.std.proofs.Math.Path.{◌≡◌}
use Rattle.paper.specs.Rows.{is_zero}
use Rattle.paper.specs.Demand.{nodes_used}
use Rattle.paper.specs.Calls.{Db, After}
use Rattle.paper.specs.declared.Counters.{Counters}
use Rattle.paper.specs.declared.Demanded.{Demanded}
use Rattle.facts.specs.Carry.{moved}
use Rattle.facts.specs.Taken.{Taken}
use Rattle.facts.specs.Ran.{Ran}

pub record GivenBack (r : Result Demanded Refusal) : Type 0 where
  pub literal : ℤ
  pub counters : Counters
  pub is : r ≡ gives literal counters

-- From d to what a leaves, by a demand of node id that is done. Its literals: what was there stays and the new ones are next, .., next' - 1, each in one
-- cell (`taken`); they are taken in the order of a list of cells (`run.order`)
pub record DemandDone (d : Db) (id : ℕ) (a : After) : Type 0 where
  pub answer : is_zero a.said.value ≡ false
  pub taken : Taken d.lits d.counters.next a.db.lits a.db.counters.next
  pub run : Ran (nodes_used d.nodes d.counters) d.counters.nodes (id + 1) d.lits d.marks d.counters.next a.db.lits a.db.marks a.db.counters.next
  pub counters : a.db.counters ≡ moved d.counters a.db.counters.next a.db.counters.words
  pub words_up : d.counters.words ≤ a.db.counters.words
  pub words_kept : take d.counters.words a.db.clauses ≡ take d.counters.words d.clauses
  pub words_past : drop a.db.counters.words a.db.clauses ≡ drop a.db.counters.words d.clauses
  pub lits_past : drop d.counters.cells a.db.lits ≡ drop d.counters.cells d.lits
  pub marks_past : drop d.counters.cells a.db.marks ≡ drop d.counters.cells d.marks
