-- The names of a plan's counters and directions, and which rows fit.
use Rattle.std.specs.Prelude.{ℕ, ◌≡◌, ◌≢◌, ◌≤◌, List, codes, Result, MatchResult}
use Rattle.paper.specs.declared.Semantics.{Semantics}
use Rattle.paper.specs.declared.Semantics.TheVariants.{If, OnlyIf, IfAndOnlyIf}
use Rattle.plans.specs.declared.command.Counter.{Counter}
use Rattle.plans.specs.declared.command.Counter.TheVariants.{First, Next, Last, Nodes, Ins, Cells, Length, WorkInt, WorkByte}
use Rattle.plans.specs.declared.command.Lengths.{Lengths}
use Rattle.plans.specs.declared.command.LineError.{LineError}

abbrev pub direction_of : Semantics → List ℕ
direction_of If = codes "if"
direction_of OnlyIf = codes "onlyif"
direction_of IfAndOnlyIf = codes "both"

abbrev pub name_of : Counter → List ℕ
name_of First = codes "F"
name_of Next = codes "next"
name_of Last = codes "last"
name_of Nodes = codes "nodes"
name_of Ins = codes "ins"
name_of Cells = codes "cells"
name_of Length = codes "length"
name_of WorkInt = codes "work_int"
name_of WorkByte = codes "work_byte"

-- the counter of that name, and an error where there is none
abbrev pub NamesCounter : List ℕ → Result Counter LineError → Type 0
NamesCounter name r = MatchResult r (λ c. name ≡ name_of c) (λ _. (c : Counter) → name ≢ name_of c)

-- each row is no longer than the program's own
pub record Fit (n own : Lengths) : Type 0 where
  pub nodes : n.nodes ≤ own.nodes
  pub inputs : n.inputs ≤ own.inputs
  pub keys : n.keys ≤ own.keys
  pub lits : n.lits ≤ own.lits
  pub marks : n.marks ≤ own.marks
  pub clauses : n.clauses ≤ own.clauses
  pub ints : n.ints ≤ own.ints
  pub bytes : n.bytes ≤ own.bytes
