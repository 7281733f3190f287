-- The clauses that a run appends, as lists: those of the paper's clause values are the own clauses of the table, in the same order.
use Rattle.std.specs.Prelude.{List, [], ◌∷◌, ◌++◌, ℤ, take}
use Rattle.paper.specs.declared.Clause.{Clause}
use Rattle.meaning.specs.Table.{History}

-- the literals of a clause value
abbrev pub lits_in : Clause → List ℤ
lits_in c = take c.len c.lits

-- the sink of a run whose clauses are the history
abbrev pub gather : History → Clause → History
gather h c = h ++ (lits_in c ∷ [])
