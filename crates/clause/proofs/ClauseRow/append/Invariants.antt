use mathlib.Core.Path.{◌≡◌}
use Prim.Native.Nat.{◌+◌}
use lib.ListN.{drop}
use lib.Seq.{sets}
use Rattle.paper.specs.Plain.{words_of}
use Rattle.clause.specs.Filling.{SameRow}
use Rattle.clause.proofs.ClauseRow.append.Given as goal

abbrev pub invariant-loop-k : goal.invariant-loop-k
invariant-loop-k l =
    SameRow l.initial.self l.self × (l.self.words ≡ l.at)
    × (sets l.self.row.now (l.at + l.k) (drop l.k (words_of l.c)) ≡ sets l.initial.self.row.now l.at (words_of l.c))
