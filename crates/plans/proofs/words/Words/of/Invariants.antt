use Rattle.std.proofs.Common.{◌≤◌}
use Rattle.std.specs.Str.{IsCharBoundary}
use Rattle.plans.proofs.words.Words.of.Given as goal

-- the word that has begun starts at a character
abbrev pub invariant-loop-i : goal.invariant-loop-i
invariant-loop-i l = record { begun : l.from ≤ l.i; boundary : IsCharBoundary l.line l.from }
