use Rattle.std.proofs.Common.{◌≡◌, ◌≤◌, replicate}
use Rattle.std.proofs.Math.Seq.{paste}
use Rattle.join.proofs.clear.Given as goal

abbrev pub invariant-loop-i : goal.invariant-loop-i
invariant-loop-i g l = (l.i ≤ l.count) × (l.row ≡ paste l.initial.row l.at (replicate l.count l.zero) l.i)
