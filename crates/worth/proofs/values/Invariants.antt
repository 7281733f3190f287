use mathlib.Core.Path.{◌≡◌}
use lib.ListN.{length}
use Rattle.worth.proofs.Worth.{Held}
use Rattle.worth.proofs.values.Given as goal

abbrev pub invariant-loop-i : goal.invariant-loop-i
invariant-loop-i l = (length l.work ≡ length l.initial.work) × Held l.nodes l.inputs l.assign l.work l.i
