use Prim.Native.Nat.{◌-◌, ◌<◌, ◌≤◌}
use Rattle.std.specs.Prelude.{true, false}
use Rattle.find.proofs.first_not.Given as goal

abbrev pub invariant-loop-lo : goal.invariant-loop-lo
invariant-loop-lo g l =
    goal.F-IsAlwaysCallable g l.low × (l.lo ≤ l.hi) × (l.hi ≤ l.to) × (0 < l.lo → goal.F-post g l.low (l.lo - 1) true) × (l.hi < l.to → goal.F-post g l.low l.hi false)

abbrev pub decreases-loop-lo : goal.decreases-loop-lo
decreases-loop-lo g l = l.hi - l.lo
