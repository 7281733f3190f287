use Prim.Native.Nat.{◌-◌}
use Rattle.paper.specs.Rows.{con_val}
use Rattle.keys.specs.Least.{Cut}
use Rattle.keys.proofs.Child.back.Given as goal

abbrev pub invariant-loop-lo : goal.invariant-loop-lo
invariant-loop-lo l = Cut (con_val l.keys l.self.node l.self.mul) l.x l.a l.j l.lo l.hi

abbrev pub decreases-loop-lo : goal.decreases-loop-lo
decreases-loop-lo l = l.hi - l.lo
