use Prim.Native.Nat.{◌≤◌}
use mathlib.Core.Path.{◌≡◌}
use lib.ListN.{length}
use Rattle.paper.specs.Keys.{node_keys}
use Rattle.keys.specs.Least.{start_at}
use Rattle.keys.proofs.Children.count_keys.Given as goal

abbrev pub invariant-loop-i : goal.invariant-loop-i
invariant-loop-i l =
    (l.i ≤ length (node_keys l.keys l.self.left.node l.self.left.mul l.self.right.node l.self.right.mul))
    × (l.a ≡ start_at (node_keys l.keys l.self.left.node l.self.left.mul l.self.right.node l.self.right.mul) l.i)
