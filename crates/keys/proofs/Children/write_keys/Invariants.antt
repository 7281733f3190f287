use mathlib.Core.Path.{◌≡◌}
use lib.Seq.{paste}
use Rattle.paper.specs.Keys.{node_keys}
use Rattle.keys.specs.Least.{start_at}
use Rattle.keys.proofs.Children.write_keys.Given as goal

abbrev pub invariant-loop-i : goal.invariant-loop-i
invariant-loop-i l =
    (l.keys ≡ paste l.initial.keys l.at (node_keys l.initial.keys l.self.left.node l.self.left.mul l.self.right.node l.self.right.mul) l.i)
    × (l.a ≡ start_at (node_keys l.initial.keys l.self.left.node l.self.left.mul l.self.right.node l.self.right.mul) l.i)
