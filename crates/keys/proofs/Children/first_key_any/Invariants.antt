use mathlib.Core.Path.{◌≡◌}
use Rattle.paper.specs.Rows.{con_len, con_val}
use Rattle.keys.specs.Least.{least_sum}
use Rattle.keys.proofs.Children.first_key_any.Given as goal

abbrev pub invariant-loop-i : goal.invariant-loop-i
invariant-loop-i l =
    l.b ≡ least_sum l.i (con_val l.keys l.self.left.node l.self.left.mul) (con_len l.self.right.node) (con_val l.keys l.self.right.node l.self.right.mul) l.a
