use Prim.Native.Nat.{ℕ}
use mathlib.Core.Path.{◌≡◌}
use mathlib.Core.Bool.{◌&&◌}
use lib.ListN.{get_or}
use lib.Dec.{leb, eqb}
use Rattle.paper.specs.Below.{all_below}
use Rattle.paper.specs.Rows.{word_from}
use Rattle.paper.specs.Limits.{key_limit}
use Rattle.paper.specs.Keys.{node_keys}
use Rattle.keys.specs.Least.{none, start_at}
use Rattle.keys.proofs.general_keys_ok.Given as goal

abbrev pub invariant-loop-i : goal.invariant-loop-i
invariant-loop-i l =
    (l.ok ≡ all_below l.i (λ (j : ℕ). eqb (word_from l.keys l.n.first j) (get_or (node_keys l.keys l.fn.l l.n.lmul l.fn.r l.n.rmul) j none) && leb (word_from l.keys l.n.first j) key_limit))
    × (l.a ≡ start_at (node_keys l.keys l.fn.l l.n.lmul l.fn.r l.n.rmul) l.i)
