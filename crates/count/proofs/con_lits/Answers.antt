use native.Mathlib.Omega.{arith}
use Rattle.paper.specs.declared.Node.{Node}
use Rattle.paper.specs.Rows.{con_lits, is_leaf}
use mathlib.Core.Path.{◌≡◌, sym, ap, ◌∙◌}
use Prim.Native.Nat.{◌+◌, ◌-◌}
use Rattle.count.proofs.con_lits.Goals as goal

pub returns-then-is_leaf : goal.returns-then-is_leaf
unfolding con_lits
returns-then-is_leaf c =
    let n = c.node_at-n in
    let h : n.result.first + 1 - n.result.first ≡ 1 = omega arith in
    let k = ap is_leaf (sym n.ensures) ∙ sym c.is_leaf.ensures ∙ c.if-is_leaf.true in
    rw (h, k, ap (λ (m : Node). m.first) n.ensures)

pub returns : goal.returns
unfolding con_lits
returns c =
    let n = c.node_at-n in
    let h : n.result.first + c.con_len.result - n.result.first ≡ c.con_len.result = omega arith in
    let k = ap is_leaf (sym n.ensures) ∙ sym c.is_leaf.ensures ∙ c.if-is_leaf.false in
    rw (h, k, c.con_len.ensures, ← n.ensures)
