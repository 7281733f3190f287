use Prim.Native.Nat.{ℕ, ◌+◌, ◌*◌, ◌<◌}
use native.Mathlib.Omega.{arith}
use mathlib.Core.Path.{◌≡◌, sym, ap, ap₂, ◌∙◌}
use mathlib.Core.Bool.{◌&&◌}
use lib.Dec.{eqb}
use Rattle.paper.specs.Below.{all_below, all_none, all_more, all_fails, sum_none, sum_more, and_then, and_else, and_both}
use Rattle.paper.specs.Rows.{node_at}
use Rattle.paper.specs.Table.{node_ok_at, nodes_ok, leaf_step, leaves_before, cells_before}
use Rattle.paper.specs.Limits.{node_words}
use Rattle.paper.specs.declared.Node.{Node}
use Rattle.facts.proofs.Facts.{at_node, step_small}
use Rattle.table.proofs.nodes_ok.Goals as goal

pub loop-i-init : goal.loop-i-init
loop-i-init c = (all_none _, sym (sum_none _), sym (sum_none _), omega arith, omega arith)

pub returns-then-not-node_ok : goal.returns-then-not-node_ok
unfolding nodes_ok
returns-then-not-node_ok c =
    let asked : node_ok_at (node_at c.args.nodes.now) c.args.keys.now c.args.marks.now c.args.c.cells c.loop-i.i ≡ c.node_ok.result = let a = c.args in sym (c.node_ok.ensures ∙ at_node (node_at a.nodes.now) a.keys.now a.marks.now a.c.cells c.loop-i.i c.node_at-n.result c.node_at-l.result c.node_at-r.result c.loop-i.inputs c.loop-i.cells c.node_at-n.ensures c.node_at-l.ensures c.node_at-r.ensures c.loop-i.invariant.1 c.loop-i.invariant.2) in
    and_else _ _ (all_fails c.args.c.nodes _ c.loop-i.i c.loop-i-test.true (asked ∙ c.if-not-node_ok.true))

pub overflow_add-cells : goal.overflow_add-cells
unfolding node_at
overflow_add-cells c =
    let small : c.node_at-n.result.count < 4294967296 = let e = ap (λ (n : Node). n.count) c.node_at-n.ensures in omega (arith, e, c.type_inv.nodes (c.loop-i.i * node_words + 6)) in
    omega (arith, c.requires, c.loop-i.invariant.4, c.loop-i-test.true, small)

pub loop-i-preserved : goal.loop-i-preserved
unfolding node_at
loop-i-preserved c =
    let asked : node_ok_at (node_at c.args.nodes.now) c.args.keys.now c.args.marks.now c.args.c.cells c.loop-i.i ≡ c.node_ok.result = let a = c.args in sym (c.node_ok.ensures ∙ at_node (node_at a.nodes.now) a.keys.now a.marks.now a.c.cells c.loop-i.i c.node_at-n.result c.node_at-l.result c.node_at-r.result c.loop-i.inputs c.loop-i.cells c.node_at-n.ensures c.node_at-l.ensures c.node_at-r.ensures c.loop-i.invariant.1 c.loop-i.invariant.2) in
    let small : c.node_at-n.result.count < 4294967296 = let e = ap (λ (n : Node). n.count) c.node_at-n.ensures in omega (arith, e, c.type_inv.nodes (c.loop-i.i * node_words + 6)) in
    let i = c.loop-i.i in
    let a = c.args in (
      all_more i _ ∙ and_both _ _ c.loop-i.invariant.0 (asked ∙ c.if-not-node_ok.false),
      ap₂ (λ (x : ℕ) (y : ℕ). x + y) c.loop-i.invariant.1 (c.leaf_step-inputs.ensures ∙ ap leaf_step c.node_at-n.ensures) ∙ sym (sum_more i (λ k. leaf_step (node_at a.nodes.now k))),
      ap₂ (λ (x : ℕ) (y : ℕ). x + y) c.loop-i.invariant.2 (ap (λ (m : Node). m.count) c.node_at-n.ensures) ∙ sym (sum_more i (λ k. (node_at a.nodes.now k).count)),
      omega (arith, c.loop-i.invariant.3, c.leaf_step-inputs.ensures, step_small c.node_at-n.result),
      omega (arith, c.loop-i.invariant.4, small),
    )

pub returns : goal.returns
unfolding nodes_ok
returns c =
    let a = c.args in
    let q : c.loop-i.i ≡ a.c.nodes = omega arith in
    and_then _ _ _
    (ap (λ (k : ℕ). all_below k (node_ok_at (node_at a.nodes.now) a.keys.now a.marks.now a.c.cells)) (sym q) ∙ c.loop-i.invariant.0)
    (ap₂ (λ (x : ℕ) (y : ℕ). eqb x a.c.inputs && eqb y a.c.cells)
    (c.loop-i.invariant.1 ∙ ap (leaves_before (node_at a.nodes.now)) q) (c.loop-i.invariant.2 ∙ ap (cells_before (node_at a.nodes.now)) q))
