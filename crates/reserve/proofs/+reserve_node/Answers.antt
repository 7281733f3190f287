use Prim.Native.Nat.{◌+◌}
use native.Mathlib.Omega.{arith}
use mathlib.Core.Path.{sym, ap, ◌∙◌}
use lib.ListN.{length}
use lib.Dec.{eqb}
use Rattle.paper.specs.declared.Node.{Node}
use Rattle.reserve.proofs.Give.{kids, room_left, room_right, room_cells, ran_node, ran_seen, ran_none, next_low, shape_row, places_leaf, places_dummy}
use Rattle.reserve.proofs.+reserve_node.Goals as goal

pub returns-then-flags-id-ne0 : goal.returns-then-flags-id-ne0
returns-then-flags-id-ne0 t c =
    ran_seen c.args.nodes.now c.args.count c.args.id c.args.lits.now c.args.flags.now c.args.next c.requires.id_lt_count.0 c.if-flags-id-ne0.true c.requires.closed

pub returns-then-is_leaf : goal.returns-then-is_leaf
returns-then-is_leaf t c =
    let nd = c.node_at-n in
    let e = ap (λ (m : Node). eqb m.kind 0) (sym nd.ensures) ∙ sym c.is_leaf.ensures ∙ c.if-is_leaf.true in
    ran_none c.args.nodes.now c.args.count c.args.id c.args.lits.now c.args.flags.now c.args.next (λ f. places_leaf c.args.nodes.now f c.args.id e) c.requires.closed

pub returns-then-is_dummy : goal.returns-then-is_dummy
returns-then-is_dummy t c =
    let nd = c.node_at-n in
    let d = ap (λ (m : Node). eqb m.kind 0) (sym nd.ensures) ∙ sym c.is_leaf.ensures ∙ c.if-is_leaf.false in
    let e = ap (λ (m : Node). eqb m.kind 3) (sym nd.ensures) ∙ sym c.is_dummy.ensures ∙ c.if-is_dummy.true in
    ran_none c.args.nodes.now c.args.count c.args.id c.args.lits.now c.args.flags.now c.args.next (λ f. places_dummy c.args.nodes.now f c.args.id d e) c.requires.closed

pub reserve_node-a-requires : goal.reserve_node-a-requires
reserve_node-a-requires t c =
    let nd = c.node_at-n in
    let p = sym c.is_leaf.ensures ∙ c.if-is_leaf.false in
    let q = sym c.is_dummy.ensures ∙ c.if-is_dummy.false in
    let k = kids c.args.nodes.now c.args.id nd.result nd.ensures p q c.args.count (length c.args.lits.now) c.requires.shape c.requires.id_lt_count.0 in (
      omega (arith, c.decreases, k.left),
      (
        (omega (arith, k.left, c.requires.id_lt_count.0), c.requires.id_lt_count.1, c.requires.id_lt_count.2),
        (
          c.requires.shape,
          (
            c.requires.closed,
            room_left c.args.nodes.now c.args.id nd.result nd.ensures p q c.args.lits.now c.args.next k.left c.requires.room,
          ),
        ),
      ),
    )

pub reserve_node-b-requires : goal.reserve_node-b-requires
reserve_node-b-requires t c =
    let nd = c.node_at-n in
    let p = sym c.is_leaf.ensures ∙ c.if-is_leaf.false in
    let q = sym c.is_dummy.ensures ∙ c.if-is_dummy.false in
    let k = kids c.args.nodes.now c.args.id nd.result nd.ensures p q c.args.count (length c.args.lits.now) c.requires.shape c.requires.id_lt_count.0 in
    let one = c.reserve_node-a in (
      omega (arith, c.decreases, k.right),
      (
        (omega (arith, k.right, c.requires.id_lt_count.0), omega (arith, one.auto.flags, c.requires.id_lt_count.1), next_low c.args.lits.now c.args.next _ _ _ c.requires.id_lt_count.2 (one.ensures.is (nd.result.left + 1) (omega arith))),
        (
          shape_row c.args.nodes.now c.args.count _ _ one.auto.lits c.requires.shape,
          (
            one.ensures.closed,
            room_right c.args.nodes.now c.args.id nd.result nd.ensures p q c.args.lits.now _ c.args.next _ k.left k.right c.requires.room one.ensures.is,
          ),
        ),
      ),
    )

pub fill-d-requires : goal.fill-d-requires
fill-d-requires t c =
    let nd = c.node_at-n in
    let p = sym c.is_leaf.ensures ∙ c.if-is_leaf.false in
    let q = sym c.is_dummy.ensures ∙ c.if-is_dummy.false in
    let k = kids c.args.nodes.now c.args.id nd.result nd.ensures p q c.args.count (length c.args.lits.now) c.requires.shape c.requires.id_lt_count.0 in
    let one = c.reserve_node-a in
    let two = c.reserve_node-b in
    (omega (arith, k.row, one.auto.lits, two.auto.lits), k.few, room_cells c.args.nodes.now c.args.id nd.result nd.ensures p q c.args.lits.now _ _ c.args.next _ _ k.left k.right c.requires.room one.ensures.is two.ensures.is)

pub returns : goal.returns
returns t c =
    let nd = c.node_at-n in
    let p = sym c.is_leaf.ensures ∙ c.if-is_leaf.false in
    let q = sym c.is_dummy.ensures ∙ c.if-is_dummy.false in
    let k = kids c.args.nodes.now c.args.id nd.result nd.ensures p q c.args.count (length c.args.lits.now) c.requires.shape c.requires.id_lt_count.0 in
    let one = c.reserve_node-a in
    let two = c.reserve_node-b in
    ran_node c.args.nodes.now c.args.id nd.result nd.ensures p q c.args.count c.args.lits.now _ _ _ two.new.flags c.args.next _ _ _ c.requires.id_lt_count.2 k.left k.right one.ensures.is two.ensures.is two.ensures.closed c.fill-d.ensures
