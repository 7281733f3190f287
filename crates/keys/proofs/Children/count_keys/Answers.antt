use native.Mathlib.Omega.{arith}
use mathlib.Core.Path.{sym, ◌∙◌}
use Rattle.paper.specs.Keys.{node_keys}
use Rattle.keys.proofs.Laws.{node_between, none_ends, some_goes, turn_key, turn_start}
use Rattle.keys.proofs.Children.count_keys.Goals as goal

pub returns-then-x-eq-NONE : goal.returns-then-x-eq-NONE
returns-then-x-eq-NONE c =
    let a = c.args in
    let l = a.self.left in
    let r = a.self.right in
    let t = turn_key a.keys.now l.node l.mul r.node r.mul (λ k. omega (arith, c.type_inv.keys k)) l.small r.small _ _ c.loop-i.i c.next_key-x.ensures c.loop-i.invariant.1 in
    let q = none_ends (node_keys a.keys.now l.node l.mul r.node r.mul) c.loop-i.i
    (node_between a.keys.now l.node l.mul r.node r.mul (λ k. omega (arith, c.type_inv.keys k)) l.small r.small) (sym t.0 ∙ c.if-x-eq-NONE.true) in
    omega arith

pub overflow_add-a : goal.overflow_add-a
overflow_add-a c =
    let a = c.args in
    let l = a.self.left in
    let r = a.self.right in
    let t = turn_key a.keys.now l.node l.mul r.node r.mul (λ k. omega (arith, c.type_inv.keys k)) l.small r.small _ _ c.loop-i.i c.next_key-x.ensures c.loop-i.invariant.1 in
    omega (arith, t.1)

pub loop-i-preserved : goal.loop-i-preserved
loop-i-preserved c =
    let a = c.args in
    let l = a.self.left in
    let r = a.self.right in
    let t = turn_key a.keys.now l.node l.mul r.node r.mul (λ k. omega (arith, c.type_inv.keys k)) l.small r.small _ _ c.loop-i.i c.next_key-x.ensures c.loop-i.invariant.1 in
    let q = some_goes (node_keys a.keys.now l.node l.mul r.node r.mul) c.loop-i.i (λ z. c.if-x-eq-NONE.false (t.0 ∙ z)) in
    (omega arith, turn_start (node_keys a.keys.now l.node l.mul r.node r.mul) _ c.loop-i.i t.0)
