use Prim.Native.Nat.{ℕ, ◌+◌}
use native.Mathlib.Omega.{arith}
use mathlib.Core.Path.{◌≡◌, ap, ap₂, ◌∙◌}
use Rattle.paper.specs.Rows.{con_len, con_val}
use Rattle.keys.specs.Least.{pick_of, least_all, least_sum}
use Rattle.keys.proofs.Laws.{sum_least_none, sum_least_more, node_least}
use Rattle.keys.proofs.Children.first_key_any.Goals as goal

pub loop-i-init : goal.loop-i-init
loop-i-init c =
    let a = c.args in
    let l = a.self.left in
    let r = a.self.right in
    c.least_row-b.ensures ∙ sum_least_none (con_val a.keys.now l.node l.mul) (con_len r.node) (con_val a.keys.now r.node r.mul) a.a

pub loop-i-preserved : goal.loop-i-preserved
loop-i-preserved c =
    let a = c.args in
    let l = a.self.left in
    let r = a.self.right in
    c.least_row-b-in-loop-i.ensures
    ∙ ap₂ (λ (v : ℕ) (b : ℕ). least_all (con_len r.node) (λ (j : ℕ). v + con_val a.keys.now r.node r.mul j) a.a b) c.at-x.ensures.0
    (c.pick.ensures ∙ ap₂ (λ (v : ℕ) (b : ℕ). pick_of a.a v b) c.at-x.ensures.0 c.loop-i.invariant)
    ∙ sum_least_more c.loop-i.i (con_val a.keys.now l.node l.mul) (con_len r.node) (con_val a.keys.now r.node r.mul) a.a

pub returns : goal.returns
returns c =
    let a = c.args in
    let l = a.self.left in
    let r = a.self.right in
    let q : c.loop-i.i ≡ con_len l.node = omega arith in
    c.loop-i.invariant
    ∙ ap (λ (n : ℕ). least_sum n (con_val a.keys.now l.node l.mul) (con_len r.node) (con_val a.keys.now r.node r.mul) a.a) q
    ∙ node_least a.a a.keys.now l.node l.mul r.node r.mul (λ k. omega (arith, c.type_inv.keys k)) l.small r.small
