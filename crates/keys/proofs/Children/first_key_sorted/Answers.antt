use Prim.Native.Nat.{ℕ, ◌+◌, ◌-◌, ◌<◌, ◌≤◌}
use native.Mathlib.Omega.{arith}
use mathlib.Core.Path.{sym, ◌≡◌, ap, ap₂, ◌∙◌}
use Rattle.paper.specs.Rows.{con_len, con_val, value_at}
use Rattle.keys.specs.Least.{none, pick_of, least_all, least_sum, Mono}
use Rattle.keys.proofs.Laws.{sum_least_none, sum_least_more, node_least, mono_times, stair_high, stair_row, cut_below, skip_rows, sum_stays, last_most}
use Rattle.keys.proofs.Children.first_key_sorted.Goals as goal

pub loop-i-init : goal.loop-i-init
loop-i-init c =
    let a = c.args in
    let l = a.self.left in
    let r = a.self.right in
    let L : ℕ → ℕ = λ k. con_val a.keys.now l.node l.mul k in
    let R : ℕ → ℕ = λ k. con_val a.keys.now r.node r.mul k in
    let mono_l : Mono (con_len l.node) L = mono_times (con_len l.node) (λ (k : ℕ). value_at a.keys.now l.node k) l.mul c.requires.0 in
    let mono_r : Mono (con_len r.node) R = mono_times (con_len r.node) (λ (k : ℕ). value_at a.keys.now r.node k) r.mul c.requires.1 in
    let nr : ℕ = con_len r.node in
    let vc : c.len.result ≡ nr = c.len.ensures in
    let j-most : c.back-j.result ≤ nr = omega (arith, c.back-j.ensures.within, vc) in
    let mid0 : (k : ℕ) → c.back-j.result ≤ k → k < nr → a.a ≤ 0 + R k = λ k h g. c.back-j.ensures.high k h (omega (arith, vc)) in
    let most = c.largest-most in (
      c.pick_at-b.ensures
          ∙ stair_row nr R mono_r 0 a.a nr c.back-j.result (omega arith) j-most mid0 c.back-j.ensures.low (λ k h g. absurd (omega arith)) none
          ∙ sum_least_none L nr R a.a
          ∙ skip_rows c.back-from.result L nr R a.a most.result (λ k l. omega (arith, last_most nr R mono_r k l, most.ensures.0))
          (cut_below (con_len l.node) L mono_l most.result a.a c.len-n.result c.back-from.result (omega (arith, c.len-n.ensures)) c.back-from.ensures),
      j-most,
      (λ p k h g q w. let m : a.a ≤ 0 + R k = mid0 k q w in omega arith),
    )

pub returns-then-b-a : goal.returns-then-b-a
returns-then-b-a c =
    let a = c.args in
    let l = a.self.left in
    let r = a.self.right in
    let L : ℕ → ℕ = λ k. con_val a.keys.now l.node l.mul k in
    let R : ℕ → ℕ = λ k. con_val a.keys.now r.node r.mul k in
    let nr : ℕ = con_len r.node in
    let i = c.loop-i.i in
    let q : (con_len l.node - i) + i ≡ con_len l.node = omega (arith, c.len-n.ensures) in
    c.if-b-a.true
    ∙ sym (sum_stays L nr R a.a i (sym c.loop-i.invariant.0 ∙ c.if-b-a.true) (con_len l.node - i))
    ∙ ap (λ (k : ℕ). least_sum k L nr R a.a) q
    ∙ node_least a.a a.keys.now l.node l.mul r.node r.mul (λ k. omega (arith, c.type_inv.keys k)) l.small r.small

pub loop-i-preserved : goal.loop-i-preserved
loop-i-preserved c =
    let a = c.args in
    let l = a.self.left in
    let r = a.self.right in
    let L : ℕ → ℕ = λ k. con_val a.keys.now l.node l.mul k in
    let R : ℕ → ℕ = λ k. con_val a.keys.now r.node r.mul k in
    let mono_l : Mono (con_len l.node) L = mono_times (con_len l.node) (λ (k : ℕ). value_at a.keys.now l.node k) l.mul c.requires.0 in
    let mono_r : Mono (con_len r.node) R = mono_times (con_len r.node) (λ (k : ℕ). value_at a.keys.now r.node k) r.mul c.requires.1 in
    let nr : ℕ = con_len r.node in
    let X : ℕ = c.at-x.result in
    let x-is : X ≡ L c.loop-i.i = c.at-x.ensures.0 in
    let i-low : c.loop-i.i < con_len l.node = omega (arith, c.len-n.ensures) in
    let back = c.back-j-in-loop-i in
    let high2 : (k : ℕ) → c.loop-i.j ≤ k → k < nr → a.a ≤ X + R k =
    λ k h g. let q : a.a ≤ L c.loop-i.i + R k = c.loop-i.invariant.2 c.loop-i.i k (omega arith) i-low h g in omega (arith, x-is) in
    let all2 : (k : ℕ) → back.result ≤ k → k < nr → a.a ≤ X + R k =
    stair_high nr R mono_r X a.a c.loop-i.j back.result c.loop-i.invariant.1 back.ensures.within back.ensures.high back.ensures.low high2 in
    let next2 : (i k : ℕ) → c.loop-i.i + 1 ≤ i → i < con_len l.node → back.result ≤ k → k < nr → a.a ≤ L i + R k =
    λ i k h g p q. let m : L c.loop-i.i ≤ L i = mono_l c.loop-i.i i (omega arith) g in let w : a.a ≤ X + R k = all2 k p q in omega (arith, x-is) in (
      c.pick_at-b-in-loop-i.ensures
          ∙ stair_row nr R mono_r X a.a c.loop-i.j back.result c.loop-i.invariant.1 back.ensures.within back.ensures.high back.ensures.low high2 c.pick.result
          ∙ ap₂ (λ (x : ℕ) (y : ℕ). least_all nr (λ (k : ℕ). x + R k) a.a y) x-is
          (c.pick.ensures ∙ ap₂ (λ (x : ℕ) (y : ℕ). pick_of a.a x y) x-is c.loop-i.invariant.0)
          ∙ sum_least_more c.loop-i.i L nr R a.a,
      omega (arith, c.loop-i.invariant.1, back.ensures.within),
      next2,
    )

pub returns : goal.returns
returns c =
    let a = c.args in
    let l = a.self.left in
    let r = a.self.right in
    let L : ℕ → ℕ = λ k. con_val a.keys.now l.node l.mul k in
    let R : ℕ → ℕ = λ k. con_val a.keys.now r.node r.mul k in
    let q : c.loop-i.i ≡ con_len l.node = omega (arith, c.back-from.ensures.within, c.len-n.ensures) in
    c.loop-i.invariant.0
    ∙ ap (λ (n : ℕ). least_sum n L (con_len r.node) R a.a) q
    ∙ node_least a.a a.keys.now l.node l.mul r.node r.mul (λ k. omega (arith, c.type_inv.keys k)) l.small r.small
