use Prim.Native.Nat.{ℕ}
use native.Mathlib.Omega.{arith}
use mathlib.Core.Path.{◌≡◌, refl, sym, ap, ap₂, ◌∙◌}
use mathlib.Core.Bool.{Bool, ◌&&◌}
use mathlib.Core.List.{List}
use lib.ListN.{get_or}
use lib.Dec.{leb, eqb}
use Rattle.paper.specs.Below.{all_none, all_step, all_end}
use Rattle.paper.specs.Rows.{word_from}
use Rattle.paper.specs.Limits.{key_limit}
use Rattle.paper.specs.Keys.{node_keys}
use Rattle.keys.specs.Least.{none}
use Rattle.keys.proofs.Laws.{node_between, row_test, turn_key, turn_start}
use Rattle.keys.proofs.general_keys_ok.Goals as goal

pub loop-i-init : goal.loop-i-init
loop-i-init c = (sym (all_none _), refl)

pub overflow_add-a : goal.overflow_add-a
overflow_add-a c =
    let a = c.args in
    let n = a.n in
    let t = turn_key a.keys.now a.l n.lmul a.r n.rmul (λ k. omega (arith, c.type_inv.keys k)) c.requires.0 c.requires.1 _ _ c.loop-i.i c.next_key-x.ensures c.loop-i.invariant.1 in
    omega (arith, t.1)

pub loop-i-preserved : goal.loop-i-preserved
loop-i-preserved c =
    let a = c.args in
    let n = a.n in
    let t = turn_key a.keys.now a.l n.lmul a.r n.rmul (λ k. omega (arith, c.type_inv.keys k)) c.requires.0 c.requires.1 _ _ c.loop-i.i c.next_key-x.ensures c.loop-i.invariant.1 in (
      all_step _ _ _ _ c.loop-i.invariant.0 (ap₂ (λ (k : ℕ) (x : ℕ). eqb k x && leb k key_limit) c.word_from-k.ensures.0 t.0),
      turn_start (node_keys a.keys.now a.l n.lmul a.r n.rmul) _ c.loop-i.i t.0,
    )

pub returns : goal.returns
returns c =
    let a = c.args in
    let n = a.n in
    let S : List ℕ = node_keys a.keys.now a.l n.lmul a.r n.rmul in
    let t = turn_key a.keys.now a.l n.lmul a.r n.rmul (λ k. omega (arith, c.type_inv.keys k)) c.requires.0 c.requires.1 _ _ c.loop-i.i c.next_key-past.ensures c.loop-i.invariant.1 in
    let q : c.loop-i.i ≡ n.count = omega arith in
    ap₂ (λ (t : Bool) (x : ℕ). t && eqb x none)
    (all_end _ _ _ _ c.loop-i.invariant.0 (omega arith) c.loop-i-test.false)
    (t.0 ∙ ap (λ (k : ℕ). get_or S k none) q)
    ∙ row_test S (λ (k : ℕ). word_from a.keys.now n.first k) n.count
    (node_between a.keys.now a.l n.lmul a.r n.rmul (λ k. omega (arith, c.type_inv.keys k)) c.requires.0 c.requires.1)
