use Prim.Native.Nat.{ℕ, ◌+◌, ◌<◌, ◌^◌}
use native.Mathlib.Omega.{arith}
use mathlib.Core.Path.{◌≡◌, sym, ap, ap₂, ◌∙◌}
use mathlib.Core.List.{List}
use lib.ListN.{get_or, set}
use lib.Seq.{paste, paste-suc}
use native.Mathlib.Numerals.{add-one}
use Rattle.paper.specs.Keys.{node_keys}
use Rattle.keys.specs.Least.{none}
use Rattle.keys.proofs.Laws.{within, mono_same, pasted_below, turn_write, turn_start}
use Rattle.keys.proofs.Children.write_keys.Goals as goal

pub next_key-x-requires : goal.next_key-x-requires
next_key-x-requires c =
    let D : List ℕ = c.args.keys.now in
    let l = c.args.self.left in
    let r = c.args.self.right in
    let b = c.requires.count_in_bounds in
    let agree = pasted_below D c.loop-i.keys c.args.at (node_keys D l.node l.mul r.node r.mul) c.loop-i.i c.loop-i.invariant.0 (omega (arith, b.0)) in
    λ e. let m = c.rising-up.ensures e in (mono_same c.loop-i.keys D l.node c.args.at agree b.1 m.0, mono_same c.loop-i.keys D r.node c.args.at agree b.2 m.1)

pub overflow_cast-keys : goal.overflow_cast-keys
overflow_cast-keys c =
    let D : List ℕ = c.args.keys.now in
    let l = c.args.self.left in
    let r = c.args.self.right in
    let b = c.requires.count_in_bounds in
    let t = turn_write D c.loop-i.keys l.node l.mul r.node r.mul c.args.at (λ k. omega (arith, c.slice_known-1.given k)) l.small r.small _ _ c.loop-i.i c.loop-i.invariant.0
    (omega (arith, b.0)) b.1 b.2 c.next_key-x.ensures c.loop-i.invariant.1 in
    let i = c.loop-i.i in
    let few = c.requires.count_in_bounds_2 in
    let k : get_or (node_keys D l.node l.mul r.node r.mul) i 0 < 2 ^ 32 = few.1 i c.loop-i-test.true in
    omega (arith, t.0, within (node_keys D l.node l.mul r.node r.mul) i none 0 (omega (arith, few.0, c.loop-i-test.true)))

pub overflow_add-a : goal.overflow_add-a
overflow_add-a c =
    let D : List ℕ = c.args.keys.now in
    let l = c.args.self.left in
    let r = c.args.self.right in
    let b = c.requires.count_in_bounds in
    let t = turn_write D c.loop-i.keys l.node l.mul r.node r.mul c.args.at (λ k. omega (arith, c.slice_known-1.given k)) l.small r.small _ _ c.loop-i.i c.loop-i.invariant.0
    (omega (arith, b.0)) b.1 b.2 c.next_key-x.ensures c.loop-i.invariant.1 in
    omega (arith, t.1)

pub loop-i-preserved : goal.loop-i-preserved
loop-i-preserved c =
    let D : List ℕ = c.args.keys.now in
    let l = c.args.self.left in
    let r = c.args.self.right in
    let b = c.requires.count_in_bounds in
    let t = turn_write D c.loop-i.keys l.node l.mul r.node r.mul c.args.at (λ k. omega (arith, c.slice_known-1.given k)) l.small r.small _ _ c.loop-i.i c.loop-i.invariant.0
    (omega (arith, b.0)) b.1 b.2 c.next_key-x.ensures c.loop-i.invariant.1 in
    let S : List ℕ = node_keys D l.node l.mul r.node r.mul in
    let i = c.loop-i.i in
    let at = c.args.at in (
      ap₂ (λ (d : List ℕ) (x : ℕ). set d (at + i) x) c.loop-i.invariant.0 t.0
          ∙ paste-suc D at S i none (omega (arith, b.0)) (omega (arith, c.requires.count_in_bounds_2.0))
          ∙ ap (λ (k : ℕ). paste D at S k) (sym (add-one i)),
      turn_start S _ i t.0,
    )

pub returns : goal.returns
returns c =
    let D : List ℕ = c.args.keys.now in
    let l = c.args.self.left in
    let r = c.args.self.right in
    let q : c.loop-i.i ≡ c.args.count = omega arith in
    c.loop-i.invariant.0 ∙ ap (λ (k : ℕ). paste D c.args.at (node_keys D l.node l.mul r.node r.mul) k) q
