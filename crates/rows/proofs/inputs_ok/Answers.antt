use Prim.Native.Nat.{◌<◌}
use Rattle.std.proofs.Common.{sym, ap, ◌∙◌, get_or, arith, ℤ, pos, take}
use Rattle.std.proofs.lemmas.List.{length-take-le, get_or-take}
use mir.Syntax.{w32}
use mir.ValLaws.{to_z-of_z}
use Rattle.paper.specs.Below.{all_none, all_step}
use Rattle.paper.specs.Rows.{lit_ok}
use Rattle.rows.proofs.inputs_ok.Goals as goal

pub loop-x-init : goal.loop-x-init
loop-x-init c = sym (all_none _)

pub loop-x-preserved : goal.loop-x-preserved
loop-x-preserved c =
    let a = c.args in
    let k = c.loop-x.x-index in
    let low : k < a.n = omega (arith, c.loop-x-test.true, length-take-le a.n a.inputs.now (omega arith)) in
    let bits = to_z-of_z w32 (get_or (take a.n a.inputs.now) k (pos 0)) (record { sfits = c.literal_ok-arg-1.given }) in
    all_step _ _ k _ c.loop-x.invariant (c.literal_ok-ok.ensures ∙ ap (λ (z : ℤ). lit_ok z a.f) (bits ∙ get_or-take a.n a.inputs.now k (pos 0) low))
