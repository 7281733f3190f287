use Prim.Native.Nat.{ℕ, ◌+◌, ◌<◌}
use native.Mathlib.Omega.{arith}
use mathlib.Core.Path.{◌≡◌, ◌∙◌}
use lib.ListN.{length-set}
use lib.IntN.{pos}
use mir.Syntax.{w32}
use mir.Val.{SFits}
use mir.Facts.{to_z-of_z}
use Rattle.paper.specs.Upkeep.{value_of}
use Rattle.worth.proofs.Worth.{reach, held_more}
use Rattle.worth.proofs.values.Goals as goal

pub overflow_cast-work : goal.overflow_cast-work
overflow_cast-work c =
    let turn : (f : ℕ) → c.loop-i.i < f → c.node_value-v.result ≡ value_of f c.args.nodes.now c.args.inputs.now c.args.assign.now c.loop-i.i = λ f g. reach c.args.nodes.now c.args.inputs.now c.args.assign.now c.loop-i.work c.args.id c.loop-i.i c.node_value-v.result c.requires.sound (omega arith) c.loop-i.invariant.1 c.node_value-v.ensures f g in
    let small : SFits w32 (pos c.node_value-v.result) = let h = c.requires.sound.low c.loop-i.i (omega arith) (c.loop-i.i + 1) (omega arith) in record { sfits = omega (arith, h, turn (c.loop-i.i + 1) (omega arith)) } in
    small

pub loop-i-preserved : goal.loop-i-preserved
loop-i-preserved c =
    let turn : (f : ℕ) → c.loop-i.i < f → c.node_value-v.result ≡ value_of f c.args.nodes.now c.args.inputs.now c.args.assign.now c.loop-i.i = λ f g. reach c.args.nodes.now c.args.inputs.now c.args.assign.now c.loop-i.work c.args.id c.loop-i.i c.node_value-v.result c.requires.sound (omega arith) c.loop-i.invariant.1 c.node_value-v.ensures f g in
    let small : SFits w32 (pos c.node_value-v.result) = let h = c.requires.sound.low c.loop-i.i (omega arith) (c.loop-i.i + 1) (omega arith) in record { sfits = omega (arith, h, turn (c.loop-i.i + 1) (omega arith)) } in (
      length-set c.loop-i.work c.loop-i.i _ ∙ c.loop-i.invariant.0,
      held_more c.args.nodes.now c.args.inputs.now c.args.assign.now c.loop-i.work c.loop-i.i c.node_value-v.result _
          (omega (arith, c.loop-i.invariant.0, c.requires.id_in_bounds.0, c.loop-i-test.true)) (to_z-of_z {w = w32} {z = pos c.node_value-v.result} small) c.loop-i.invariant.1 turn,
    )
