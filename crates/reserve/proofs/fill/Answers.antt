use native.Mathlib.Omega.{arith}
use mathlib.Core.Path.{◌∙◌}
use Rattle.reserve.proofs.Give.{fill_room, fill_turn, fill_end}
use Rattle.reserve.proofs.fill.Goals as goal

pub give_cell-n-requires : goal.give_cell-n-requires
give_cell-n-requires c =
    (omega (arith, c.loop-i-test.true, c.loop-i.invariant.0, c.requires.0), fill_room c.args.first c.args.count c.loop-i.i _ _ c.loop-i-test.true c.loop-i.invariant.1 c.requires.2)

pub loop-i-preserved : goal.loop-i-preserved
loop-i-preserved c = (
  c.give_cell-n.auto.lits ∙ c.loop-i.invariant.0,
  fill_turn c.args.first c.args.count c.loop-i.i _ _ _ c.loop-i-test.true c.give_cell-n.ensures c.loop-i.invariant.1,
)

pub returns : goal.returns
returns c = fill_end c.args.first c.args.count c.loop-i.i _ _ (omega arith) (omega arith) c.loop-i.invariant.1
