use Rattle.door.proofs.Laws.{reserve_met}
use Rattle.door.proofs.reserve_vars.Goals as goal

pub returns : goal.returns
returns c = let e = c.reserve_vars.ensures in reserve_met _ _ _ _ _ e.0 e.1
