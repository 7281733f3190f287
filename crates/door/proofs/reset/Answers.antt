use Rattle.door.proofs.Laws.{reset_met}
use Rattle.door.proofs.reset.Goals as goal

pub returns : goal.returns
returns c = let e = c.reset.ensures in reset_met _ _ _ e.0 e.1
