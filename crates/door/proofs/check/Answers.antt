use Rattle.paper.specs.Calls.{checked}
use Rattle.door.proofs.check.Goals as goal

pub returns : goal.returns
unfolding checked
returns c = c.table_ok.ensures
