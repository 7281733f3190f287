use Rattle.door.specs.Door.{empty_result}
use Rattle.door.proofs.empty_clauses.Goals as goal

pub returns : goal.returns
unfolding empty_result
returns c = c.empty_clauses.ensures
