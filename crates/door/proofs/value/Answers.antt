use Rattle.door.specs.Door.{value_result}
use Rattle.door.proofs.value.Goals as goal

pub returns : goal.returns
unfolding value_result
returns c = c.value.ensures
