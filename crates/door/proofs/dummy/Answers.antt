use Rattle.paper.specs.Calls.{dummy_call}
use Rattle.door.specs.Door.{dummy_result}
use Rattle.door.proofs.dummy.Goals as goal

pub returns : goal.returns
unfolding dummy_call dummy_result
returns c = let e = c.dummy.ensures in record { result = e.0; nodes_are = e.1 }
