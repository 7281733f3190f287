use Rattle.paper.specs.Calls.{inner_call}
use Rattle.door.specs.Door.{inner_result}
use Rattle.door.proofs.inner.Goals as goal

pub returns : goal.returns
unfolding inner_call inner_result
returns c = let e = c.inner.ensures in record { result = e.0; nodes_are = e.1; keys_are = e.2; lits_are = e.3; marks_are = e.4 }
