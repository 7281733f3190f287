use Rattle.totdb.proofs.Telling.{value_told}
use Rattle.totdb.proofs.totdb_value.Goals as goal

pub returns : goal.returns
returns c = value_told _ _ _ _ _ _ _ _ _ _ _ _ _ _ c.from-c.ensures c.value-said.ensures c.say_valued.ensures
