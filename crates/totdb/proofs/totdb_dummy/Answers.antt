use Rattle.totdb.proofs.Telling.{dummy_told}
use Rattle.totdb.proofs.totdb_dummy.Goals as goal

pub returns : goal.returns
returns c = dummy_told _ _ _ _ _ _ _ _ _ _ _ _ _ c.from-c.ensures c.dummy-said.ensures c.say_added.ensures
