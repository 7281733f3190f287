use Rattle.totdb.proofs.Telling.{inner_told}
use Rattle.totdb.proofs.totdb_inner.Goals as goal

pub returns : goal.returns
returns c = inner_told _ _ _ _ _ _ _ _ _ _ _ _ _ _ _ _ _ c.from-c.ensures c.inner-said.ensures c.say_added.ensures
