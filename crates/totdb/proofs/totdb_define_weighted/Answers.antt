use Rattle.totdb.proofs.Telling.{weighted_told}
use Rattle.totdb.proofs.totdb_define_weighted.Goals as goal

pub returns : goal.returns
returns c = weighted_told _ _ _ _ _ _ _ _ _ _ _ _ _ _ _ _ _ _ c.from-c.ensures c.define_weighted-said.ensures c.say_demanded.ensures
