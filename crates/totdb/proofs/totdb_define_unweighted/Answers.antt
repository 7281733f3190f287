use Rattle.totdb.proofs.Telling.{unweighted_told}
use Rattle.totdb.proofs.totdb_define_unweighted.Goals as goal

pub returns : goal.returns
returns c = unweighted_told _ _ _ _ _ _ _ _ _ _ _ _ _ _ _ _ _ _ _ _ c.from-c.ensures c.from-semantics.ensures c.define_unweighted-said.ensures c.say_demanded.ensures
