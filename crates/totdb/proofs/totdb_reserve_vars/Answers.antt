use Rattle.totdb.proofs.Telling.{reserve_told}
use Rattle.totdb.proofs.totdb_reserve_vars.Goals as goal

pub returns : goal.returns
returns c = reserve_told _ _ _ _ _ _ _ _ _ _ _ _ _ _ c.from-c.ensures c.reserve_vars-said.ensures c.say_kept.ensures
