use Rattle.totdb.proofs.Telling.{fresh_told}
use Rattle.totdb.proofs.totdb_fresh.Goals as goal

pub returns : goal.returns
returns c = fresh_told _ _ _ _ _ _ _ c.from-c.ensures c.fresh-said.ensures c.say_kept.ensures
