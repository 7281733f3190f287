use Rattle.totdb.proofs.Telling.{reset_told}
use Rattle.totdb.proofs.totdb_reset.Goals as goal

pub returns : goal.returns
returns c = reset_told _ _ _ _ _ _ _ _ _ _ _ _ c.from-c.ensures c.reset-said.ensures c.say_kept.ensures
