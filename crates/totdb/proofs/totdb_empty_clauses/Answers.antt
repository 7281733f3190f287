use Rattle.totdb.proofs.Telling.{empty_told}
use Rattle.totdb.proofs.totdb_empty_clauses.Goals as goal

pub returns : goal.returns
returns c = empty_told _ _ _ _ _ _ _ _ _ _ _ c.from-c.ensures c.empty_clauses-said.ensures c.say_kept.ensures
