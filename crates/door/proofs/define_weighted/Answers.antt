use Rattle.door.proofs.Laws.{weighted_met}
use Rattle.door.proofs.define_weighted.Goals as goal

pub returns : goal.returns
returns c = let e = c.define_weighted.ensures in weighted_met _ _ _ _ _ _ _ _ e.value e.lits_after e.marks_after e.clauses_after
