use Rattle.door.proofs.Laws.{unweighted_met}
use Rattle.door.proofs.define_unweighted.Goals as goal

pub returns : goal.returns
returns c = let e = c.define_unweighted.ensures in unweighted_met _ _ _ _ _ _ _ _ _ e.value e.lits_after e.marks_after e.clauses_after
