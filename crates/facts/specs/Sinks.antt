-- Two runs side by side, whose clauses go to different places. One induction: a relation of the two states that has equal marks, and that each
-- step at a cell keeps, is kept by the whole run (`both_define`, `both_weigh`). So where clauses go changes nothing else: a map between the two places
-- that respects appending respects the runs (`define_hom`, `weigh_hom`).
use Rattle.paper.specs.Plain.{St}

-- ---- the clauses of one run through a map into those of another

abbrev pub through : {S T : Type 0} → (S → T) → St S → St T
through h s = record { lits = s.lits; marks = s.marks; next = s.next; out = h s.out }
