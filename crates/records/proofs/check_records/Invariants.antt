use Rattle.std.proofs.Common.{◌≡◌}
use Rattle.records.specs.Table.{record_in, seen_at}
use Rattle.records.proofs.check_records.Given as goal

abbrev pub invariant-loop-i : goal.invariant-loop-i
invariant-loop-i l = l.s ≡ seen_at (record_in l.nodes) l.inputs l.keys l.lits l.marks l.clauses l.c l.i
