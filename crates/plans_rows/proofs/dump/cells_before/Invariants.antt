use Rattle.std.proofs.Common.{◌≡◌, ◌+◌, ◌≤◌, ◌*◌, drop, IsAscii}
use Rattle.plans_rows.specs.Dump.{cells_text}
use Rattle.plans_rows.proofs.dump.cells_before.Given as goal

abbrev pub invariant-loop-i : goal.invariant-loop-i
invariant-loop-i l = record {
  room : 27 * l.i + 156 ≤ l.at;
  within : l.at ≤ 480;
  written : drop l.at l.text ≡ cells_text (drop l.i l.keys) (drop l.i l.lits) (drop l.i l.marks);
  ascii : IsAscii (drop l.at l.text);
}
