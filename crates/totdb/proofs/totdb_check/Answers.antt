use mathlib.Core.Bool.{true, false}
use mathlib.Core.Path.{sym, ◌∙◌}
use Rattle.totdb.proofs.Telling.{check_told}
use Rattle.totdb.proofs.totdb_check.Goals as goal

pub returns-then-check : goal.returns-then-check
returns-then-check c = check_told _ _ _ _ _ _ _ _ true c.from-c.ensures (sym c.if-check.true ∙ c.check.ensures)

pub returns-else-check : goal.returns-else-check
returns-else-check c = check_told _ _ _ _ _ _ _ _ false c.from-c.ensures (sym c.if-check.false ∙ c.check.ensures)
