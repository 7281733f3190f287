use mathlib.Core.Path.{sym, ◌∙◌}
use Rattle.facts.proofs.Facts.{table_facts}
use Rattle.upkeep.proofs.reset.Goals as goal

pub clear-requires : goal.clear-requires
clear-requires c = (table_facts _ _ _ _ _ _ _ _ (sym c.table_ok.ensures ∙ c.if-not-table_ok.false)).mark_row
