use mathlib.Core.Path.{sym, ◌∙◌}
use native.Mathlib.Omega.{arith}
use Rattle.facts.proofs.Facts.{table_facts}
use Rattle.upkeep.proofs.Answers.{work_gives}
use Rattle.upkeep.proofs.Sound.{sound}
use Rattle.upkeep.proofs.value.Goals as goal

pub overflow_sub-n : goal.overflow_sub-n
overflow_sub-n c = omega (arith, (table_facts _ _ _ _ _ _ _ _ (sym c.table_ok.ensures ∙ c.if-not-table_ok.false)).counters.first_low)

pub values-requires-clause-id_in_bounds : goal.values-requires-clause-id_in_bounds
values-requires-clause-id_in_bounds c = let t = (sym c.table_ok.ensures ∙ c.if-not-table_ok.false) in
    let h = c.if-c-id.false in
    let w = (work_gives _ _ _ (sym c.work_ok.ensures ∙ c.if-not-work_ok.false)).ids in (omega (arith, h, w), omega (arith, h, (table_facts _ _ _ _ _ _ _ _ t).counters.node_limit_met))

pub values-requires-clause-sound : goal.values-requires-clause-sound
values-requires-clause-sound c = let t = (sym c.table_ok.ensures ∙ c.if-not-table_ok.false) in
    let h = c.if-c-id.false in
    sound _ _ _ _ _ _ _ t _ _ h
