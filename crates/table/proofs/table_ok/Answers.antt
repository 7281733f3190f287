use mathlib.Core.Path.{sym, ◌∙◌}
use Rattle.paper.specs.Below.{and_then, and_else}
use Rattle.paper.specs.Table.{table_ok_at}
use Rattle.table.proofs.Words.{nodes_few}
use Rattle.table.proofs.table_ok.Goals as goal

pub returns-then-not-counters_ok : goal.returns-then-not-counters_ok
unfolding table_ok_at
returns-then-not-counters_ok c = and_else _ _ (sym c.counters_ok.ensures ∙ c.if-not-counters_ok.true)

pub returns-then-not-inputs_ok : goal.returns-then-not-inputs_ok
unfolding table_ok_at
returns-then-not-inputs_ok c = and_then _ _ _ (sym c.counters_ok.ensures ∙ c.if-not-counters_ok.false) (and_else _ _ (sym c.inputs_ok.ensures ∙ c.if-not-inputs_ok.true))

pub returns-then-not-cells_ok : goal.returns-then-not-cells_ok
unfolding table_ok_at
returns-then-not-cells_ok c =
    and_then _ _ _ (sym c.counters_ok.ensures ∙ c.if-not-counters_ok.false)
    (and_then _ _ _ (sym c.inputs_ok.ensures ∙ c.if-not-inputs_ok.false) (and_else _ _ (sym c.cells_ok.ensures ∙ c.if-not-cells_ok.true)))

pub nodes_ok-requires : goal.nodes_ok-requires
nodes_ok-requires c = nodes_few _ _ _ _ (sym c.counters_ok.ensures ∙ c.if-not-counters_ok.false)

pub returns : goal.returns
unfolding table_ok_at
returns c =
    and_then _ _ _ (sym c.counters_ok.ensures ∙ c.if-not-counters_ok.false)
    (and_then _ _ _ (sym c.inputs_ok.ensures ∙ c.if-not-inputs_ok.false) (and_then _ _ _ (sym c.cells_ok.ensures ∙ c.if-not-cells_ok.false) c.nodes_ok.ensures))
