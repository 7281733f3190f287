use mathlib.Core.Path.{sym, ◌∙◌}
use mathlib.Core.Bool.{and-false}
use native.Mathlib.Omega.{arith}
use borrow.Author.Tests.{eq-eqb, ne_eqb}
use Rattle.paper.specs.Below.{and_then, and_else}
use Rattle.paper.specs.Table.{node_ok}
use Rattle.node_check.proofs.node_ok.Goals as goal

pub returns-in-Leaf : goal.returns-in-Leaf
unfolding node_ok
returns-in-Leaf c = simp (eq-eqb _ _ c.in-Leaf.ensures) c.leaf_ok.ensures

pub returns-in-Dummy : goal.returns-in-Dummy
unfolding node_ok
returns-in-Dummy c = simp (ne_eqb c.args.n.kind 0 (λ e. omega arith), eq-eqb _ _ c.in-Dummy.ensures) c.dummy_ok.ensures

pub returns-then-inner_ok : goal.returns-then-inner_ok
unfolding node_ok
returns-then-inner_ok c =
    simp (ne_eqb c.args.n.kind 0 (λ e. omega arith), ne_eqb c.args.n.kind 3 (λ e. omega arith), eq-eqb _ _ c.in-Unit.ensures)
    (and_then _ _ _ (sym c.inner_ok.ensures ∙ c.if-inner_ok.true) c.unit_ok.ensures)

pub returns-else-inner_ok : goal.returns-else-inner_ok
unfolding node_ok
returns-else-inner_ok c =
    simp (ne_eqb c.args.n.kind 0 (λ e. omega arith), ne_eqb c.args.n.kind 3 (λ e. omega arith))
    (c.if-inner_ok.false ∙ and_else _ _ (sym c.inner_ok.ensures ∙ c.if-inner_ok.false))

pub returns-then-inner_ok-2 : goal.returns-then-inner_ok-2
unfolding node_ok
returns-then-inner_ok-2 c =
    simp (ne_eqb c.args.n.kind 0 (λ e. omega arith), ne_eqb c.args.n.kind 3 (λ e. omega arith), ne_eqb c.args.n.kind 1 (λ e. omega arith), eq-eqb _ _ c.in-General.ensures)
    (and_then _ _ _ (sym c.inner_ok-in-General.ensures ∙ c.if-inner_ok-2.true) c.general_ok.ensures)

pub returns-else-inner_ok-2 : goal.returns-else-inner_ok-2
unfolding node_ok
returns-else-inner_ok-2 c =
    simp (ne_eqb c.args.n.kind 0 (λ e. omega arith), ne_eqb c.args.n.kind 3 (λ e. omega arith))
    (c.if-inner_ok-2.false ∙ and_else _ _ (sym c.inner_ok-in-General.ensures ∙ c.if-inner_ok-2.false))

pub returns-in-Other : goal.returns-in-Other
unfolding node_ok
returns-in-Other c =
    let k = c.args.n.kind in
    simp (ne_eqb k 0 (λ e. omega arith), ne_eqb k 3 (λ e. omega arith), ne_eqb k 1 (λ e. omega arith), ne_eqb k 2 (λ e. omega arith), and-false)
