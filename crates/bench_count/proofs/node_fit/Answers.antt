use Rattle.bench_count.specs.Ready.{node_fit}
use borrow.Author.Tests.{eq-eqb, ne_eqb}
use Rattle.bench_count.proofs.node_fit.Goals as goal

pub returns-then-n-eq0 : goal.returns-then-n-eq0
unfolding node_fit
returns-then-n-eq0 c = rw (eq-eqb _ 0 c.if-n-eq0.true)

pub returns : goal.returns
unfolding node_fit
returns c = rw (ne_eqb _ 0 c.if-n-eq0.false) cc
