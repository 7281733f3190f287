use Rattle.paper.specs.Table.{leaf_ok, dummy_ok}
use Rattle.node_check.proofs.dummy_ok.Goals as goal

pub returns : goal.returns
unfolding leaf_ok dummy_ok
returns c = c.leaf_ok.ensures
