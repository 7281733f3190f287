use Rattle.reserve.proofs.+reserve_node.Given as goal

abbrev pub decreases-reserve_node : goal.decreases-reserve_node
decreases-reserve_node l = l.id
