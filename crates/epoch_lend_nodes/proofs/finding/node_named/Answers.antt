use Rattle.epoch_lend_nodes.proofs.finding.node_named.Goals as goal

pub returns : goal.returns
returns g c = (c.in_ok-name.field-0, c.in_ok-node.ensures.did)
