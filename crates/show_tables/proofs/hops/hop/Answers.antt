use Rattle.show_tables.proofs.hops.hop.Goals as goal

pub enter_packets-requires-clause-kept : goal.enter_packets-requires-clause-kept
enter_packets-requires-clause-kept c = c.new-routes.ensures c.args.ground.conf.now c.args.ground.view.now.nodes
