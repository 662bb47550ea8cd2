use Rattle.view_graph.proofs.ListLaws.{links_step}
use Rattle.view_graph.proofs.claims.own_links.Goals as goal

pub ends-preserved : goal.ends-preserved
ends-preserved c = links_step c.args.up.now c.args.ends.now c.ends.place _ _ c.ends.links c.append_end.new.links c.requires c.ends-test.true c.ends.invariant c.in_ok-append_end.ensures
