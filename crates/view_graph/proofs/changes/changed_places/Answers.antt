use Rattle.view_graph.specs.Renewal.{said_now}
use Rattle.view_graph.proofs.ChangeLaws.{noted_next}
use Rattle.view_graph.proofs.changes.changed_places.Goals as goal

pub systems-preserved : goal.systems-preserved
systems-preserved c =
    noted_next (said_now c.args.conf.now c.args.up.now c.args.store.now.entries) c.args.nodes.now c.args.conf.now.system c.args.changed.now c.systems.at _ c.systems.places.items c.add_changed-in-systems.new.places.items c.systems-test.true c.in_ok-add_changed-2.ensures.stays c.systems.invariant (c.in_ok-add_changed-2.ensures.noted c.if-not-branch-2.false)
