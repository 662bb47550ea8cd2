use Rattle.show_tables.proofs.RouterLaws.{leads_to_ends}
use Rattle.show_tables.proofs.bift.bift_tables.Goals as goal

pub push_set-requires-clause-leads : goal.push_set-requires-clause-leads
push_set-requires-clause-leads c =
    leads_to_ends c.args.router.now.control c.conf-conf.result.now c.in_ok-view.view.nodes c.conf-conf.ensures.conf c.in_ok-view.ensures
