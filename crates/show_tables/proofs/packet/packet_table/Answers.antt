use Rattle.show_tables.proofs.RouterLaws.{leads_to_ends}
use Rattle.show_tables.proofs.packet.packet_table.Goals as goal

pub push_packet-requires-clause-leads : goal.push_packet-requires-clause-leads
push_packet-requires-clause-leads c =
    leads_to_ends c.args.router.now.control c.conf-conf.result.now c.in_ok-view.view.nodes c.conf-conf.ensures.conf c.in_ok-view.ensures
