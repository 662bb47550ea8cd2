use Rattle.bier_forward.proofs.ReadLaws.{long_enough}
use Rattle.bier_forward.proofs.incoming.packet_with.Goals as goal

pub after_header-requires : goal.after_header-requires
after_header-requires c = long_enough c.args.kind c.args.triple.bsl c.args.octets.now _ c.in-Ok.ensures.exact
