use Rattle.isis_pdu.specs.Views.{pdu_of}
use Rattle.router_core.proofs.KeepLaws.{taken_keeps}
use Rattle.router_core.proofs.control.Control.take_pdu.Goals as goal

pub returns-clause-kept : goal.returns-clause-kept
returns-clause-kept c =
    taken_keeps c.args.self.now c.flood_pdu.new.self c.args.link (pdu_of c.args.pdu) c.note_pdu.new.kept c.flood_pdu.new.effects c.flood_pdu.result c.flood_pdu.ensures.next c.flood_pdu.ensures.err c.note_pdu.ensures.now c.note_pdu.ensures.next
