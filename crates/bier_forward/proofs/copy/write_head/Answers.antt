use Rattle.wire_base.specs.model.BitSet.{set_of}
use Rattle.bier_forward.proofs.CopyLaws.{head_written}
use Rattle.bier_forward.proofs.copy.write_head.Goals as goal

pub returns : goal.returns
returns g c = head_written c.args.packet.now c.packet.inside.triple c.packet.inside.kind c.packet.inside.header (set_of c.packet.inside.set.now) c.packet.inside.payload.now c.args.bift c.args.ttl c.args.set.now c.write_copy.new.out c.packet.view_is c.write_copy.ensures
