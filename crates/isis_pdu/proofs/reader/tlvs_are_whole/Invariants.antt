use Rattle.std.proofs.Common.{◌≡◌, length}
use Rattle.wire_base.specs.model.Pdu.{tlvs_pass}
use Rattle.isis_pdu.proofs.reader.tlvs_are_whole.Given as goal

abbrev pub invariant-tlvs : goal.invariant-tlvs
invariant-tlvs l = tlvs_pass l.rows l.walk ≡ tlvs_pass l.rows l.fn.bytes

abbrev pub decreases-tlvs : goal.decreases-tlvs
decreases-tlvs l = length l.walk
