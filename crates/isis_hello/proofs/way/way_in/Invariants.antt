use Rattle.std.proofs.Common.{◌≡◌, length}
use Rattle.wire_base.specs.model.Tlv.{tlvs_of}
use Rattle.isis_hello.specs.Hello.{way_in}
use Rattle.isis_hello.proofs.WayLemmas.{way_with}
use Rattle.isis_hello.proofs.way.way_in.Given as goal

abbrev pub invariant-entries : goal.invariant-entries
invariant-entries l = way_with l.found (tlvs_of l.walk) ≡ way_in l.tlvs

abbrev pub decreases-entries : goal.decreases-entries
decreases-entries l = length l.walk
