use Rattle.std.proofs.Common.{false, [], refl}
use Rattle.laws_format.proofs.TlvListLaws.{pass_none}
use Rattle.isis_pdu.proofs.known.Verified.none.Goals as goal

pub invariant_of-result : goal.invariant_of-result
invariant_of-result c = rw c.new.ensures (record { right = refl; whole = pass_none false [] refl })
