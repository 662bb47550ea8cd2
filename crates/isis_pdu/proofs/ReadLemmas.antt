-- What is read is in the grammar.
use Rattle.std.proofs.Common.{ℕ, List, Result, Ok, Err}
use Rattle.std.specs.Prelude.{IfOk}
use Rattle.wire_base.specs.declared.faults.PduFault.{PduFault}
use Rattle.wire_base.specs.declared.conf.Level.{Level}
use Rattle.wire_base.specs.model.Fields.{Gives, AreOctets}
use Rattle.wire_base.specs.model.Pdu.{IsPdu, pdu_at}
use Rattle.laws_format.proofs.PduLaws.{pdu_found}
use Rattle.isis_pdu.specs.declared.kinds.Pdu.{Pdu}
use Rattle.isis_pdu.specs.Views.{pdu_of}

pub read_found : (level : Level) (octets : List ℕ) (r : Result Pdu PduFault) → AreOctets octets → Gives pdu_of r (pdu_at level octets) → IfOk r (λ p. IsPdu level octets (pdu_of p))
read_found level octets (Ok p) fits given = pdu_found level octets (pdu_of p) fits given
read_found level octets (Err e) fits given = tt
