-- The result of an ingress.
use Rattle.std.specs.Prelude.{◌≡◌, Option, Some}
use Rattle.wire_base.specs.declared.faults.EdgeFault.{EdgeFault}
use Rattle.wire_base.specs.declared.faults.EdgeFault.TheVariants.{NoEgress, IdZero, SiLarge, NotBfr, BslUnknown, Memory}
use Rattle.wire_base.specs.model.Ingress.{IngressPacket}
use Rattle.wire_base.specs.model.Item as item
use Rattle.wire_base.specs.model.OnFrame.{Positions}
use Rattle.bier_bits.specs.Any.{positions_of}
use Rattle.bfr_edge.specs.declared.packet.Packet.{Packet}

-- a returned packet and one of the definition, as a triple and bit positions
abbrev pub positions_in : Packet → Positions
positions_in p = record { triple = p.triple; positions = positions_of p.bits }

abbrev pub placed : IngressPacket → Positions
placed p = record { triple = p.triple; positions = item.positions_of p.triple p.ids }

-- An error is the first that applies, or out of memory.
abbrev pub Refuses : Option EdgeFault → EdgeFault → Type 0
Refuses first NoEgress = first ≡ Some NoEgress
Refuses first IdZero = first ≡ Some IdZero
Refuses first (SiLarge k) = first ≡ Some (SiLarge k)
Refuses first NotBfr = first ≡ Some NotBfr
Refuses first BslUnknown = first ≡ Some BslUnknown
Refuses first Memory = Unit {0}
