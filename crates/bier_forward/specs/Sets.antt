-- The positions of an effect, as stored.
use Rattle.std.specs.Prelude.{◌≡◌, Option, Some, None, option_map}
use Rattle.wire_base.specs.model.OnFrame.{Positions}
use Rattle.bier_bits.specs.Any.{bsl_of}
use Rattle.bfr_edge.specs.declared.packet.Packet.{Packet}
use Rattle.bfr_edge.specs.Entry.{positions_in}

-- the positions of a set, where there is one
abbrev pub set_in : Option Packet → Option Positions
set_in sets = option_map positions_in sets

-- its BitString has the triple's length
abbrev pub HasLength : Packet → Type 0
HasLength p = bsl_of p.bits ≡ p.triple.bsl

abbrev pub HaveLength : Option Packet → Type 0
HaveLength None = Unit {0}
HaveLength (Some p) = HasLength p
