-- What the blocks of a section say: its interfaces (draft-ietf-opsawg-pcapng, 4.2), and packets (4.3, 4.4). Each function here is
-- given the octets of a whole block.
use Rattle.std.specs.Prelude.{ℕ, ◌+◌, ◌-◌, ◌*◌, min, Bool, ◌||◌, List, length, take, drop, slice_get, Result, Ok, Err, Option, Some, None, is_none, nat_lt, ◌==◌, if◌then◌else◌}
use Rattle.wire_base.specs.declared.limits.TheConstants.{MOST_CAPTURED}
use Rattle.pcapng_frames.specs.declared.order.Order.{Order}
use Rattle.pcapng_frames.specs.declared.block.Block.{Block}
use Rattle.pcapng_frames.specs.declared.block.TheConstants.{SECTION_HEADER, INTERFACE, SIMPLE_PACKET, ENHANCED_PACKET}
use Rattle.pcapng_frames.specs.declared.interface.Interface.{Interface}
use Rattle.pcapng_frames.specs.declared.moment.Moment.{Moment}
use Rattle.pcapng_frames.specs.declared.packet.Packet.{Packet}
use Rattle.pcapng_frames.specs.declared.packet.NgRecord.{NgRecord}
use Rattle.pcapng_frames.specs.declared.content.Content.{Content}
use Rattle.pcapng_frames.specs.declared.content.Content.TheVariants as contents
use Rattle.pcapng_frames.specs.declared.faults.NgFault.{NgFault}
use Rattle.pcapng_frames.specs.declared.faults.NgFault.TheVariants as faults
use Rattle.pcapng_frames.specs.Blocks.{number}
use Rattle.pcapng_frames.specs.Times.{units, moment_in, resolution_of}

-- an interface with that link type, snap length and resolution
abbrev pub interface_of : ℕ → ℕ → ℕ → Result Interface NgFault
interface_of link snap resolution =
    if is_none (units resolution) then Err faults.NgTime else
    Ok (record { ethernet = link == 1; snap = snap; resolution = resolution })

abbrev pub interface_at : Order → List ℕ → Result Interface NgFault
interface_at order octets = interface_of (number order 2 (drop 8 octets)) (number order 4 (drop 12 octets)) (resolution_of order (take (length octets - 20) (drop 16 octets)))

-- whether data of that length pass the octets that are there for them, or are too long
abbrev pub is_long : ℕ → ℕ → Bool
is_long captured room = nat_lt room captured || nat_lt MOST_CAPTURED captured

-- An enhanced packet at that time, if it has one. Its data begin after 28 octets.
abbrev pub enhanced_of : ℕ → Interface → ℕ → ℕ → Option Moment → Result Packet NgFault
enhanced_of place interface captured original None = Err faults.NgTime
enhanced_of place interface captured original (Some moment) =
    Ok (record { interface = place; ethernet = interface.ethernet; moment = moment; whole = captured == original; start = 28; captured = captured })

-- on that interface, if its section has it
abbrev pub enhanced_on : Order → List ℕ → ℕ → Option Interface → Result Packet NgFault
enhanced_on order octets place None = Err faults.NgInterface
enhanced_on order octets place (Some interface) =
    if is_long (number order 4 (drop 20 octets)) (length octets - 32) then Err faults.NgPacket else
    enhanced_of place interface (number order 4 (drop 20 octets)) (number order 4 (drop 24 octets))
    (moment_in (number order 4 (drop 12 octets) * 4294967296 + number order 4 (drop 16 octets)) (units interface.resolution))

abbrev pub enhanced_at : Order → List Interface → List ℕ → Result Packet NgFault
enhanced_at order interfaces octets = enhanced_on order octets (number order 4 (drop 8 octets)) (slice_get interfaces (number order 4 (drop 8 octets)))

-- how many octets a simple packet has, of that many: no more than the snap length, where there is one
abbrev pub snapped : ℕ → ℕ → ℕ
snapped snap original = if snap == 0 then original else min original snap

-- A simple packet: it is on interface 0, and has the time of the packet before it. Its data begin after 12 octets.
abbrev pub simple_of : Moment → Interface → ℕ → ℕ → ℕ → Result Packet NgFault
simple_of before interface captured original room =
    if is_long captured room then Err faults.NgPacket else
    Ok (record { interface = 0; ethernet = interface.ethernet; moment = before; whole = captured == original; start = 12; captured = captured })

abbrev pub simple_on : Order → Moment → List ℕ → Option Interface → Result Packet NgFault
simple_on order before octets None = Err faults.NgInterface
simple_on order before octets (Some interface) = simple_of before interface (snapped interface.snap (number order 4 (drop 8 octets))) (number order 4 (drop 8 octets)) (length octets - 16)

abbrev pub simple_at : Order → List Interface → Moment → List ℕ → Result Packet NgFault
simple_at order interfaces before octets = simple_on order before octets (slice_get interfaces 0)

-- a section header, by its major version
abbrev pub section_of : ℕ → Result Content NgFault
section_of major = if major == 1 then Ok contents.Section else Err faults.NgVersion

abbrev pub as_interface : Result Interface NgFault → Result Content NgFault
as_interface (Ok interface) = Ok (contents.Interface interface)
as_interface (Err fault) = Err fault

abbrev pub as_packet : Result Packet NgFault → Result Content NgFault
as_packet (Ok packet) = Ok (contents.Packet packet)
as_packet (Err fault) = Err fault

-- What a block says, in a section with these interfaces and after a packet at that time, or the first rule that it breaks.
unfoldable pub content_at : Block → List Interface → Moment → List ℕ → Result Content NgFault
content_at block interfaces before octets =
    if block.kind == SECTION_HEADER then section_of (number block.order 2 (drop 12 octets)) else
    if block.kind == INTERFACE then as_interface (interface_at block.order octets) else
    if block.kind == ENHANCED_PACKET then as_packet (enhanced_at block.order interfaces octets) else
    if block.kind == SIMPLE_PACKET then as_packet (simple_at block.order interfaces before octets) else
    Ok contents.Other

-- the record of a packet
abbrev pub record_of : Packet → List ℕ → NgRecord
record_of packet octets = record {
  interface = packet.interface;
  ethernet = packet.ethernet;
  cap = record { sec = packet.moment.sec; usec = packet.moment.usec; whole = packet.whole; octets = take packet.captured (drop packet.start octets) };
}
