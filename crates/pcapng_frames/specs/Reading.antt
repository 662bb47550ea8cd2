-- The packets of a pcapng capture whose octets arrive in chunks, block by block.
use Rattle.std.specs.Prelude.{ℕ, zero, suc, List, [], ◌∷◌, ◌++◌, length, take, drop, Result, Ok, Err, Option, Some, None}
use Rattle.pcapng_frames.specs.declared.block.Block.{Block}
use Rattle.pcapng_frames.specs.declared.content.Content.{Content}
use Rattle.pcapng_frames.specs.declared.content.Content.TheVariants as contents
use Rattle.pcapng_frames.specs.declared.interface.Interface.{Interface}
use Rattle.pcapng_frames.specs.declared.moment.Moment.{Moment}
use Rattle.pcapng_frames.specs.declared.packet.NgRecord.{NgRecord}
use Rattle.pcapng_frames.specs.declared.reader.Step.{Step}
use Rattle.pcapng_frames.specs.declared.reader.Step.TheVariants as steps
use Rattle.pcapng_frames.specs.declared.reader.Taken.{Taken}
use Rattle.pcapng_frames.specs.declared.reader.Taken.TheVariants as taken
use Rattle.pcapng_frames.specs.declared.faults.NgFault.{NgFault}
use Rattle.pcapng_frames.specs.declared.faults.NgFault.TheVariants as faults
use Rattle.pcapng_frames.specs.Blocks.{block_at}
use Rattle.pcapng_frames.specs.Packets.{content_at, record_of}
use Rattle.pcapng_frames.specs.Draining.{drain_all, in_pieces}

-- A reader: whether it is before the first block, in a section of a byte order, or refused; the interfaces of the section; the
-- time of the last packet; and the octets that it was fed and has not yet taken.
pub record NgReading : Type 0 where
  pub step : Step
  pub interfaces : List Interface
  pub before : Moment
  pub octets : List ℕ

-- a reader that was fed nothing
abbrev pub ng_unread : NgReading
ng_unread = record { step = steps.Opening; interfaces = []; before = record { sec = 0; usec = 0 }; octets = [] }

-- the reader after it was fed a chunk
abbrev pub ng_fed : NgReading → List ℕ → NgReading
ng_fed reading piece = record { step = reading.step; interfaces = reading.interfaces; before = reading.before; octets = reading.octets ++ piece }

-- and after a broken rule
abbrev pub ng_refused : NgFault → NgReading → NgReading
ng_refused fault reading = record { step = steps.Refused fault; interfaces = reading.interfaces; before = reading.before; octets = reading.octets }

-- What a whole block makes of a reader: a section begins with no interface, an interface is added at the end, a packet is
-- answered, and any other block is skipped.
abbrev pub by_content : Block → NgReading → Result Content NgFault → Result Taken NgFault × NgReading
by_content block reading (Ok contents.Section) =
    (Ok taken.Skipped, record { step = steps.Section block.order; interfaces = []; before = reading.before; octets = drop block.size reading.octets })
by_content block reading (Ok (contents.Interface interface)) =
    (Ok taken.Skipped, record { step = reading.step; interfaces = reading.interfaces ++ interface ∷ []; before = reading.before; octets = drop block.size reading.octets })
by_content block reading (Ok (contents.Packet packet)) =
    (Ok (taken.Packet (record_of packet (take block.size reading.octets))), record { step = reading.step; interfaces = reading.interfaces; before = packet.moment; octets = drop block.size reading.octets })
by_content block reading (Ok contents.Other) =
    (Ok taken.Skipped, record { step = reading.step; interfaces = reading.interfaces; before = reading.before; octets = drop block.size reading.octets })
by_content block reading (Err fault) = (Err fault, ng_refused fault reading)

abbrev pub by_block : NgReading → Result (Option Block) NgFault → Result Taken NgFault × NgReading
by_block reading (Ok None) = (Ok taken.Nothing, reading)
by_block reading (Ok (Some block)) = by_content block reading (content_at block reading.interfaces reading.before (take block.size reading.octets))
by_block reading (Err fault) = (Err fault, ng_refused fault reading)

-- The block at the front is taken, if it is whole. A broken rule is permanent.
abbrev pub take_in : Step → NgReading → Result Taken NgFault × NgReading
take_in steps.Opening reading = by_block reading (block_at None reading.octets)
take_in (steps.Section order) reading = by_block reading (block_at (Some order) reading.octets)
take_in (steps.Refused fault) reading = (Err fault, reading)

unfoldable pub take_of : NgReading → Result Taken NgFault × NgReading
take_of reading = take_in reading.step reading

-- Blocks are taken up to the next packet, at most that many.
abbrev pub walk_on : (NgReading → Result (Option NgRecord) NgFault × NgReading) → Result Taken NgFault × NgReading → Result (Option NgRecord) NgFault × NgReading
walk_on more (Ok taken.Nothing, after) = (Ok None, after)
walk_on more (Ok taken.Skipped, after) = more after
walk_on more (Ok (taken.Packet read), after) = (Ok (Some read), after)
walk_on more (Err fault, after) = (Err fault, after)

unfoldable pub walk : ℕ → NgReading → Result (Option NgRecord) NgFault × NgReading
walk zero reading = (Ok None, reading)
walk (suc most) reading = walk_on (walk most) (take_of reading)

-- What a reader answers next, and the reader after it. A block has 12 octets or more.
unfoldable pub ng_next : NgReading → Result (Option NgRecord) NgFault × NgReading
ng_next reading = walk (suc (length reading.octets)) reading

abbrev pub ng_size : NgReading → ℕ
ng_size reading = length reading.octets

-- all packets that a reader has, and the reader after them
abbrev pub ng_drained : NgReading → List NgRecord × NgReading
ng_drained reading = drain_all ng_next ng_size reading

-- and those of octets that come in chunks
abbrev pub ng_pieces : NgReading → List (List ℕ) → List NgRecord × NgReading
ng_pieces reading pieces = in_pieces ng_drained ng_fed reading pieces

-- The error at the end of the octets, for a reader that has no further packet.
abbrev pub ng_left : List ℕ → Option NgFault
ng_left [] = None
ng_left (octet ∷ octets) = Some faults.NgCut

abbrev pub ng_end_in : Step → List ℕ → Option NgFault
ng_end_in steps.Opening octets = ng_left octets
ng_end_in (steps.Section order) octets = ng_left octets
ng_end_in (steps.Refused fault) octets = Some fault

abbrev pub ng_end : NgReading → Option NgFault
ng_end reading = ng_end_in reading.step reading.octets

-- The packets of a capture, and its first error if it has one.
abbrev pub ng_records : List ℕ → List NgRecord × Option NgFault
ng_records octets = ((ng_drained (ng_fed ng_unread octets)).0, ng_end (ng_drained (ng_fed ng_unread octets)).1)
