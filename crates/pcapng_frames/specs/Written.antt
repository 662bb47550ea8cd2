-- pcapng captures as they are written: one little-endian section of version 1.0 and unknown length, Ethernet interfaces of snap
-- length 65,535 without options, so that times are in microseconds, and enhanced packets.
use Rattle.std.specs.Prelude.{◌≡◌, ◌<◌, ◌≤◌, ℕ, zero, suc, ◌+◌, ◌-◌, ◌*◌, ◌/◌, ◌%◌, List, [], ◌∷◌, ◌++◌, length, replicate, true}
use Rattle.byteorder.specs.Endian.{little_bytes}
use Rattle.pcapng_frames.specs.declared.interface.Interface.{Interface}
use Rattle.pcapng_frames.specs.declared.moment.Moment.{Moment}
use Rattle.pcapng_frames.specs.declared.order.Order.TheVariants as orders
use Rattle.pcapng_frames.specs.declared.packet.NgRecord.{NgRecord}
use Rattle.pcapng_frames.specs.declared.reader.Step.TheVariants as steps
use Rattle.pcapng_frames.specs.Times.{padded}
use Rattle.pcapng_frames.specs.Reading.{NgReading}

-- a block: its type, its total length, a body, and the total length again
abbrev pub written_block : ℕ → List ℕ → List ℕ
written_block kind body = little_bytes 4 kind ++ (little_bytes 4 (12 + length body) ++ (body ++ little_bytes 4 (12 + length body)))

-- the section header: byte-order magic, version 1.0, and section length -1, for unknown
abbrev pub written_section : List ℕ
written_section = written_block 168627466 (77 ∷ 60 ∷ 43 ∷ 26 ∷ 1 ∷ 0 ∷ 0 ∷ 0 ∷ 255 ∷ 255 ∷ 255 ∷ 255 ∷ 255 ∷ 255 ∷ 255 ∷ 255 ∷ [])

-- an interface: link type 1, and snap length 65,535
abbrev pub written_interface : List ℕ
written_interface = written_block 1 (1 ∷ 0 ∷ 0 ∷ 0 ∷ 255 ∷ 255 ∷ 0 ∷ 0 ∷ [])

-- that many of them
unfoldable pub written_interfaces : ℕ → List ℕ
written_interfaces zero = []
written_interfaces (suc n) = written_interface ++ written_interfaces n

abbrev pub written_head : ℕ → List ℕ
written_head interfaces = written_section ++ written_interfaces interfaces

-- the body of an enhanced packet: its interface, its time in microseconds, the length of the frame twice, and the frame with its
-- padding
abbrev pub written_body : ℕ → ℕ → List ℕ → List ℕ
written_body interface ticks frame =
    little_bytes 4 interface ++ (little_bytes 4 (ticks / 4294967296) ++ (little_bytes 4 (ticks % 4294967296) ++ (little_bytes 4 (length frame) ++ (little_bytes 4 (length frame) ++
    (frame ++ replicate (padded (length frame) - length frame) 0)))))

abbrev pub written_packet : (interface sec usec : ℕ) → List ℕ → List ℕ
written_packet interface sec usec frame = written_block 6 (written_body interface (sec * 1000000 + usec) frame)

-- the interface that each of these is
abbrev pub plain : Interface
plain = record { ethernet = true; snap = 65535; resolution = 6 }

-- a reader within what was written, after a packet at that time
abbrev pub writing : ℕ → Moment → List ℕ → NgReading
writing interfaces before octets = record { step = steps.Section orders.Little; interfaces = replicate interfaces plain; before = before; octets = octets }

-- the record of a packet that was written
abbrev pub written_record : (interface sec usec : ℕ) → List ℕ → NgRecord
written_record interface sec usec frame = record { interface = interface; ethernet = true; cap = record { sec = sec; usec = usec; whole = true; octets = frame } }

-- the packets of records
unfoldable pub written_all : List NgRecord → List ℕ
written_all [] = []
written_all (read ∷ more) = written_packet read.interface read.cap.sec read.cap.usec read.cap.octets ++ written_all more

-- a record that is written as a packet: on one of that many interfaces, with a complete frame
pub record IsWritable (interfaces : ℕ) (read : NgRecord) : Type 0 where
  pub within : read.interface < interfaces
  pub second : read.cap.sec < 4294967296
  pub part : read.cap.usec < 1000000
  pub short : length read.cap.octets ≤ 65535
  pub whole : read.cap.whole ≡ true
  pub ethernet : read.ethernet ≡ true

abbrev pub AreWritable : ℕ → List NgRecord → Type 0
AreWritable interfaces [] = Unit {0}
AreWritable interfaces (read ∷ more) = IsWritable interfaces read × AreWritable interfaces more
