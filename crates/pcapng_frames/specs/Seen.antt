-- What contracts say of the results of a pcapng reader.
use Rattle.std.specs.Prelude.{◌≡◌, ◌≤◌, ◌+◌, ℕ, Result, Ok, Err, Option, Some, None}
use Rattle.pcapng_frames.specs.declared.faults.NgFault.{NgFault}
use Rattle.pcapng_frames.specs.declared.faults.NgFault.TheVariants as faults
use Rattle.pcapng_frames.specs.declared.block.Block.{Block}
use Rattle.pcapng_frames.specs.declared.content.Content.{Content}
use Rattle.pcapng_frames.specs.declared.content.Content.TheVariants as contents
use Rattle.pcapng_frames.specs.Blocks.{least}

-- an error that is permanent, once a reader has met it
abbrev pub IsLasting : NgFault → Type 0
IsLasting fault = (fault ≡ faults.Memory) → ⊥

-- a block that was found is within that many octets, and no shorter than its type allows
abbrev pub IsWithin : ℕ → Option Block → Type 0
IsWithin n (Some block) = (least block.kind ≤ block.size) × (block.size ≤ n)
IsWithin n None = Unit {0}

-- the data of a packet are within that many octets
abbrev pub IsInside : ℕ → Content → Type 0
IsInside n contents.Section = Unit {0}
IsInside n (contents.Interface interface) = Unit {0}
IsInside n (contents.Packet packet) = packet.start + packet.captured ≤ n
IsInside n contents.Other = Unit {0}

-- The result of a call that allocates equals that of parsing, or is out of memory.
abbrev pub Answers : {X : Type 0} → Result X NgFault → Result X NgFault → Type 0
Answers (Ok x) read = read ≡ Ok x
Answers (Err faults.Memory) read = Unit {0}
Answers (Err faults.NgMagic) read = read ≡ Err faults.NgMagic
Answers (Err faults.NgOrder) read = read ≡ Err faults.NgOrder
Answers (Err faults.NgVersion) read = read ≡ Err faults.NgVersion
Answers (Err faults.NgLength) read = read ≡ Err faults.NgLength
Answers (Err faults.NgInterface) read = read ≡ Err faults.NgInterface
Answers (Err faults.NgPacket) read = read ≡ Err faults.NgPacket
Answers (Err faults.NgTime) read = read ≡ Err faults.NgTime
Answers (Err faults.NgCut) read = read ≡ Err faults.NgCut

-- the state after a result: after out of memory it is unchanged
abbrev pub after_answer : {X Y : Type 0} → Result X NgFault → Y → Y → Y
after_answer (Ok x) before now = now
after_answer (Err faults.Memory) before now = before
after_answer (Err faults.NgMagic) before now = now
after_answer (Err faults.NgOrder) before now = now
after_answer (Err faults.NgVersion) before now = now
after_answer (Err faults.NgLength) before now = now
after_answer (Err faults.NgInterface) before now = now
after_answer (Err faults.NgPacket) before now = now
after_answer (Err faults.NgTime) before now = now
after_answer (Err faults.NgCut) before now = now

-- the error of a result
abbrev pub fault_in : Result (Unit {0}) NgFault → Option NgFault
fault_in (Ok u) = None
fault_in (Err fault) = Some fault
