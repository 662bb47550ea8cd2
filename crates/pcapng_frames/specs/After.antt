-- The state of a reader between and after calls.
use Rattle.std.specs.Prelude.{◌≡◌, ◌≤◌, ℕ, List, length, Result, Ok, Err}
use Rattle.pcapng_frames.specs.declared.reader.Step.{Step}
use Rattle.pcapng_frames.specs.declared.reader.Step.TheVariants as steps
use Rattle.pcapng_frames.specs.declared.faults.NgFault.{NgFault}
use Rattle.pcapng_frames.specs.declared.faults.NgFault.TheVariants as faults
use Rattle.pcapng_frames.specs.Reading.{NgReading, ng_next}
use Rattle.pcapng_frames.specs.Seen.{IsLasting}

-- a reader's error is permanent
abbrev pub IsKept : Step → Type 0
IsKept steps.Opening = Unit {0}
IsKept (steps.Section order) = Unit {0}
IsKept (steps.Refused fault) = IsLasting fault

-- and its index is within its octets
abbrev pub IsSound : Step → ℕ → List ℕ → Type 0
IsSound step at octets = (at ≤ length octets) × IsKept step

-- The reader after a call for the next packet: after out of memory it may have taken blocks before the packet, which is next as
-- before.
abbrev pub HasRead : {X : Type 0} → Result X NgFault → (old new : NgReading) → Type 0
HasRead (Ok x) old new = new ≡ (ng_next old).1
HasRead (Err faults.Memory) old new = ng_next new ≡ ng_next old
HasRead (Err faults.NgMagic) old new = new ≡ (ng_next old).1
HasRead (Err faults.NgOrder) old new = new ≡ (ng_next old).1
HasRead (Err faults.NgVersion) old new = new ≡ (ng_next old).1
HasRead (Err faults.NgLength) old new = new ≡ (ng_next old).1
HasRead (Err faults.NgInterface) old new = new ≡ (ng_next old).1
HasRead (Err faults.NgPacket) old new = new ≡ (ng_next old).1
HasRead (Err faults.NgTime) old new = new ≡ (ng_next old).1
HasRead (Err faults.NgCut) old new = new ≡ (ng_next old).1
