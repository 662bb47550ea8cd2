-- An answer that isn't out of memory is the one that reading gives.
use Rattle.std.proofs.Common.{◌≡◌, ◌≢◌, Result, Err, refl}
use Rattle.wire_base.specs.declared.faults.CaptureFault.{CaptureFault}
use Rattle.wire_base.specs.declared.faults.CaptureFault.TheVariants as faults
use Rattle.pcap_frames.specs.Seen.{Answers, after_answer}

pub answered : {X Y : Type 0} (view : X → Y) (fault : CaptureFault) (read : Result Y CaptureFault) → Answers view (Err fault) read → fault ≢ faults.Memory → read ≡ Err fault
answered view faults.Memory read is known = absurd (known refl)
answered view faults.Magic read is known = is
answered view faults.Version read is known = is
answered view faults.LinkType read is known = is
answered view faults.CutHeader read is known = is
answered view faults.CutRecord read is known = is
answered view faults.LongRecord read is known = is

pub moved_on : {Y : Type 0} (X : Type 0) (fault : CaptureFault) (before now after : Y) → after ≡ after_answer {X = X} (Err fault) before now → fault ≢ faults.Memory → after ≡ now
moved_on X faults.Memory before now after is known = absurd (known refl)
moved_on X faults.Magic before now after is known = is
moved_on X faults.Version before now after is known = is
moved_on X faults.LinkType before now after is known = is
moved_on X faults.CutHeader before now after is known = is
moved_on X faults.CutRecord before now after is known = is
moved_on X faults.LongRecord before now after is known = is
