-- A run that ended before it began, since memory ran out.
use Rattle.std.proofs.Common.{◌≡◌, ℕ, List, [], Option, Some, None, refl}
use Rattle.wire_base.specs.declared.outside.Source as source
use Rattle.wire_base.specs.declared.outside.Sink as sink
use Rattle.wire_base.specs.declared.status.Status.{Status}
use Rattle.wire_base.specs.declared.status.Status.TheVariants.{Done, ReadFault, WriteFault, Memory}
use Rattle.command_drive.specs.Outside.{Held}
use Rattle.command_drive.specs.Reading.{Ends}
use Rattle.command_drive.specs.Driving.{Meaning, Drives}
use Rattle.command_drive.proofs.Along.{nothing_front}

-- what a source holds, as far as it tells
pub some_held : (left : Option (List ℕ)) → (octets : List ℕ) × Held left octets
some_held None = ([], tt)
some_held (Some octets) = (octets, refl)

pub drives_none : {S C R : Type 0} (s : source.Ghosts S) (c : sink.Ghosts C) (r : sink.Ghosts R) (refusal : Status) (means : Meaning) (input : S) (frames : C) (report : R) → Drives s c r refusal means Memory input input frames frames report report
drives_none s c r refusal means input frames report =
    record {
      answer = λ decided. absurd decided;
      statuses = λ decided. absurd decided;
      done_whole = λ is. absurd (no_done is);
      read = λ is. absurd (no_read is);
      write = λ is. absurd (no_write is);
      input_quiet = λ a b. refl;
      sinks_quiet = λ a. record { frames_faults = refl; frames_zeros = refl; report_faults = refl; report_zeros = refl };
      frames_finished = λ a b. absurd (b refl);
      report_finished = λ a b. absurd (b refl);
      stopped = λ is. absurd (no_read is);
      front = λ is.
          let held = some_held (s.left input) in
          (held.0, held.1, (nothing_front (r.written report) (means Ends held.0).report, nothing_front (c.written frames) (means Ends held.0).frames));
    }
  where
    no_done : Memory ≡ Done → ⊥
    no_done e = cc

    no_read : Memory ≡ ReadFault → ⊥
    no_read e = cc

    no_write : Memory ≡ WriteFault → ⊥
    no_write e = cc
