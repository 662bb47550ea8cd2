-- A run that writes no frames.
use Rattle.std.proofs.Common.{◌≡◌, ◌<◌, ℕ, List, Option, refl, inl, inr, arith}
use Rattle.std.specs.Prelude.{◌⊎◌}
use Rattle.wire_base.specs.declared.outside.Source as source
use Rattle.wire_base.specs.declared.outside.Sink as sink
use Rattle.wire_base.specs.declared.status.Status.{Status}
use Rattle.wire_base.specs.declared.status.Status.TheVariants.{Done, ReadFault, WriteFault, Memory}
use Rattle.command_drive.specs.Outside.{Gave, Meets}
use Rattle.command_drive.specs.Reading.{Ends, Fails}
use Rattle.command_drive.specs.Driving.{Meaning, Drives, OneRose}
use Rattle.command_drive.specs.Reporting.{Reports, alone}
use Rattle.command_drive.proofs.Along.{nothing_front}
use Rattle.command_drive.proofs.Meanings.{drives_as}
use Rattle.command_drive.proofs.Untouched.{some_held}

gave_by : (given : Status × List ℕ) (ended : Status) (report report_now frames frames_now : Option (List ℕ)) → Meets (alone given) ended report report_now frames frames_now → Gave given ended report report_now
gave_by given ended report report_now frames frames_now m = record { status = m.status; report = m.report }

module _ {S C R : Type 0} (s : source.Ghosts S) (c : sink.Ghosts C) (r : sink.Ghosts R) where
  -- frames go to a sink that counts nothing
  pub reports_by : (refusal : Status) (means : Meaning) (gives cuts : List ℕ → Status × List ℕ) (ended : Status) (i0 i1 : S) (f0 f1 : C) (r0 r1 : R) → ((octets : List ℕ) → means Ends octets ≡ alone (gives octets))
      → ((octets : List ℕ) → (means Fails octets).status ≡ ReadFault → means Fails octets ≡ alone (cuts octets)) → c.faults f1 ≡ c.faults f0 → c.zeros f1 ≡ c.zeros f0 → Drives s c r refusal means ended i0 i1 f0 f1 r0 r1
      → Reports s r refusal gives cuts ended i0 i1 r0 r1
  reports_by refusal means gives cuts ended i0 i1 f0 f1 r0 r1 same cut no_faults no_zeros drives =
      let d = drives_as s c r refusal means other ended i0 i1 f0 f1 r0 r1 same cut drives in
      record {
        statuses = d.statuses;
        answer = λ decided.
            let a = d.answer decided in
            (a.0, a.1, gave_by (gives a.0) ended (r.written r0) (r.written r1) (c.written f0) (c.written f1) a.2);
        all = d.done_whole;
        read = d.read;
        write = λ is. rose (d.write is);
        input_quiet = d.input_quiet;
        report_quiet = λ other. (d.sinks_quiet other).report_faults;
        report_takes = λ other. (d.sinks_quiet other).report_zeros;
        finished = d.report_finished;
        stopped = λ is.
            let a = d.stopped is in
            (a.0, a.1, gave_by (cuts a.0) ended (r.written r0) (r.written r1) (c.written f0) (c.written f1) a.2);
        front = λ is.
            let a = d.front is in
            (a.0, a.1, a.2.0);
      }
    where
      other : Meaning
      other Ends octets = alone (gives octets)
      other Fails octets = alone (cuts octets)

      rose : OneRose c r f0 f1 r0 r1 → (r.faults r0 < r.faults r1) ⊎ (r.zeros r0 < r.zeros r1)
      rose (inl a) = absurd (omega (arith, a, no_faults))
      rose (inr (inl a)) = absurd (omega (arith, a, no_zeros))
      rose (inr (inr a)) = a

-- nothing was done, for memory ran out
pub reports_none : {S R : Type 0} (s : source.Ghosts S) (r : sink.Ghosts R) (refusal : Status) (gives cuts : List ℕ → Status × List ℕ) (input : S) (report : R) → Reports s r refusal gives cuts Memory input input report report
reports_none s r refusal gives cuts input report =
    record {
      statuses = λ decided. absurd decided;
      answer = λ decided. absurd decided;
      all = λ is. absurd (no_done is);
      read = λ is. absurd (no_read is);
      write = λ is. absurd (no_write is);
      input_quiet = λ a b. refl;
      report_quiet = λ a. refl;
      report_takes = λ a. refl;
      finished = λ a b. absurd (b refl);
      stopped = λ is. absurd (no_read is);
      front = λ is.
          let held = some_held (s.left input) in
          (held.0, held.1, nothing_front (r.written report) (gives held.0).1);
    }
  where
    no_done : Memory ≡ Done → ⊥
    no_done e = cc

    no_read : Memory ≡ ReadFault → ⊥
    no_read e = cc

    no_write : Memory ≡ WriteFault → ⊥
    no_write e = cc
