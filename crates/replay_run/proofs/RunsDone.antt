-- What a replay did is a run, and what holds of each run holds of it.
use Rattle.std.proofs.Common.{◌≡◌, ℕ, List, [], ◌++◌, length, Option, Some, None, Result, Ok, Err, refl, sym, subst, ◌∙◌, arith, inl, inr}
use Rattle.std.specs.Prelude.{IfSome}
use Rattle.std.specs.Io.KnownBytes.{Consumes, Appends}
use Rattle.wire_base.specs.declared.outside.Source as source
use Rattle.wire_base.specs.declared.outside.Sink as sink
use Rattle.wire_base.specs.declared.status.Status.{Status}
use Rattle.wire_base.specs.declared.status.Status.TheVariants.{Done, ConfRefused, InputRefused, ReadFault}
use Rattle.wire_base.specs.model.Configuration.{DomainConf, IsValid}
use Rattle.domain_model.specs.Run.{Run}
use Rattle.domain_conf.specs.Domain.{domain_of}
use Rattle.domain_conf.specs.declared.fault.ConfFault.{ConfFault}
use Rattle.domain_conf.proofs.ValidFile.{domain_is_valid}
use Rattle.domain_replay.specs.Texts.{Refusal, run_done_text}
use Rattle.command_line.specs.declared.arguments.ScheduleKind.{ScheduleKind}
use Rattle.command_line.specs.Form.{Replay}
use Rattle.command_node.specs.DomainFile.{Says}
use Rattle.replay_run.specs.Endings.{ReplayLeaves}
use Rattle.replay_run.specs.Faults.{SourceIsQuiet}
use Rattle.replay_run.specs.Judged.{OnHeld}
use Rattle.command_drive.specs.Outside.{Held, Meets}
use Rattle.replay_run.specs.RunDone.{HasRun, AreRead, RunDone}
use Rattle.command_drive.specs.Reading.{Fails}
use Rattle.command_replay.specs.Course.{answer_of, plays_mean}
use Rattle.command_replay.specs.ScheduleText.{ending}
use Rattle.command_drive.specs.Texts.{Close, Ended, Longer, Cut, close_of, is_short, lines_within}
use Rattle.replay_run.specs.Verdict.{verdict, plays, replay_on}
use Rattle.command_drive.specs.Answer.{IsDecided}

-- a report that ends as done ends with the last line
done_so : (close : Close) (n : ℕ) (r : Run) (o : Option (ℕ × Refusal)) → Done ≡ (ending close n r o).0 → (ending close n r o).1 ≡ run_done_text r n
done_so Ended n r None is = refl
done_so Longer n r None is = absurd cc
done_so Cut n r None is = absurd cc
done_so Ended n r (Some refused) is = absurd cc
done_so Longer n r (Some refused) is = absurd cc
done_so Cut n r (Some refused) is = absurd cc

last_so : (kind : ScheduleKind) (close : Close) (d : DomainConf) (lines : List (List ℕ)) (ended : Status) (report report_now frames frames_now : Option (List ℕ)) → Meets (answer_of (plays kind d) close lines) ended report report_now frames frames_now
    → ended ≡ Done → Appends report report_now ((plays kind d lines).report ++ run_done_text (plays kind d lines).run (length lines))
last_so kind close d lines ended report report_now frames frames_now met is =
    let p = plays kind d lines in
    subst (λ (l : List ℕ). Appends report report_now (p.report ++ l)) (done_so close (length lines) p.run p.refused (sym is ∙ met.status)) met.report

module _ {D S C R : Type 0} (gd : source.Ghosts D) (gs : source.Ghosts S) (gc : sink.Ghosts C) (gr : sink.Ghosts R) (kind : ScheduleKind)
    (conf conf_now : D) (input input_now : S) (frames frames_now : C) (report report_now : R) (Holds : DomainConf → List (List ℕ) → Type 0)
    (law : (d : DomainConf) (lines : List (List ℕ)) → IsValid d → Holds d lines) where
  -- the run of lines that were read
  of_lines : (ended : Status) (d : DomainConf) (says : Says (gd.left conf) d) (lines : List (List ℕ)) (close : Close) → AreRead ended (gs.left input) (gs.left input_now) lines close
      → Meets (answer_of (plays kind d) close lines) ended (gr.written report) (gr.written report_now) (gc.written frames) (gc.written frames_now)
      → RunDone gd gs gc gr kind ended conf input input_now frames frames_now report report_now Holds
  of_lines ended d says lines close read met = record {
    domain = d;
    says = says;
    lines = lines;
    close = close;
    read = read;
    texts = met;
    last = last_so kind close d lines ended (gr.written report) (gr.written report_now) (gc.written frames) (gc.written frames_now) met;
    holds = law d lines (domain_is_valid says.0 d says.2);
  }

  -- where the status is decided
  of_schedule : (ended : Status) → ((lines : List (List ℕ)) (close : Close) → ((octets : List ℕ) × Held (gs.left input) octets × (lines ≡ lines_within octets) × (close ≡ close_of (is_short octets)))
      → AreRead ended (gs.left input) (gs.left input_now) lines close)
      → (ended ≡ ConfRefused → ⊥)
      → OnHeld (Replay kind) [] (gd.left conf) (gs.left input) (λ owed. Meets owed ended (gr.written report) (gr.written report_now) (gc.written frames) (gc.written frames_now))
      → RunDone gd gs gc gr kind ended conf input input_now frames frames_now report report_now Holds
  unfolding verdict
  of_schedule ended read accepted (file, octets, of_conf, of_input, met) = by (domain_of file) refl met
    where
      by : (said : Result DomainConf ConfFault) → domain_of file ≡ said
          → IfSome (replay_on kind said (Some octets)) (λ owed. Meets owed ended (gr.written report) (gr.written report_now) (gc.written frames) (gc.written frames_now))
          → RunDone gd gs gc gr kind ended conf input input_now frames frames_now report report_now Holds
      by (Err why) e m = absurd (accepted m.status)
      by (Ok d) e m = of_lines ended d (file, of_conf, e) (lines_within octets) (close_of (is_short octets)) (read (lines_within octets) (close_of (is_short octets)) (octets, of_input, refl, refl)) m

  -- where the schedule's source failed
  of_cut : (d : DomainConf) → Says (gd.left conf) d → (octets : List ℕ) → Consumes (gs.left input) (gs.left input_now) octets
      → Meets (plays_mean (plays kind d) Fails octets) ReadFault (gr.written report) (gr.written report_now) (gc.written frames) (gc.written frames_now)
      → RunDone gd gs gc gr kind ReadFault conf input input_now frames frames_now report report_now Holds
  of_cut d says octets taken met = of_lines ReadFault d says _ Cut (octets, taken, refl, refl) met

  pub run_done : (ended : Status)
      → (IsDecided ended → OnHeld (Replay kind) [] (gd.left conf) (gs.left input) (λ owed. Meets owed ended (gr.written report) (gr.written report_now) (gc.written frames) (gc.written frames_now)))
      → ReplayLeaves gd gs gc gr kind ended conf conf_now input input_now frames frames_now report report_now
      → HasRun ended → SourceIsQuiet gd conf conf_now → RunDone gd gs gc gr kind ended conf input input_now frames frames_now report report_now Holds
  run_done Done answer leaves has quiet = of_schedule Done (λ lines close read. read) (λ is. absurd cc) (answer tt)
  run_done InputRefused answer leaves has quiet = of_schedule InputRefused (λ lines close read. read) (λ is. absurd cc) (answer tt)
  run_done ReadFault answer leaves has quiet = elim (leaves.stopped refl) [
    | inl failed ↦ let rose = failed.0 in absurd (omega (arith, rose, quiet))
    | inr cut ↦ of_cut cut.1.0 cut.1.1 cut.1.2.0 cut.1.2.1 cut.1.2.2
  ]
  run_done other answer leaves has quiet = absurd has
