-- What a run answers, from the verdict on octets that the sources may have held.
use Rattle.std.proofs.Common.{◌≡◌, ℕ, List}
use Rattle.std.specs.Prelude.{◌⊎◌}
use Rattle.std.specs.Io.KnownBytes.{IsAtEnd}
use Rattle.wire_base.specs.declared.outside.Source as source
use Rattle.wire_base.specs.declared.outside.Sink as sink
use Rattle.wire_base.specs.declared.status.Status.{Status}
use Rattle.wire_base.specs.declared.status.Status.TheVariants.{Done, WriteFault, Memory}
use Rattle.command_line.specs.Form.{Form, Node}
use Rattle.command_line.specs.Words.{IsGrow, IsReplay}
use Rattle.command_drive.specs.Answer.{IsDecided}
use Rattle.command_drive.specs.Outside.{Meets}
use Rattle.replay_run.specs.Endings.{ComesOn}
use Rattle.replay_run.specs.Faults.{CountsFaults}
use Rattle.replay_run.specs.Judged.{OnHeld}
use Rattle.replay_run.specs.Run.{Answers}
use Rattle.replay_run.proofs.Owed.{told}
use Rattle.replay_run.proofs.Quiet.{no_fault_of_four}

-- the run stopped on a write error or out of memory
abbrev pub Stopped : Status → Type 0
Stopped ended = (ended ≡ WriteFault) ⊎ (ended ≡ Memory)

module _ {D S C R : Type 0} {d : source.Ghosts D} {s : source.Ghosts S} {c : sink.Ghosts C} {r : sink.Ghosts R} {form : Form} {router : List ℕ} {ended : Status}
    {conf conf_now : D} {input input_now : S} {frames frames_now : C} {report report_now : R} where
  pub answers_by : (IsDecided ended → OnHeld form router (d.left conf) (s.left input) (λ owed. Meets owed ended (r.written report) (r.written report_now) (c.written frames) (c.written frames_now)))
      → ComesOn form ended → CountsFaults d s c r ended conf conf_now input input_now frames frames_now report report_now
      → (ended ≡ Done → IsGrow form ⊎ IsAtEnd (s.left input_now)) → (IsReplay form ⊎ (form ≡ Node) → ended ≡ Done → IsAtEnd (d.left conf_now))
      → Answers d s c r form router ended conf conf_now input input_now frames frames_now report report_now
  answers_by held comes counts whole whole_conf = record {
    verdict = λ decided.
        told form router (d.left conf) (s.left input) (λ owed. Meets owed ended (r.written report) (r.written report_now) (c.written frames) (c.written frames_now)) (held decided);
    some_held = held;
    decided = no_fault_of_four d s c r conf conf_now input input_now frames frames_now report report_now ended counts;
    statuses = comes;
    faults = counts;
    done_whole = whole;
    done_conf = whole_conf;
  }
