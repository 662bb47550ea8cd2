-- Which file a fault can come from.
use Rattle.std.proofs.Common.{◌≡◌, ◌<◌, refl, ap, arith, inl, inr, true, is_some}
use Rattle.std.specs.Prelude.{◌⊎◌}
use Rattle.wire_base.specs.declared.outside.Source as source
use Rattle.wire_base.specs.declared.outside.Sink as sink
use Rattle.wire_base.specs.declared.status.Status.{Status}
use Rattle.wire_base.specs.declared.status.Status.TheVariants.{ReadFault, WriteFault}
use Rattle.command_line.specs.CommandLine.{CommandLine, Replay, Node, Hop, Headers, Grow, Topo, Unknown}
use Rattle.command_line.specs.Form as form
use Rattle.command_line.specs.Form.{Form}
use Rattle.command_line.specs.Words.{form_of}
use Rattle.tool_host.specs.Named.{input_path, frames_path}
use Rattle.replay_run.specs.Endings.{LeavesAlone}
use Rattle.replay_run.specs.Faults.{CountsFaults}

module _ {D S C R : Type 0} (d : source.Ghosts D) (s : source.Ghosts S) (c : sink.Ghosts C) (r : sink.Ghosts R) (ended : Status)
    (conf conf_now : D) (input input_now : S) (frames frames_now : C) (report report_now : R) where
  -- where no source is used, none fails
  unread : (form : Form) → (conf_now ≡ conf) → (input_now ≡ input) → CountsFaults d s c r ended conf conf_now input input_now frames frames_now report report_now → ended ≡ ReadFault → ⊥
  unread form conf_same input_same counts is = elim (counts.read is) [
    | inl rose ↦ omega (arith, rose, ap d.faults conf_same)
    | inr rose ↦ omega (arith, rose, ap s.faults input_same)
  ]

  pub read_from : (line : CommandLine) → LeavesAlone (form_of line) ended conf conf_now input input_now frames frames_now
      → CountsFaults d s c r ended conf conf_now input input_now frames frames_now report report_now → ended ≡ ReadFault → is_some (input_path line) ≡ true
  read_from (Replay format of_conf schedule of_frames) alone counts is = refl
  read_from (Node of_conf router capture of_frames) alone counts is = refl
  read_from (Hop of_input) alone counts is = refl
  read_from (Headers capture) alone counts is = refl
  read_from (Topo capture level mt from) alone counts is = refl
  read_from (Grow n) alone counts is = absurd (unread (form.Grow n) (alone.conf (λ format e. cc) (λ e. cc)) (alone.unread (inr (n, refl))) counts is)
  read_from Unknown alone counts is = absurd (unread form.Unknown (alone.conf (λ format e. cc) (λ e. cc)) (alone.unread (inl refl)) counts is)

  -- where the frames aren't used, only the report fails
  unwritten : frames_now ≡ frames → CountsFaults d s c r ended conf conf_now input input_now frames frames_now report report_now → ended ≡ WriteFault
      → (r.faults report < r.faults report_now) ⊎ (r.zeros report < r.zeros report_now)
  unwritten same counts is = elim (counts.write is) [
    | inl rose ↦ absurd (omega (arith, rose, ap c.faults same))
    | inr rest ↦ elim rest [ inl rose ↦ absurd (omega (arith, rose, ap c.zeros same)) | inr rose ↦ rose ]
  ]

  pub written_to : (line : CommandLine) → LeavesAlone (form_of line) ended conf conf_now input input_now frames frames_now
      → CountsFaults d s c r ended conf conf_now input input_now frames frames_now report report_now → ended ≡ WriteFault
      → (is_some (frames_path line) ≡ true) ⊎ ((r.faults report < r.faults report_now) ⊎ (r.zeros report < r.zeros report_now))
  written_to (Replay format of_conf schedule of_frames) alone counts is = inl refl
  written_to (Node of_conf router capture of_frames) alone counts is = inl refl
  written_to (Hop of_input) alone counts is = inr (unwritten (alone.frames (λ format e. cc) (λ e. cc)) counts is)
  written_to (Headers capture) alone counts is = inr (unwritten (alone.frames (λ format e. cc) (λ e. cc)) counts is)
  written_to (Topo capture level mt from) alone counts is = inr (unwritten (alone.frames (λ format e. cc) (λ e. cc)) counts is)
  written_to (Grow n) alone counts is = inr (unwritten (alone.frames (λ format e. cc) (λ e. cc)) counts is)
  written_to Unknown alone counts is = inr (unwritten (alone.frames (λ format e. cc) (λ e. cc)) counts is)
