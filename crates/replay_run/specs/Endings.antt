-- How a run ends: the status by the form of its words, and what it leaves.
use Rattle.std.specs.Prelude.{ℕ, ◌≡◌, ◌≢◌, ◌⊎◌, ◌<◌, ◌↔◌, false, List, [], None}
use Rattle.std.specs.Io.KnownBytes.{Consumes, Appends}
use Rattle.wire_base.specs.declared.outside.Source as source
use Rattle.wire_base.specs.declared.outside.Sink as sink
use Rattle.wire_base.specs.declared.status.Status.{Status}
use Rattle.wire_base.specs.declared.status.Status.TheVariants.{Done, Usage, ConfRefused, InputRefused, CaptureRefused, ReadFault, WriteFault, Memory}
use Rattle.wire_base.specs.declared.conf.RouterConf.{RouterConf}
use Rattle.wire_base.specs.model.Configuration.{DomainConf}
use Rattle.command_drive.specs.Answer.{IsDecided}
use Rattle.command_hop.specs.HopText.{hop_cut}
use Rattle.command_drive.specs.Captures.{IsOpen}
use Rattle.command_headers.specs.HeadersText.{lines_of}
use Rattle.command_node.specs.NodeRun.{node_cut, node_reached}
use Rattle.command_drive.specs.Outside.{Gave, Meets}
use Rattle.command_line.specs.declared.arguments.ScheduleKind.{ScheduleKind}
use Rattle.command_line.specs.Form.{Form, Replay, Node, Hop, Unknown}
use Rattle.command_node.specs.DomainFile.{Says}
use Rattle.command_node.specs.Routers.{SaysRouter}
use Rattle.command_drive.specs.Reading.{Fails}
use Rattle.command_replay.specs.Course.{plays_mean}
use Rattle.command_line.specs.Words.{IsGrow, IsReplay, ReadsCapture}
use Rattle.replay_run.specs.Verdict.{plays}

-- the status of a run that could be done, where no count rose
abbrev pub DoneOrMemory : Status → Type 0
DoneOrMemory ended = (ended ≡ Done) ⊎ (ended ≡ Memory)

-- a status that comes on words of that form
pub record ComesOn (form : Form) (ended : Status) : Type 0 where
  pub done : ended ≡ Done → form ≢ Unknown
  -- a status that words and octets decide is `Usage` exactly on unknown arguments
  pub usage : IsDecided ended → ((ended ≡ Usage) ↔ (form ≡ Unknown))
  pub usage_or_fault : form ≡ Unknown → (ended ≡ Usage) ⊎ (ended ≡ WriteFault)
  pub conf_refused : ended ≡ ConfRefused → IsReplay form ⊎ (form ≡ Node)
  pub input_refused : ended ≡ InputRefused → IsReplay form ⊎ ((form ≡ Hop) ⊎ IsGrow form)
  pub capture_refused : ended ≡ CaptureRefused → ReadsCapture form ⊎ (form ≡ Node)

-- what a command leaves that executes a schedule
pub record ReplayLeaves {D S C R : Type 0} (d : source.Ghosts D) (s : source.Ghosts S) (c : sink.Ghosts C) (r : sink.Ghosts R) (kind : ScheduleKind) (ended : Status)
    (conf_old conf_new : D) (input_old input_new : S) (frames_old frames_new : C) (report_old report_new : R) : Type 0 where
  -- where the domain file isn't accepted, schedule and frames are as before
  pub accepted : ((input_new ≡ input_old) × (frames_new ≡ frames_old)) ⊎ ((d.faults conf_new ≡ d.faults conf_old) × ((domain : DomainConf) × Says (d.left conf_old) domain))
  -- what was written is finished
  pub report_finished : ended ≢ WriteFault → ended ≢ Memory → (report_new ≡ report_old) ⊎ (r.unfinished report_new ≡ false)
  pub capture_finished : (ended ≡ Done) ⊎ (ended ≡ InputRefused) → c.unfinished frames_new ≡ false
  -- where the schedule's source failed, whether or not anything was written
  pub both_finished : ended ≡ ReadFault → (d.faults conf_old < d.faults conf_new) ⊎ ((c.unfinished frames_new ≡ false) × (r.unfinished report_new ≡ false))
  -- Where the domain file's source failed, nothing else is touched. Where the schedule's did, the lines that are whole in what was taken
  -- are done and reported, none of them is refused, and there is no last line.
  pub stopped : ended ≡ ReadFault → ((d.faults conf_old < d.faults conf_new) × (input_new ≡ input_old) × (frames_new ≡ frames_old) × (report_new ≡ report_old))
      ⊎ ((d.faults conf_new ≡ d.faults conf_old) × ((domain : DomainConf) × Says (d.left conf_old) domain × ((octets : List ℕ) × Consumes (s.left input_old) (s.left input_new) octets
      × Meets (plays_mean (plays kind domain) Fails octets) ended (r.written report_old) (r.written report_new) (c.written frames_old) (c.written frames_new))))

-- what `node` leaves, on the word that names a router
pub record NodeLeaves {D S C R : Type 0} (d : source.Ghosts D) (s : source.Ghosts S) (c : sink.Ghosts C) (r : sink.Ghosts R) (router : List ℕ) (ended : Status)
    (conf_old conf_new : D) (input_old input_new : S) (frames_old frames_new : C) (report_old report_new : R) : Type 0 where
  -- where the domain file isn't accepted, or the word names no router of it, capture and frames are as before
  pub accepted : ((input_new ≡ input_old) × (frames_new ≡ frames_old)) ⊎ ((d.faults conf_new ≡ d.faults conf_old) × ((own : RouterConf) × SaysRouter (d.left conf_old) router own))
  -- what was written is finished
  pub report_finished : ended ≢ WriteFault → ended ≢ Memory → (report_new ≡ report_old) ⊎ (r.unfinished report_new ≡ false)
  pub capture_finished : (ended ≡ Done) ⊎ (ended ≡ CaptureRefused) → c.unfinished frames_new ≡ false
  -- where the capture's source failed, whether or not anything was written
  pub both_finished : ended ≡ ReadFault → (d.faults conf_old < d.faults conf_new) ⊎ ((c.unfinished frames_new ≡ false) × (r.unfinished report_new ≡ false))
  -- Where the domain file's source failed, nothing else is touched. Where the capture's did, the records that are whole in what was taken
  -- are done and reported, no fault of the capture's reader stands in it, and there is no last line.
  pub stopped : ended ≡ ReadFault → ((d.faults conf_old < d.faults conf_new) × (input_new ≡ input_old) × (frames_new ≡ frames_old) × (report_new ≡ report_old))
      ⊎ ((d.faults conf_new ≡ d.faults conf_old) × ((own : RouterConf) × SaysRouter (d.left conf_old) router own × ((octets : List ℕ) × Consumes (s.left input_old) (s.left input_new) octets
      × IsOpen octets × ((node_reached own octets).gap ≡ None)
      × Meets (node_cut own octets) ended (r.written report_old) (r.written report_new) (c.written frames_old) (c.written frames_new))))

-- What `hop` leaves where its source failed: the lines that are whole in what was taken are reported, and none of them is refused.
pub record HopLeaves {S R : Type 0} (s : source.Ghosts S) (r : sink.Ghosts R) (ended : Status) (input_old input_new : S) (report_old report_new : R) : Type 0 where
  pub finished : ended ≡ ReadFault → r.unfinished report_new ≡ false
  pub stopped : ended ≡ ReadFault → (octets : List ℕ) × Consumes (s.left input_old) (s.left input_new) octets × Gave (hop_cut octets) ended (r.written report_old) (r.written report_new)

-- What `headers` leaves where its source failed: the records that are whole in what was taken are reported, no fault of the capture's
-- reader stands in it, and there is no last line.
pub record HeadersLeaves {S R : Type 0} (s : source.Ghosts S) (r : sink.Ghosts R) (ended : Status) (input_old input_new : S) (report_old report_new : R) : Type 0 where
  pub finished : ended ≡ ReadFault → r.unfinished report_new ≡ false
  pub stopped : ended ≡ ReadFault → (octets : List ℕ) × Consumes (s.left input_old) (s.left input_new) octets × IsOpen octets
      × Appends (r.written report_old) (r.written report_new) (lines_of octets)

-- What `topo` leaves where its source failed: no fault of the capture's reader stands in what was taken, and nothing is reported.
pub record TopoLeaves {S R : Type 0} (s : source.Ghosts S) (r : sink.Ghosts R) (ended : Status) (input_old input_new : S) (report_old report_new : R) : Type 0 where
  pub finished : ended ≡ ReadFault → r.unfinished report_new ≡ false
  pub stopped : ended ≡ ReadFault → (octets : List ℕ) × Consumes (s.left input_old) (s.left input_new) octets × IsOpen octets
      × Appends (r.written report_old) (r.written report_new) []

-- what a run leaves as it was
pub record LeavesAlone {D S C : Type 0} (form : Form) (ended : Status) (conf_old conf_new : D) (input_old input_new : S) (frames_old frames_new : C) : Type 0 where
  -- what the words don't name
  pub conf : ((kind : ScheduleKind) → form ≢ Replay kind) → form ≢ Node → conf_new ≡ conf_old
  pub frames : ((kind : ScheduleKind) → form ≢ Replay kind) → form ≢ Node → frames_new ≡ frames_old
  pub unread : (form ≡ Unknown) ⊎ IsGrow form → input_new ≡ input_old
  -- schedule or capture and the frames, where the domain file is refused
  pub refused : ended ≡ ConfRefused → (input_new ≡ input_old) × (frames_new ≡ frames_old)
