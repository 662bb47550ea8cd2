-- What `run` promises: four records, with a field for each fact. `form` is the command that the arguments name, `router` the name of
-- a router in them, and `ended` the exit status. Domain file, input, frames and report are each given before the call and after it.
use Rattle.std.specs.Prelude.{ℕ, ◌≡◌, ◌⊎◌, ◌≢◌, false, List, IfSome}
use Rattle.std.specs.Io.KnownBytes.{IsAtEnd}
use Rattle.wire_base.specs.declared.outside.Source as source
use Rattle.wire_base.specs.declared.outside.Sink as sink
use Rattle.wire_base.specs.declared.status.Status.{Status}
use Rattle.wire_base.specs.declared.status.Status.TheVariants.{Done, ConfRefused, WriteFault, Memory}
use Rattle.command_line.specs.declared.arguments.ScheduleKind.{ScheduleKind}
use Rattle.command_line.specs.Form.{Form, Replay, Node, Hop, Headers, Grow, Topo}
use Rattle.command_line.specs.Words.{IsGrow, IsReplay, IsTopo}
use Rattle.command_drive.specs.Answer.{IsDecided}
use Rattle.command_drive.specs.Outside.{Meets, AppendsFronts}
use Rattle.command_grow.specs.Grow.{GoesThrough, grown_run}
use Rattle.command_headers.specs.HeadersText.{IsRead}
use Rattle.command_hop.specs.HopText.{IsAllowed}
use Rattle.command_hop.specs.Partition.{Reports}
use Rattle.command_node.specs.NodeRun.{IsReplayable}
use Rattle.command_topo.specs.TopoText.{IsGathered}
use Rattle.wire_base.specs.declared.addresses.SystemId.{SystemId}
use Rattle.wire_base.specs.declared.conf.Level.{Level}
use Rattle.command_node.specs.Routers.{HasRouter}
use Rattle.grown_domain.specs.Domain.{grown_domain}
use Rattle.laws_replay.specs.Promises.{KeepsPromises}
use Rattle.replay_run.specs.Endings.{DoneOrMemory, ComesOn, ReplayLeaves, NodeLeaves, HopLeaves, HeadersLeaves, TopoLeaves, LeavesAlone}
use Rattle.replay_run.specs.Faults.{SourceIsQuiet, SinkIsQuiet, NoneRose, CountsFaults}
use Rattle.replay_run.specs.Judged.{OnHeld}
use Rattle.replay_run.specs.Kept.{IsKept}
use Rattle.replay_run.specs.Replayed.{IsReplayed}
use Rattle.replay_run.specs.RunDone.{HasRun, RunDone}
use Rattle.replay_run.specs.Verdict.{verdict}

-- The exit status, the report and the frames.
pub record Answers {D S C R : Type 0} (d : source.Ghosts D) (s : source.Ghosts S) (c : sink.Ghosts C) (r : sink.Ghosts R) (form : Form) (router : List ℕ) (ended : Status)
    (conf_old conf_new : D) (input_old input_new : S) (frames_old frames_new : C) (report_old report_new : R) : Type 0 where
  -- where the sources report what they hold, these are the verdict on it
  pub verdict : IsDecided ended → IfSome (verdict form router (d.left conf_old) (s.left input_old))
      (λ owed. Meets owed ended (r.written report_old) (r.written report_new) (c.written frames_old) (c.written frames_new))
  -- where a source doesn't, they are the verdict on octets that it may have held
  pub some_held : IsDecided ended → OnHeld form router (d.left conf_old) (s.left input_old)
      (λ owed. Meets owed ended (r.written report_old) (r.written report_new) (c.written frames_old) (c.written frames_new))
  -- without an I/O error, the status is the verdict's or out of memory
  pub decided : NoneRose d s c r conf_old conf_new input_old input_new frames_old frames_new report_old report_new → IsDecided ended ⊎ (ended ≡ Memory)
  -- each status comes only for its commands
  pub statuses : ComesOn form ended
  -- an I/O error is returned only where one occurred, and no other status hides one
  pub faults : CountsFaults d s c r ended conf_old conf_new input_old input_new frames_old frames_new report_old report_new
  -- where the run is done, the input was read to its end
  pub done_whole : ended ≡ Done → IsGrow form ⊎ IsAtEnd (s.left input_new)
  -- and so was the domain file, by the commands that have one
  pub done_conf : IsReplay form ⊎ (form ≡ Node) → ended ≡ Done → IsAtEnd (d.left conf_new)

-- Which arguments and input are done to the end where no I/O error occurs, unless memory runs out.
pub record Completes {D S C R : Type 0} (d : source.Ghosts D) (s : source.Ghosts S) (c : sink.Ghosts C) (r : sink.Ghosts R) (form : Form) (router : List ℕ) (ended : Status)
    (conf_old conf_new : D) (input_old input_new : S) (frames_old frames_new : C) (report_old report_new : R) : Type 0 where
  -- a command that executes a schedule: a valid domain file, and a schedule whose lines are all in the grammar and whose events are all
  -- allowed
  pub replay_complete : (kind : ScheduleKind) → form ≡ Replay kind → IfSome (d.left conf_old) (λ file. IfSome (s.left input_old) (λ octets. IsReplayed kind file octets
      → NoneRose d s c r conf_old conf_new input_old input_new frames_old frames_new report_old report_new → DoneOrMemory ended))
  -- `node`: a valid domain file with a router of that name, and a capture that isn't too long and in which no record is more than
  -- 65,535 seconds ahead of the clock
  pub node_complete : form ≡ Node → IfSome (d.left conf_old) (λ file. IfSome (s.left input_old) (λ octets. HasRouter file router → IsReplayable octets
      → NoneRose d s c r conf_old conf_new input_old input_new frames_old frames_new report_old report_new → DoneOrMemory ended))
  -- `hop`: an input in the grammar, in which each line may stand where it stands
  pub hop_complete : form ≡ Hop → IfSome (s.left input_old) (λ octets. IsAllowed octets
      → SourceIsQuiet s input_old input_new → SinkIsQuiet r report_old report_new → DoneOrMemory ended)
  -- `headers`: a capture that isn't too long
  pub headers_complete : form ≡ Headers → IfSome (s.left input_old) (λ octets. IsRead octets
      → SourceIsQuiet s input_old input_new → SinkIsQuiet r report_old report_new → DoneOrMemory ended)
  -- `topo`: a capture that isn't too long, with no more LSPs of the level than an LSDB has room for
  pub topo_complete : (level : Level) (mt : ℕ) (from : SystemId) → form ≡ Topo level mt from → IfSome (s.left input_old) (λ octets. IsGathered level octets
      → SourceIsQuiet s input_old input_new → SinkIsQuiet r report_old report_new → DoneOrMemory ended)
  -- `grow`: a number for which each event of the schedule that is made is allowed
  pub grow_complete : (n : ℕ) → form ≡ Grow n → GoesThrough n → SinkIsQuiet r report_old report_new → DoneOrMemory ended

-- What the run leaves, also where it stopped on an I/O error or out of memory.
pub record Leaves {D S C R : Type 0} (d : source.Ghosts D) (s : source.Ghosts S) (c : sink.Ghosts C) (r : sink.Ghosts R) (form : Form) (router : List ℕ) (ended : Status)
    (conf_old conf_new : D) (input_old input_new : S) (frames_old frames_new : C) (report_old report_new : R) : Type 0 where
  -- the report is finished where the status is decided
  pub finished : IsDecided ended → r.unfinished report_new ≡ false
  -- the frames are finished or untouched, unless the run stopped on a write error or out of memory
  pub frames_finished : ended ≢ WriteFault → ended ≢ Memory → (frames_new ≡ frames_old) ⊎ (c.unfinished frames_new ≡ false)
  -- after a read error, what is complete in the input that was read is done and reported
  pub replay_leaves : (kind : ScheduleKind) → form ≡ Replay kind → ReplayLeaves d s c r kind ended conf_old conf_new input_old input_new frames_old frames_new report_old report_new
  pub node_leaves : form ≡ Node → NodeLeaves d s c r router ended conf_old conf_new input_old input_new frames_old frames_new report_old report_new
  pub hop_leaves : form ≡ Hop → HopLeaves s r ended input_old input_new report_old report_new
  pub headers_leaves : form ≡ Headers → HeadersLeaves s r ended input_old input_new report_old report_new
  pub topo_leaves : IsTopo form → TopoLeaves s r ended input_old input_new report_old report_new
  -- after a write error or out of memory, a prefix of each output is written
  pub front : (ended ≡ WriteFault) ⊎ (ended ≡ Memory) → OnHeld form router (d.left conf_old) (s.left input_old)
      (λ owed. AppendsFronts owed (r.written report_old) (r.written report_new) (c.written frames_old) (c.written frames_new))
  -- what the arguments don't name is unchanged, and so are input and frames where the domain file is rejected
  pub alone : LeavesAlone form ended conf_old conf_new input_old input_new frames_old frames_new

-- What becomes of packets.
pub record Promises {D S C R : Type 0} (d : source.Ghosts D) (s : source.Ghosts S) (c : sink.Ghosts C) (r : sink.Ghosts R) (form : Form) (router : List ℕ) (ended : Status)
    (conf_old conf_new : D) (input_old input_new : S) (frames_old frames_new : C) (report_old report_new : R) : Type 0 where
  -- `hop`: each BFR-id of each packet is in exactly one of the lines that are reported for that packet
  pub hop_parts : form ≡ Hop → IsDecided ended → IfSome (s.left input_old)
      (λ octets. Reports octets (r.written report_old) (r.written report_new))
  -- a command that executes a schedule: status, report and frames are those of one run of the model, over the lines of the schedule up to
  -- one that is rejected, or after a read error over the lines that are complete in what was read; and that run keeps what is promised of
  -- runs
  pub replay_run : (kind : ScheduleKind) → form ≡ Replay kind → HasRun ended → d.faults conf_new ≡ d.faults conf_old
      → RunDone d s c r kind ended conf_old input_old input_new frames_old frames_new report_old report_new (IsKept kind)
  -- `grow`: so does the run of the domain and the schedule that are made
  pub grow_run : (n : ℕ) → form ≡ Grow n → KeepsPromises (grown_domain n) (grown_run n).run

-- What a command does that begins with a domain file. `refusal` is the status by which its input is rejected.
pub record ReadsDomain {D S C R : Type 0} (d : source.Ghosts D) (s : source.Ghosts S) (c : sink.Ghosts C) (r : sink.Ghosts R) (form : Form) (router : List ℕ) (refusal ended : Status)
    (conf_old conf_new : D) (input_old input_new : S) (frames_old frames_new : C) (report_old report_new : R) : Type 0 where
  -- the verdict on what the sources hold, whether or not they report it
  pub answer : IsDecided ended → OnHeld form router (d.left conf_old) (s.left input_old)
      (λ owed. Meets owed ended (r.written report_old) (r.written report_new) (c.written frames_old) (c.written frames_new))
  pub statuses : IsDecided ended → (ended ≡ Done) ⊎ ((ended ≡ ConfRefused) ⊎ (ended ≡ refusal))
  -- an I/O error is returned only where one occurred, and no other status hides one
  pub faults : CountsFaults d s c r ended conf_old conf_new input_old input_new frames_old frames_new report_old report_new
  -- where it is done, both inputs were read to their ends
  pub done_whole : ended ≡ Done → IsAtEnd (s.left input_new)
  pub done_conf : ended ≡ Done → IsAtEnd (d.left conf_new)
  -- what was written is finished
  pub finished : IsDecided ended → r.unfinished report_new ≡ false
  pub frames_finished : ended ≢ WriteFault → ended ≢ Memory → (frames_new ≡ frames_old) ⊎ (c.unfinished frames_new ≡ false)
  -- where the domain file is rejected, input and frames are unchanged
  pub refused : ended ≡ ConfRefused → (input_new ≡ input_old) × (frames_new ≡ frames_old)
  -- after a write error or out of memory, a prefix of each output is written
  pub front : (ended ≡ WriteFault) ⊎ (ended ≡ Memory) → OnHeld form router (d.left conf_old) (s.left input_old)
      (λ owed. AppendsFronts owed (r.written report_old) (r.written report_new) (c.written frames_old) (c.written frames_new))
