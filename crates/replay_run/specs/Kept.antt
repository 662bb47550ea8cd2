-- What is promised of the lines that a command executes in a valid domain.
use Rattle.std.specs.Prelude.{ℕ, ◌≡◌, ◌++◌, [], ◌∷◌, List, Ok}
use Rattle.wire_base.specs.declared.bsl.Bsl.{Bsl}
use Rattle.wire_base.specs.model.Configuration.{DomainConf}
use Rattle.replay_text.specs.Check.{check_line}
use Rattle.replay_text.specs.Schedule.{schedule_line}
use Rattle.replay_text.specs.declared.check.CheckLine.TheVariants.{Base, Quiet, Cover}
use Rattle.replay_text.specs.declared.event.Line.TheVariants.{Settle}
use Rattle.domain_core.specs.Cover.{cover_of}
use Rattle.domain_replay.specs.Parts.{IsWoven}
use Rattle.replay_report.specs.declared.recording.Recording.TheVariants.{Pcap}
use Rattle.command_replay.specs.Course.{played_past, reach_of}
use Rattle.domain_replay.specs.Texts.{names_of}
use Rattle.command_check.specs.Checked.{checked, IsAnswer}
use Rattle.command_check.specs.Verdicts.{world_at, Follows, IsAnsweredQuiet, IsAnsweredCover}
use Rattle.command_handshake.specs.Followed.{KeepsHandshakes}
use Rattle.command_line.specs.declared.arguments.ScheduleKind.{ScheduleKind}
use Rattle.command_line.specs.declared.arguments.ScheduleKind.TheVariants.{Replay, ReplayNg, Handshake, Check}
use Rattle.laws_replay.specs.Promises.{KeepsPromises}
use Rattle.laws_replay.specs.Settling.{HasMore, IsSettling, HasSettled}
use Rattle.laws_settle.specs.Idle.{IsIdle}
use Rattle.replay_run.specs.Verdict.{plays}

-- Each question among the lines of a schedule that is checked is answered by what is true of the run at that moment: whether the
-- domain is quiet, and which BFR-ids an injection would reach. Between the events of the run nothing but answers is reported.
pub record AreAnswered (d : DomainConf) (lines : List (List ℕ)) : Type 0 where
  pub woven : IsWoven Pcap d (played_past (checked d lines)) (IsAnswer d)
  pub quiet : (before : List (List ℕ)) (text : List ℕ) (more : List (List ℕ)) → lines ≡ before ++ text ∷ more → Follows d before text Quiet → IsAnsweredQuiet d before text
  pub cover : (before : List (List ℕ)) (text : List ℕ) (more : List (List ℕ)) (router sd : ℕ) (bsl : Bsl) (ids : List ℕ) (ttl entropy : ℕ) (ks : List ℕ) → lines ≡ before ++ text ∷ more →
      Follows d before text (Cover router sd bsl ids ttl entropy) → cover_of (world_at d before) router sd bsl ids ttl entropy ≡ Ok ks → IsAnsweredCover d before text router sd bsl ids ttl entropy ks

-- A line is `settle` with that many rounds. In the schedule of `handshake` rounds have hellos too, and nothing is said of them.
abbrev pub ReadsRounds : ScheduleKind → DomainConf → (text : List ℕ) → (rounds : ℕ) → Type 0
ReadsRounds Replay d text rounds = schedule_line text (names_of d) ≡ Ok (Settle rounds)
ReadsRounds ReplayNg d text rounds = schedule_line text (names_of d) ≡ Ok (Settle rounds)
ReadsRounds Check d text rounds = check_line text (names_of d) ≡ Ok (Base (Settle rounds))
ReadsRounds Handshake d text rounds = ⊥

pub record IsKept (kind : ScheduleKind) (d : DomainConf) (lines : List (List ℕ)) : Type 0 where
  -- the run of the lines keeps what is promised of runs
  pub run : KeepsPromises d (plays kind d lines).run
  -- After a line `settle` with enough rounds the domain is quiet, if no router has restarted and no LSP has ended before, and no link is
  -- half up; and it is at rest with three rounds more.
  pub settles : (before : List (List ℕ)) (text : List ℕ) (more : List (List ℕ)) (rounds : ℕ) → lines ≡ before ++ text ∷ more → ReadsRounds kind d text rounds →
      IsSettling d (reach_of (plays kind d)) before text rounds → HasSettled (plays kind d (before ++ text ∷ [])).run.world
  pub rests : (before : List (List ℕ)) (text : List ℕ) (more : List (List ℕ)) (rounds : ℕ) → lines ≡ before ++ text ∷ more → ReadsRounds kind d text rounds →
      IsSettling d (reach_of (plays kind d)) before text rounds → HasMore d (plays kind d before).run.world rounds → IsIdle (plays kind d (before ++ text ∷ [])).run.world
  -- the answers of `check` are true of its run
  pub answers : kind ≡ Check → AreAnswered d lines
  -- in the run of `handshake` interfaces follow the three-way handshake
  pub handshakes : kind ≡ Handshake → KeepsHandshakes d lines
