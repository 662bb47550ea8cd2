-- Domain files and schedules that are done to their end.
use Rattle.std.specs.Prelude.{ℕ, ◌≡◌, ◌≤◌, true, List, [], ◌∷◌, length, None, Ok}
use Rattle.wire_base.specs.declared.limits.TheConstants.{TEXT_LIMIT}
use Rattle.wire_base.specs.model.Configuration.{DomainConf}
use Rattle.replay_text.specs.declared.event.Event.{Event}
use Rattle.replay_text.specs.declared.event.Line.{Line}
use Rattle.replay_text.specs.Pieces.{lines_in}
use Rattle.replay_text.specs.ScheduleGrammar.{IsScheduleLine}
use Rattle.domain_model.specs.World.{WorldState, first_world}
use Rattle.domain_model.specs.Step.{happens}
use Rattle.domain_model.specs.Faults.{event_fault}
use Rattle.domain_model.specs.Run.{line_events, world_after}
use Rattle.domain_conf.specs.Domain.{domain_of}
use Rattle.domain_replay.specs.Texts.{names_of}
use Rattle.command_line.specs.declared.arguments.ScheduleKind.{ScheduleKind}
use Rattle.command_line.specs.declared.arguments.ScheduleKind.TheVariants as kinds
use Rattle.command_replay.specs.Course.{Played}
use Rattle.replay_run.specs.Verdict.{plays}

-- each event is allowed in the world before it
unfoldable pub AreAllowed : WorldState → List Event → Type 0
AreAllowed w [] = Unit {0}
AreAllowed w (e ∷ es) = (event_fault w e ≡ None) × AreAllowed (happens w e).world es

-- each line is in the grammar, and each of its events is allowed
unfoldable pub AreDone : (names : List (List ℕ)) → WorldState → List (List ℕ) → Type 0
AreDone names w [] = Unit {0}
AreDone names w (text ∷ more) =
    (said : Line) × IsScheduleLine names text said × AreAllowed w (line_events w said) × AreDone names (world_after w (line_events w said)) more

-- a schedule that isn't too long, each line of which is done in that domain
pub record IsDone (d : DomainConf) (schedule : List ℕ) : Type 0 where
  pub short : length schedule ≤ TEXT_LIMIT
  pub lines : AreDone (names_of d) (first_world d) (lines_in true schedule)

-- a schedule that isn't too long, no line of which is rejected
pub record IsPlayed (plays_of : List (List ℕ) → Played) (schedule : List ℕ) : Type 0 where
  pub short : length schedule ≤ TEXT_LIMIT
  pub none : (plays_of (lines_in true schedule)).refused ≡ None

-- a schedule whose lines are all in the grammar of the command, and whose events are all allowed
abbrev pub IsDoneBy : ScheduleKind → DomainConf → List ℕ → Type 0
IsDoneBy kinds.Replay d schedule = IsDone d schedule
IsDoneBy kinds.ReplayNg d schedule = IsDone d schedule
IsDoneBy kinds.Handshake d schedule = IsPlayed (plays kinds.Handshake d) schedule
IsDoneBy kinds.Check d schedule = IsPlayed (plays kinds.Check d) schedule

-- a valid domain file, and such a schedule for its domain
pub record IsReplayed (kind : ScheduleKind) (file octets : List ℕ) : Type 0 where
  pub domain : DomainConf
  pub says : domain_of file ≡ Ok domain
  pub schedule : IsDoneBy kind domain octets
