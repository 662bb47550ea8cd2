-- What the answers to the questions of a schedule say of its run.
use Rattle.std.specs.Prelude.{ℕ, ◌≡◌, ◌+◌, ◌↔◌, true, List, [], ◌∷◌, ◌++◌, length, slice_get, Some, None, Ok}
use Rattle.wire_base.specs.declared.bsl.Bsl.{Bsl}
use Rattle.wire_base.specs.model.Configuration.{DomainConf}
use Rattle.wire_base.specs.model.Control.{Control}
use Rattle.wire_base.specs.model.Hop.{has}
use Rattle.wire_base.specs.model.View.{control_view}
use Rattle.quiet_domain.specs.declared.answer.Quiet.TheVariants.{Yes}
use Rattle.replay_text.specs.Check.{check_line}
use Rattle.replay_text.specs.declared.check.CheckLine.{CheckLine}
use Rattle.replay_text.specs.declared.event.Event.{Event}
use Rattle.replay_text.specs.declared.event.Event.TheVariants.{Inject}
use Rattle.domain_model.specs.Run.{world_after}
use Rattle.domain_model.specs.World.{WorldState}
use Rattle.laws_ledger.specs.Weights.{copies_in}
use Rattle.laws_course.specs.Course.{Agreed, own_node}
use Rattle.laws_quiet.specs.Cover.{deliveries_by, drops_by}
use Rattle.laws_quiet.specs.Quiet.{IsQuiet}
use Rattle.domain_core.specs.Cover.{IsReceived}
use Rattle.domain_core.specs.Quiet.{quiet_of}
use Rattle.domain_replay.specs.Lines.{quiet_text, cover_text}
use Rattle.domain_replay.specs.Texts.{names_of}
use Rattle.domain_replay.specs.Parts.{IsWoven}
use Rattle.replay_report.specs.declared.recording.Recording.TheVariants.{Pcap}
use Rattle.laws_replay.specs.Promises.{KeepsPromises}
use Rattle.command_replay.specs.Course.{played_past}
use Rattle.command_check.specs.Checked.{checked, IsAnswer}

-- the world of the run after some lines
abbrev pub world_at : DomainConf → List (List ℕ) → WorldState
world_at d lines = (checked d lines).run.world

-- What is promised of the run of lines that are checked: all that is promised of runs; and report and capture are those of the run,
-- with the answers between its events.
pub record KeepsChecks (d : DomainConf) (lines : List (List ℕ)) : Type 0 where
  pub run : KeepsPromises d (checked d lines).run
  pub woven : IsWoven Pcap d (played_past (checked d lines)) (IsAnswer d)

-- a line, with that content, that follows lines none of which is rejected
pub record Follows (d : DomainConf) (before : List (List ℕ)) (text : List ℕ) (said : CheckLine) : Type 0 where
  pub runs : (checked d before).refused ≡ None
  pub reads : check_line text (names_of d) ≡ Ok said

-- what is reported for a line that follows others
abbrev pub Reports : DomainConf → (before : List (List ℕ)) → (text reported : List ℕ) → Type 0
Reports d before text reported = (checked d (before ++ text ∷ [])).report ≡ (checked d before).report ++ reported

-- A `quiet` line is answered, and the answer is yes where the world of the run is quiet there, and only there. Where it is
-- yes, each router to which a path of a router's topology leads has the same topology.
pub record IsAnsweredQuiet (d : DomainConf) (before : List (List ℕ)) (text : List ℕ) : Type 0 where
  pub reported : Reports d before text (quiet_text d.routers (length before + 1) (quiet_of (world_at d before)))
  pub quiet : (quiet_of (world_at d before) ≡ Yes) ↔ IsQuiet (world_at d before)
  pub agreed : quiet_of (world_at d before) ≡ Yes → (a : ℕ) (c : Control) → slice_get (world_at d before).routers a ≡ Some c → Agreed (world_at d before) (control_view c) (own_node c)

-- What is true of a BFR-id k that is reported for a `cover` line: let the world of the run be quiet there, let the injection occur
-- then, which is number n, and let routers receive copies of it alone. None of these events drops k; and if no copy is in flight
-- any more, it was delivered exactly once.
pub record IsReachedIn (w : WorldState) (e : Event) (n k : ℕ) : Type 0 where
  pub kept : (es : List Event) → IsReceived w e es → drops_by n k w (e ∷ es) ≡ 0
  pub delivered : (es : List Event) → IsReceived w e es → copies_in n (world_after w (e ∷ es)).flights ≡ 0 → deliveries_by n k w (e ∷ es) ≡ 1

-- a `cover` line is answered with BFR-ids each of which is reached
pub record IsAnsweredCover (d : DomainConf) (before : List (List ℕ)) (text : List ℕ) (router sd : ℕ) (bsl : Bsl) (ids : List ℕ) (ttl entropy : ℕ) (ks : List ℕ) : Type 0 where
  pub reported : Reports d before text (cover_text (length before + 1) ks)
  pub reached : (k : ℕ) (payload : List ℕ) → has ks k ≡ true → IsReachedIn (world_at d before) (Inject router sd bsl ids ttl entropy payload) ((world_at d before).injections + 1) k
