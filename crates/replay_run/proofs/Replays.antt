-- What `replay` did is what a run owes.
use Rattle.std.proofs.Common.{◌≡◌, ℕ, ◌+◌, ◌≤◌, Bool, true, List, [], ◌∷◌, length, Option, Some, None, Ok, refl, sym, ap, subst, ◌∙◌, inl, inr}
use Rattle.std.specs.Prelude.{IfSome, ◌⊎◌, Result}
use Rattle.std.specs.List.{fold}
use Rattle.std.proofs.lemmas.Bool.{le-leb}
use Rattle.std.proofs.lemmas.List.{take_all}
use Rattle.std.specs.Io.KnownBytes.{Appends}
use Rattle.wire_base.specs.declared.limits.TheConstants.{TEXT_LIMIT}
use Rattle.wire_base.specs.declared.status.Status.{Status}
use Rattle.wire_base.specs.declared.status.Status.TheVariants.{Done, ConfRefused, WriteFault, Memory}
use Rattle.wire_base.specs.model.Configuration.{DomainConf}
use Rattle.replay_text.specs.declared.event.Event.{Event}
use Rattle.replay_text.specs.Pieces.{lines_in}
use Rattle.replay_text.proofs.ScheduleSpelled.{line_back}
use Rattle.domain_model.specs.World.{WorldState}
use Rattle.domain_model.specs.Faults.{event_fault}
use Rattle.domain_model.specs.Run.{Run, Progress, first_run, goes_on, tries, does, line_done, line_events, world_after}
use Rattle.domain_conf.specs.declared.fault.ConfFault.{ConfFault}
use Rattle.domain_replay.specs.Texts.{Refusal, names_of, lines_reach, schedule_reaches}
use Rattle.command_line.specs.declared.arguments.ScheduleKind.{ScheduleKind}
use Rattle.command_line.specs.declared.arguments.ScheduleKind.TheVariants as kinds
use Rattle.command_line.specs.Form.{Form, Replay}
use Rattle.command_drive.specs.Answer.{Verdict, IsDecided}
use Rattle.command_node.specs.DomainFile.{Says, IsRefused}
use Rattle.replay_run.specs.Endings.{DoneOrMemory}
use Rattle.replay_run.specs.Judged.{OnHeld}
use Rattle.replay_report.specs.declared.recording.Recording.{Recording}
use Rattle.replay_report.specs.declared.recording.Recording.TheVariants as recordings
use Rattle.replay_run.specs.Replayed.{AreAllowed, AreDone, IsDone, IsDoneBy, IsPlayed, IsReplayed}
use Rattle.command_drive.specs.Reading.{Ends}
use Rattle.command_replay.specs.Course.{Played, answer_of, plays_mean}
use Rattle.command_replay.specs.ScheduleText.{ending}
use Rattle.command_drive.specs.Texts.{Ended, close_of, is_short, within_limit, lines_within}
use Rattle.replay_run.specs.Verdict.{verdict, plays, replay_on, replayed}
use Rattle.command_drive.specs.Outside.{Held, Meets, AppendsFront}
use Rattle.replay_run.proofs.Owed.{told, in_form}
use Rattle.command_node.proofs.Told.{nothing_more, no_front, held_some, ended_so}

-- words of `replay` name no router, and no such word is asked for
pub in_replay : (kind : ScheduleKind) (form : Form) (router : List ℕ) (conf left : Option (List ℕ)) (Holds : Verdict → Type 0) → form ≡ Replay kind → OnHeld (Replay kind) [] conf left Holds → OnHeld form router conf left Holds
unfolding verdict
in_replay kind form router conf left Holds is holds = in_form form (Replay kind) router conf left Holds is holds

-- where the domain file says a domain, the verdict is the schedule's
pub played : (kind : ScheduleKind) (conf left : Option (List ℕ)) (d : DomainConf) (Holds : Verdict → Type 0) → Says conf d
    → ((octets : List ℕ) × Held left octets × Holds (plays_mean (plays kind d) Ends octets)) → OnHeld (Replay kind) [] conf left Holds
unfolding verdict
played kind conf left d Holds says answer = (says.0, answer.0, says.1, answer.1, rw says.2 answer.2)

-- where it breaks a rule, that says so
pub refused_meets : (kind : ScheduleKind) (conf left before now frames : Option (List ℕ)) (result : Status) (line : List ℕ) → IsRefused conf line → IsDecided result → (result ≡ ConfRefused) ⊎ (result ≡ WriteFault) → Appends before now line
    → OnHeld (Replay kind) [] conf left (λ owed. Meets owed result before now frames frames)
unfolding verdict
refused_meets kind conf left before now frames result line (file, of_conf, (why, breaks, is)) decided ended written =
    let octets = held_some left in (
      file,
      octets.0,
      of_conf,
      octets.1,
      rw breaks (record { status = ended_so ConfRefused result decided ended; report = rw (← is) written; frames = nothing_more frames }),
    )

pub refused_front : (kind : ScheduleKind) (conf left before now frames : Option (List ℕ)) (line : List ℕ) → IsRefused conf line → AppendsFront before now line
    → OnHeld (Replay kind) [] conf left (λ owed. AppendsFront before now owed.report × AppendsFront frames frames owed.frames)
unfolding verdict
refused_front kind conf left before now frames line (file, of_conf, (why, breaks, is)) front =
    let octets = held_some left in
    (file, octets.0, of_conf, octets.1, rw breaks (rw (← is) front, no_front frames []))

-- what holds of each verdict holds of one
pub any_holds : (owed : Option Verdict) (Holds : Verdict → Type 0) → ((v : Verdict) → Holds v) → IfSome owed Holds
any_holds None Holds all = tt
any_holds (Some v) Holds all = all v

-- before anything is written, fronts are
pub none_front : (kind : ScheduleKind) (conf left report frames : Option (List ℕ)) → OnHeld (Replay kind) [] conf left (λ owed. AppendsFront report report owed.report × AppendsFront frames frames owed.frames)
none_front kind conf left report frames =
    let file = held_some conf in
    let octets = held_some left in (
      file.0,
      octets.0,
      file.1,
      octets.1,
      any_holds (verdict (Replay kind) [] (Some file.0) (Some octets.0)) (λ owed. AppendsFront report report owed.report × AppendsFront frames frames owed.frames)
          (λ v. (no_front report v.report, no_front frames v.frames)),
    )

-- ---- schedules that are done

-- an event that is allowed is done
does_allowed : (line : ℕ) (r : Run) (e : Event) → event_fault r.world e ≡ None → does line (record { run = r; refused = None }) e ≡ record { run = goes_on r (line, e); refused = None }
unfolding does
does_allowed line r e allowed = ap (tries r line e) allowed

-- so are events, each of which is, and they lead to the world that they lead to
all_done : (line : ℕ) (r : Run) (es : List Event) → AreAllowed r.world es
    → ((fold (does line) (record { run = r; refused = None }) es).refused ≡ None) × ((fold (does line) (record { run = r; refused = None }) es).run.world ≡ world_after r.world es)
unfolding AreAllowed goes_on
all_done line r [] are = (refl, refl)
all_done line r (e ∷ es) (allowed, more) =
    subst (λ (p : Progress). ((fold (does line) p es).refused ≡ None) × ((fold (does line) p es).run.world ≡ world_after r.world (e ∷ es))) (sym (does_allowed line r e allowed)) (all_done line (goes_on r (line, e)) es more)

-- lines that are done reach no refusal
none_refused : (names : List (List ℕ)) (line : ℕ) (r : Run) (texts : List (List ℕ)) → AreDone names r.world texts → (lines_reach names line r texts).refused ≡ None
unfolding AreDone lines_reach line_done
none_refused names line r [] are = refl
none_refused names line r (text ∷ more) (said, says, allowed, rest) =
    let p = line_done line (record { run = r; refused = None }) said in
    let done = all_done line r (line_events r.world said) allowed in
    rw (line_back names text said says, done.0) (none_refused names (line + 1) p.run more (subst (λ (w : WorldState). AreDone names w more) (sym done.1) rest))

all_lines : (input : List ℕ) → is_short input ≡ true → length input ≤ TEXT_LIMIT → lines_within input ≡ lines_in true input
unfolding within_limit
all_lines input short is = ap (λ (b : Bool). lines_in b (within_limit input)) short ∙ ap (lines_in true) (take_all TEXT_LIMIT input is)

-- a schedule without a line that is rejected is done
played_done : (plays_of : List (List ℕ) → Played) (octets : List ℕ) → IsPlayed plays_of octets → (plays_mean plays_of Ends octets).status ≡ Done
played_done plays_of octets is =
    let short : is_short octets ≡ true = le-leb (length octets) TEXT_LIMIT is.short in
    let lines = all_lines octets short is.short in
    ap (λ (b : Bool). (answer_of plays_of (close_of b) (lines_within octets)).status) short
    ∙ ap (λ (ls : List (List ℕ)). (answer_of plays_of Ended ls).status) lines
    ∙ ap (λ (o : Option (ℕ × Refusal)). (ending Ended (length (lines_in true octets)) (plays_of (lines_in true octets)).run o).0) is.none

-- no line is rejected of a schedule whose lines are done
replay_played : (recording : Recording) (d : DomainConf) (octets : List ℕ) → IsDone d octets → IsPlayed (replayed recording d) octets
unfolding schedule_reaches first_run
replay_played recording d octets is = record { short = is.short; none = none_refused (names_of d) 1 (first_run d) (lines_in true octets) is.lines }

-- such a schedule is done
schedule_done : (kind : ScheduleKind) (d : DomainConf) (octets : List ℕ) → IsDoneBy kind d octets → (plays_mean (plays kind d) Ends octets).status ≡ Done
unfolding plays
schedule_done kinds.Replay d octets is = played_done (plays kinds.Replay d) octets (replay_played recordings.Pcap d octets is)
schedule_done kinds.ReplayNg d octets is = played_done (plays kinds.ReplayNg d) octets (replay_played recordings.Pcapng d octets is)
schedule_done kinds.Handshake d octets is = played_done (plays kinds.Handshake d) octets is
schedule_done kinds.Check d octets is = played_done (plays kinds.Check d) octets is

-- ---- completeness

pub replay_done : (kind : ScheduleKind) (conf left before now frames frames_now : Option (List ℕ)) (result : Status) (Quiet : Type 0)
    → (Quiet → IsDecided result ⊎ (result ≡ Memory))
    → (IsDecided result → OnHeld (Replay kind) [] conf left (λ owed. Meets owed result before now frames frames_now))
    → IfSome conf (λ file. IfSome left (λ octets. IsReplayed kind file octets → Quiet → DoneOrMemory result))
unfolding verdict
replay_done kind None left before now frames frames_now result Quiet decided answer = tt
replay_done kind (Some file) None before now frames frames_now result Quiet decided answer = tt
replay_done kind (Some file) (Some octets) before now frames frames_now result Quiet decided answer = λ is quiet. elim (decided quiet) [
  | inr memory ↦ inr memory
  | inl known ↦
      let met = told (Replay kind) [] (Some file) (Some octets) (λ owed. Meets owed result before now frames frames_now) (answer known) in
      let played : IfSome (replay_on kind (Ok is.domain) (Some octets)) (λ owed. Meets owed result before now frames frames_now) =
      subst (λ (read : Result DomainConf ConfFault). IfSome (replay_on kind read (Some octets)) (λ owed. Meets owed result before now frames frames_now)) is.says met in
      inl (played.status ∙ schedule_done kind is.domain octets is.schedule)
]
