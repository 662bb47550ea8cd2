-- The states of a schedule that is checked are those of the run of its events, and a valid domain allowed each of them.
use Rattle.std.proofs.Common.{◌≡◌, ℕ, List, [], length, Result, Ok, Err, inl, inr, refl, sym, ap, subst, ◌∙◌, append-nil}
use Rattle.std.proofs.lemmas.List.{length-map}
use Rattle.wire_base.specs.declared.conf.RouterConf.{RouterConf}
use Rattle.wire_base.specs.declared.faults.EdgeFault.{EdgeFault}
use Rattle.wire_base.specs.model.Configuration.{DomainConf, IsValid}
use Rattle.replay_text.specs.Check.{check_line}
use Rattle.replay_text.specs.declared.check.CheckLine.{CheckLine}
use Rattle.replay_text.specs.declared.check.CheckLine.TheVariants.{Base, Quiet, Cover}
use Rattle.replay_text.specs.declared.event.Event.{Event}
use Rattle.replay_text.specs.declared.event.Line.{Line}
use Rattle.replay_text.specs.declared.fault.TextFault.{TextFault}
use Rattle.domain_model.specs.World.{WorldState, first_world, ids_in_flight}
use Rattle.domain_core.specs.Cover.{cover_of}
use Rattle.domain_core.specs.Quiet.{quiet_of}
use Rattle.laws_ledger.specs.Runs.{AreAllowed, unlined}
use Rattle.replay_report.specs.declared.recording.Recording.TheVariants.{Pcap}
use Rattle.domain_replay.specs.Captures.{capture_front}
use Rattle.domain_replay.specs.Lines.{quiet_text, cover_text}
use Rattle.domain_replay.specs.Parts.{Past, past_and, IsWoven}
use Rattle.domain_replay.specs.Telling.{ReplayState, first_state}
use Rattle.domain_replay.specs.Texts.{names_of}
use Rattle.domain_replay.proofs.PartLaws.{IsPart, starts, text_after, line_after}
use Rattle.laws_replay.specs.Promises.{KeepsPromises, LineFits}
use Rattle.laws_replay.proofs.Allowed.{events_promised, line_allowed}
use Rattle.laws_replay.proofs.Fitting.{line_fits}
use Rattle.laws_replay.proofs.MomentLaws.{events_of}
use Rattle.command_replay.specs.Course.{AreCounted, ShowsFronts, turn_part, course_part, played_past, opens_with}
use Rattle.command_replay.proofs.Coursed.{past_none, course_keeps}
use Rattle.command_check.specs.Checked.{base_turn, cover_turn, read_turn, check_turns, check_course, checked, IsAnswer}
use Rattle.command_check.specs.Turning.{CheckEnters}
use Rattle.command_check.proofs.SaidChecks.{check_base, check_doable, shown_check}

-- The state is that of the run so far, between whose events answers are reported; and if the domain is valid, it allowed each event.
pub record IsCourse (d : DomainConf) (past : Past) (s : ReplayState) : Type 0 where
  pub part : IsPart Pcap d (IsAnswer d) past s
  pub allowed : IsValid d → AreAllowed (first_world d) (unlined past.events)

module _ (d : DomainConf) where
  no_answer : IsAnswer d [] []
  no_answer = (refl, inl refl)

  -- nothing is executed
  answer_course : (past : Past) (s : ReplayState) (report : List ℕ) → IsAnswer d report [] → IsCourse d past s → IsCourse d (past_and past (record { report = report; frames = []; events = [] })) s
  answer_course past s report answer is = record {
    part = text_after Pcap d (IsAnswer d) past s is.part report [] answer;
    allowed = λ valid. subst (λ (l : List (ℕ × Event)). AreAllowed (first_world d) (unlined l)) (sym (append-nil past.events)) (is.allowed valid);
  }

  refused_course : (past : Past) (s : ReplayState) → IsCourse d past s → IsCourse d (past_and past (record { report = []; frames = []; events = [] })) s
  refused_course past s is = subst (λ (p : Past). IsCourse d p s) (sym (past_none past)) is

  abbrev IsFit : Line → Type 0
  IsFit said = CheckEnters (length d.routers) (Base said) × (IsValid d → LineFits (length d.routers) said)

  base_course : (line : ℕ) (said : Line) (past : Past) (s : ReplayState) → IsFit said → IsCourse d past s → IsCourse d (past_and past (turn_part (base_turn line said s))) (base_turn line said s).next
  base_course line said past s fit is = record {
    part = line_after Pcap d (IsAnswer d) past s is.part line said fit.0 no_answer;
    allowed = λ valid. line_allowed d valid line said past.events s.world (fit.1 valid) is.part.world (is.allowed valid);
  }

  pub domain_is : (past : Past) (s : ReplayState) → IsCourse d past s → s.world.domain ≡ d
  domain_is past s is = ap (λ (w : WorldState). w.domain) is.part.world ∙ is.part.run.domain

  quiet_course : (line : ℕ) (past : Past) (s : ReplayState) → IsCourse d past s → IsCourse d (past_and past (turn_part (read_turn line (Ok Quiet) s))) s
  quiet_course line past s is =
      let domain = domain_is past s is in
      answer_course past s (quiet_text s.world.domain.routers line (quiet_of s.world)) (refl, inr (inl (line, quiet_of s.world, ap (λ (x : DomainConf). quiet_text x.routers line (quiet_of s.world)) domain))) is

  cover_course : (line : ℕ) (past : Past) (s : ReplayState) (r : Result (List ℕ) EdgeFault) → IsCourse d past s → IsCourse d (past_and past (turn_part (cover_turn line s r))) (cover_turn line s r).next
  cover_course line past s (Ok ids) is = answer_course past s (cover_text line ids) (refl, inr (inr (line, ids, refl))) is
  cover_course line past s (Err why) is = refused_course past s is

  read_course : (line : ℕ) (past : Past) (s : ReplayState) (read : Result CheckLine TextFault) → ((said : CheckLine) → read ≡ Ok said → CheckEnters (length d.routers) said)
      → ((said : Line) → read ≡ Ok (Base said) → LineFits (length d.routers) said) → IsCourse d past s → IsCourse d (past_and past (turn_part (read_turn line read s))) (read_turn line read s).next
  read_course line past s (Err why) enters fits is = refused_course past s is
  read_course line past s (Ok (Base said)) enters fits is = base_course line said past s (enters (Base said) refl, λ valid. fits said refl) is
  read_course line past s (Ok Quiet) enters fits is = quiet_course line past s is
  read_course line past s (Ok (Cover router sd bsl ids ttl entropy)) enters fits is = cover_course line past s (cover_of s.world router sd bsl ids ttl entropy) is

  -- the names in a state are those of the domain
  pub names_from : (past : Past) (s : ReplayState) → IsCourse d past s → names_of s.world.domain ≡ names_of d
  names_from past s is = ap names_of (domain_is past s is)

  turn_course : (line : ℕ) (text : List ℕ) (past : Past) (s : ReplayState) → IsCourse d past s → IsCourse d (past_and past (turn_part (check_turns line text s))) (check_turns line text s).next
  turn_course line text past s is =
      let names = names_of s.world.domain in
      let count : length names ≡ length d.routers = ap (λ (l : List (List ℕ)). length l) (names_from past s is) ∙ length-map d.routers (λ (c : RouterConf). c.name) in
      read_course line past s (check_line text names)
      (λ said reads. subst (λ (n : ℕ). CheckEnters n said) count (check_doable names text said reads).0)
      (λ said reads. subst (λ (n : ℕ). LineFits n said) count (line_fits names text said (check_base names text said reads)))
      is

  abbrev front : Past
  front = opens_with (capture_front Pcap d.routers)

  start_course : IsCourse d front (first_state Pcap d)
  start_course = record { part = starts Pcap d (IsAnswer d); allowed = λ valid. tt }

  pub course_is : (lines : List (List ℕ)) → IsCourse d (past_and front (course_part (check_course d lines))) (check_course d lines).state
  course_is lines = course_keeps check_turns (IsCourse d) turn_course lines 0 front (first_state Pcap d) start_course

  pub check_counted : AreCounted (λ (x : ReplayState). x) check_turns d [] (first_state Pcap d)
  check_counted lines = let is = (course_is lines).part in record { counts = is.counts; flight = ap (λ (w : WorldState). ids_in_flight w.flights) is.world }

  pub check_promised : IsValid d → (lines : List (List ℕ)) → KeepsPromises d (checked d lines).run
  check_promised valid lines = events_promised d (check_course d lines).events valid ((course_is lines).allowed valid)

  pub check_woven : (lines : List (List ℕ)) → IsWoven Pcap d (played_past (checked d lines)) (IsAnswer d)
  check_woven lines =
      let past = past_and front (course_part (check_course d lines)) in
      subst (λ (l : List (ℕ × Event)). IsWoven Pcap d (record { report = past.report; frames = past.frames; events = l }) (IsAnswer d)) (sym (events_of d past.events)) (course_is lines).part.woven

pub check_shows : ShowsFronts check_turns
check_shows n text s = ap (λ (r : Result CheckLine TextFault). read_turn n r s) (shown_check (names_of s.world.domain) text)
