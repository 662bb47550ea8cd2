-- The states of a schedule with hellos are those of the run of its events, and a domain allows each event where it occurs.
use Rattle.std.proofs.Common.{◌≡◌, ℕ, Bool, true, false, List, [], ◌∷◌, ◌++◌, length, Option, None, Result, Ok, Err, refl, sym, ap, ap₂, subst, ◌∙◌, append-nil}
use Rattle.std.specs.List.{AllByRecursion}
use Rattle.std.proofs.lemmas.List.{length-map}
use Rattle.wire_base.specs.declared.conf.RouterConf.{RouterConf}
use Rattle.wire_base.specs.model.Configuration.{DomainConf, IsValid}
use Rattle.isis_hello.specs.declared.event.EndChange.{EndChange}
use Rattle.wire_base.specs.declared.hello_event.HelloEvent.{HelloEvent}
use Rattle.wire_base.specs.declared.hello_event.HelloEvent.TheVariants as hellos
use Rattle.isis_hello.specs.Circuits.{first_circuits}
use Rattle.isis_hello.specs.Events as circuits
use Rattle.isis_hello.proofs.QueueLaws.{left}
use Rattle.replay_text.specs.Hand.{hand_line}
use Rattle.replay_text.specs.declared.event.Event.{Event}
use Rattle.replay_text.specs.declared.event.Event.TheVariants.{Down}
use Rattle.replay_text.specs.declared.event.Line.{Line}
use Rattle.replay_text.specs.declared.event.Line.TheVariants.{One}
use Rattle.replay_text.specs.declared.fault.TextFault.{TextFault}
use Rattle.replay_text.specs.declared.hand.HandLine.{HandLine}
use Rattle.replay_text.specs.declared.hand.HandLine.TheVariants.{Base, Hello}
use Rattle.domain_model.specs.declared.fault.EventFault.{EventFault}
use Rattle.domain_model.specs.World.{WorldState, first_world, ids_in_flight}
use Rattle.domain_model.specs.Run.{Direction, directions}
use Rattle.laws_ledger.specs.Runs.{AreAllowed, unlined}
use Rattle.replay_report.specs.Captures.{capture_front}
use Rattle.replay_report.specs.declared.recording.Recording.{Recording}
use Rattle.replay_report.specs.declared.recording.Recording.TheVariants.{Pcap}
use Rattle.domain_replay.specs.Parts.{Past, past_and, IsWoven}
use Rattle.domain_replay.specs.Replaying.{IsJoining}
use Rattle.domain_replay.specs.Telling.{LineEnters}
use Rattle.domain_replay.specs.Texts.{names_of}
use Rattle.domain_replay.proofs.DirectionLaws.{directions_join}
use Rattle.domain_replay.proofs.PartLaws.{IsPart, starts, text_after, line_after}
use Rattle.laws_replay.specs.Promises.{KeepsPromises, LineFits}
use Rattle.laws_replay.proofs.Allowed.{events_promised, line_allowed}
use Rattle.laws_replay.proofs.Fitting.{line_fits}
use Rattle.laws_replay.proofs.MomentLaws.{events_of}
use Rattle.domain_handshake.specs.Handshakes.{HandState, fresh_state, writes, world_does, hello_does, end_goes_down, start_does}
use Rattle.domain_handshake.specs.Lines.{change_event, end_event, changes_text, sent_record}
use Rattle.domain_handshake.specs.Within.{IsWithin}
use Rattle.domain_handshake.proofs.Keeping.{HandPast, Keeps, IsKeeping, turns_keep, hello_keeps, base_keeps}
use Rattle.domain_handshake.proofs.WithinLaws.{changes_within}
use Rattle.command_replay.specs.Course.{AreCounted, ShowsFronts, turn_part, course_part, played_past}
use Rattle.command_replay.proofs.Coursed.{past_none, course_keeps}
use Rattle.command_handshake.specs.Followed.{IsSaid}
use Rattle.command_handshake.specs.Owed.{replay_of}
use Rattle.command_handshake.specs.Shaken.{said_does, read_turns, hand_turns, start_turned, opening, shaken_course, shaken}
use Rattle.command_handshake.proofs.SaidHands.{hand_base, hand_doable, shown_hand}

-- ---- states

-- The state is that of the run so far, the circuits are those of the domain, and if the domain is valid, it allowed each event.
pub record IsCourse (d : DomainConf) (past : Past) (s : HandState) : Type 0 where
  pub part : IsPart Pcap d (IsSaid d) past s.replay
  pub domain : s.circuits.domain ≡ d
  pub allowed : IsValid d → AreAllowed (first_world d) (unlined past.events)

module _ (d : DomainConf) where
  -- the domain executes an event that is read, in a valid domain
  abbrev IsFit : Line → Type 0
  IsFit said = LineEnters (length d.routers) said × (IsValid d → LineFits (length d.routers) said)

  nothing_said : IsSaid d [] []
  nothing_said = record { line = 0; changes = []; event = hellos.Tick 0; sent = None; report_is = refl; frames_are = refl }

  -- ---- parts

  abbrev Holds : Option EventFault → HandPast → HandState → Type 0
  Holds why before s = IsCourse d before.past s

  world_holds : (line : ℕ) (said : Line) → IsFit said → IsKeeping Holds (λ s. world_does line s said)
  unfolding world_does
  world_holds line said fit before s is = record {
    part = line_after Pcap d (IsSaid d) before.past s.replay is.part line said fit.0 nothing_said;
    domain = is.domain;
    allowed = λ valid. line_allowed d valid line said before.past.events s.replay.world (fit.1 valid) is.part.world (is.allowed valid);
  }

  domain_is : (past : Past) (s : HandState) → IsCourse d past s → s.replay.world.domain ≡ d
  domain_is past s is = ap (λ (w : WorldState). w.domain) is.part.world ∙ is.part.run.domain

  wrote_holds : (line : ℕ) (e : HelloEvent) (sent : Option (List ℕ)) (cs : List EndChange) (before : HandPast) (s : HandState) → Holds None before s
      → Keeps Holds before (writes (changes_text s.replay.world.domain.routers line cs) (sent_record s.replay.recording s.replay.world.domain.routers line e sent) s)
  wrote_holds line e sent cs before s is =
      let domain = domain_is before.past s is in
      let said : IsSaid d (changes_text s.replay.world.domain.routers line cs) (sent_record s.replay.recording s.replay.world.domain.routers line e sent) = record {
        line = line;
        changes = cs;
        event = e;
        sent = sent;
        report_is = ap (λ (x : DomainConf). changes_text x.routers line cs) domain;
        frames_are = ap₂ (λ (r : Recording) (x : DomainConf). sent_record r x.routers line e sent) is.part.recorded domain;
      } in
      record {
        part = text_after Pcap d (IsSaid d) before.past s.replay is.part (changes_text s.replay.world.domain.routers line cs) (sent_record s.replay.recording s.replay.world.domain.routers line e sent) said;
        domain = is.domain;
        allowed = λ valid. subst (λ (l : List (ℕ × Event)). AreAllowed (first_world d) (unlined l)) (sym (append-nil before.past.events)) (is.allowed valid);
      }

  abbrev IsFine : EndChange → Type 0
  IsFine c = IsValid d → IsWithin (length d.routers) c

  change_fits : (c : EndChange) → IsFine c → IsFit (One (change_event c))
  change_fits c fine = by c.up
    where
      by : (up : Bool) → IsFit (One (end_event c.router c.peer up))
      by true = (tt, λ valid. let w = fine valid in (w.router, w.peer))
      by false = (tt, λ valid. let w = fine valid in (w.router, w.peer))

  all_fine : (cs : List EndChange) → (IsValid d → AllByRecursion (IsWithin (length d.routers)) cs) → AllByRecursion IsFine cs
  all_fine [] all = tt
  all_fine (c ∷ cs) all = ((λ valid. (all valid).0), all_fine cs (λ valid. (all valid).1))

  hello_holds : (line : ℕ) (e : HelloEvent) → IsKeeping Holds (λ s. hello_does line s e)
  hello_holds line e =
      hello_keeps Holds line IsFine
      (λ f before s is. record { part = is.part; domain = (left s.circuits f).domain ∙ is.domain; allowed = is.allowed })
      (λ f before s is. all_fine (circuits.happens s.circuits f).out.changes (λ valid. subst (λ (x : DomainConf). AllByRecursion (IsWithin (length x.routers)) (circuits.happens s.circuits f).out.changes) is.domain (changes_within s.circuits f (subst IsValid (sym is.domain) valid))))
      (λ why before s is. is)
      (λ why before ms s is. is)
      (wrote_holds line)
      (λ c fine. world_holds line (One (change_event c)) (change_fits c fine))
      e

  -- ---- lines

  abbrev IsFitHand : HandLine → Type 0
  IsFitHand (Base said) = IsFit said
  IsFitHand (Hello e) = Unit {0}

  said_holds : (line : ℕ) (said : HandLine) → IsFitHand said → IsKeeping Holds (λ s. said_does line s said)
  said_holds line (Base said) fit = base_keeps Holds line IsFit (tt, λ valid. tt) (world_holds line) (hello_holds line) said fit
  said_holds line (Hello e) fit = hello_holds line e

  read_course : (line : ℕ) (past : Past) (s : HandState) (read : Result HandLine TextFault) → ((said : HandLine) → read ≡ Ok said → IsFitHand said) → IsCourse d past s
      → IsCourse d (past_and past (turn_part (read_turns line s read))) (read_turns line s read).next
  read_course line past s (Err why) fits is = subst (λ (p : Past). IsCourse d p s) (sym (past_none past)) is
  read_course line past s (Ok said) fits is = said_holds line said (fits said refl) (record { past = past; hellos = []; moments = [] }) s is

  hand_fits : (names : List (List ℕ)) (text : List ℕ) → length names ≡ length d.routers → (said : HandLine) → hand_line text names ≡ Ok said → IsFitHand said
  hand_fits names text count (Base said) reads = (
    subst (λ (n : ℕ). LineEnters n said) count (hand_doable names text (Base said) reads).0,
    λ valid. subst (λ (n : ℕ). LineFits n said) count (line_fits names text said (hand_base names text said reads)),
  )
  hand_fits names text count (Hello e) reads = tt

  -- the names in a state are those of the domain
  count_from : (past : Past) (s : HandState) → IsCourse d past s → length (names_of s.replay.world.domain) ≡ length d.routers
  count_from past s is = ap (λ (x : DomainConf). length (names_of x)) (domain_is past s is) ∙ length-map d.routers (λ (c : RouterConf). c.name)

  turn_course : (line : ℕ) (text : List ℕ) (past : Past) (s : HandState) → IsCourse d past s → IsCourse d (past_and past (turn_part (hand_turns line text s))) (hand_turns line text s).next
  unfolding hand_turns
  turn_course line text past s is =
      let names = names_of s.replay.world.domain in read_course line past s (hand_line text names) (hand_fits names text (count_from past s is)) is

  -- ---- the start

  fresh : Past
  fresh = record { report = []; frames = capture_front Pcap d.routers; events = [] }

  fresh_course : IsCourse d fresh (fresh_state Pcap d)
  unfolding fresh first_circuits
  fresh_course = record { part = starts Pcap d (IsSaid d); domain = refl; allowed = λ valid. tt }

  downs_hold : (xs : List Direction) → (IsValid d → AllByRecursion (IsJoining d.routers) xs) → AllByRecursion (λ x. IsKeeping Holds (λ s. end_goes_down s x)) xs
  downs_hold [] joins = tt
  downs_hold (x ∷ xs) joins = (world_holds 0 (One (Down x.from x.to)) (tt, λ valid. let j = (joins valid).0 in (j.from, j.to)), downs_hold xs (λ valid. (joins valid).1))

  pub start_course : IsCourse d (opening d) (start_turned d).next
  unfolding start_does fresh
  start_course =
      turns_keep Holds end_goes_down (directions d.routers) (downs_hold (directions d.routers) (λ valid. directions_join d valid)) (record { past = fresh; hellos = []; moments = [] }) (fresh_state Pcap d) fresh_course

  -- ---- a schedule

  pub course_is : (lines : List (List ℕ)) → IsCourse d (past_and (opening d) (course_part (shaken_course d lines))) (shaken_course d lines).state
  course_is lines = course_keeps hand_turns (IsCourse d) turn_course lines 0 (opening d) (start_turned d).next start_course

  pub hand_counted : AreCounted replay_of hand_turns d (start_turned d).events (start_turned d).next
  hand_counted lines = let is = (course_is lines).part in record { counts = is.counts; flight = ap (λ (w : WorldState). ids_in_flight w.flights) is.world }

  pub hand_promised : (lines : List (List ℕ)) → IsValid d → KeepsPromises d (shaken d lines).run
  hand_promised lines valid = events_promised d ((start_turned d).events ++ (shaken_course d lines).events) valid ((course_is lines).allowed valid)

  pub hand_woven : (lines : List (List ℕ)) → IsWoven Pcap d (played_past (shaken d lines)) (IsSaid d)
  hand_woven lines =
      let past = past_and (opening d) (course_part (shaken_course d lines)) in
      subst (λ (l : List (ℕ × Event)). IsWoven Pcap d (record { report = past.report; frames = past.frames; events = l }) (IsSaid d)) (sym (events_of d past.events)) (course_is lines).part.woven

pub hand_shows : ShowsFronts hand_turns
unfolding hand_turns
hand_shows n text s = ap (read_turns n s) (shown_hand (names_of s.replay.world.domain) text)
