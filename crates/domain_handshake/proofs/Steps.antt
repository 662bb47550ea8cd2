-- What the calls below do, in the words of outcomes.
use Rattle.std.proofs.Common.{◌≡◌, ◌≢◌, ℕ, ◌+◌, not, nat_lt, Bool, true, false, List, ◌++◌, length, replicate, Option, Some, None, Result, Ok, Err, IfErr, OnOk, refl, sym, ap, ap₂, subst, ◌∙◌, append-nil}
use Rattle.run_texts.specs.declared.texts.Texts.{Texts}
use Rattle.isis_hello.specs.declared.event.EndChange.{EndChange}
use Rattle.wire_base.specs.declared.hello_event.HelloEvent.{HelloEvent}
use Rattle.wire_base.specs.declared.hello_event.HelloEvent.TheVariants as hellos
use Rattle.isis_hello.specs.declared.event.HelloOut.{HelloOut}
use Rattle.isis_hello.specs.declared.fault.CircuitFault.{CircuitFault}
use Rattle.isis_hello.specs.declared.fault.CircuitFault.TheVariants as circuits
use Rattle.std.specs.List.{AllByRecursion}
use Rattle.wire_base.specs.model.Configuration.{DomainConf, IsValid}
use Rattle.isis_hello.specs.Circuits.{CircuitsState, first_circuits, hellos_between}
use Rattle.isis_hello.specs.Events.{Refuses, circuit_fault, happens}
use Rattle.domain_handshake.specs.Within.{IsWithin}
use Rattle.domain_handshake.proofs.WithinLaws.{changes_within}
use Rattle.replay_text.specs.declared.event.Event.{Event}
use Rattle.replay_text.specs.declared.event.Event.TheVariants.{Tick, Restart}
use Rattle.replay_text.specs.declared.event.Line.{Line}
use Rattle.replay_text.specs.declared.event.Line.TheVariants.{One}
use Rattle.domain_model.specs.declared.fault.EventFault.{EventFault}
use Rattle.domain_model.specs.declared.fault.EventFault.TheVariants as faults
use Rattle.domain_model.specs.Faults.{most_events}
use Rattle.domain_model.specs.Run.{Direction, directions}
use Rattle.domain_model.specs.World.{first_world}
use Rattle.replay_report.specs.declared.recording.Recording.{Recording}
use Rattle.domain_replay.specs.Telling as telling
use Rattle.domain_replay.specs.Telling.{Telling, ReplayState, first_state, with_texts, tells_line}
use Rattle.domain_replay.proofs.CourseLaws.{past_told, line_past}
use Rattle.domain_handshake.specs.Doing.{Did, Does}
use Rattle.domain_replay.specs.Parts.{unsaid, state_of}
use Rattle.domain_handshake.specs.Handshakes.{HandState, Outcome, fresh_state, writes, in_turn, world_does, change_does, follows, follows_if, follows_all, with_hello, hello_unless, hello_does, greet_on, greets_on, round_over, round_does, event_does, end_goes_down, start_does}
use Rattle.domain_handshake.specs.Lines.{changes_text, fault_of, sent_record}
use Rattle.domain_handshake.proofs.Parts.{refuses_did, then_does, then_stops}

-- ---- the domain

-- what stands in the outputs stands before what is reported
said_behind : (line : ℕ) (s : ReplayState) (texts : Texts) (said : Line) → tells_line line (with_texts s texts) said ≡ past_told texts.frames texts.report (tells_line line (unsaid s) said)
said_behind line s texts said =
    ap (λ (t : Telling). tells_line line t said) (ap₂ (λ (f r : List ℕ). record { world = s.world; counts = s.counts; frames = f; report = r; recording = s.recording }) (sym (append-nil texts.frames)) (sym (append-nil texts.report)))
    ∙ line_past line texts.frames texts.report (unsaid s) said

world_did : (line : ℕ) (s : HandState) (now : ReplayState) (texts texts_now : Texts) (said : Line) (why : Option EventFault) → tells_line line (with_texts s.replay texts) said ≡ record { telling = with_texts now texts_now; refused = why }
    → Did (world_does line s said) (record { replay = now; circuits = s.circuits }) why texts texts_now
unfolding world_does
world_did line s now texts texts_now said why tells = record {
  report = sym (ap (λ (u : telling.Told). u.telling.report) so);
  frames = sym (ap (λ (u : telling.Told). u.telling.frames) so);
  refused = ap (λ (u : telling.Told). u.refused) so;
  next = ap (λ (u : telling.Told). record { replay = state_of u.telling; circuits = s.circuits }) so;
}
  where
    so : past_told texts.frames texts.report (tells_line line (unsaid s.replay) said) ≡ record { telling = with_texts now texts_now; refused = why }
    so = sym (said_behind line s.replay texts said) ∙ tells

pub world_does_so : (line : ℕ) (s : HandState) (now : ReplayState) (texts texts_now : Texts) (said : Line) (result : Result (Unit {0}) EventFault) → OnOk result (tells_line line (with_texts s.replay texts) said ≡ telling.told (with_texts now texts_now))
    → IfErr result (λ e. e ≢ faults.Memory → tells_line line (with_texts s.replay texts) said ≡ record { telling = with_texts now texts_now; refused = Some e })
    → Does (world_does line s said) (record { replay = now; circuits = s.circuits }) texts texts_now result
world_does_so line s now texts texts_now said (Ok u) ok refused = world_did line s now texts texts_now said None ok
world_does_so line s now texts texts_now said (Err why) ok refused = λ known. world_did line s now texts texts_now said (Some why) (refused known)

-- ---- the circuits

hello_happens_so : (line : ℕ) (s : HandState) (e : HelloEvent) → circuit_fault s.circuits e ≡ None
    → hello_does line s e ≡ with_hello e (follows line (record s { circuits = (happens s.circuits e).state }) (sent_record s.replay.recording s.replay.world.domain.routers line e (happens s.circuits e).out.sent) (happens s.circuits e).out.changes)
unfolding hello_does
hello_happens_so line s e allowed = ap (hello_unless line s e) allowed

with_hello_did : (e : HelloEvent) (o : Outcome) (now : HandState) (why : Option EventFault) (texts texts_now : Texts) → Did o now why texts texts_now → Did (with_hello e o) now why texts texts_now
with_hello_did e o now why texts texts_now did = record { report = did.report; frames = did.frames; refused = did.refused; next = did.next }

with_hello_does : (e : HelloEvent) (o : Outcome) (now : HandState) (texts texts_now : Texts) (result : Result (Unit {0}) EventFault) → Does o now texts texts_now result → Does (with_hello e o) now texts texts_now result
with_hello_does e o now texts texts_now (Ok u) does = with_hello_did e o now None texts texts_now does
with_hello_does e o now texts texts_now (Err why) does = λ known. with_hello_did e o now (Some why) texts texts_now (does known)

pub hello_does_so : (line : ℕ) (s now : HandState) (e : HelloEvent) (c : CircuitsState) (sent : Option (List ℕ)) (changes : List EndChange) (texts texts_now : Texts) (result : Result (Unit {0}) EventFault) → circuit_fault s.circuits e ≡ None
    → c ≡ (happens s.circuits e).state → record { sent = sent; changes = changes } ≡ (happens s.circuits e).out
    → Does (follows line (record { replay = s.replay; circuits = c }) (sent_record s.replay.recording s.replay.world.domain.routers line e sent) changes) now texts texts_now result → Does (hello_does line s e) now texts texts_now result
hello_does_so line s now e c sent changes texts texts_now result allowed state out does =
    subst (λ (o : Outcome). Does o now texts texts_now result)
    (ap₂ (λ (x : CircuitsState) (y : HelloOut). with_hello e (follows line (record { replay = s.replay; circuits = x }) (sent_record s.replay.recording s.replay.world.domain.routers line e y.sent) y.changes)) state out
    ∙ sym (hello_happens_so line s e allowed))
    (with_hello_does e (follows line (record { replay = s.replay; circuits = c }) (sent_record s.replay.recording s.replay.world.domain.routers line e sent) changes) now texts texts_now result does)

pub hello_refused_so : (line : ℕ) (s : HandState) (e : HelloEvent) (why : CircuitFault) (texts : Texts) → Refuses (circuit_fault s.circuits e) why → Does (hello_does line s e) s texts texts (Err (fault_of why))
unfolding hello_does
hello_refused_so line s e why texts = by why
  where
    refused : (why : CircuitFault) → circuit_fault s.circuits e ≡ Some why → Did (hello_does line s e) s (Some (fault_of why)) texts texts
    refused why is = subst (λ (o : Outcome). Did o s (Some (fault_of why)) texts texts) (sym (ap (hello_unless line s e) is)) (refuses_did (fault_of why) s texts)

    by : (why : CircuitFault) → Refuses (circuit_fault s.circuits e) why → Does (hello_does line s e) s texts texts (Err (fault_of why))
    by circuits.Memory is known = absurd (known refl)
    by other is known = refused other is

-- ---- the start

pub start_joined : (d : DomainConf) (recording : Recording) (c : CircuitsState) (r : ReplayState) → c ≡ first_circuits d → r ≡ first_state recording d → c.domain ≡ r.world.domain
unfolding first_circuits first_world
start_joined d recording c r circuits replay = ap (λ (x : CircuitsState). x.domain) circuits ∙ sym (ap (λ (x : ReplayState). x.world.domain) replay)

pub fresh_domain : (recording : Recording) (d : DomainConf) (s : HandState) → s ≡ fresh_state recording d → s.replay.world.domain ≡ d
unfolding first_world
fresh_domain recording d s is = ap (λ (x : HandState). x.replay.world.domain) is

pub started_so : (recording : Recording) (d : DomainConf) (s now : HandState) (all : List Direction) (texts texts_now : Texts) → s ≡ fresh_state recording d → all ≡ directions s.replay.world.domain.routers
    → Did (in_turn end_goes_down s all) now None texts texts_now → Did (start_does recording d) now None texts texts_now
unfolding start_does first_world
started_so recording d s now all texts texts_now fresh value did =
    subst (λ (o : Outcome). Did o now None texts texts_now)
    (ap (in_turn end_goes_down s) value ∙ ap (λ (x : HandState). in_turn end_goes_down x (directions x.replay.world.domain.routers)) fresh)
    did

-- ---- what follows from an event of the circuits

module _ (line : ℕ) (s : HandState) (frames : List ℕ) (changes : List EndChange) (texts : Texts) where
  pub follows_refused : nat_lt most_events (s.replay.world.events + length changes) ≡ true → Does (follows line s frames changes) s texts texts (Err faults.Events)
  unfolding follows
  follows_refused full known = subst (λ (b : Bool). Did (follows_if b (follows_all line s frames changes) s) s (Some faults.Events) texts texts) (sym full) (refuses_did faults.Events s texts)

  pub follows_so : (now : HandState) (between texts_now : Texts) (result : Result (Unit {0}) EventFault) → nat_lt most_events (s.replay.world.events + length changes) ≡ false
      → (reported executed : List EndChange) → reported ≡ changes → executed ≡ changes → between.report ≡ texts.report ++ changes_text s.replay.world.domain.routers line reported → between.frames ≡ texts.frames ++ frames
      → Does (in_turn (change_does line) s executed) now between texts_now result → Does (follows line s frames changes) now texts texts_now result
  unfolding follows
  follows_so now between texts_now result room reported executed same again report recorded does =
      subst (λ (b : Bool). Does (follows_if b (follows_all line s frames changes) s) now texts texts_now result) (sym room)
      (then_does (writes (changes_text s.replay.world.domain.routers line changes) frames s) (λ (next : HandState). in_turn (change_does line) next changes) s texts between
      (record { report = report ∙ ap (λ (l : List EndChange). texts.report ++ changes_text s.replay.world.domain.routers line l) same; frames = recorded; refused = refl; next = refl }) now texts_now result
      (subst (λ (l : List EndChange). Does (in_turn (change_does line) s l) now between texts_now result) again does))

pub is_full : (has : Bool) (w n m : ℕ) → has ≡ not (nat_lt most_events (w + n)) → n ≡ m → has ≡ false → nat_lt most_events (w + m) ≡ true
is_full has w n m is same none = by (nat_lt most_events (w + n)) refl (sym is ∙ none)
  where
    by : (b : Bool) → nat_lt most_events (w + n) ≡ b → not b ≡ false → nat_lt most_events (w + m) ≡ true
    by true full h = ap (λ (k : ℕ). nat_lt most_events (w + k)) (sym same) ∙ full
    by false full h = absurd cc

pub is_room : (has : Bool) (w n m : ℕ) → has ≡ not (nat_lt most_events (w + n)) → n ≡ m → has ≡ true → nat_lt most_events (w + m) ≡ false
is_room has w n m is same some = by (nat_lt most_events (w + n)) refl (sym is ∙ some)
  where
    by : (b : Bool) → nat_lt most_events (w + n) ≡ b → not b ≡ true → nat_lt most_events (w + m) ≡ false
    by true full h = absurd cc
    by false full h = ap (λ (k : ℕ). nat_lt most_events (w + k)) (sym same) ∙ full

-- ---- a round

pub round_so : (line : ℕ) (s now : HandState) (all : List Direction) (texts texts_now : Texts) (result : Result (Unit {0}) EventFault) → all ≡ directions s.replay.world.domain.routers
    → Does (round_over line s all) now texts texts_now result → Does (round_does line s) now texts texts_now result
unfolding round_does
round_so line s now all texts texts_now result is does = subst (λ (l : List Direction). Does (round_over line s l) now texts texts_now result) is does

-- ---- the events of a schedule

pub tick_so : (line : ℕ) (s mid now : HandState) (router : ℕ) (texts between texts_now : Texts) (result : Result (Unit {0}) EventFault) → Did (world_does line s (One (Tick router))) mid None texts between
    → Does (hello_does line mid (hellos.Tick router)) now between texts_now result → Does (event_does line s (Tick router)) now texts texts_now result
unfolding event_does
tick_so line s mid now router texts between texts_now result first second =
    then_does (world_does line s (One (Tick router))) (λ (next : HandState). hello_does line next (hellos.Tick router)) mid texts between first now texts_now result second

pub tick_stops : (line : ℕ) (s now : HandState) (router : ℕ) (texts texts_now : Texts) (why : EventFault) → Does (world_does line s (One (Tick router))) now texts texts_now (Err why) → Does (event_does line s (Tick router)) now texts texts_now (Err why)
unfolding event_does
tick_stops line s now router texts texts_now why first = then_stops (world_does line s (One (Tick router))) (λ (next : HandState). hello_does line next (hellos.Tick router)) now texts texts_now why first

pub restart_so : (line : ℕ) (s mid now : HandState) (router : ℕ) (texts between texts_now : Texts) (result : Result (Unit {0}) EventFault) → Did (hello_does line s (hellos.Restart router)) mid None texts between
    → Does (world_does line mid (One (Restart router))) now between texts_now result → Does (event_does line s (Restart router)) now texts texts_now result
unfolding event_does
restart_so line s mid now router texts between texts_now result first second =
    then_does (hello_does line s (hellos.Restart router)) (λ (next : HandState). world_does line next (One (Restart router))) mid texts between first now texts_now result second

pub restart_stops : (line : ℕ) (s now : HandState) (router : ℕ) (texts texts_now : Texts) (why : EventFault) → Does (hello_does line s (hellos.Restart router)) now texts texts_now (Err why) → Does (event_does line s (Restart router)) now texts texts_now (Err why)
unfolding event_does
restart_stops line s now router texts texts_now why first = then_stops (hello_does line s (hellos.Restart router)) (λ (next : HandState). world_does line next (One (Restart router))) now texts texts_now why first

pub other_event : (line : ℕ) (s : HandState) (e : Event) → ((a : ℕ) → e ≡ Tick a → ⊥) → ((a : ℕ) → e ≡ Restart a → ⊥) → world_does line s (One e) ≡ event_does line s e
unfolding event_does
other_event line s (Tick a) tick restart = absurd (tick a refl)
other_event line s (Restart a) tick restart = absurd (restart a refl)
other_event line s other tick restart = refl

-- ---- calls on the circuits

pub within_so : (s : CircuitsState) (d : DomainConf) (e : HelloEvent) (out : HelloOut) → s.domain ≡ d → IsValid d → out ≡ (happens s e).out → AllByRecursion (IsWithin (length d.routers)) out.changes
within_so s d e out same valid is =
    subst (λ (o : HelloOut). AllByRecursion (IsWithin (length d.routers)) o.changes) (sym is)
    (subst (λ (x : DomainConf). AllByRecursion (IsWithin (length x.routers)) (happens s e).out.changes) same (changes_within s e (subst IsValid (sym same) valid)))

pub hello_refused_at : (line : ℕ) (s : HandState) (e : HelloEvent) (why : CircuitFault) (texts : Texts) (c : CircuitsState) (fault : EventFault) → Refuses (circuit_fault s.circuits e) why → c ≡ s.circuits → fault ≡ fault_of why
    → Does (hello_does line s e) (record { replay = s.replay; circuits = c }) texts texts (Err fault)
hello_refused_at line s e why texts c fault refuses same is =
    subst (λ (x : CircuitsState). Does (hello_does line s e) (record { replay = s.replay; circuits = x }) texts texts (Err fault)) (sym same)
    (subst (λ (f : EventFault). Does (hello_does line s e) s texts texts (Err f)) (sym is) (hello_refused_so line s e why texts refuses))

pub count_is : (n : ℕ) (s t : HandState) (d f : Direction) → s ≡ t → d ≡ f → n ≡ length (hellos_between s.circuits d.from d.to) → n ≡ length (hellos_between t.circuits f.from f.to)
count_is n s t d f same again is = is ∙ ap₂ (λ (x : HandState) (y : Direction). length (hellos_between x.circuits y.from y.to)) same again

pub greets_so : (line : ℕ) (s now : HandState) (d : Direction) (n : ℕ) (texts texts_now : Texts) (result : Result (Unit {0}) EventFault) → n ≡ length (hellos_between s.circuits d.from d.to)
    → Does (in_turn (greet_on line) s (replicate n d)) now texts texts_now result → Does (greets_on line s d) now texts texts_now result
greets_so line s now d n texts texts_now result is does = subst (λ (m : ℕ). Does (in_turn (greet_on line) s (replicate m d)) now texts texts_now result) is does
