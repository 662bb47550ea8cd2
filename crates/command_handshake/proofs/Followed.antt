-- The interfaces in the run of a schedule with hellos follow the adjacencies.
use Rattle.std.proofs.Common.{◌≡◌, ℕ, ◌+◌, false, List, [], ◌∷◌, ◌++◌, Option, Some, None, Result, Ok, Err, refl, sym, ap, subst, ◌∙◌, append-nil, append_assoc}
use Rattle.std.specs.List.{AllByRecursion}
use Rattle.wire_base.specs.model.Configuration.{DomainConf, IsValid}
use Rattle.wire_base.specs.declared.hello_event.HelloEvent.{HelloEvent}
use Rattle.isis_hello.specs.Circuits.{CircuitsState}
use Rattle.isis_hello.specs.Changes.{up_between}
use Rattle.isis_hello.specs.History.{circuits_after}
use Rattle.isis_hello.proofs.HeldLaws.{all_held}
use Rattle.replay_text.specs.Hand.{hand_line, moves}
use Rattle.replay_text.specs.declared.event.Line.{Line}
use Rattle.replay_text.specs.declared.fault.TextFault.{TextFault}
use Rattle.replay_text.specs.declared.hand.HandLine.{HandLine}
use Rattle.replay_text.specs.declared.hand.HandLine.TheVariants.{Base, Hello}
use Rattle.domain_model.specs.declared.fault.EventFault.{EventFault}
use Rattle.domain_model.specs.Faults.{is_up_toward}
use Rattle.domain_model.specs.World.{WorldState}
use Rattle.replay_report.specs.declared.recording.Recording.TheVariants.{Pcap}
use Rattle.domain_replay.specs.Texts.{Refusal, names_of}
use Rattle.domain_handshake.specs.Following.{EndsFollow, IsFollowed, IsRunning, history}
use Rattle.domain_handshake.specs.Handshakes.{HandState, Moment, moment_of, Outcome}
use Rattle.domain_handshake.proofs.FollowLaws.{KnownBy, StandsBy, world_stands, hello_stands}
use Rattle.domain_handshake.proofs.Keeping.{IsKeeping, base_keeps}
use Rattle.domain_handshake.proofs.StartLaws.{start_allowed, start_down, start_stands}
use Rattle.command_replay.specs.Course.{course_by, lines_course}
use Rattle.command_handshake.specs.Followed.{KeepsHandshakes}
use Rattle.command_handshake.specs.Shaken.{said_does, refused_by, read_turns, hand_turns, start_turned, shaken_course, read_adds, line_adds, unless_ended, lines_add, shaken_hellos, shaken_moments}
use Rattle.command_handshake.proofs.HandCourse.{start_course, course_is, hand_woven}
use Rattle.command_handshake.proofs.SaidHands.{hand_steady}

-- what is known once a line was rejected, and before
abbrev KnownAs : {R : Type 0} → DomainConf → List HelloEvent → HandState → Option R → Type 0
KnownAs d hs s None = IsRunning d hs s
KnownAs d hs s (Some why) = s.circuits ≡ circuits_after d (history hs)

abbrev StandsAs : {R : Type 0} → DomainConf → List HelloEvent → List Moment → HandState → Option R → Type 0
StandsAs d hs ms s o = KnownAs d hs s o × AllByRecursion IsFollowed ms

circuits_as : {R : Type 0} (d : DomainConf) (hs : List HelloEvent) (s : HandState) (o : Option R) → KnownAs d hs s o → s.circuits ≡ circuits_after d (history hs)
circuits_as d hs s None is = is.circuits
circuits_as d hs s (Some why) is = is

abbrev hellos_of : Outcome → List HelloEvent
hellos_of o = o.hellos

abbrev moments_of : Outcome → List Moment
moments_of o = o.moments

module _ (d : DomainConf) (valid : IsValid d) where
  -- ---- a line

  abbrev IsSteadyHand : HandLine → Type 0
  IsSteadyHand (Base said) = moves said ≡ false
  IsSteadyHand (Hello e) = Unit {0}

  said_stands : (line : ℕ) (said : HandLine) → IsSteadyHand said → IsKeeping (StandsBy d) (λ s. said_does line s said)
  said_stands line (Base said) steady = base_keeps (StandsBy d) line (λ (l : Line). moves l ≡ false) refl (world_stands d valid line) (hello_stands d valid line) said steady
  said_stands line (Hello e) steady = hello_stands d valid line e

  reason_as : (hs : List HelloEvent) (s : HandState) (why : Option EventFault) → KnownBy d why hs s → KnownAs d hs s (refused_by why)
  reason_as hs s None is = is
  reason_as hs s (Some why) is = is

  -- with the events of the circuits, and the moments, before it
  read_stands : (line : ℕ) (hs : List HelloEvent) (ms : List Moment) (s : HandState) (read : Result HandLine TextFault) → ((said : HandLine) → read ≡ Ok said → IsSteadyHand said) → StandsAs {R = Refusal} d hs ms s None
      → StandsAs d (hs ++ read_adds hellos_of line s read) (ms ++ read_adds moments_of line s read) (read_turns line s read).next (read_turns line s read).refused
  read_stands line hs ms s (Err why) steady is = (
    subst (λ (l : List HelloEvent). s.circuits ≡ circuits_after d (history l)) (sym (append-nil hs)) is.0.circuits,
    subst (AllByRecursion IsFollowed) (sym (append-nil ms)) is.1,
  )
  read_stands line hs ms s (Ok said) steady is =
      let o = said_does line s said in
      let stands = said_stands line said (steady said refl) (record { past = record { report = []; frames = []; events = [] }; hellos = hs; moments = ms }) s is in
      (reason_as (hs ++ o.hellos) o.next o.refused stands.0, stands.1)

  hand_is_steady : (names : List (List ℕ)) (text : List ℕ) (said : HandLine) → hand_line text names ≡ Ok said → IsSteadyHand said
  hand_is_steady names text (Base said) reads = hand_steady names text said reads
  hand_is_steady names text (Hello e) reads = tt

  turn_stands : (line : ℕ) (text : List ℕ) (hs : List HelloEvent) (ms : List Moment) (s : HandState) → StandsAs {R = Refusal} d hs ms s None
      → StandsAs d (hs ++ line_adds hellos_of line text s) (ms ++ line_adds moments_of line text s) (hand_turns line text s).next (hand_turns line text s).refused
  unfolding hand_turns line_adds
  turn_stands line text hs ms s is = let names = names_of s.replay.world.domain in read_stands line hs ms s (hand_line text names) (hand_is_steady names text) is

  -- ---- lines

  lines_stand : (lines : List (List ℕ)) (n : ℕ) (hs : List HelloEvent) (ms : List Moment) (s : HandState) → StandsAs {R = ℕ × Refusal} d hs ms s None
      → StandsAs d (hs ++ lines_add hellos_of n s lines) (ms ++ lines_add moments_of n s lines) (lines_course hand_turns n s lines).state (lines_course hand_turns n s lines).refused
  unfolding lines_course lines_add
  lines_stand [] n hs ms s is = (subst (λ (l : List HelloEvent). IsRunning d l s) (sym (append-nil hs)) is.0, subst (AllByRecursion IsFollowed) (sym (append-nil ms)) is.1)
  lines_stand (text ∷ more) n hs ms s is =
      by (hand_turns (n + 1) text s).refused (turn_stands (n + 1) text hs ms s is)
      (λ gs ks next at. lines_stand more (n + 1) gs ks next at)
    where
      adds : (hs : List HelloEvent) → List HelloEvent
      adds gs = gs ++ line_adds hellos_of (n + 1) text s

      marks : List Moment
      marks = ms ++ line_adds moments_of (n + 1) text s

      by : (o : Option Refusal) → StandsAs d (adds hs) marks (hand_turns (n + 1) text s).next o
          → ((gs : List HelloEvent) (ks : List Moment) (next : HandState) → StandsAs {R = ℕ × Refusal} d gs ks next None
          → StandsAs d (gs ++ lines_add hellos_of (n + 1) next more) (ks ++ lines_add moments_of (n + 1) next more) (lines_course hand_turns (n + 1) next more).state (lines_course hand_turns (n + 1) next more).refused)
          → let t = hand_turns (n + 1) text s in
          let c = course_by (n + 1) t (λ next. lines_course hand_turns (n + 1) next more) o in
          StandsAs d (hs ++ (line_adds hellos_of (n + 1) text s ++ unless_ended o (lines_add hellos_of (n + 1) t.next more)))
          (ms ++ (line_adds moments_of (n + 1) text s ++ unless_ended o (lines_add moments_of (n + 1) t.next more))) c.state c.refused
      by None here rest =
          let t = hand_turns (n + 1) text s in
          let c = lines_course hand_turns (n + 1) t.next more in
          let stands = rest (adds hs) marks t.next here in (
            subst (λ (l : List HelloEvent). KnownAs d l c.state c.refused) (append_assoc hs (line_adds hellos_of (n + 1) text s) (lines_add hellos_of (n + 1) t.next more)) stands.0,
            subst (AllByRecursion IsFollowed) (append_assoc ms (line_adds moments_of (n + 1) text s) (lines_add moments_of (n + 1) t.next more)) stands.1,
          )
      by (Some why) here rest = (
        subst (λ (l : List HelloEvent). (hand_turns (n + 1) text s).next.circuits ≡ circuits_after d (history (hs ++ l))) (sym (append-nil (line_adds hellos_of (n + 1) text s))) here.0,
        subst (λ (l : List Moment). AllByRecursion IsFollowed (ms ++ l)) (sym (append-nil (line_adds moments_of (n + 1) text s))) here.1,
      )

  -- ---- a schedule

  module _ (lines : List (List ℕ)) where
    stand : StandsAs d (shaken_hellos d lines) (shaken_moments d lines) (shaken_course d lines).state (shaken_course d lines).refused
    stand = let started = start_stands d valid Pcap in lines_stand lines 0 [] (moment_of (start_turned d).next ∷ []) (start_turned d).next (started, (started.ends, tt))

    circuits_stand : (shaken_course d lines).state.circuits ≡ circuits_after d (history (shaken_hellos d lines))
    circuits_stand = circuits_as d (shaken_hellos d lines) (shaken_course d lines).state (shaken_course d lines).refused stand.0

    ends_stand : (o : Option (ℕ × Refusal)) → KnownAs d (shaken_hellos d lines) (shaken_course d lines).state o → o ≡ None → EndsFollow (shaken_course d lines).state.replay.world (shaken_course d lines).state.circuits
    ends_stand None is none = is.ends
    ends_stand (Some why) is none = absurd cc

    pub keeps_handshakes : KeepsHandshakes d lines
    keeps_handshakes =
        let s = (shaken_course d lines).state in
        record {
          begins = start_allowed d valid Pcap;
          down = λ a b. ap (λ (w : WorldState). is_up_toward w a b) (sym (start_course d).part.world) ∙ start_down d valid Pcap a b;
          circuits = circuits_stand;
          woven = hand_woven d lines;
          follow = stand.1;
          ends = λ none a b.
              ap (λ (w : WorldState). is_up_toward w a b) (sym (course_is d lines).part.world)
              ∙ ends_stand (shaken_course d lines).refused stand.0 none a b
              ∙ ap (λ (c : CircuitsState). up_between c a b) circuits_stand;
          held = all_held d valid (history (shaken_hellos d lines));
        }
