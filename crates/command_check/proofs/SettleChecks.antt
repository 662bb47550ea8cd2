-- A line `settle` of a schedule that is checked, with enough rounds, makes a domain quiet.
use Rattle.std.proofs.Common.{◌≡◌, ℕ, ◌+◌, List, [], ◌∷◌, ◌++◌, length, Option, Some, None, option_map, Result, Ok, refl, sym, ap, subst, ◌∙◌, append-nil}
use Rattle.wire_base.specs.model.Configuration.{DomainConf, IsValid}
use Rattle.replay_text.specs.Check.{check_line}
use Rattle.replay_text.specs.declared.check.CheckLine.{CheckLine}
use Rattle.replay_text.specs.declared.check.CheckLine.TheVariants as check
use Rattle.replay_text.specs.declared.event.Event.{Event}
use Rattle.replay_text.specs.declared.event.Line.TheVariants.{Settle}
use Rattle.replay_text.specs.declared.fault.TextFault.{TextFault}
use Rattle.domain_model.specs.declared.fault.EventFault.{EventFault}
use Rattle.domain_model.specs.World.{WorldState, first_world}
use Rattle.domain_model.specs.Run.{run_of, on_line, settle_events}
use Rattle.laws_ledger.specs.Runs.{unlined}
use Rattle.laws_settle.specs.Gentle.{AreGentle}
use Rattle.laws_settle.specs.Idle.{IsIdle}
use Rattle.domain_replay.specs.Captures.{capture_front}
use Rattle.domain_replay.specs.Parts.{Past, past_and, unsaid, allowed_first}
use Rattle.domain_replay.specs.Telling.{ReplayState, first_state, tells_line, tells_all}
use Rattle.domain_replay.specs.Texts.{Refusal, BadEvent, names_of}
use Rattle.domain_replay.proofs.PartLaws.{all_tellable}
use Rattle.laws_replay.specs.Settling.{HasMore, IsSettling, HasSettled}
use Rattle.laws_replay.proofs.MomentLaws.{events_of}
use Rattle.laws_replay.proofs.SettleLines.{rounds_end, rounds_rest}
use Rattle.replay_report.specs.declared.recording.Recording.TheVariants.{Pcap}
use Rattle.command_replay.specs.Course.{Turned, Course, course_part, course_by, lines_course, opens_with, reach_of}
use Rattle.command_replay.proofs.Coursed.{course_joined}
use Rattle.command_check.specs.Checked.{base_turn, read_turn, check_turns, check_course, checked}
use Rattle.command_check.proofs.CheckCourse.{course_is, names_from}

-- ---- a line alone

one_events : (n : ℕ) (t : Turned ReplayState) (o : Option Refusal) → (course_by n t (λ (next : ReplayState). lines_course check_turns n next []) o).events ≡ t.events
unfolding lines_course
one_events n t None = append-nil t.events
one_events n t (Some why) = refl

one_refused : (n : ℕ) (t : Turned ReplayState) (o : Option Refusal) → (course_by n t (λ (next : ReplayState). lines_course check_turns n next []) o).refused ≡ None → o ≡ None
unfolding lines_course
one_refused n t None none = refl
one_refused n t (Some why) none = absurd (some_none none)
  where
    some_none : ◌≡◌ {A = Option (ℕ × Refusal)} (Some (n, why)) None → ⊥
    some_none e = cc

none_mapped : (o : Option EventFault) → option_map BadEvent o ≡ None → o ≡ None
none_mapped None none = refl
none_mapped (Some why) none = absurd (some_none none)
  where
    some_none : ◌≡◌ {A = Option Refusal} (Some (BadEvent why)) None → ⊥
    some_none e = cc

-- ---- a schedule

module _ (d : DomainConf) (valid : IsValid d) (before : List (List ℕ)) (text : List ℕ) (rounds : ℕ) (reads : check_line text (names_of d) ≡ Ok (check.Base (Settle rounds)))
    (settling : IsSettling d (reach_of (checked d)) before text rounds) where
  abbrev c : Course ReplayState
  c = check_course d before

  abbrev s : ReplayState
  s = c.state

  abbrev past : Past
  past = past_and (opens_with (capture_front Pcap d.routers)) (course_part c)

  abbrev line : ℕ
  line = 0 + length before + 1

  abbrev w : WorldState
  w = (run_of d c.events).world

  turn : check_turns line text s ≡ base_turn line (Settle rounds) s
  turn = ap (λ (r : Result CheckLine TextFault). read_turn line r s) (ap (check_line text) (names_from d past s (course_is d before)) ∙ reads)

  abbrev last : Course ReplayState
  last = lines_course check_turns (0 + length before) s (text ∷ [])

  joined_is : lines_course check_turns 0 (first_state Pcap d) (before ++ text ∷ [])
      ≡ record { report = c.report ++ last.report; frames = c.frames ++ last.frames; events = c.events ++ last.events; refused = last.refused; state = last.state }
  joined_is = course_joined check_turns before (text ∷ []) 0 (first_state Pcap d) settling.runs

  refused_none : (check_turns line text s).refused ≡ None
  unfolding lines_course
  refused_none =
      one_refused line (check_turns line text s) (check_turns line text s).refused (ap (λ (x : Course ReplayState). x.refused) (sym joined_is) ∙ settling.done)

  told_none : (tells_line line (unsaid s) (Settle rounds)).refused ≡ None
  told_none = none_mapped (tells_line line (unsaid s) (Settle rounds)).refused (ap (λ (t : Turned ReplayState). t.refused) (sym turn) ∙ refused_none)

  all : allowed_first s.world (settle_events s.world rounds) ≡ settle_events s.world rounds
  unfolding tells_line tells_all
  all = all_tellable line (settle_events s.world rounds) (unsaid s) told_none

  world_is : s.world ≡ w
  world_is = (course_is d before).part.world

  events_are : (check_course d (before ++ text ∷ [])).events ≡ c.events ++ on_line line (allowed_first w (settle_events w rounds))
  unfolding lines_course
  events_are =
      ap (λ (x : Course ReplayState). x.events) joined_is
      ∙ ap (λ (l : List (ℕ × Event)). c.events ++ l)
      (one_events line (check_turns line text s) (check_turns line text s).refused ∙ ap (λ (t : Turned ReplayState). t.events) turn
      ∙ ap (λ (v : WorldState). on_line line (allowed_first v (settle_events v rounds))) world_is)

  gentle_there : AreGentle (first_world d) (unlined c.events)
  gentle_there = subst (λ (es : List (ℕ × Event)). AreGentle (first_world d) (unlined es)) (events_of d c.events) settling.gentle

  all_there : allowed_first w (settle_events w rounds) ≡ settle_events w rounds
  all_there = subst (λ (v : WorldState). allowed_first v (settle_events v rounds) ≡ settle_events v rounds) world_is all

  pub check_settles : HasSettled (checked d (before ++ text ∷ [])).run.world
  check_settles =
      subst (λ (es : List (ℕ × Event)). HasSettled (run_of d es).world) (sym events_are)
      (rounds_end d valid c.events ((course_is d before).allowed valid) gentle_there settling.whole line rounds all_there settling.enough)

  pub check_idles : HasMore d w rounds → IsIdle (checked d (before ++ text ∷ [])).run.world
  check_idles more =
      subst (λ (es : List (ℕ × Event)). IsIdle (run_of d es).world) (sym events_are)
      (rounds_rest d valid c.events ((course_is d before).allowed valid) gentle_there settling.whole line rounds all_there more)
