-- What lines owe, for any way to execute a line, is what they come to.
use Rattle.std.proofs.Common.{◌≡◌, ℕ, ◌+◌, suc, Bool, true, false, List, [], ◌∷◌, ◌++◌, length, map, take, Option, Some, None, refl, sym, ap, subst, ◌∙◌, arith, append-nil, append_assoc, inl, inr}
use Rattle.std.proofs.lemmas.Bool.{cases_lt}
use Rattle.wire_base.specs.declared.limits.TheConstants.{TEXT_LIMIT}
use Rattle.wire_base.specs.declared.outside.Source as source
use Rattle.wire_base.specs.declared.outside.Sink as sink
use Rattle.wire_base.specs.declared.status.Status.{Status}
use Rattle.wire_base.specs.declared.status.Status.TheVariants.{Done, InputRefused, ReadFault}
use Rattle.wire_base.specs.model.Configuration.{DomainConf}
use Rattle.replay_text.specs.Pieces.{lines_in}
use Rattle.replay_text.specs.declared.event.Event.{Event}
use Rattle.domain_model.specs.World.{ids_in_flight}
use Rattle.domain_model.specs.Run.{run_of}
use Rattle.domain_replay.specs.Lines.{done_text}
use Rattle.domain_replay.specs.Parts.{Past, past_and}
use Rattle.domain_replay.specs.Telling.{ReplayState}
use Rattle.domain_replay.specs.Texts.{Refusal, TooLong, refusal_text}
use Rattle.command_drive.specs.Answer.{Verdict}
use Rattle.command_drive.specs.Doing.{told}
use Rattle.command_drive.specs.Driving.{Meaning, Drives}
use Rattle.command_drive.specs.Reading.{End, Ends, Fails, Behind, Closed}
use Rattle.command_drive.specs.Lines.{shown}
use Rattle.command_drive.specs.Texts.{Close, Ended, Longer, Cut, close_of, is_short, lines_within}
use Rattle.command_drive.proofs.Inputs.{closes, lines_of_whole, lines_of_front, lines_past_limit}
use Rattle.command_drive.proofs.Meanings.{drives_as}
use Rattle.command_replay.specs.ScheduleText.{ending}
use Rattle.command_replay.specs.Course.{Turned, Turns, turn_part, Course, course_part, no_lines, line_before, course_by, lines_course, unless_rejected, turn_owes, turns_owe, Played, played, answer_for, answer_of, plays_mean, ShowsFronts, IsCounted, AreCounted, owed_on, lines_mean, Agree}
use Rattle.command_replay.proofs.Answered.{behind_of}

-- ---- the end of a report, by the last state

abbrev closing : Close → (lines : ℕ) → ReplayState → Option (ℕ × Refusal) → Status × List ℕ
closing close lines s (Some refused) = (InputRefused, refusal_text refused.0 refused.1)
closing Ended lines s None = (Done, done_text lines s.counts (ids_in_flight s.world.flights))
closing Longer lines s None = (InputRefused, refusal_text (lines + 1) TooLong)
closing Cut lines s None = (ReadFault, [])

-- texts with that end
abbrev ended_so : (report frames : List ℕ) → Status × List ℕ → Verdict
ended_so report frames end = record { status = end.0; report = report ++ end.1; frames = frames }

told_ended : (a f report frames : List ℕ) (end : Status × List ℕ) → told a f (ended_so report frames end) ≡ ended_so (a ++ report) (f ++ frames) end
told_ended a f report frames end = let reports = sym (append_assoc a report end.1) in λ i. record { status = end.0; report = reports i; frames = f ++ frames }

pub past_none : (p : Past) → past_and p (record { report = []; frames = []; events = [] }) ≡ p
past_none p = let report = append-nil p.report in let frames = append-nil p.frames in let events = append-nil p.events in λ i. record { report = report i; frames = frames i; events = events i }

past_then : (p q r : Past) → past_and (past_and p q) r ≡ past_and p (past_and q r)
past_then p q r =
    let report = append_assoc p.report q.report r.report in
    let frames = append_assoc p.frames q.frames r.frames in
    let events = append_assoc p.events q.events r.events in
    λ i. record { report = report i; frames = frames i; events = events i }

-- What each line keeps, of what happened so far and the state after it, lines keep.
module _ {S : Type 0} (turns : Turns S) (P : Past → S → Type 0) (keeps : (n : ℕ) (text : List ℕ) (past : Past) (s : S) → P past s → P (past_and past (turn_part (turns n text s))) (turns n text s).next) where
  pub course_keeps : (lines : List (List ℕ)) (n : ℕ) (past : Past) (s : S) → P past s → P (past_and past (course_part (lines_course turns n s lines))) (lines_course turns n s lines).state
  unfolding lines_course
  course_keeps [] n past s is = subst (λ (p : Past). P p s) (sym (past_none past)) is
  course_keeps (text ∷ more) n past s is = by (turns (n + 1) text s).refused (keeps (n + 1) text past s is) (λ now next h. course_keeps more (n + 1) now next h)
    where
      by : (o : Option Refusal) → P (past_and past (turn_part (turns (n + 1) text s))) (turns (n + 1) text s).next
          → ((now : Past) (next : S) → P now next → P (past_and now (course_part (lines_course turns (n + 1) next more))) (lines_course turns (n + 1) next more).state)
          → let c = course_by (n + 1) (turns (n + 1) text s) (λ next. lines_course turns (n + 1) next more) o in P (past_and past (course_part c)) c.state
      by None here rest =
          let t = turns (n + 1) text s in
          let c = lines_course turns (n + 1) t.next more in
          subst (λ (p : Past). P p c.state) (past_then past (turn_part t) (course_part c)) (rest (past_and past (turn_part t)) t.next here)
      by (Some why) here rest = here

-- lines, none of which is rejected, and then others
abbrev course_then : {S : Type 0} → Course S → Course S → Course S
course_then c e = record { report = c.report ++ e.report; frames = c.frames ++ e.frames; events = c.events ++ e.events; refused = e.refused; state = e.state }

pub course_joined : {S : Type 0} (turns : Turns S) (xs ys : List (List ℕ)) (n : ℕ) (s : S) → (lines_course turns n s xs).refused ≡ None
    → lines_course turns n s (xs ++ ys) ≡ course_then (lines_course turns n s xs) (lines_course turns (n + length xs) (lines_course turns n s xs).state ys)
unfolding lines_course
course_joined turns [] ys n s runs = let count : n ≡ n + 0 = omega arith in ap (λ (m : ℕ). course_then (no_lines s) (lines_course turns m s ys)) count
course_joined {S} turns (text ∷ more) ys n s runs = by (turns (n + 1) text s).refused runs (λ next h. course_joined turns more ys (n + 1) next h)
  where
    t : Turned S
    t = turns (n + 1) text s

    by : (o : Option Refusal) → (course_by (n + 1) t (λ next. lines_course turns (n + 1) next more) o).refused ≡ None
        → ((next : S) → (lines_course turns (n + 1) next more).refused ≡ None
        → lines_course turns (n + 1) next (more ++ ys) ≡ course_then (lines_course turns (n + 1) next more) (lines_course turns (n + 1 + length more) (lines_course turns (n + 1) next more).state ys))
        → course_by (n + 1) t (λ next. lines_course turns (n + 1) next (more ++ ys)) o
        ≡ course_then (course_by (n + 1) t (λ next. lines_course turns (n + 1) next more) o) (lines_course turns (n + suc (length more)) (course_by (n + 1) t (λ next. lines_course turns (n + 1) next more) o).state ys)
    by None none rest =
        let c = lines_course turns (n + 1) t.next more in
        let count : n + 1 + length more ≡ n + suc (length more) = omega arith in
        let e = lines_course turns (n + suc (length more)) c.state ys in
        let reports = sym (append_assoc t.report c.report e.report) in
        let frames = sym (append_assoc t.frames c.frames e.frames) in
        let events = sym (append_assoc t.events c.events e.events) in
        ap (line_before t) (rest t.next none ∙ ap (λ (m : ℕ). course_then c (lines_course turns m c.state ys)) count)
        ∙ (λ i. record { report = reports i; frames = frames i; events = events i; refused = e.refused; state = e.state })
    by (Some why) none rest = absurd (some_none none)
      where
        some_none : ◌≡◌ {A = Option (ℕ × Refusal)} (Some (n + 1, why)) None → ⊥
        some_none e = cc

module _ {S : Type 0} (view : S → ReplayState) (turns : Turns S) where
  abbrev courses : Close → (lines : ℕ) → Course S → Verdict
  courses close lines c = ended_so c.report c.frames (closing close lines (view c.state) c.refused)

  -- ---- the lines

  AreMet : Close → List (List ℕ) → Type 0
  AreMet close lines = (n : ℕ) (s : S) → turns_owe view turns n lines (behind_of close) s ≡ courses close (n + length lines) (lines_course turns n s lines)

  none_met : (close : Close) → AreMet close []
  unfolding AreMet lines_course
  none_met Ended n s = let count : n ≡ n + 0 = omega arith in ap (λ (m : ℕ). ended_so [] [] (Done, done_text m (view s).counts (ids_in_flight (view s).world.flights))) count
  none_met Longer n s = let count : n ≡ n + 0 = omega arith in ap (λ (m : ℕ). ended_so [] [] (InputRefused, refusal_text (m + 1) TooLong)) count
  none_met Cut n s = refl

  turn_met : (close : Close) (line count : ℕ) (t : Turned S) (owes : S → Verdict) (rest : S → Course S) → ((next : S) → owes next ≡ courses close count (rest next)) → (o : Option Refusal)
      → told t.report t.frames (unless_rejected line o (owes t.next)) ≡ courses close count (course_by line t rest o)
  turn_met close line count t owes rest each None =
      let c = rest t.next in
      ap (told t.report t.frames) (each t.next) ∙ told_ended t.report t.frames c.report c.frames (closing close count (view c.state) c.refused)
  turn_met close line count t owes rest each (Some why) = let frames = append-nil t.frames in λ i. record { status = InputRefused; report = t.report ++ refusal_text line why; frames = frames i }

  owes_met : (close : Close) (lines : List (List ℕ)) → AreMet close lines
  unfolding AreMet lines_course
  owes_met close [] n s = none_met close n s
  owes_met close (text ∷ more) n s =
      let t = turns (n + 1) text s in
      let count : n + 1 + length more ≡ n + suc (length more) = omega arith in
      turn_met close (n + 1) (n + suc (length more)) t (turns_owe view turns (n + 1) more (behind_of close)) (λ (next : S). lines_course turns (n + 1) next more)
      (λ next. owes_met close more (n + 1) next ∙ ap (λ (m : ℕ). courses close m (lines_course turns (n + 1) next more)) count)
      t.refused

  -- ---- lines that are too long

  shown_owe : ShowsFronts turns → (lines : List (List ℕ)) (n : ℕ) (behind : Behind) (s : S) → turns_owe view turns n (map shown lines) behind s ≡ turns_owe view turns n lines behind s
  shown_owe shows [] n behind s = refl
  shown_owe shows (text ∷ more) n behind s =
      ap (λ (t : Turned S). turn_owes (n + 1) t (turns_owe view turns (n + 1) (map shown more) behind)) (shows (n + 1) text s)
      ∙ (let t = turns (n + 1) text s in ap (λ (v : Verdict). told t.report t.frames (unless_rejected (n + 1) t.refused v)) (shown_owe shows more (n + 1) behind t.next))

  -- ---- a schedule

  module _ (d : DomainConf) (opening : Past) (start : S) (shows : ShowsFronts turns) (counted : AreCounted view turns d opening.events start) where
    abbrev plays : List (List ℕ) → Played
    plays lines = played d opening (lines_course turns 0 start lines)

    ends_as : (close : Close) (lines : ℕ) (events : List (ℕ × Event)) (s : ReplayState) → IsCounted d events s → (o : Option (ℕ × Refusal)) → closing close lines s o ≡ ending close lines (run_of d events) o
    ends_as close lines events s is (Some refused) = refl
    ends_as Ended lines events s is None = λ i. (Done, done_text lines (is.counts i) (is.flight i))
    ends_as Longer lines events s is None = refl
    ends_as Cut lines events s is None = refl

    met_by : (close : Close) (lines : List (List ℕ)) → owed_on view turns opening start (record { items = map shown lines; behind = behind_of close }) ≡ answer_of plays close lines
    unfolding AreMet
    met_by close lines =
        let c = lines_course turns 0 start lines in
        let count : 0 + length lines ≡ length lines = omega arith in
        ap (told opening.report opening.frames)
        (shown_owe shows lines 0 (behind_of close) start ∙ owes_met close lines 0 start ∙ ap (λ (m : ℕ). courses close m c) count
        ∙ ap (λ (end : Status × List ℕ). ended_so c.report c.frames end) (ends_as close (length lines) (opening.events ++ c.events) (view c.state) (counted lines) c.refused))
        ∙ told_ended opening.report opening.frames c.report c.frames (ending close (length lines) (plays lines).run c.refused)

    whole_met : (octets : List ℕ) → lines_mean view turns opening start Ends octets ≡ plays_mean plays Ends octets
    whole_met octets = ap (owed_on view turns opening start) (lines_of_whole octets) ∙ by (is_short octets)
      where
        by : (short : Bool) → owed_on view turns opening start (record { items = map shown (lines_within octets); behind = Closed (closes short) }) ≡ answer_of plays (close_of short) (lines_within octets)
        by true = met_by Ended (lines_within octets)
        by false = met_by Longer (lines_within octets)

    cut_met : (octets : List ℕ) → (lines_mean view turns opening start Fails octets).status ≡ ReadFault → lines_mean view turns opening start Fails octets ≡ plays_mean plays Fails octets
    cut_met octets failed = elim (cases_lt TEXT_LIMIT (length octets)) [
      | inl over ↦
          let part = lines_in false (take TEXT_LIMIT octets) in
          absurd (rejects (length part) (plays part) (sym (ap (λ (v : Verdict). v.status) (ap (owed_on view turns opening start) (lines_past_limit octets over) ∙ met_by Longer part)) ∙ failed))
      | inr fits ↦ ap (owed_on view turns opening start) (lines_of_front octets fits) ∙ met_by Cut (lines_in false octets)
    ]
      where
        rejects : (lines : ℕ) (p : Played) → (answer_for Longer lines p).status ≡ ReadFault → ⊥
        rejects lines p = by p.refused
          where
            by : (o : Option (ℕ × Refusal)) → (ending Longer lines p.run o).0 ≡ ReadFault → ⊥
            by None e = cc
            by (Some why) e = cc

    pub lines_agree : Agree (lines_mean view turns opening start) (plays_mean plays)
    lines_agree = record { whole = whole_met; cut = cut_met }

    -- a run whose verdict is on what the lines owe
    pub drives_lines : {I C R : Type 0} (i : source.Ghosts I) (c : sink.Ghosts C) (r : sink.Ghosts R) (refusal : Status) (means : Meaning) (ended : Status) (i0 i1 : I) (f0 f1 : C) (r0 r1 : R)
        → ((end : End) (octets : List ℕ) → means end octets ≡ lines_mean view turns opening start end octets) → Drives i c r refusal means ended i0 i1 f0 f1 r0 r1 → Drives i c r refusal (plays_mean plays) ended i0 i1 f0 f1 r0 r1
    drives_lines i c r refusal means ended i0 i1 f0 f1 r0 r1 same drives =
        drives_as i c r refusal means (plays_mean plays) ended i0 i1 f0 f1 r0 r1
        (λ octets. same Ends octets ∙ whole_met octets)
        (λ octets failed. same Fails octets ∙ cut_met octets (sym (ap (λ (v : Verdict). v.status) (same Fails octets)) ∙ failed))
        drives
