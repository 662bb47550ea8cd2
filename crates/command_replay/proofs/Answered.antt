-- What a replay owes from its start on is the answer to the schedule.
use Rattle.std.proofs.Common.{◌≡◌, ℕ, ◌+◌, ◌<◌, ◌≤◌, zero, suc, Bool, true, false, List, [], ◌∷◌, ◌++◌, length, map, take, Option, Some, None, Result, Ok, Err, refl, sym, ap, ap₂, subst, ◌∙◌, arith, append-nil, append_assoc, inl, inr}
use Rattle.std.proofs.lemmas.Bool.{lt-ltb, cases_lt}
use Rattle.std.proofs.lemmas.List.{length-map, length-take, take_all}
use Rattle.wire_base.specs.declared.limits.TheConstants.{LINE_LIMIT, TEXT_LIMIT}
use Rattle.wire_base.specs.declared.status.Status.{Status}
use Rattle.wire_base.specs.declared.status.Status.TheVariants.{Done, InputRefused, ReadFault}
use Rattle.wire_base.specs.model.Configuration.{DomainConf}
use Rattle.replay_text.specs.declared.event.Line.{Line}
use Rattle.replay_text.specs.declared.event.Line.TheVariants.{Settle}
use Rattle.replay_text.specs.declared.fault.TextFault.{TextFault}
use Rattle.replay_text.specs.Fault.{fault_text}
use Rattle.replay_text.specs.Pieces.{lines_in}
use Rattle.replay_text.specs.Schedule.{schedule_line}
use Rattle.domain_model.specs.declared.fault.EventFault.{EventFault}
use Rattle.domain_model.specs.World.{first_world, ids_in_flight}
use Rattle.domain_model.specs.Run.{Run, first_run, Progress, round_events, settle_events, world_after}
use Rattle.replay_report.specs.declared.recording.Recording.{Recording}
use Rattle.replay_report.specs.Captures.{capture_front}
use Rattle.domain_replay.specs.Lines.{done_text, text_refused_text, event_refused_text}
use Rattle.domain_replay.specs.Telling as telling
use Rattle.domain_replay.specs.Telling.{Telling, ReplayState, first_state, tells_all, tells_line, at_line, LineEnters}
use Rattle.domain_replay.specs.Texts.{Refusal, TooLong, Reached, refusal_text, run_done_text, reached_so, and_further, line_reaches, lines_reach, schedule_reaches, names_of}
use Rattle.domain_replay.specs.Courses.{Course, IsAt, past}
use Rattle.domain_replay.proofs.CourseLaws.{past_told, line_past, written_at, after, refused_as, at_run}
use Rattle.domain_replay.specs.Counting.{no_counts}
use Rattle.domain_replay.proofs.TellingLaws.{start_runs, start_told}
use Rattle.domain_replay.proofs.TellsLaws.{all_ended, all_joined, rounds_left}
use Rattle.command_drive.specs.Texts.{Close, Ended, Longer, Cut, close_of, is_short, lines_within}
use Rattle.command_drive.specs.Answer.{Verdict}
use Rattle.command_drive.specs.declared.items.Close.TheVariants as close
use Rattle.command_drive.specs.Reading.{Ends, Fails, Behind, Closed, Reads}
use Rattle.command_drive.specs.Reading as reading
use Rattle.command_drive.specs.Lines.{shown, lines_read}
use Rattle.command_drive.proofs.Inputs.{closes, lines_of_whole, lines_of_front, lines_past_limit}
use Rattle.command_drive.specs.Doing.{told}
use Rattle.command_replay.specs.ScheduleText.{ending, ends_so, answer_by, answer_to, schedule_answer, schedule_cut}
use Rattle.domain_replay.specs.Parts.{unsaid, state_of}
use Rattle.command_replay.specs.Owed.{Rest, rejected, unless_refused, told_then, rounds_owe, said_owes, read_owes, ends, lines_owe}
use Rattle.command_replay.proofs.SaidLines.{line_doable}

-- ---- verdicts

pub told_told : (a b f g : List ℕ) (v : Verdict) → told a f (told b g v) ≡ told (a ++ b) (f ++ g) v
told_told a b f g v =
    let report = sym (append_assoc a b v.report) in
    let frames = sym (append_assoc f g v.frames) in
    λ i. record { status = v.status; report = report i; frames = frames i }

-- what is reported is its texts, and the state behind it
apart : (t : Telling) → t ≡ past t.frames t.report (unsaid (state_of t))
apart t =
    let report = sym (append-nil t.report) in
    let frames = sym (append-nil t.frames) in
    λ i. record { world = t.world; counts = t.counts; frames = frames i; report = report i; recording = t.recording }

-- ---- the rounds of a line

then_past : (line : ℕ) (f g : List ℕ) (t : telling.Told) (rest : Rest) → told_then line (past_told f g t) rest ≡ told g f (told_then line t rest)
then_past line f g t rest = sym (told_told g t.telling.report f t.telling.frames (unless_refused line t.refused (rest (state_of t.telling))))

one_round : (line : ℕ) (t : Telling) → tells_line line t (Settle 1) ≡ tells_all line (telling.told t) (round_events t.world)
unfolding tells_line settle_events
one_round line t = ap (tells_all line (telling.told t)) (append-nil (round_events t.world))

-- a round, and the rounds behind it
rounds_then : (line rounds : ℕ) (s : ReplayState) (rest : Rest) (first : telling.Told) → tells_line line (unsaid s) (Settle 1) ≡ first
    → told_then line first (λ next. told_then line (tells_line line (unsaid next) (Settle rounds)) rest) ≡ told_then line (tells_line line (unsaid s) (Settle (suc rounds))) rest
unfolding tells_line settle_events tells_all
rounds_then line rounds s rest first is = by first.refused refl
  where
    round : tells_all line (telling.told (unsaid s)) (round_events s.world) ≡ first
    round = sym (one_round line (unsaid s)) ∙ is

    by : (o : Option EventFault) → first.refused ≡ o → told_then line first (λ next. told_then line (tells_line line (unsaid next) (Settle rounds)) rest) ≡ told_then line (tells_line line (unsaid s) (Settle (suc rounds))) rest
    by None none =
        let now = first.telling in
        let done : first ≡ telling.told now = (λ i. record { telling = now; refused = none i }) in
        ap (λ (t : telling.Told). told_then line t (λ next. told_then line (tells_line line (unsaid next) (Settle rounds)) rest)) done
        ∙ sym (then_past line now.frames now.report (tells_line line (unsaid (state_of now)) (Settle rounds)) rest)
        ∙ ap (λ (t : telling.Told). told_then line t rest) (sym (line_past line now.frames now.report (unsaid (state_of now)) (Settle rounds)) ∙ ap (λ (t : Telling). tells_line line t (Settle rounds)) (sym (apart now)) ∙ sym (rounds_left line (unsaid s) now rounds (round ∙ done)))
    by (Some why) some =
        let now = first.telling in
        let ended : first ≡ record { telling = now; refused = Some why } = (λ i. record { telling = now; refused = some i }) in
        let w = world_after s.world (round_events s.world) in
        ap (λ (t : telling.Told). told_then line t (λ next. told_then line (tells_line line (unsaid next) (Settle rounds)) rest)) ended
        ∙ ap (λ (t : telling.Told). told_then line t rest)
        (sym (all_joined line (telling.told (unsaid s)) (round_events s.world) (settle_events w rounds) ∙ ap (λ (t : telling.Told). tells_all line t (settle_events w rounds)) (round ∙ ended) ∙ all_ended line now why (settle_events w rounds)))

rounds_told : (line rounds : ℕ) (s : ReplayState) (rest : Rest) → rounds_owe line rounds s rest ≡ told_then line (tells_line line (unsaid s) (Settle rounds)) rest
unfolding tells_line settle_events tells_all
rounds_told line zero s rest = refl
rounds_told line (suc rounds) s rest =
    let first = tells_line line (unsaid s) (Settle 1) in
    ap (λ (v : Verdict). told first.telling.report first.telling.frames (unless_refused line first.refused v)) (rounds_told line rounds (state_of first.telling) rest)
    ∙ rounds_then line rounds s rest first refl

pub said_told : (line : ℕ) (said : Line) (s : ReplayState) (rest : Rest) → said_owes line said s rest ≡ told_then line (tells_line line (unsaid s) said) rest
said_told line (Settle rounds) s rest = rounds_told line rounds s rest
said_told line other s rest = refl

-- ---- the end

-- what is behind the lines, in the words of the driver
abbrev pub behind_of : Close → Behind
behind_of Ended = Closed close.Ended
behind_of Longer = Closed close.TooLong
behind_of Cut = reading.Cut

-- with that end of the report
ends_there : (course : Course) (t : Telling) (status : Status) (text : List ℕ) → IsAt course t
    → told (course.report ++ t.report) (course.frames ++ t.frames) (record { status = status; report = text; frames = [] }) ≡ ends_so course.recording course.domain course.run (status, text)
ends_there course t status text at =
    let report = ap (λ (u : Telling). u.report ++ text) (sym at.telling) in
    let frames = append-nil (course.frames ++ t.frames) ∙ ap (λ (u : Telling). u.frames) (sym at.telling) in
    λ i. record { status = status; report = report i; frames = frames i }

unsaid_there : (course : Course) (s : ReplayState) (status : Status) (text : List ℕ) → IsAt course (unsaid s)
    → told course.report course.frames (record { status = status; report = text; frames = [] }) ≡ ends_so course.recording course.domain course.run (status, text)
unsaid_there course s status text at =
    ap₂ (λ (r f : List ℕ). told r f (record { status = status; report = text; frames = [] })) (sym (append-nil course.report)) (sym (append-nil course.frames)) ∙ ends_there course (unsaid s) status text at

ends_met : (behind : Close) (n : ℕ) (course : Course) (s : ReplayState) → IsAt course (unsaid s) → told course.report course.frames (ends n (behind_of behind) s) ≡ ends_so course.recording course.domain course.run (ending behind n course.run None)
ends_met Ended n course s at =
    ap (λ (text : List ℕ). told course.report course.frames (record { status = Done; report = text; frames = [] })) (ap (λ (t : Telling). done_text n t.counts (ids_in_flight t.world.flights)) (sym at.telling))
    ∙ unsaid_there course s Done (run_done_text course.run n) at
ends_met Longer n course s at = unsaid_there course s InputRefused (refusal_text (n + 1) TooLong) at
ends_met Cut n course s at = unsaid_there course s ReadFault [] at

-- ---- the lines

abbrev names_at : Course → List (List ℕ)
names_at course = names_of course.domain

-- what lines owe at any course
abbrev AreMet : (behind : Close) (lines : List (List ℕ)) → Type 0
AreMet behind lines =
    (n : ℕ) (course : Course) (s : ReplayState) → IsAt course (unsaid s)
    → told course.report course.frames (lines_owe (names_at course) n lines (behind_of behind) s) ≡ answer_by course.recording behind course.domain (n + length lines) (lines_reach (names_at course) (n + 1) course.run lines)

module _ (behind : Close) (more : List (List ℕ)) (each : AreMet behind more) (n : ℕ) (course : Course) (s : ReplayState) (at : IsAt course (unsaid s)) where
  -- what the lines behind one reach and owe
  abbrev reach : Run → Reached
  reach next = lines_reach (names_at course) (n + 1 + 1) next more

  abbrev owe : Rest
  owe = lines_owe (names_at course) (n + 1) more (behind_of behind)

  abbrev answer : Reached → Verdict
  answer reached = answer_by course.recording behind course.domain (n + suc (length more)) (and_further reached reach)

  said_met : (said : Line) → LineEnters (length course.domain.routers) said → (t : telling.Told) → tells_line (n + 1) (unsaid s) said ≡ t
      → told course.report course.frames (told_then (n + 1) t owe) ≡ answer (line_reaches (n + 1) course.run (Ok said))
  said_met said enters t tells = by t.refused refl
    where
      q : Progress
      q = after course (n + 1) said

      on : IsAt (record course { run = q.run }) t.telling
      on = at_run course (n + 1) said (unsaid s) t.telling t.refused at enters tells

      by : (o : Option EventFault) → t.refused ≡ o → told course.report course.frames (told_then (n + 1) t owe) ≡ answer (line_reaches (n + 1) course.run (Ok said))
      by None none =
          let reached = refused_as course (n + 1) said (unsaid s) t.telling t.refused at enters tells ∙ ap (at_line (n + 1)) none in
          let next : Course = record { recording = course.recording; domain = course.domain; run = q.run; frames = course.frames ++ t.telling.frames; report = course.report ++ t.telling.report } in
          let later : IsAt next (unsaid (state_of t.telling)) = written_at (record course { run = q.run }) t.telling (unsaid (state_of t.telling)) t.telling.frames t.telling.report on (apart t.telling) in
          let count : n + 1 + length more ≡ n + suc (length more) = omega arith in
          ap (λ (o : Option EventFault). told course.report course.frames (told t.telling.report t.telling.frames (unless_refused (n + 1) o (owe (state_of t.telling))))) none
          ∙ told_told course.report t.telling.report course.frames t.telling.frames (owe (state_of t.telling))
          ∙ each (n + 1) next (state_of t.telling) later
          ∙ ap (λ (m : ℕ). answer_by course.recording behind course.domain m (reach q.run)) count
          ∙ sym (ap (λ (o : Option (ℕ × EventFault)). answer (reached_so q.run o)) reached)
      by (Some why) some =
          let reached = refused_as course (n + 1) said (unsaid s) t.telling t.refused at enters tells ∙ ap (at_line (n + 1)) some in
          ap (λ (o : Option EventFault). told course.report course.frames (told t.telling.report t.telling.frames (unless_refused (n + 1) o (owe (state_of t.telling))))) some
          ∙ told_told course.report t.telling.report course.frames t.telling.frames (rejected (event_refused_text (n + 1) why))
          ∙ ends_there (record course { run = q.run }) t.telling InputRefused (event_refused_text (n + 1) why) on
          ∙ sym (ap (λ (o : Option (ℕ × EventFault)). answer (reached_so q.run o)) reached)

  read_met : (read : Result Line TextFault) → ((said : Line) → read ≡ Ok said → LineEnters (length course.domain.routers) said)
      → told course.report course.frames (read_owes (n + 1) read s owe) ≡ answer (line_reaches (n + 1) course.run read)
  read_met (Err why) enters = unsaid_there course s InputRefused (text_refused_text (n + 1) (fault_text why)) at
  read_met (Ok said) enters = ap (told course.report course.frames) (said_told (n + 1) said s owe) ∙ said_met said (enters said refl) (tells_line (n + 1) (unsaid s) said) refl

pub lines_met : (behind : Close) (lines : List (List ℕ)) → AreMet behind lines
unfolding lines_reach
lines_met behind [] n course s at =
    let count : n ≡ n + 0 = omega arith in
    ends_met behind n course s at ∙ ap (λ (m : ℕ). ends_so course.recording course.domain course.run (ending behind m course.run None)) count
lines_met behind (text ∷ more) n course s at =
    read_met behind more (lines_met behind more) n course s at (schedule_line text (names_at course))
    (λ said reads. subst (λ (k : ℕ). LineEnters k said) (length-map course.domain.routers _) (line_doable (names_at course) text said reads).0)

-- ---- a schedule

shown_line : (names : List (List ℕ)) (text : List ℕ) → schedule_line (shown text) names ≡ schedule_line text names
unfolding schedule_line shown
shown_line names text = elim (cases_lt LINE_LIMIT (length text)) [
  | inl long ↦
      let front : LINE_LIMIT < length (take (LINE_LIMIT + 1) text) = omega (arith, long, length-take (LINE_LIMIT + 1) text) in
      rw (lt-ltb LINE_LIMIT (length (take (LINE_LIMIT + 1) text)) front, lt-ltb LINE_LIMIT (length text) long) refl
  | inr fits ↦
      let within : length text ≤ LINE_LIMIT + 1 = omega (arith, fits) in
      ap (λ (t : List ℕ). schedule_line t names) (take_all (LINE_LIMIT + 1) text within)
]

-- a line that is too long owes what its front owes
shown_owe : (names : List (List ℕ)) (lines : List (List ℕ)) (n : ℕ) (behind : Behind) → lines_owe names n (map shown lines) behind ≡ lines_owe names n lines behind
shown_owe names [] n behind = refl
shown_owe names (text ∷ more) n behind =
    let reads = shown_line names text in
    let rest = shown_owe names more (n + 1) behind in
    λ i s. read_owes (n + 1) (reads i) s (rest i)

-- with the front of the capture before it
module _ (b : Recording) (d : DomainConf) (s : ReplayState) (names : List (List ℕ)) (line rounds : ℕ) (report frames : List ℕ)
    (starts : s ≡ first_state b d) (named : names ≡ names_of d) (first : line ≡ 0) (none : rounds ≡ 0) (no_report : report ≡ []) (header : frames ≡ capture_front b d.routers) where
  -- what is owed on what a reader gives
  abbrev owed_on : Reads (List ℕ) → Verdict
  owed_on read = told report frames (rounds_owe line rounds s (lines_owe names line read.items read.behind))

  start : Course
  start = record { recording = b; domain = d; run = first_run d; frames = capture_front b d.routers; report = [] }

  at_start : IsAt start (unsaid (first_state b d))
  unfolding start
  at_start =
      let padded = sym (append-nil (capture_front b d.routers)) in
      record {
        run = start_runs d;
        telling = sym (start_told b d) ∙ (λ i. record { world = first_world d; counts = no_counts; frames = padded i; report = []; recording = b });
      }

  met_by : (behind : Close) (lines : List (List ℕ)) → owed_on (record { items = map shown lines; behind = behind_of behind }) ≡ answer_to b behind d lines
  unfolding start schedule_reaches
  met_by behind lines =
      let count : 0 + length lines ≡ length lines = omega arith in
      (λ i. told (no_report i) (header i) (rounds_owe (first i) (none i) (starts i) (lines_owe (named i) (first i) (map shown lines) (behind_of behind))))
      ∙ ap (λ (owe : Rest). told [] (capture_front b d.routers) (owe (first_state b d))) (shown_owe (names_of d) lines 0 (behind_of behind))
      ∙ lines_met behind lines 0 start (first_state b d) at_start
      ∙ ap (λ (m : ℕ). answer_by b behind d m (lines_reach (names_of d) 1 (first_run d) lines)) count

  pub answer_met : (read : Reads (List ℕ)) (octets : List ℕ) → read ≡ lines_read [] TEXT_LIMIT false Ends octets → owed_on read ≡ schedule_answer b d octets
  unfolding schedule_answer
  answer_met read octets is = ap owed_on (is ∙ lines_of_whole octets) ∙ by (is_short octets)
    where
      by : (short : Bool) → owed_on (record { items = map shown (lines_within octets); behind = Closed (closes short) }) ≡ answer_to b (close_of short) d (lines_within octets)
      by true = met_by Ended (lines_within octets)
      by false = met_by Longer (lines_within octets)

  pub cut_met : (read : Reads (List ℕ)) (octets : List ℕ) → read ≡ lines_read [] TEXT_LIMIT false Fails octets → (owed_on read).status ≡ ReadFault → owed_on read ≡ schedule_cut b d octets
  unfolding schedule_cut
  cut_met read octets is failed = elim (cases_lt TEXT_LIMIT (length octets)) [
    | inl over ↦
        let front = take TEXT_LIMIT octets in
        absurd (rejects (schedule_reaches d (lines_in false front)) (sym (ap (λ (v : Verdict). v.status) (ap owed_on (is ∙ lines_past_limit octets over) ∙ met_by Longer (lines_in false front))) ∙ failed))
    | inr fits ↦ ap owed_on (is ∙ lines_of_front octets fits) ∙ met_by Cut (lines_in false octets)
  ]
    where
      rejects : (reached : Reached) → (answer_by b Longer d (length (lines_in false (take TEXT_LIMIT octets))) reached).status ≡ ReadFault → ⊥
      rejects reached = by reached.refused
        where
          by : (o : Option (ℕ × Refusal)) → (ending Longer (length (lines_in false (take TEXT_LIMIT octets))) reached.run o).0 ≡ ReadFault → ⊥
          by None e = cc
          by (Some why) e = cc
