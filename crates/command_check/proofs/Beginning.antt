-- What the calls of a check do, in the words of the driver.
use Rattle.std.proofs.Common.{◌≡◌, ◌≢◌, ℕ, ◌+◌, List, [], ◌∷◌, ◌++◌, Option, Some, None, Result, Ok, Err, refl, sym, ap, subst, ◌∙◌, append-nil}
use Rattle.std.specs.Prelude.{option_map}
use Rattle.run_texts.specs.declared.texts.Texts.{Texts}
use Rattle.wire_base.specs.declared.faults.EdgeFault.{EdgeFault}
use Rattle.wire_base.specs.declared.faults.EdgeFault.TheVariants as edge
use Rattle.wire_base.specs.declared.status.Status.TheVariants.{InputRefused}
use Rattle.replay_text.specs.Check.{check_line}
use Rattle.replay_text.specs.declared.check.CheckLine.{CheckLine}
use Rattle.replay_text.specs.declared.event.Line.{Line}
use Rattle.replay_text.specs.declared.fault.TextFault.{TextFault}
use Rattle.replay_text.specs.declared.fault.TextFault.TheVariants as fault
use Rattle.replay_text.specs.Reading.{Fails}
use Rattle.domain_model.specs.declared.fault.EventFault.{EventFault}
use Rattle.domain_model.specs.declared.fault.EventFault.TheVariants.{Edge}
use Rattle.domain_core.specs.Cover.{Rejects}
use Rattle.domain_replay.specs.Telling as telling
use Rattle.domain_replay.specs.Telling.{ReplayState, tells_line}
use Rattle.domain_replay.specs.Texts.{Refusal, BadText, BadEvent, refusal_text, names_of}
use Rattle.command_drive.specs.declared.command.Flow.{Flow}
use Rattle.command_drive.specs.declared.command.Flow.TheVariants as flow
use Rattle.command_drive.specs.Doing.{Did, told}
use Rattle.command_replay.specs.Course.{Turned, turn_owes, unless_rejected}
use Rattle.domain_replay.specs.Parts.{unsaid, state_of}
use Rattle.command_replay.specs.Owed.{Rest, unless_refused, rounds_owe, said_owes, Rounds, Begins}
use Rattle.command_replay.proofs.Answered.{said_told}
use Rattle.command_replay.proofs.Steps.{did_as}
use Rattle.command_check.specs.Checked.{base_turn, answer_turn, refusal_turn, cover_turn, read_turn}
use Rattle.command_check.specs.Turning.{BeginsTurn, lines_owe}

-- ---- a line of a schedule

base_owes : (line : ℕ) (said : Line) (s : ReplayState) (rest : Rest) → turn_owes line (base_turn line said s) rest ≡ said_owes line said s rest
base_owes line said s rest = by t.refused ∙ sym (said_told line said s rest)
  where
    t : telling.Told
    t = tells_line line (unsaid s) said

    by : (o : Option EventFault) → told t.telling.report t.telling.frames (unless_rejected line (option_map BadEvent o) (rest (state_of t.telling))) ≡ told t.telling.report t.telling.frames (unless_refused line o (rest (state_of t.telling)))
    by None = refl
    by (Some why) = refl

pub base_begins : (how : Flow) (line : ℕ) (said : Line) (s now : ReplayState) (rounds : ℕ) (texts texts_now : Texts) → Begins (List ℕ) how line said s now rounds texts texts_now → BeginsTurn how line (base_turn line said s) now rounds texts texts_now
base_begins how line said s now rounds texts texts_now begins rest =
    did_as how InputRefused _ _ _ _ texts texts_now (λ items behind. base_owes line said s (rest items behind)) (λ items behind. refl) (begins rest)

-- ---- a question

pub answer_begins : (line : ℕ) (s : ReplayState) (text : List ℕ) (texts texts_now : Texts) → texts_now.report ≡ texts.report ++ text → texts_now.frames ≡ texts.frames → BeginsTurn flow.On line (answer_turn s text) s 0 texts texts_now
answer_begins line s text texts texts_now report frames rest =
    record { report = text; frames = []; report_is = report; frames_is = frames ∙ sym (append-nil texts.frames); owed = λ items behind. refl }

pub refusal_begins : (line : ℕ) (s now : ReplayState) (rounds : ℕ) (why : Refusal) (texts texts_now : Texts) → texts_now.report ≡ texts.report ++ refusal_text line why → texts_now.frames ≡ texts.frames
    → BeginsTurn (flow.Ends InputRefused) line (refusal_turn s why) now rounds texts texts_now
refusal_begins line s now rounds why texts texts_now report frames rest =
    (refl, λ items behind. record { status = refl; report = report; frames = frames ∙ sym (append-nil texts.frames) })

rejects_is : (cover : Result (List ℕ) EdgeFault) (why : EdgeFault) → why ≢ edge.Memory → Rejects cover why → cover ≡ Err why
rejects_is cover edge.NoEgress other is = is
rejects_is cover edge.IdZero other is = is
rejects_is cover (edge.SiLarge k) other is = is
rejects_is cover edge.NotBfr other is = is
rejects_is cover edge.BslUnknown other is = is
rejects_is cover edge.Memory other is = absurd (other refl)

pub covered_begins : (line : ℕ) (s : ReplayState) (cover : Result (List ℕ) EdgeFault) (ids text : List ℕ) (texts texts_now : Texts) → cover ≡ Ok ids → BeginsTurn flow.On line (answer_turn s text) s 0 texts texts_now
    → cover_turn line s (Ok ids) ≡ answer_turn s text → BeginsTurn flow.On line (cover_turn line s cover) s 0 texts texts_now
covered_begins line s cover ids text texts texts_now is begins same =
    subst (λ (t : Turned ReplayState). BeginsTurn flow.On line t s 0 texts texts_now) (sym (ap (cover_turn line s) is ∙ same)) begins

pub uncovered_begins : (line : ℕ) (s : ReplayState) (cover : Result (List ℕ) EdgeFault) (why : EdgeFault) (texts texts_now : Texts) → why ≢ edge.Memory → Rejects cover why
    → texts_now.report ≡ texts.report ++ refusal_text line (BadEvent (Edge why)) → texts_now.frames ≡ texts.frames → BeginsTurn (flow.Ends InputRefused) line (cover_turn line s cover) s 0 texts texts_now
uncovered_begins line s cover why texts texts_now other rejects report frames =
    subst (λ (t : Turned ReplayState). BeginsTurn (flow.Ends InputRefused) line t s 0 texts texts_now) (sym (ap (cover_turn line s) (rejects_is cover why other rejects)))
    (refusal_begins line s s 0 (BadEvent (Edge why)) texts texts_now report frames)

-- ---- a line

-- the line that follows, in the words of the command
pub line_did : (how : Flow) (names : List (List ℕ)) (line line_now rounds rounds_now : ℕ) (s now : ReplayState) (text : List ℕ) (read : Result CheckLine TextFault) (texts texts_now : Texts) → rounds ≡ 0 → names ≡ names_of s.world.domain → check_line text names ≡ read
    → line_now ≡ line + 1 → BeginsTurn how (line + 1) (read_turn (line + 1) read s) now rounds_now texts texts_now
    → Did how InputRefused (λ more behind. rounds_owe line rounds s (lines_owe line (text ∷ more) behind)) (λ items behind. rounds_owe line_now rounds_now now (lines_owe line_now items behind)) texts texts_now
line_did how names line line_now rounds rounds_now s now text read texts texts_now none named reads next begins =
    did_as how InputRefused _ _ _ _ texts texts_now
    (λ more behind.
    ap (λ (n : ℕ). rounds_owe line n s (lines_owe line (text ∷ more) behind)) none
    ∙ ap (λ (r : Result CheckLine TextFault). turn_owes (line + 1) (read_turn (line + 1) r s) (lines_owe (line + 1) more behind)) (ap (check_line text) (sym named) ∙ reads))
    (λ items behind.
    ap (λ (n : ℕ). rounds_owe n rounds_now now (lines_owe n items behind)) (sym next))
    (begins (λ items behind. lines_owe (line + 1) items behind))

is_fault : (why : TextFault) (read : Result CheckLine TextFault) → Fails why read → why ≢ fault.Memory → read ≡ Err why
is_fault fault.Word read is other = is
is_fault fault.Number read is other = is
is_fault fault.Name read is other = is
is_fault fault.Hex read is other = is
is_fault fault.LineLong read is other = is
is_fault fault.Memory read is other = absurd (other refl)

-- a line that is not in the grammar
pub refused_did : (names : List (List ℕ)) (line line_now rounds rounds_now : ℕ) (s now : ReplayState) (text : List ℕ) (why : TextFault) (texts texts_now : Texts) → rounds ≡ 0 → names ≡ names_of s.world.domain → Fails why (check_line text names) → why ≢ fault.Memory
    → line_now ≡ line + 1 → texts_now.report ≡ texts.report ++ refusal_text (line + 1) (BadText why) → texts_now.frames ≡ texts.frames
    → Did (flow.Ends InputRefused) InputRefused (λ more behind. rounds_owe line rounds s (lines_owe line (text ∷ more) behind)) (λ items behind. rounds_owe line_now rounds_now now (lines_owe line_now items behind)) texts texts_now
refused_did names line line_now rounds rounds_now s now text why texts texts_now none named fails other next report frames =
    line_did (flow.Ends InputRefused) names line line_now rounds rounds_now s now text (Err why) texts texts_now none named (is_fault why (check_line text names) fails other) next
    (refusal_begins (line + 1) s now rounds_now (BadText why) texts texts_now report frames)

-- a round of the line that was begun
pub round_did : (how : Flow) (line line_now rounds left : ℕ) (s now : ReplayState) (texts texts_now : Texts) → line_now ≡ line → Rounds (List ℕ) how line rounds s left now texts texts_now
    → Did how InputRefused (λ items behind. rounds_owe line rounds s (lines_owe line items behind)) (λ items behind. rounds_owe line_now left now (lines_owe line_now items behind)) texts texts_now
round_did how line line_now rounds left s now texts texts_now same goes =
    did_as how InputRefused _ _ _ _ texts texts_now
    (λ items behind. refl)
    (λ items behind. ap (λ (n : ℕ). rounds_owe n left now (lines_owe n items behind)) (sym same))
    (goes (λ items behind. lines_owe line items behind))
