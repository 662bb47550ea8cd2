-- What a replay must produce from here on: the events of a line are reported, and if none of them is rejected, what
-- must be produced after them follows.
use Rattle.std.specs.Prelude.{ℕ, ◌+◌, zero, suc, List, [], ◌∷◌, Option, Some, None, Result, Ok, Err}
use Rattle.run_texts.specs.declared.texts.Texts.{Texts}
use Rattle.wire_base.specs.declared.status.Status.TheVariants.{Done, InputRefused}
use Rattle.replay_text.specs.declared.event.Line.{Line}
use Rattle.replay_text.specs.declared.event.Line.TheVariants.{Settle}
use Rattle.replay_text.specs.declared.fault.TextFault.{TextFault}
use Rattle.replay_text.specs.Fault.{fault_text}
use Rattle.replay_text.specs.Schedule.{schedule_line}
use Rattle.domain_model.specs.declared.fault.EventFault.{EventFault}
use Rattle.domain_model.specs.World.{ids_in_flight}
use Rattle.domain_replay.specs.Lines.{done_text, text_refused_text, event_refused_text, too_long}
use Rattle.domain_replay.specs.Parts.{unsaid, state_of}
use Rattle.domain_replay.specs.Telling.{Told, ReplayState, tells_line}
use Rattle.command_drive.specs.Answer.{Verdict}
use Rattle.command_drive.specs.declared.items.Close.TheVariants as close
use Rattle.command_drive.specs.declared.command.Flow.{Flow}
use Rattle.command_drive.specs.Reading.{Behind, Closed, Cut}
use Rattle.command_drive.specs.Doing.{Did, told, nothing_more}

-- what remains to be produced from a state of the domain on
abbrev pub Rest : Type 0
Rest = ReplayState → Verdict

-- ---- a line

-- the run ends with that line of the report
abbrev pub rejected : List ℕ → Verdict
rejected line = record { status = InputRefused; report = line; frames = [] }

abbrev pub unless_refused : ℕ → Option EventFault → Verdict → Verdict
unless_refused line None owed = owed
unless_refused line (Some why) owed = rejected (event_refused_text line why)

-- what the events of a line report, followed by the line that is rejected or the rest
abbrev pub told_then : ℕ → Told → Rest → Verdict
told_then line t rest = told t.telling.report t.telling.frames (unless_refused line t.refused (rest (state_of t.telling)))

-- that many rounds, one after the other
abbrev pub rounds_owe : ℕ → (rounds : ℕ) → ReplayState → Rest → Verdict
rounds_owe line zero s rest = rest s
rounds_owe line (suc rounds) s rest = told_then line (tells_line line (unsaid s) (Settle 1)) (λ next. rounds_owe line rounds next rest)

abbrev pub said_owes : ℕ → Line → ReplayState → Rest → Verdict
said_owes line (Settle rounds) s rest = rounds_owe line rounds s rest
said_owes line said s rest = told_then line (tells_line line (unsaid s) said) rest

abbrev pub read_owes : ℕ → Result Line TextFault → ReplayState → Rest → Verdict
read_owes line (Err why) s rest = rejected (text_refused_text line (fault_text why))
read_owes line (Ok said) s rest = said_owes line said s rest

-- ---- the lines that follow n others

abbrev pub ends : ℕ → Behind → Rest
ends n (Closed close.Ended) s = record { status = Done; report = done_text n s.counts (ids_in_flight s.world.flights); frames = [] }
ends n (Closed close.TooLong) s = rejected (text_refused_text (n + 1) too_long)
ends n (Closed (close.Broken why)) s = rejected []
ends n Cut s = nothing_more

abbrev pub lines_owe : (names : List (List ℕ)) → ℕ → List (List ℕ) → Behind → Rest
lines_owe names n [] behind s = ends n behind s
lines_owe names n (text ∷ more) behind s = read_owes (n + 1) (schedule_line text names) s (lines_owe names (n + 1) more behind)

-- ---- what a call does

-- The events of a line were executed: the outputs gained what these report, or the run ends with the one that is
-- rejected.
abbrev pub Does : (T : Type 0) → Flow → ℕ → Told → (now : ReplayState) → (texts texts_now : Texts) → Type 0
Does T how line t now texts texts_now =
    (rest : List T → Behind → Rest) → Did how InputRefused (λ items behind. told_then line t (rest items behind)) (λ items behind. rest items behind now) texts texts_now

-- A round of the line that was begun was executed, if one remained.
abbrev pub Rounds : (T : Type 0) → Flow → ℕ → (rounds : ℕ) (s : ReplayState) → (left : ℕ) (now : ReplayState) → (texts texts_now : Texts) → Type 0
Rounds T how line rounds s left now texts texts_now =
    (rest : List T → Behind → Rest) → Did how InputRefused (λ items behind. rounds_owe line rounds s (rest items behind)) (λ items behind. rounds_owe line left now (rest items behind)) texts texts_now

-- A line was begun: all of it is executed, or rounds of it remain.
abbrev pub Begins : (T : Type 0) → Flow → ℕ → Line → (s now : ReplayState) → (rounds : ℕ) → (texts texts_now : Texts) → Type 0
Begins T how line said s now rounds texts texts_now =
    (rest : List T → Behind → Rest) → Did how InputRefused (λ items behind. said_owes line said s (rest items behind)) (λ items behind. rounds_owe line rounds now (rest items behind)) texts texts_now
