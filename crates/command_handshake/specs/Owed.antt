-- What a schedule with hellos must produce from here on.
use Rattle.std.specs.Prelude.{ℕ, zero, suc, List}
use Rattle.run_texts.specs.declared.texts.Texts.{Texts}
use Rattle.wire_base.specs.declared.status.Status.TheVariants.{InputRefused}
use Rattle.replay_text.specs.declared.hand.HandLine.{HandLine}
use Rattle.replay_text.specs.declared.hand.HandLine.TheVariants.{Base, Hello}
use Rattle.domain_replay.specs.Telling.{ReplayState, LineNamesOnce}
use Rattle.domain_handshake.specs.Handshakes.{HandState, Outcome, rounds_do}
use Rattle.command_drive.specs.Answer.{Verdict}
use Rattle.command_drive.specs.declared.command.Flow.{Flow}
use Rattle.command_drive.specs.Doing.{Did}
use Rattle.command_drive.specs.Reading.{Behind}
use Rattle.command_replay.specs.Course.{turn_owes, turns_owe}
use Rattle.command_handshake.specs.Shaken.{hand_turns, turned_by}

-- what remains to be produced from a state on
abbrev pub Rest : Type 0
Rest = HandState → Verdict

abbrev pub replay_of : HandState → ReplayState
replay_of s = s.replay

-- the lines that follow n others
abbrev pub lines_owe : ℕ → List (List ℕ) → Behind → Rest
lines_owe n texts behind s = turns_owe replay_of hand_turns n texts behind s

-- what a part of a line reports, followed by the line that is rejected or the rest
abbrev pub outcome_owes : ℕ → Outcome → Rest → Verdict
outcome_owes line o rest = turn_owes line (turned_by o) rest

-- that many rounds
abbrev pub rounds_owe : ℕ → (rounds : ℕ) → HandState → Rest → Verdict
rounds_owe line zero s rest = rest s
rounds_owe line (suc rounds) s rest = outcome_owes line (rounds_do line s (suc rounds)) rest

-- Part of a line was executed: the outputs gained what it reports, or the run ends with the event that is rejected.
abbrev pub Does : (T : Type 0) → Flow → ℕ → Outcome → (now : HandState) → (texts texts_now : Texts) → Type 0
Does T how line o now texts texts_now =
    (rest : List T → Behind → Rest) → Did how InputRefused (λ items behind. outcome_owes line o (rest items behind)) (λ items behind. rest items behind now) texts texts_now

-- A line was begun: all of it is executed, or rounds of it remain.
abbrev pub Begins : (T : Type 0) → Flow → ℕ → Outcome → (now : HandState) → (rounds : ℕ) → (texts texts_now : Texts) → Type 0
Begins T how line o now rounds texts texts_now =
    (rest : List T → Behind → Rest) → Did how InputRefused (λ items behind. outcome_owes line o (rest items behind)) (λ items behind. rounds_owe line rounds now (rest items behind)) texts texts_now

-- no BFR-id is named twice in a line
abbrev pub HandNamesOnce : HandLine → Type 0
HandNamesOnce (Base said) = LineNamesOnce said
HandNamesOnce (Hello e) = Unit {0}
