-- What the calls of a check do.
use Rattle.std.specs.Prelude.{ℕ, ◌≡◌, List, Result, Ok, MatchResult}
use Rattle.run_texts.specs.declared.texts.Texts.{Texts}
use Rattle.wire_base.specs.declared.faults.EdgeFault.{EdgeFault}
use Rattle.wire_base.specs.declared.status.Status.TheVariants.{InputRefused}
use Rattle.replay_text.specs.declared.check.CheckLine.{CheckLine}
use Rattle.replay_text.specs.declared.check.CheckLine.TheVariants.{Base, Quiet, Cover}
use Rattle.domain_core.specs.Cover.{Rejects}
use Rattle.domain_replay.specs.Telling.{ReplayState, LineEnters, LineNamesOnce}
use Rattle.command_drive.specs.declared.command.Flow.{Flow}
use Rattle.command_drive.specs.Reading.{Behind}
use Rattle.command_drive.specs.Doing.{Did}
use Rattle.command_replay.specs.Course.{Turned, turns_owe, turn_owes}
use Rattle.command_replay.specs.Owed.{Rest, rounds_owe}
use Rattle.command_check.specs.Checked.{check_turns}

-- A line was begun: all of it is executed, or rounds of it remain.
abbrev pub BeginsTurn : Flow → ℕ → Turned ReplayState → (now : ReplayState) → (rounds : ℕ) → (texts texts_now : Texts) → Type 0
BeginsTurn how line t now rounds texts texts_now =
    (rest : List (List ℕ) → Behind → Rest) → Did how InputRefused (λ items behind. turn_owes line t (rest items behind)) (λ items behind. rounds_owe line rounds now (rest items behind)) texts texts_now

-- the lines that follow n others
abbrev pub lines_owe : ℕ → List (List ℕ) → Behind → Rest
lines_owe n lines behind s = turns_owe (λ (x : ReplayState). x) check_turns n lines behind s

-- A call returned that result of a `cover` line. Out of memory may be returned instead of any result.
abbrev pub Covers : Result (List ℕ) EdgeFault → Result (List ℕ) EdgeFault → Type 0
Covers cover result = MatchResult result (λ ids. cover ≡ Ok ids) (λ why. Rejects cover why)

-- no BFR-id is named twice in a line that is executed
abbrev pub CheckNamesOnce : CheckLine → Type 0
CheckNamesOnce (Base said) = LineNamesOnce said
CheckNamesOnce Quiet = Unit {0}
CheckNamesOnce (Cover router sd bsl ids ttl entropy) = Unit {0}

-- an injection is at a router that exists
abbrev pub CheckEnters : ℕ → CheckLine → Type 0
CheckEnters count (Base said) = LineEnters count said
CheckEnters count Quiet = Unit {0}
CheckEnters count (Cover router sd bsl ids ttl entropy) = Unit {0}
