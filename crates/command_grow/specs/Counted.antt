-- What `grow` must produce from here on: what a line's events report is counted and not written.
use Rattle.std.specs.Prelude.{ℕ, ◌+◌, List, [], ◌∷◌, map}
use Rattle.std.specs.List.{range_with_len}
use Rattle.wire_base.specs.declared.status.Status.TheVariants.{Done}
use Rattle.domain_model.specs.World.{ids_in_flight}
use Rattle.domain_replay.specs.Telling.{Told, tells_line}
use Rattle.grown_domain.specs.declared.schedule.GrownLine.{GrownLine}
use Rattle.grown_domain.specs.Schedule.{line_of, line_at}
use Rattle.command_drive.specs.Answer.{Verdict}
use Rattle.command_drive.specs.declared.items.Close.TheVariants as close
use Rattle.command_drive.specs.Reading.{Behind, Closed, Cut}
use Rattle.command_drive.specs.Doing.{nothing_more}
use Rattle.domain_replay.specs.Parts.{unsaid, state_of}
use Rattle.command_replay.specs.Owed.{Rest, rejected, unless_refused}
use Rattle.command_grow.specs.Grow.{summary}

-- that many lines of the schedule from an index on
abbrev pub lines_from : (index count : ℕ) → List GrownLine
lines_from index count = map line_at (range_with_len index count)

-- the line that is rejected, or what must be produced after the events of a line
abbrev pub counted_then : ℕ → Told → Rest → Verdict
counted_then line t rest = unless_refused line t.refused (rest (state_of t.telling))

abbrev pub ends : (n : ℕ) → Behind → Rest
ends n (Closed close.Ended) s = record { status = Done; report = summary n s.counts (ids_in_flight s.world.flights); frames = [] }
ends n (Closed close.TooLong) s = rejected []
ends n (Closed (close.Broken why)) s = rejected []
ends n Cut s = nothing_more

-- the lines that follow k others, in the domain of n routers
abbrev pub lines_owe : (n k : ℕ) → List GrownLine → Behind → Rest
lines_owe n k [] behind s = ends n behind s
lines_owe n k (line ∷ more) behind s = counted_then (k + 1) (tells_line (k + 1) (unsaid s) (line_of n line)) (lines_owe n (k + 1) more behind)
