-- The command `grow`: a generated domain that runs its schedule. What its routers deliver and drop is counted and
-- discarded; what they send is not captured.
use Rattle.std.specs.Prelude.{ℕ, ◌≡◌, List, ◌∷◌, [], Option, Some, None, codes}
use Rattle.std.specs.Fmt.{decimal}
use Rattle.wire_base.specs.declared.status.Status.{Status}
use Rattle.wire_base.specs.declared.status.Status.TheVariants.{Done, InputRefused}
use Rattle.grown_domain.specs.Domain.{grown_domain}
use Rattle.grown_domain.specs.Schedule.{grown_lines}
use Rattle.domain_model.specs.declared.fault.EventFault.{EventFault}
use Rattle.domain_model.specs.World.{ids_in_flight}
use Rattle.domain_model.specs.Run.{Run, Progress, schedule_done}
use Rattle.replay_report.specs.declared.counts.Counts.{Counts}
use Rattle.domain_replay.specs.Counting.{counts_of}
use Rattle.replay_text.specs.Report.{line_of}
use Rattle.domain_replay.specs.Lines.{event_refused_text}

-- ---- what must be produced

-- `grow N injected I named M got G dropped D flight F`, the last four in numbers of BFR-ids
abbrev pub summary : ℕ → Counts → (flight : ℕ) → List ℕ
summary n counts flight =
    line_of (codes "grow" ∷ decimal n ∷ codes "injected" ∷ decimal counts.injected ∷ codes "named" ∷ decimal counts.named
    ∷ codes "got" ∷ decimal counts.got ∷ codes "dropped" ∷ decimal counts.dropped ∷ codes "flight" ∷ decimal flight ∷ [])

-- how a run ends: with its counts, or at the line that was rejected
abbrev pub ends_by : ℕ → Run → Option (ℕ × EventFault) → Status × List ℕ
ends_by n r None = (Done, summary n (counts_of r) (ids_in_flight r.world.flights))
ends_by n r (Some refused) = (InputRefused, event_refused_text refused.0 refused.1)

-- the run of that domain over that schedule
abbrev pub grown_run : ℕ → Progress
grown_run n = schedule_done (grown_domain n) (grown_lines n)

-- the status and the report
unfoldable pub grow_answer : ℕ → Status × List ℕ
grow_answer n = ends_by n (grown_run n).run (grown_run n).refused

-- no line of the schedule is rejected
unfoldable pub GoesThrough : ℕ → Type 0
GoesThrough n = (grown_run n).refused ≡ None
