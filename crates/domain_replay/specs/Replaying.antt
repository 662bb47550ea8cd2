-- What the calls of a replay do.
use Rattle.std.specs.Prelude.{ℕ, ◌≡◌, ◌⊎◌, ◌<◌, ◌+◌, ◌^◌, true, List, [], ◌∷◌, ◌++◌, length, map, filter, Some, None, Result, Ok, Err, if◌then◌else◌}
use Rattle.std.specs.List.{AllByRecursion}
use Rattle.wire_base.specs.declared.conf.RouterConf.{RouterConf}
use Rattle.replay_text.specs.declared.event.Event.{Event}
use Rattle.domain_model.specs.declared.fault.EventFault.{EventFault}
use Rattle.domain_model.specs.declared.fault.EventFault.TheVariants as faults
use Rattle.replay_text.specs.declared.event.Event.TheVariants.{Inject, Take, Lose, Again, Down, Up, Send, Tick, Restart, Relabel, Leave, Join}
use Rattle.domain_core.specs.Idle.{IsIdleSend}
use Rattle.domain_model.specs.World.{WorldState, frames_between, link_between}
use Rattle.domain_model.specs.Step.{happens}
use Rattle.domain_model.specs.Faults.{event_fault}
use Rattle.domain_model.specs.Run.{Direction, directions, may_send}
use Rattle.domain_model.specs.Truth.{EventFits}
use Rattle.replay_report.specs.Counting.{NamesOnce}
use Rattle.domain_replay.specs.Telling.{Telling, Told, told, tells_all}

-- the events that were reported ended with that reason
abbrev pub ends_with : Telling → EventFault → Told
ends_with t why = record { telling = t; refused = Some why }

-- The result of a call that had to report this much. The state is the reported one, for all events or up to the one
-- that is not allowed. Out of memory may be returned instead of any result.
abbrev pub Tells : Told → Telling → Result (Unit {0}) EventFault → Type 0
Tells all now (Ok u) = all ≡ told now
Tells all now (Err faults.Events) = all ≡ ends_with now faults.Events
Tells all now (Err faults.NoLink) = all ≡ ends_with now faults.NoLink
Tells all now (Err faults.EndState) = all ≡ ends_with now faults.EndState
Tells all now (Err faults.InFlight) = all ≡ ends_with now faults.InFlight
Tells all now (Err (faults.NoFrame i n)) = all ≡ ends_with now (faults.NoFrame i n)
Tells all now (Err faults.NotControl) = all ≡ ends_with now faults.NotControl
Tells all now (Err (faults.Edge why)) = all ≡ ends_with now (faults.Edge why)
Tells all now (Err faults.NoSub) = all ≡ ends_with now faults.NoSub
Tells all now (Err faults.SubState) = all ≡ ends_with now faults.SubState
Tells all now (Err faults.LabelHigh) = all ≡ ends_with now faults.LabelHigh
Tells all now (Err (faults.LabelUsed label)) = all ≡ ends_with now (faults.LabelUsed label)
Tells all now (Err faults.Relabels) = all ≡ ends_with now faults.Relabels
Tells all now (Err faults.Memory) = Unit {0}

-- ---- where a call stops

-- The next of the remaining events was executed, and nothing of it is reported: the world is ahead of the counts and
-- the texts.
abbrev pub NextUntold : Telling → List Event → Telling → Type 0
NextUntold t [] now = ⊥
NextUntold t (e ∷ es) now = (event_fault t.world e ≡ None) × (now ≡ record t { world = (happens t.world e).world })

-- The state when a call stopped within some events, including out of memory. The first ones were executed and
-- completely reported, and those after them were not begun. Only the next one may be executed too, without a report.
--
-- Example: two routers settle by `send A B`, `send B A`, `take A B 0`, `take B A 0`. If memory runs out as A's frame
-- arrives, both sends are done, and the frame is still in flight. If memory runs out as that delivery is reported, both
-- sends are done, the capture has the records of both, and only the world is ahead: B has received the frame, and what
-- B drops as a result is in no line and no count.
pub record StopsIn (line : ℕ) (before : Telling) (events : List Event) (now : Telling) : Type 0 where
  pub done : List Event
  pub left : List Event
  pub all : events ≡ done ++ left
  pub so_far : Telling
  pub tells : tells_all line (told before) done ≡ told so_far
  pub stands : (now ≡ so_far) ⊎ NextUntold so_far left now

-- ---- the arguments of a call

-- an event that a replay may be passed, in a domain of that many routers
pub record IsAsked (count : ℕ) (e : Event) : Type 0 where
  pub fits : EventFits count e
  pub once : NamesOnce e

-- What the field types of an event imply about its numbers.
pub record InjectNumbers (sd : ℕ) (ids : List ℕ) (ttl : ℕ) : Type 0 where
  pub sd_fits : sd < 2 ^ 8
  pub bfr_ids : AllByRecursion (λ k. k < 2 ^ 16) ids
  pub ttl_fits : ttl < 2 ^ 8

abbrev pub NumbersFit : Event → Type 0
NumbersFit (Inject router sd bsl ids ttl entropy payload) = InjectNumbers sd ids ttl
NumbersFit (Take from to i) = Unit {0}
NumbersFit (Lose from to i) = Unit {0}
NumbersFit (Again from to i) = Unit {0}
NumbersFit (Down from to) = Unit {0}
NumbersFit (Up from to) = Unit {0}
NumbersFit (Send from to) = Unit {0}
NumbersFit (Tick router) = Unit {0}
NumbersFit (Restart router) = Unit {0}
NumbersFit (Relabel router sd bsl label) = Unit {0}
NumbersFit (Leave router sd) = Unit {0}
NumbersFit (Join router sd) = Unit {0}

-- Both routers of a direction exist, and its interface is the one that leads from the first to the second.
pub record IsJoining (routers : List RouterConf) (d : Direction) : Type 0 where
  pub from : d.from < length routers
  pub to : d.to < length routers
  pub link : link_between routers d.from d.to ≡ Some d.link

-- what is sent on the interface of a direction: nothing if it is down
abbrev pub sends_of : WorldState → Direction → List Event
sends_of w d = if may_send w d then Send d.from d.to ∷ [] else []

-- what is sent on the interfaces of those directions that are up
abbrev pub sends_in : WorldState → List Direction → List Event
sends_in w ds = map (λ d. Send d.from d.to) (filter (may_send w) ds)

-- ---- rounds in which nothing is due

-- Nothing is due in a direction, and nothing is in flight: if its interface is up, a send there changes nothing.
pub record IsIdleOver (w : WorldState) (d : Direction) : Type 0 where
  pub send : may_send w d ≡ true → IsIdleSend w d.from d.to
  pub frames : frames_between w d.from d.to ≡ []

-- All of these directions are idle, and so many of their interfaces are up.
pub record AreIdle (w : WorldState) (ds : List Direction) (sends : ℕ) : Type 0 where
  pub each : AllByRecursion (IsIdleOver w) ds
  pub count : length (filter (may_send w) ds) ≡ sends

-- the world after so many events more that change nothing else
abbrev pub counting : WorldState → ℕ → WorldState
counting w n = record w { events = w.events + n }

-- ---- the invariant of a replay

-- They are all directions of those routers' links, and each joins two of them.
pub record AreDirections (routers : List RouterConf) (all : List Direction) : Type 0 where
  pub value : all ≡ directions routers
  pub joins : AllByRecursion (IsJoining routers) all
