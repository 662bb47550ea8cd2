-- Whole runs of a domain: what a list of events sent, delivered and dropped, each with the schedule line of its event;
-- and the events of a schedule line.
use Rattle.std.specs.Prelude.{ℕ, zero, suc, ◌+◌, Bool, List, [], ◌∷◌, ◌++◌, length, map, filter, replicate, slice_get, Option, Some, None}
use Rattle.std.specs.List.{fold, range_with_len}
use Rattle.wire_base.specs.declared.conf.RouterConf.{RouterConf}
use Rattle.wire_base.specs.model.Configuration.{DomainConf}
use Rattle.replay_text.specs.declared.event.Event.{Event}
use Rattle.replay_text.specs.declared.event.Event.TheVariants.{Take, Send}
use Rattle.replay_text.specs.declared.event.Line.{Line}
use Rattle.replay_text.specs.declared.event.Line.TheVariants.{Empty, One, Settle}
use Rattle.domain_model.specs.declared.fault.EventFault.{EventFault}
use Rattle.domain_model.specs.declared.lines.GotLine.{GotLine}
use Rattle.domain_model.specs.declared.lines.DropLine.{DropLine}
use Rattle.domain_model.specs.World.{WorldState, first_world, peer_place, frames_between}
use Rattle.domain_model.specs.Moves.{Sending}
use Rattle.domain_model.specs.Faults.{up_over, event_fault}
use Rattle.domain_model.specs.Step.{Happened, happens}

-- ---- the run of a list of events

-- The current world, the events that led to it, and all that they sent, delivered and dropped, each with the line
-- number of its event.
pub record Run : Type 0 where
  pub world : WorldState
  pub events : List (ℕ × Event)
  pub sent : List (ℕ × Sending)
  pub got : List (ℕ × GotLine)
  pub drops : List (ℕ × DropLine)

-- before any event
unfoldable pub first_run : DomainConf → Run
first_run d = record { world = first_world d; events = []; sent = []; got = []; drops = [] }

abbrev pub on_line : {X : Type 0} → ℕ → List X → List (ℕ × X)
on_line line xs = map (λ x. (line, x)) xs

abbrev pub with_happened : Run → ℕ × Event → Happened → Run
with_happened r e n =
    record {
      world = n.world;
      events = r.events ++ e ∷ [];
      sent = r.sent ++ on_line e.0 n.made.sent;
      got = r.got ++ on_line e.0 n.made.got;
      drops = r.drops ++ on_line e.0 n.made.drops;
    }

-- one more event
unfoldable pub goes_on : Run → ℕ × Event → Run
goes_on r e = with_happened r e (happens r.world e.1)

-- the run of a domain with those events
unfoldable pub run_of : DomainConf → List (ℕ × Event) → Run
run_of d es = fold goes_on (first_run d) es

-- ---- the events of a line

-- the world after some events
abbrev pub world_after : WorldState → List Event → WorldState
world_after w es = fold (λ v e. (happens v e).world) w es

-- A direction of a link: from a router over one of its interfaces to the router at the far end.
pub record Direction : Type 0 where
  pub from : ℕ
  pub link : ℕ
  pub to : ℕ

abbrev pub direction_over : List RouterConf → ℕ → ℕ → Direction
direction_over confs a link = record { from = a; link = link; to = peer_place confs a link }

abbrev pub directions_from : List RouterConf → ℕ → List RouterConf → List Direction
directions_from confs a [] = []
directions_from confs a (r ∷ rs) = map (direction_over confs a) (range_with_len 0 (length r.ends)) ++ directions_from confs (a + 1) rs

-- all directions, in the order of the routers and of their interfaces
unfoldable pub directions : List RouterConf → List Direction
directions confs = directions_from confs 0 confs

-- whether the interface there is up
abbrev pub may_send : WorldState → Direction → Bool
may_send w d = up_over (slice_get w.routers d.from) (Some d.link)

-- each interface that is up sends
abbrev pub round_sends : WorldState → List Event
round_sends w = map (λ d. Send d.from d.to) (filter (may_send w) (directions w.domain.routers))

-- as many frames arrive as are in flight there now
abbrev pub taken_now : WorldState → Direction → List Event
taken_now w d = replicate (length (frames_between w d.from d.to)) (Take d.from d.to 0)

-- in each direction as many as are in flight there when its turn comes
abbrev pub round_takes : WorldState → List Direction → List Event
round_takes w [] = []
round_takes w (d ∷ ds) = taken_now w d ++ round_takes (world_after w (taken_now w d)) ds

-- a round: all routers send, then all receive what has arrived
unfoldable pub round_events : WorldState → List Event
round_events w = round_sends w ++ round_takes (world_after w (round_sends w)) (directions w.domain.routers)

-- that many rounds
unfoldable pub settle_events : WorldState → ℕ → List Event
settle_events w zero = []
settle_events w (suc n) = round_events w ++ settle_events (world_after w (round_events w)) n

-- the events of a line, in the world before it
abbrev pub line_events : WorldState → Line → List Event
line_events w Empty = []
line_events w (One e) = e ∷ []
line_events w (Settle n) = settle_events w n

-- ---- the run of a schedule

-- A run, and the line at which it was rejected with its reason, if one was.
pub record Progress : Type 0 where
  pub run : Run
  pub refused : Option (ℕ × EventFault)

abbrev pub tries : Run → ℕ → Event → Option EventFault → Progress
tries r line e None = record { run = goes_on r (line, e); refused = None }
tries r line e (Some reason) = record { run = r; refused = Some (line, reason) }

abbrev pub goes_unless : Progress → ℕ → Event → Option (ℕ × EventFault) → Progress
goes_unless p line e None = tries p.run line e (event_fault p.run.world e)
goes_unless p line e (Some refused) = p

-- one more event; nothing is done after one that was rejected
unfoldable pub does : ℕ → Progress → Event → Progress
does line p e = goes_unless p line e p.refused

-- a line: its events; if one is rejected, those before it were executed
unfoldable pub line_done : ℕ → Progress → Line → Progress
line_done line p l = fold (does line) p (line_events p.run.world l)

-- the lines from a number on
unfoldable pub lines_done : ℕ → Progress → List Line → Progress
lines_done line p [] = p
lines_done line p (l ∷ ls) = lines_done (line + 1) (line_done line p l) ls

-- a schedule, whose lines are numbered from 1
unfoldable pub schedule_done : DomainConf → List Line → Progress
schedule_done d ls = lines_done 1 (record { run = first_run d; refused = None }) ls
