-- The representation of a running domain: routers with their counts of frames, and frames with their notes. And its
-- abstract state: a world, and each router's count.
use Rattle.std.specs.Prelude.{◌≡◌, ◌⊎◌, ℕ, Bool, List, map, slice_get, slice_index_or, slice_set, Option, Some, None, if◌then◌else◌}
use Rattle.std.specs.List.{AllByRecursion}
use Rattle.wire_base.specs.declared.conf.RouterConf.{RouterConf}
use Rattle.wire_base.specs.model.Configuration.{DomainConf}
use Rattle.wire_base.specs.model.Flooding.{first_control}
use Rattle.wire_base.specs.model.Item.{Item}
use Rattle.laws_router.specs.State.{RouterState}
use Rattle.laws_router.specs.State as router
use Rattle.replay_text.specs.declared.event.Event.{Event}
use Rattle.replay_text.specs.declared.event.Event.TheVariants.{Inject, Take, Lose, Again, Down, Up, Send, Tick, Restart, Relabel, Leave, Join}
use Rattle.frames_in_flight.specs.declared.flight.Flight.{Flight}
use Rattle.domain_model.specs.World.{WorldState, frames_between}
use Rattle.domain_model.specs.Faults.{is_up_toward}
use Rattle.frames_in_flight.specs.Flights.{item_seen, items_seen, frames_at}
use Rattle.frames_in_flight.specs.Framed.{frame_over}
use Rattle.domain_model.specs.Truth.{IsTruthful}

-- ---- the representation

pub record NetworkState : Type 0 where
  pub domain : DomainConf
  pub routers : List RouterState
  pub flights : List (List (List Flight))
  pub injections : ℕ
  pub events : ℕ

-- A frame that is sent on an interface is the frame of its item there. The interfaces are those of the domain as it
-- started, `os`, which never change; the item is parsed by the configurations of now, `confs`.
abbrev pub IsFrameOver : List RouterConf → List RouterConf → ℕ → ℕ → Flight → Type 0
IsFrameOver os confs a link f = f.octets ≡ frame_over os a link (item_seen confs f)

abbrev pub AreFramesOver : List RouterConf → List RouterConf → List (List (List Flight)) → Type 0
AreFramesOver os confs flights = (a link : ℕ) → AllByRecursion (IsFrameOver os confs a link) (frames_at flights a link)

-- ---- the abstract state

-- A world, and how many frames each router has received.
pub record Seen : Type 0 where
  pub world : WorldState
  pub heard : List ℕ

-- routers as they are configured now
abbrev pub confs_of : List RouterState → List RouterConf
confs_of routers = map (λ c. c.conf) (map (λ r. r.control) routers)

abbrev pub confs_in : NetworkState → List RouterConf
confs_in n = confs_of n.routers

-- a packet in flight is parsed as by the router that it is for, as that is configured now
abbrev pub world_of : NetworkState → WorldState
world_of n =
    record {
      domain = n.domain;
      routers = map (λ r. r.control) n.routers;
      flights = items_seen (confs_in n) n.flights;
      injections = n.injections;
      events = n.events;
    }

abbrev pub seen_of : NetworkState → Seen
seen_of n = record { world = world_of n; heard = map (λ r. r.heard) n.routers }

-- The invariant of a running domain: it is truthful, and each frame in flight is that of its item.
pub record IsTrueNetwork (n : NetworkState) : Type 0 where
  pub truth : IsTruthful (world_of n)
  pub frames : AreFramesOver n.domain.routers (confs_in n) n.flights

-- ---- frames that are received

-- a router has received one more
abbrev pub heard_at : List ℕ → ℕ → List ℕ
heard_at heard b = slice_set heard b (router.counted (slice_index_or heard b 0))

-- a frame that arrives is received if the interface is up
abbrev pub heard_of : List ℕ → ℕ → Bool → Option Item → List ℕ
heard_of heard b up None = heard
heard_of heard b up (Some x) = if up then heard_at heard b else heard

-- A router receives a frame if one arrives at an interface that is up, and at no other event.
abbrev pub heard_after : WorldState → List ℕ → Event → List ℕ
heard_after w heard (Take a b i) = heard_of heard b (is_up_toward w b a) (slice_get (frames_between w a b) i)
heard_after w heard (Inject a sd bsl ks ttl entropy payload) = heard
heard_after w heard (Lose a b i) = heard
heard_after w heard (Again a b i) = heard
heard_after w heard (Down a b) = heard
heard_after w heard (Up a b) = heard
heard_after w heard (Send a b) = heard
heard_after w heard (Tick a) = heard
heard_after w heard (Restart a) = heard
heard_after w heard (Relabel a sd bsl label) = heard
heard_after w heard (Leave a sd) = heard
heard_after w heard (Join a sd) = heard

-- An event that is not executed leaves the world unchanged. The count of a router may have risen, if it received a
-- frame and its reply did not fit into memory.
pub record IsAsBefore (old new : Seen) (e : Event) : Type 0 where
  pub world : new.world ≡ old.world
  pub heard : (new.heard ≡ old.heard) ⊎ (new.heard ≡ heard_after old.world old.heard e)

-- ---- the beginning

-- a router that has just started, and has received nothing
abbrev pub started_router : RouterConf → RouterState
started_router r = record { control = first_control r; heard = 0 }
