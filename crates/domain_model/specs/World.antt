-- A running domain: its routers' control states, what is in flight on its links, and how many events have occurred.
--
-- Routers are named by their indices in the domain, and the interfaces of a router by their indices in its
-- configuration. A link has two directions; each is named by the router that sends there and its interface.
use Rattle.std.specs.Prelude.{ℕ, suc, Bool, false, List, [], ◌∷◌, ◌++◌, length, map, slice_get, slice_index_or, slice_set, sum_by, Option, Some, None, if◌then◌else◌}
use Rattle.std.specs.List.{remove}
use Rattle.wire_base.specs.declared.addresses.SystemId.{SystemId}
use Rattle.wire_base.specs.declared.conf.End.{End}
use Rattle.wire_base.specs.declared.conf.RouterConf.{RouterConf}
use Rattle.wire_base.specs.model.Choice.{end_toward}
use Rattle.wire_base.specs.model.Configuration.{DomainConf}
use Rattle.wire_base.specs.model.Control.{same_system, Control}
use Rattle.wire_base.specs.model.Flooding.{first_control}
use Rattle.wire_base.specs.model.Item.{Item, ControlItem, PacketItem}

-- The domain; its routers' control states, by index; for each router and each of its interfaces what is in flight from
-- that interface to the router at the far end, the oldest first; how many injections and how many events have occurred.
pub record WorldState : Type 0 where
  pub domain : DomainConf
  pub routers : List Control
  pub flights : List (List (List Item))
  pub injections : ℕ
  pub events : ℕ

-- ---- links

-- the index of the first router with a system ID; past the end if there is none
abbrev pub place_of : List RouterConf → SystemId → ℕ
place_of [] s = 0
place_of (r ∷ rs) s = if same_system r.system s then 0 else suc (place_of rs s)

abbrev pub end_at : Option RouterConf → ℕ → Option End
end_at None link = None
end_at (Some r) link = slice_get r.ends link

-- the router at the far end of a link
abbrev pub far_place : List RouterConf → Option End → ℕ
far_place confs None = length confs
far_place confs (Some e) = place_of confs e.peer

abbrev pub peer_place : List RouterConf → ℕ → ℕ → ℕ
peer_place confs place link = far_place confs (end_at (slice_get confs place) link)

-- the interface of a router that leads to another
abbrev pub end_between : Option RouterConf → Option RouterConf → Option ℕ
end_between None q = None
end_between (Some r) None = None
end_between (Some r) (Some q) = end_toward r.ends q.system

-- the same for routers by their indices; none if no link joins the two
abbrev pub link_between : List RouterConf → ℕ → ℕ → Option ℕ
link_between confs a b = end_between (slice_get confs a) (slice_get confs b)

-- whether an interface of a router is up
abbrev pub is_up : Control → ℕ → Bool
is_up c link = slice_index_or c.flood.up link false

-- ---- what is in flight

abbrev pub queue_at : List (List (List Item)) → ℕ → ℕ → List Item
queue_at flights place link = slice_index_or (slice_index_or flights place []) link []

abbrev pub with_queue : List (List (List Item)) → ℕ → ℕ → List Item → List (List (List Item))
with_queue flights place link queue = slice_set flights place (slice_set (slice_index_or flights place []) link queue)

-- what is sent on an interface is queued at the end of its direction
abbrev pub push_item : List (List (List Item)) → ℕ → ℕ → Item → List (List (List Item))
push_item flights place link x = with_queue flights place link (queue_at flights place link ++ x ∷ [])

-- and what arrives, or is lost, is removed from there
abbrev pub without_item : List (List (List Item)) → ℕ → ℕ → ℕ → List (List (List Item))
without_item flights place link i = with_queue flights place link (remove (queue_at flights place link) i)

abbrev pub queue_over : List (List (List Item)) → ℕ → Option ℕ → List Item
queue_over flights place None = []
queue_over flights place (Some link) = queue_at flights place link

-- what is in flight from one router to another, the oldest first
abbrev pub frames_between : WorldState → ℕ → ℕ → List Item
frames_between w a b = queue_over w.flights a (link_between w.domain.routers a b)

-- how many items are in flight in all
unfoldable pub in_flight : List (List (List Item)) → ℕ
in_flight flights = sum_by (λ queues. sum_by (λ queue. length queue) queues) flights

-- the BFR-ids of an item
abbrev pub carried : Item → ℕ
carried (ControlItem p) = 0
carried (PacketItem x) = length x.ids

-- how many BFR-ids are in flight
unfoldable pub ids_in_flight : List (List (List Item)) → ℕ
ids_in_flight flights = sum_by (λ queues. sum_by (λ queue. sum_by carried queue) queues) flights

-- ---- the beginning

-- nothing is in flight
abbrev pub no_flights : List RouterConf → List (List (List Item))
no_flights confs = map (λ r. map (λ e. []) r.ends) confs

-- Each router has just started, with all its interfaces up: its LSDB has only its own LSP, which is to be sent on every
-- link, and a CSNP is due on each (ISO/IEC 10589, 7.3.15 and 7.3.17).
unfoldable pub first_world : DomainConf → WorldState
first_world d =
    record {
      domain = d;
      routers = map first_control d.routers;
      flights = no_flights d.routers;
      injections = 0;
      events = 0;
    }
