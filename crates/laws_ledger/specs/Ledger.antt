-- The ledger of a run: for each injection and each BFR-id, the copies in flight, the deliveries and the drops that it
-- is in (RFC 8279, 6).
--
-- Injections are numbered from 1, in the order of their events.
use Rattle.std.specs.Prelude.{◌≡◌, ℕ, zero, suc, ◌+◌, ◌==◌, ◌&&◌, Bool, true, false, List, map, slice_get, sum_by, Option, Some, None, if◌then◌else◌}
use Rattle.std.specs.List.{AllByRecursion, filter_map}
use Rattle.wire_base.specs.declared.bsl.Bsl.{Bsl}
use Rattle.wire_base.specs.declared.conf.RouterConf.{RouterConf}
use Rattle.wire_base.specs.declared.triple.Triple.{Triple}
use Rattle.wire_base.specs.model.Hop.{has, one_if, tally}
use Rattle.wire_base.specs.model.Item.{Item, ControlItem, PacketItem, DataItem}
use Rattle.wire_base.specs.model.Place.{bits_of, set_identifier, own_id}
use Rattle.replay_text.specs.declared.event.Event.{Event}
use Rattle.replay_text.specs.declared.event.Event.TheVariants.{Inject}
use Rattle.domain_model.specs.declared.lines.GotLine.{GotLine}
use Rattle.domain_model.specs.declared.lines.DropLine.{DropLine}
use Rattle.domain_model.specs.World.{WorldState, queue_at}
use Rattle.domain_model.specs.Step.{happens}
use Rattle.domain_model.specs.Run.{Run}

-- ---- injections

-- What is injected, and where: the index of the router, the BFR-ids that are named, and what their packets carry.
pub record Injection : Type 0 where
  pub router : ℕ
  pub sd : ℕ
  pub bsl : Bsl
  pub ids : List ℕ
  pub ttl : ℕ
  pub entropy : ℕ
  pub payload : List ℕ

-- the injection of an event, if it is one
abbrev pub injection_of : Event → Option Injection
injection_of (Inject a sd bsl ks ttl entropy payload) =
    Some (record { router = a; sd = sd; bsl = bsl; ids = ks; ttl = ttl; entropy = entropy; payload = payload })
injection_of e = None

-- whether it names a BFR-id
abbrev pub names : Option Injection → ℕ → Bool
names None k = false
names (Some i) k = has i.ids k

-- the injection with that number, if the event is it and that many were made before
abbrev pub entered : ℕ → Event → ℕ → Option Injection
entered made e n = if made + 1 == n then injection_of e else None

-- the element with that number, from 1 on
abbrev pub numbered : {X : Type 0} → List X → ℕ → Option X
numbered xs zero = None
numbered xs (suc n) = slice_get xs n

-- the injections among the events of a run
abbrev pub injections_in : List (ℕ × Event) → List Injection
injections_in es = filter_map (λ e. injection_of e.1) es

-- the injection with that number in a run
abbrev pub injected : Run → ℕ → Option Injection
injected r n = numbered (injections_in r.events) n

-- ---- copies, deliveries and drops

-- whether an item is a copy of injection n that has k in its set
abbrev pub carries : ℕ → ℕ → Item → Bool
carries n k (ControlItem p) = false
carries n k (PacketItem x) = (x.number == n) && has x.ids k

-- the sum over all that is in flight
unfoldable pub over_all : (Item → ℕ) → List (List (List Item)) → ℕ
over_all f flights = sum_by (λ queues. sum_by (λ queue. sum_by f queue) queues) flights

-- how many copies of injection n with k in their set are in flight
abbrev pub copies_of : ℕ → ℕ → List (List (List Item)) → ℕ
copies_of n k flights = over_all (λ x. one_if (carries n k x)) flights

-- whether a delivery is of injection n for k
abbrev pub is_got : ℕ → ℕ → GotLine → Bool
is_got n k g = (g.injection == n) && (g.id == k)

-- whether what is dropped has an injection with that number
abbrev pub is_numbered : Option ℕ → ℕ → Bool
is_numbered None n = false
is_numbered (Some m) n = m == n

-- whether a drop is of injection n, and k among the BFR-ids that it lists
abbrev pub is_drop : ℕ → ℕ → DropLine → Bool
is_drop n k d = is_numbered d.injection n && has d.ids k

abbrev pub deliveries_of : ℕ → ℕ → List GotLine → ℕ
deliveries_of n k gots = tally (is_got n k) gots

abbrev pub drops_of : ℕ → ℕ → List DropLine → ℕ
drops_of n k drops = tally (is_drop n k) drops

-- ---- the ledger

-- what a run delivered and dropped so far
abbrev pub deliveries : ℕ → ℕ → Run → ℕ
deliveries n k r = deliveries_of n k (map (λ g. g.1) r.got)

abbrev pub drops : ℕ → ℕ → Run → ℕ
drops n k r = drops_of n k (map (λ d. d.1) r.drops)

-- the copies of injection n for k in flight, and its deliveries and drops so far
abbrev pub ledger : ℕ → ℕ → Run → ℕ
ledger n k r = copies_of n k r.world.flights + (deliveries n k r + drops n k r)

-- One event: the copies of injection n for k before it, and one more if the event is the injection n and names k, are
-- the copies after it and its deliveries and drops of n for k.
abbrev pub Balances : WorldState → Event → ℕ → ℕ → Type 0
Balances w e n k =
    copies_of n k w.flights + one_if (names (entered w.injections e n) k)
    ≡ copies_of n k (happens w e).world.flights
    + (deliveries_of n k (happens w e).made.got + drops_of n k (happens w e).made.drops)

-- ---- the injection of copies and deliveries

-- the triple of the packet of an injection that has k
abbrev pub triple_for : Injection → ℕ → Triple
triple_for i k = record { sd = i.sd; bsl = i.bsl; si = set_identifier (bits_of i.bsl) k }

-- a copy is one of this injection: it has its sub-domain, the set of each BFR-id that it has, its payload and its
-- entropy
pub record IsCopyOf (i : Injection) (x : DataItem) : Type 0 where
  pub sd : x.triple.sd ≡ i.sd
  pub triple : (k : ℕ) → has x.ids k ≡ true → x.triple ≡ triple_for i k
  pub payload : x.payload ≡ i.payload
  pub entropy : x.entropy ≡ i.entropy

-- a delivery is at a router whose own BFR-id in the injection's sub-domain is the one delivered, and has its payload
pub record IsDeliveryOf (confs : List RouterConf) (i : Injection) (g : GotLine) : Type 0 where
  pub router : RouterConf
  pub there : slice_get confs g.router ≡ Some router
  pub own : own_id router i.sd ≡ Some g.id
  pub payload : g.payload ≡ i.payload

abbrev pub IsOneOf : Injection → ℕ → Item → Type 0
IsOneOf i n (ControlItem p) = Unit {0}
IsOneOf i n (PacketItem x) = x.number ≡ n → IsCopyOf i x

-- all copies of injection n in flight are of that injection
abbrev pub AreCopiesOf : Injection → ℕ → List (List (List Item)) → Type 0
AreCopiesOf i n flights = (a link : ℕ) → AllByRecursion (IsOneOf i n) (queue_at flights a link)

-- and all deliveries of injection n are of that injection
abbrev pub AreDeliveriesOf : List RouterConf → Injection → ℕ → List GotLine → Type 0
AreDeliveriesOf confs i n gots = AllByRecursion (λ g. g.injection ≡ n → IsDeliveryOf confs i g) gots
