-- What an event does to copies of packets has one of four shapes: nothing moves; a copy is dropped as a whole; a copy comes to
-- a router; packets enter.
use Rattle.std.proofs.Common.{◌≡◌, ◌⊎◌, inl, inr, ℕ, ◌+◌, Bool, true, false, if◌then◌else◌, List, [], ◌∷◌, map, slice_get, Option, Some, None, refl}
use Rattle.std.specs.List.{AllByRecursion}
use Rattle.wire_base.specs.declared.bsl.Bsl.{Bsl}
use Rattle.wire_base.specs.declared.cause.Cause.{Cause}
use Rattle.wire_base.specs.declared.cause.Cause.TheVariants as cause
use Rattle.wire_base.specs.declared.conf.RouterConf.{RouterConf}
use Rattle.wire_base.specs.model.Control.{Control}
use Rattle.wire_base.specs.model.Flooding.{Reply, on_pdu, tick, send, end_up, end_down, relabel, leave, join, restart}
use Rattle.wire_base.specs.model.Item.{Item, ControlItem, PacketItem, DataItem}
use Rattle.wire_base.specs.model.Pdu.{Pdu}
use Rattle.replay_text.specs.declared.event.Event.{Event}
use Rattle.replay_text.specs.declared.event.Event.TheVariants.{Inject, Take, Lose, Again, Down, Up, Send, Tick, Restart, Relabel, Leave, Join}
use Rattle.domain_model.specs.declared.lines.DropLine.{DropLine}
use Rattle.domain_model.specs.World.{WorldState, is_up, link_between, queue_at, without_item}
use Rattle.domain_model.specs.Moves.{Sending, over_end, control_lost, item_lost, packet_taken, inject_made}
use Rattle.domain_model.specs.Step.{Happened, same_world, push_all, makes, replies, turns, taken_off, arrives, takes, takes_over, loses, loses_over, repeats, repeats_over, injects, changes_end, sends, changes, counted, happens}
use Rattle.domain_model.proofs.EachLaws.{each_from, each_mapped}
use Rattle.laws_ledger.specs.Ledger.{Injection, injection_of}

-- ---- nothing moves

abbrev pub IsControlItem : Item → Type 0
IsControlItem (ControlItem p) = Unit {0}
IsControlItem (PacketItem x) = ⊥

abbrev pub IsControlSending : Sending → Type 0
IsControlSending s = IsControlItem s.item

abbrev pub IsControlDrop : DropLine → Type 0
IsControlDrop d = (d.injection ≡ None) × (d.ids ≡ [])

-- a PDU that stood there is gone
pub record IsOff (flights before : List (List (List Item))) : Type 0 where
  pub from : ℕ
  pub link : ℕ
  pub i : ℕ
  pub pdu : Pdu
  pub at : slice_get (queue_at flights from link) i ≡ Some (ControlItem pdu)
  pub is : before ≡ without_item flights from link i

-- a PDU may be gone, and PDUs may have come; nothing is delivered, and no copy of a packet is dropped
pub record IsQuiet (w : WorldState) (n : Happened) : Type 0 where
  pub before : List (List (List Item))
  pub off : (before ≡ w.flights) ⊎ IsOff w.flights before
  pub pushed : List Sending
  pub controls : AllByRecursion IsControlSending pushed
  pub flights : n.world.flights ≡ push_all before pushed
  pub sent : AllByRecursion IsControlSending n.made.sent
  pub got : n.made.got ≡ []
  pub drops : AllByRecursion IsControlDrop n.made.drops
  pub domain : n.world.domain ≡ w.domain
  pub injections : n.world.injections ≡ w.injections

-- ---- something moves

-- why a whole copy, at place i of what is on the way from a to b, is dropped at b
abbrev pub IsEndedBy : WorldState → Event → ℕ → ℕ → ℕ → Cause → Type 0
IsEndedBy w e a b i cause.Lost = e ≡ Lose a b i
IsEndedBy w e a b i cause.Link = (e ≡ Take a b i) × (c : Control) × (slice_get w.routers b ≡ Some c) × (back : ℕ) × (link_between w.domain.routers b a ≡ Some back) × (is_up c back ≡ false)
IsEndedBy w e a b i why = ⊥

pub record IsDropped (w : WorldState) (e : Event) (n : Happened) : Type 0 where
  pub from : ℕ
  pub to : ℕ
  pub link : ℕ
  pub joined : link_between w.domain.routers from to ≡ Some link
  pub i : ℕ
  pub item : DataItem
  pub at : slice_get (queue_at w.flights from link) i ≡ Some (PacketItem item)
  pub why : Cause
  pub how : IsEndedBy w e from to i why
  pub is : n ≡ counted (makes (taken_off w from link i) (item_lost to why (PacketItem item)))

-- a copy comes to a router over an end that is up
pub record IsTaken (w : WorldState) (e : Event) (n : Happened) : Type 0 where
  pub from : ℕ
  pub to : ℕ
  pub link : ℕ
  pub joined : link_between w.domain.routers from to ≡ Some link
  pub i : ℕ
  pub item : DataItem
  pub at : slice_get (queue_at w.flights from link) i ≡ Some (PacketItem item)
  pub event : e ≡ Take from to i
  pub router : Control
  pub there : slice_get w.routers to ≡ Some router
  pub is : n ≡ counted (makes (taken_off w from link i) (packet_taken w.domain.routers to router item item.outer))

-- packets enter at a router
pub record IsEntered (w : WorldState) (e : Event) (n : Happened) : Type 0 where
  pub injection : Injection
  pub event : injection_of e ≡ Some injection
  pub router : Control
  pub there : slice_get w.routers injection.router ≡ Some router
  pub is : n ≡ counted (makes (record w { injections = w.injections + 1 }) (inject_made w.domain.routers injection.router router (w.injections + 1) injection.sd injection.bsl injection.ids injection.ttl injection.entropy injection.payload))

-- an injection where there is no router
abbrev IsNowhere : WorldState → Event → Type 0
IsNowhere w e = (i : Injection) × (injection_of e ≡ Some i) × (slice_get w.routers i.router ≡ None)

pub data Shape (w : WorldState) (e : Event) (n : Happened) : Type 0 where
  Quiet : IsQuiet w n → ((injection_of e ≡ None) ⊎ IsNowhere w e) → Shape w e n
  Dropped : IsDropped w e n → injection_of e ≡ None → Shape w e n
  Taken : IsTaken w e n → injection_of e ≡ None → Shape w e n
  Entered : IsEntered w e n → Shape w e n

-- ---- each event has one

same_quiet : (w : WorldState) → IsQuiet w (counted (same_world w))
same_quiet w = record { before = w.flights; off = inl refl; pushed = []; controls = tt; flights = refl; sent = tt; got = refl; drops = tt; domain = refl; injections = refl }

turned_quiet : (w : WorldState) (a : ℕ) (r : Reply) → IsQuiet w (counted (turns w a r))
turned_quiet w a r = record { before = w.flights; off = inl refl; pushed = []; controls = tt; flights = refl; sent = tt; got = refl; drops = tt; domain = refl; injections = refl }

replied_sent : (confs : List RouterConf) (a link : ℕ) (ps : List Pdu) → AllByRecursion IsControlSending (map (λ p. over_end confs a link (ControlItem p)) ps)
replied_sent confs a link ps = each_mapped IsControlSending (λ p. over_end confs a link (ControlItem p)) ps (each_from (λ p. Unit {0}) (λ p. tt) ps)

replied_drops : (a : ℕ) (causes : List Cause) → AllByRecursion IsControlDrop (map (control_lost a) causes)
replied_drops a causes = each_mapped IsControlDrop (control_lost a) causes (each_from (λ why. IsControlDrop (control_lost a why)) (λ why. (refl, refl)) causes)

-- a router answers, after a PDU may have gone
replied_quiet : (w v : WorldState) (a link : ℕ) (r : Reply) → ((v.flights ≡ w.flights) ⊎ IsOff w.flights v.flights) → v.domain ≡ w.domain → v.injections ≡ w.injections → IsQuiet w (counted (replies v a link r))
replied_quiet w v a link r off domain injections =
    record {
      before = v.flights;
      off = off;
      pushed = map (λ p. over_end v.domain.routers a link (ControlItem p)) r.sent;
      controls = replied_sent v.domain.routers a link r.sent;
      flights = refl;
      sent = replied_sent v.domain.routers a link r.sent;
      got = refl;
      drops = replied_drops a r.drops;
      domain = domain;
      injections = injections;
    }

module _ (w : WorldState) where
  gone_off : (a link i : ℕ) (p : Pdu) → slice_get (queue_at w.flights a link) i ≡ Some (ControlItem p) → IsOff w.flights (without_item w.flights a link i)
  gone_off a link i p e = record { from = a; link = link; i = i; pdu = p; at = e; is = refl }

  -- a PDU is dropped as a whole
  gone_quiet : (a link b i : ℕ) (why : Cause) (p : Pdu) → slice_get (queue_at w.flights a link) i ≡ Some (ControlItem p) → IsQuiet w (counted (makes (taken_off w a link i) (item_lost b why (ControlItem p))))
  gone_quiet a link b i why p e = record { before = without_item w.flights a link i; off = inr (gone_off a link i p e); pushed = []; controls = tt; flights = refl; sent = tt; got = refl; drops = ((refl, refl), tt); domain = refl; injections = refl }

  comes_shape : (a b link back i : ℕ) (c : Control) (x : Item) → link_between w.domain.routers a b ≡ Some link → link_between w.domain.routers b a ≡ Some back → slice_get (queue_at w.flights a link) i ≡ Some x → slice_get w.routers b ≡ Some c
      → (u : Bool) → is_up c back ≡ u → Shape w (Take a b i) (counted (if u then arrives (taken_off w a link i) b back c x else makes (taken_off w a link i) (item_lost b cause.Link x)))
  comes_shape a b link back i c (ControlItem p) joined turned at there true up = Quiet (replied_quiet w (taken_off w a link i) b back (on_pdu c back p) (inr (gone_off a link i p at)) refl refl) (inl refl)
  comes_shape a b link back i c (ControlItem p) joined turned at there false up = Quiet (gone_quiet a link b i cause.Link p at) (inl refl)
  comes_shape a b link back i c (PacketItem x) joined turned at there true up = Taken (record { from = a; to = b; link = link; joined = joined; i = i; item = x; at = at; event = refl; router = c; there = there; is = refl }) refl
  comes_shape a b link back i c (PacketItem x) joined turned at there false up =
      Dropped (record { from = a; to = b; link = link; joined = joined; i = i; item = x; at = at; why = cause.Link; how = (refl, c, there, back, turned, up); is = refl }) refl

  takes_shape : (a b link back i : ℕ) (o : Option Item) (q : Option Control) → link_between w.domain.routers a b ≡ Some link → link_between w.domain.routers b a ≡ Some back → slice_get (queue_at w.flights a link) i ≡ o → slice_get w.routers b ≡ q → Shape w (Take a b i) (counted (takes w a link b back i o q))
  takes_shape a b link back i None q joined turned at there = Quiet (same_quiet w) (inl refl)
  takes_shape a b link back i (Some x) None joined turned at there = Quiet (same_quiet w) (inl refl)
  takes_shape a b link back i (Some x) (Some c) joined turned at there = comes_shape a b link back i c x joined turned at there (is_up c back) refl

  take_shape : (a b i : ℕ) (l m : Option ℕ) → link_between w.domain.routers a b ≡ l → link_between w.domain.routers b a ≡ m → Shape w (Take a b i) (counted (takes_over w a b i l m))
  take_shape a b i None m e f = Quiet (same_quiet w) (inl refl)
  take_shape a b i (Some link) None e f = Quiet (same_quiet w) (inl refl)
  take_shape a b i (Some link) (Some back) e f = takes_shape a b link back i (slice_get (queue_at w.flights a link) i) (slice_get w.routers b) e f refl refl

  loses_shape : (a b link i : ℕ) (o : Option Item) → link_between w.domain.routers a b ≡ Some link → slice_get (queue_at w.flights a link) i ≡ o → Shape w (Lose a b i) (counted (loses w a link b i o))
  loses_shape a b link i None e f = Quiet (same_quiet w) (inl refl)
  loses_shape a b link i (Some (ControlItem p)) e f = Quiet (gone_quiet a link b i cause.Lost p f) (inl refl)
  loses_shape a b link i (Some (PacketItem x)) e f = Dropped (record { from = a; to = b; link = link; joined = e; i = i; item = x; at = f; why = cause.Lost; how = refl; is = refl }) refl

  lose_shape : (a b i : ℕ) (l : Option ℕ) → link_between w.domain.routers a b ≡ l → Shape w (Lose a b i) (counted (loses_over w a b i l))
  lose_shape a b i None e = Quiet (same_quiet w) (inl refl)
  lose_shape a b i (Some link) e = loses_shape a b link i (slice_get (queue_at w.flights a link) i) e refl

  again_quiet : (a i : ℕ) (l : Option ℕ) → IsQuiet w (counted (repeats_over w a i l))
  again_quiet a i None = same_quiet w
  again_quiet a i (Some link) = by (slice_get (queue_at w.flights a link) i)
    where
      by : (o : Option Item) → IsQuiet w (counted (repeats w a link o))
      by None = same_quiet w
      by (Some (PacketItem x)) = same_quiet w
      by (Some (ControlItem p)) = record { before = w.flights; off = inl refl; pushed = over_end w.domain.routers a link (ControlItem p) ∷ []; controls = (tt, tt); flights = refl; sent = tt; got = refl; drops = tt; domain = refl; injections = refl }

  end_quiet : (a : ℕ) (change : Control → ℕ → Reply) (q : Option Control) (l : Option ℕ) → IsQuiet w (counted (changes_end w a change q l))
  end_quiet a change None l = same_quiet w
  end_quiet a change (Some c) None = same_quiet w
  end_quiet a change (Some c) (Some link) = turned_quiet w a (change c link)

  send_quiet : (a : ℕ) (q : Option Control) (l : Option ℕ) → IsQuiet w (counted (sends w a q l))
  send_quiet a None l = same_quiet w
  send_quiet a (Some c) None = same_quiet w
  send_quiet a (Some c) (Some link) = replied_quiet w w a link (send c link) (inl refl) refl refl

  change_quiet : (a : ℕ) (change : Control → Reply) (q : Option Control) → IsQuiet w (counted (changes w a change q))
  change_quiet a change None = same_quiet w
  change_quiet a change (Some c) = turned_quiet w a (change c)

  inject_shape : (a sd : ℕ) (bsl : Bsl) (ks : List ℕ) (ttl entropy : ℕ) (payload : List ℕ) (q : Option Control) → slice_get w.routers a ≡ q
      → Shape w (Inject a sd bsl ks ttl entropy payload) (counted (injects w a (λ c. inject_made w.domain.routers a c (w.injections + 1) sd bsl ks ttl entropy payload) q))
  inject_shape a sd bsl ks ttl entropy payload None e = Quiet (same_quiet w) (inr (record { router = a; sd = sd; bsl = bsl; ids = ks; ttl = ttl; entropy = entropy; payload = payload }, refl, e))
  inject_shape a sd bsl ks ttl entropy payload (Some c) e =
      Entered (record { injection = record { router = a; sd = sd; bsl = bsl; ids = ks; ttl = ttl; entropy = entropy; payload = payload }; event = refl; router = c; there = e; is = refl })

  pub shape_of : (e : Event) → Shape w e (happens w e)
  unfolding happens
  shape_of (Inject a sd bsl ks ttl entropy payload) = inject_shape a sd bsl ks ttl entropy payload (slice_get w.routers a) refl
  shape_of (Take a b i) = take_shape a b i (link_between w.domain.routers a b) (link_between w.domain.routers b a) refl refl
  shape_of (Lose a b i) = lose_shape a b i (link_between w.domain.routers a b) refl
  shape_of (Again a b i) = Quiet (again_quiet a i (link_between w.domain.routers a b)) (inl refl)
  shape_of (Down a b) = Quiet (end_quiet a end_down (slice_get w.routers a) (link_between w.domain.routers a b)) (inl refl)
  shape_of (Up a b) = Quiet (end_quiet a end_up (slice_get w.routers a) (link_between w.domain.routers a b)) (inl refl)
  shape_of (Send a b) = Quiet (send_quiet a (slice_get w.routers a) (link_between w.domain.routers a b)) (inl refl)
  shape_of (Tick a) = Quiet (change_quiet a tick (slice_get w.routers a)) (inl refl)
  shape_of (Restart a) = Quiet (change_quiet a restart (slice_get w.routers a)) (inl refl)
  shape_of (Relabel a sd bsl label) = Quiet (change_quiet a (λ c. relabel c sd bsl label) (slice_get w.routers a)) (inl refl)
  shape_of (Leave a sd) = Quiet (change_quiet a (λ c. leave c sd) (slice_get w.routers a)) (inl refl)
  shape_of (Join a sd) = Quiet (change_quiet a (λ c. join c sd) (slice_get w.routers a)) (inl refl)
