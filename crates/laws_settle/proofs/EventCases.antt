-- What holds after an event, by what the event does: nothing, or something to a frame in flight or at a router.
use Rattle.std.proofs.Common.{◌≡◌, ℕ, ◌+◌, Bool, true, false, if◌then◌else◌, slice_get, Option, Some, None, refl, ap, ◌∙◌}
use Rattle.wire_base.specs.declared.cause.Cause.TheVariants as cause
use Rattle.wire_base.specs.model.Control.{Control}
use Rattle.wire_base.specs.model.Flooding.{Reply, on_pdu, send}
use Rattle.wire_base.specs.model.Item.{DataItem, Item, ControlItem, PacketItem}
use Rattle.wire_base.specs.model.Pdu.{Pdu}
use Rattle.replay_text.specs.declared.event.Event.TheVariants.{Take, Lose, Again, Send}
use Rattle.domain_model.specs.Moves.{Made, item_lost, packet_taken}
use Rattle.domain_model.specs.Step.{Happened, arrives, changes, changes_end, comes, doing, injects, loses, loses_over, makes, repeats, repeats_over, replies, same_world, sends, taken_off, takes, takes_over, turns}
use Rattle.domain_model.specs.World.{WorldState, is_up, link_between, push_item, queue_at}

-- an item comes to an interface of a router
pub after_coming : (w : WorldState) (Q : Happened → Type 0) (b back : ℕ) (c : Control) (x : Item) → ((p : Pdu) → x ≡ ControlItem p → is_up c back ≡ true → Q (replies w b back (on_pdu c back p))) → ((y : DataItem) → Q (makes w (packet_taken w.domain.routers b c y y.outer)))
    → Q (makes w (item_lost b cause.Link x)) → Q (comes w b back c x)
after_coming w Q b back c x pdu packet lost = by (is_up c back) refl
  where
    arrived : (y : Item) → x ≡ y → is_up c back ≡ true → Q (arrives w b back c y)
    arrived (ControlItem p) is up = pdu p is up
    arrived (PacketItem y) is up = packet y

    by : (u : Bool) → is_up c back ≡ u → Q (if u then arrives w b back c x else makes w (item_lost b cause.Link x))
    by true up = arrived x refl up
    by false down = lost

module _ (w : WorldState) (Q : Happened → Type 0) (same : Q (same_world w)) where
  -- an item comes to the router at its other end, or does not
  pub after_moving : (a b i : ℕ)
      → ((link back : ℕ) (c : Control) (x : Item) → link_between w.domain.routers a b ≡ Some link → link_between w.domain.routers b a ≡ Some back → slice_get (queue_at w.flights a link) i ≡ Some x → slice_get w.routers b ≡ Some c → Q (comes (taken_off w a link i) b back c x))
      → Q (doing w (Take a b i))
  after_moving a b i come = over (link_between w.domain.routers a b) refl (link_between w.domain.routers b a) refl
    where
      item : (link back : ℕ) → link_between w.domain.routers a b ≡ Some link → link_between w.domain.routers b a ≡ Some back → (o : Option Item) → slice_get (queue_at w.flights a link) i ≡ o → (q : Option Control) → slice_get w.routers b ≡ q → Q (takes w a link b back i o q)
      item link back toward backward None there q at = same
      item link back toward backward (Some x) there None at = same
      item link back toward backward (Some x) there (Some c) at = come link back c x toward backward there at

      over : (l : Option ℕ) → link_between w.domain.routers a b ≡ l → (m : Option ℕ) → link_between w.domain.routers b a ≡ m → Q (takes_over w a b i l m)
      over None toward m backward = same
      over (Some link) toward None backward = same
      over (Some link) toward (Some back) backward = item link back toward backward (slice_get (queue_at w.flights a link) i) refl (slice_get w.routers b) refl

  -- a router receives a PDU or a packet, or drops what comes
  pub after_take : (a b i : ℕ)
      → ((link back : ℕ) (c : Control) (p : Pdu) → link_between w.domain.routers a b ≡ Some link → link_between w.domain.routers b a ≡ Some back → slice_get (queue_at w.flights a link) i ≡ Some (ControlItem p) → slice_get w.routers b ≡ Some c → is_up c back ≡ true → Q (replies (taken_off w a link i) b back (on_pdu c back p)))
      → ((link : ℕ) (c : Control) (y : DataItem) → Q (makes (taken_off w a link i) (packet_taken w.domain.routers b c y y.outer)))
      → ((link : ℕ) (x : Item) → Q (makes (taken_off w a link i) (item_lost b cause.Link x)))
      → Q (doing w (Take a b i))
  after_take a b i pdu packet lost = after_moving a b i (λ link back c x toward backward there at. after_coming (taken_off w a link i) Q b back c x (λ p is up. pdu link back c p toward backward (there ∙ ap (λ (z : Item). Some z) is) at up) (packet link c) (lost link x))

  pub after_lose : (a b i : ℕ) → ((link : ℕ) (x : Item) → Q (makes (taken_off w a link i) (item_lost b cause.Lost x))) → Q (doing w (Lose a b i))
  after_lose a b i lost = over (link_between w.domain.routers a b)
    where
      item : (link : ℕ) (o : Option Item) → Q (loses w a link b i o)
      item link None = same
      item link (Some x) = lost link x

      over : (l : Option ℕ) → Q (loses_over w a b i l)
      over None = same
      over (Some link) = item link (slice_get (queue_at w.flights a link) i)

  pub after_again : (a b i : ℕ) → ((link : ℕ) (p : Pdu) → slice_get (queue_at w.flights a link) i ≡ Some (ControlItem p) → Q (same_world (record w { flights = push_item w.flights a link (ControlItem p) }))) → Q (doing w (Again a b i))
  after_again a b i again = over (link_between w.domain.routers a b)
    where
      item : (link : ℕ) (o : Option Item) → slice_get (queue_at w.flights a link) i ≡ o → Q (repeats w a link o)
      item link (Some (ControlItem p)) there = again link p there
      item link other there = same

      over : (l : Option ℕ) → Q (repeats_over w a i l)
      over None = same
      over (Some link) = item link (slice_get (queue_at w.flights a link) i) refl

  -- ---- what a router does by itself

  module _ (a : ℕ) where
    pub after_inject : (enter : Control → Made) → ((c : Control) → Q (makes (record w { injections = w.injections + 1 }) (enter c))) → Q (injects w a enter (slice_get w.routers a))
    after_inject enter entered = by (slice_get w.routers a)
      where
        by : (q : Option Control) → Q (injects w a enter q)
        by None = same
        by (Some c) = entered c

    pub after_change : (change : Control → Reply) → ((c : Control) → slice_get w.routers a ≡ Some c → Q (turns w a (change c))) → Q (changes w a change (slice_get w.routers a))
    after_change change changed = by (slice_get w.routers a) refl
      where
        by : (q : Option Control) → slice_get w.routers a ≡ q → Q (changes w a change q)
        by None at = same
        by (Some c) at = changed c at

    module _ (b : ℕ) where
      pub after_end : (change : Control → ℕ → Reply) → ((c : Control) (link : ℕ) → slice_get w.routers a ≡ Some c → link_between w.domain.routers a b ≡ Some link → Q (turns w a (change c link)))
          → Q (changes_end w a change (slice_get w.routers a) (link_between w.domain.routers a b))
      after_end change changed = by (slice_get w.routers a) refl (link_between w.domain.routers a b) refl
        where
          by : (q : Option Control) → slice_get w.routers a ≡ q → (l : Option ℕ) → link_between w.domain.routers a b ≡ l → Q (changes_end w a change q l)
          by None at l toward = same
          by (Some c) at None toward = same
          by (Some c) at (Some link) toward = changed c link at toward

      pub after_send : ((c : Control) (link : ℕ) → slice_get w.routers a ≡ Some c → link_between w.domain.routers a b ≡ Some link → Q (replies w a link (send c link))) → Q (doing w (Send a b))
      after_send sent = by (slice_get w.routers a) refl (link_between w.domain.routers a b) refl
        where
          by : (q : Option Control) → slice_get w.routers a ≡ q → (l : Option ℕ) → link_between w.domain.routers a b ≡ l → Q (sends w a q l)
          by None at l toward = same
          by (Some c) at None toward = same
          by (Some c) at (Some link) toward = sent c link at toward
