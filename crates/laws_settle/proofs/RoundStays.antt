-- Frames that stay in a queue when others are sent and received, and what traffic is.
use Rattle.std.proofs.Common.{◌≡◌, ℕ, Some}
use Rattle.std.specs.List.{remove}
use Rattle.wire_base.specs.declared.cause.Cause.TheVariants as cause
use Rattle.wire_base.specs.model.Control.{Control}
use Rattle.wire_base.specs.model.Flooding.{on_pdu, send}
use Rattle.wire_base.specs.model.Item.{Item}
use Rattle.replay_text.specs.declared.event.Event.{Event}
use Rattle.replay_text.specs.declared.event.Event.TheVariants.{Take, Send, Tick, Restart}
use Rattle.domain_model.specs.Moves.{item_lost, packet_taken, replied}
use Rattle.domain_model.specs.Step.{comes, happens, taken_off}
use Rattle.domain_model.specs.World.{WorldState, link_between, queue_at}
use Rattle.laws_settle.specs.Gentle.{IsGentle, IsTraffic}
use Rattle.laws_settle.proofs.EventCases.{after_coming, after_moving, after_send}
use Rattle.laws_settle.proofs.RoundQueues.{StandsAt, stays_apart, stays_sent}

-- ---- frames that stay in a queue

pub came_stays : (v : WorldState) (b back : ℕ) (c : Control) (item : Item) (x link i : ℕ) (z : Item) → StandsAt v.flights x link i z → StandsAt (comes v b back c item).world.flights x link i z
came_stays v b back c item x link i z at =
    after_coming v (λ n. StandsAt n.world.flights x link i z) b back c item (λ p is up. stays_sent (replied v.domain.routers b back (on_pdu c back p)).sent v.flights x link i z at)
    (λ y. stays_sent (packet_taken v.domain.routers b c y y.outer).sent v.flights x link i z at) (stays_sent (item_lost b cause.Link item).sent v.flights x link i z at)

pub take_stays : (w : WorldState) (a b j : ℕ) (x link i : ℕ) (z : Item) → ((l : ℕ) → link_between w.domain.routers a b ≡ Some l → a ≡ x → l ≡ link → ⊥) → StandsAt w.flights x link i z → StandsAt (happens w (Take a b j)).world.flights x link i z
unfolding happens
take_stays w a b j x link i z apart at =
    after_moving w (λ n. StandsAt n.world.flights x link i z) at a b j
    (λ l back c y toward backward there here. came_stays (taken_off w a l j) b back c y x link i z (stays_apart w.flights a l (remove (queue_at w.flights a l) j) x link i z (apart l toward) at))

pub send_stays : (w : WorldState) (a b : ℕ) (x link i : ℕ) (z : Item) → StandsAt w.flights x link i z → StandsAt (happens w (Send a b)).world.flights x link i z
unfolding happens
send_stays w a b x link i z at = after_send w (λ n. StandsAt n.world.flights x link i z) at a b (λ c l there toward. stays_sent (replied w.domain.routers a l (send c l)).sent w.flights x link i z at)

-- traffic is gentle
pub gentle_of : (w : WorldState) (e : Event) → IsTraffic e → IsGentle w e
gentle_of w (Tick a) of = absurd of
gentle_of w (Restart a) of = absurd of
gentle_of w other of = tt
