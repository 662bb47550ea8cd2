-- What an event of a round does to flags and queues where neighbors have the same sequence numbers.
use Rattle.std.proofs.Common.{◌≡◌, ◌⊎◌, inl, inr, ℕ, true, List, [], ◌∷◌, map, slice_get, slice_set, Some, refl, sym, subst}
use Rattle.std.specs.List.{AllByRecursion}
use Rattle.wire_base.specs.declared.cause.Cause.TheVariants as cause
use Rattle.wire_base.specs.model.Control.{Control}
use Rattle.wire_base.specs.model.Flooding.{on_pdu, send, send_of}
use Rattle.wire_base.specs.model.Item.{Item, ControlItem, PacketItem}
use Rattle.wire_base.specs.model.Pdu.{Pdu}
use Rattle.replay_text.specs.declared.event.Event.TheVariants.{Take, Send}
use Rattle.domain_model.specs.Moves.{Sending, item_lost, over_end, packet_taken, replied}
use Rattle.domain_model.specs.Step.{happens, makes, push_all, push_sending, taken_off}
use Rattle.domain_model.specs.World.{WorldState, is_up, link_between, queue_at}
use Rattle.domain_model.proofs.EachLaws.{each_got, each_mapped, each_weaker, fold_keeps}
use Rattle.domain_model.proofs.QueueLaws.{AllQueues, item_gone, item_pushed}
use Rattle.laws_settle.specs.Fresh.{IsFresh, IsItemOfJournal}
use Rattle.laws_settle.specs.Idle.{IsPacket}
use Rattle.laws_settle.proofs.ControlOwes.{pdu_silent}
use Rattle.laws_settle.proofs.EventCases.{after_send, after_take}
use Rattle.laws_settle.proofs.PacketSends.{taken_packets}

-- a PDU comes from the router a to the router b
pub record IsArrival (w : WorldState) (a b i : ℕ) (rs : List Control) : Type 0 where
  pub link : ℕ
  pub back : ℕ
  pub toward : link_between w.domain.routers a b ≡ Some link
  pub backward : link_between w.domain.routers b a ≡ Some back
  pub pdu : Pdu
  pub there : slice_get (queue_at w.flights a link) i ≡ Some (ControlItem pdu)
  pub router : Control
  pub at : slice_get w.routers b ≡ Some router
  pub up : is_up router back ≡ true
  pub routers : rs ≡ slice_set w.routers b (on_pdu router back pdu).control

-- the router a sends on its interface toward b
pub record IsSending (w : WorldState) (a b : ℕ) (rs : List Control) : Type 0 where
  pub link : ℕ
  pub toward : link_between w.domain.routers a b ≡ Some link
  pub router : Control
  pub at : slice_get w.routers a ≡ Some router
  pub routers : rs ≡ slice_set w.routers a (send router link).control

module _ (w : WorldState) where
  pub take_is : (a b i : ℕ) → ((happens w (Take a b i)).world.routers ≡ w.routers) ⊎ IsArrival w a b i (happens w (Take a b i)).world.routers
  unfolding happens
  take_is a b i =
      after_take w (λ n. (n.world.routers ≡ w.routers) ⊎ IsArrival w a b i n.world.routers) (inl refl) a b i
      (λ link back c p toward backward there at up. inr (record { link = link; back = back; toward = toward; backward = backward; pdu = p; there = there; router = c; at = at; up = up; routers = refl })) (λ link c y. inl refl) (λ link x. inl refl)

  pub send_is : (a b : ℕ) → ((happens w (Send a b)).world.routers ≡ w.routers) ⊎ IsSending w a b (happens w (Send a b)).world.routers
  unfolding happens
  send_is a b = after_send w (λ n. (n.world.routers ≡ w.routers) ⊎ IsSending w a b n.world.routers) (inl refl) a b (λ c link at toward. inr (record { link = link; toward = toward; router = c; at = at; routers = refl }))

-- ---- what is in flight

-- what holds of each under a premise
pub each_given : {X B : Type 0} (G : B → Type 0) (P : X → Type 0) (xs : List X) → ((b : B) → G b → AllByRecursion P xs) → AllByRecursion (λ x. (b : B) → G b → P x) xs
each_given G P [] all = tt
each_given G P (x ∷ xs) all = (λ b g. (all b g).0, each_given G P xs (λ b g. (all b g).1))

-- a property of frames that each packet has
module _ (P : ℕ → ℕ → Item → Type 0) where
  pushed : (flights : List (List (List Item))) (sendings : List Sending) → AllByRecursion (λ (s : Sending). P s.from s.link s.item) sendings → AllQueues P flights → AllQueues P (push_all flights sendings)
  pushed flights sendings all old = fold_keeps (AllQueues P) (λ (s : Sending). P s.from s.link s.item) push_sending (λ f s h k. item_pushed P f s.from s.link s.item h k) sendings flights all old

  -- so no PDU that is sent is new where a router receives
  module _ (packet : (a l : ℕ) (x : Item) → IsPacket x → P a l x) (w : WorldState) (fresh : IsFresh w) (all : AllQueues P w.flights) where
    lost : (a l i b : ℕ) (x : Item) → AllQueues P (makes (taken_off w a l i) (item_lost b cause.Link x)).world.flights
    lost a l i b (ControlItem p) = item_gone P w.flights a l i all
    lost a l i b (PacketItem y) = item_gone P w.flights a l i all

    pub take_flights : (a b i : ℕ) → AllQueues P (happens w (Take a b i)).world.flights
    unfolding happens
    take_flights a b i =
        after_take w (λ n. AllQueues P n.world.flights) all a b i
        (λ link back c p toward backward there at up.
        let told = each_got (IsItemOfJournal fresh.journal) (queue_at w.flights a link) i (ControlItem p) (fresh.journaled.items a link) there in
        subst (λ (ps : List Pdu). AllQueues P (push_all (taken_off w a link i).flights (map (λ q. over_end w.domain.routers b back (ControlItem q)) ps))) (sym (pdu_silent c back p fresh.journal told)) (item_gone P w.flights a link i all))
        (λ link c y. (let made = packet_taken w.domain.routers b c y y.outer in
        pushed (taken_off w a link i).flights made.sent (each_weaker (λ (s : Sending). IsPacket s.item) (λ (s : Sending). P s.from s.link s.item) (λ s h. packet s.from s.link s.item h) made.sent (taken_packets IsPacket (λ z. tt) w.domain.routers b c y)) (item_gone P w.flights a link i all)))
        (λ link x. lost a link i b x)

  sent_flights : (w : WorldState) → AllQueues P w.flights → (a : ℕ) (c : Control) (link : ℕ) → AllByRecursion (λ p. P a link (ControlItem p)) (send_of c link) → AllQueues P (push_all w.flights (replied w.domain.routers a link (send c link)).sent)
  unfolding send
  sent_flights w all a c link each = pushed w.flights (map (λ p. over_end w.domain.routers a link (ControlItem p)) (send_of c link)) (each_mapped (λ (s : Sending). P s.from s.link s.item) (λ p. over_end w.domain.routers a link (ControlItem p)) (send_of c link) each) all

  pub send_flights : (w : WorldState) → AllQueues P w.flights → (a b : ℕ) → ((c : Control) (link : ℕ) → slice_get w.routers a ≡ Some c → link_between w.domain.routers a b ≡ Some link → AllByRecursion (λ p. P a link (ControlItem p)) (send_of c link)) → AllQueues P (happens w (Send a b)).world.flights
  unfolding happens
  send_flights w all a b new = after_send w (λ n. AllQueues P n.world.flights) all a b (λ c link at toward. sent_flights w all a c link (new c link at toward))
