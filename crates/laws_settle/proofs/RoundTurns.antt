-- A frame that is in flight over a link when the routers receive in a round arrives in that round.
use Rattle.std.proofs.Common.{◌≡◌, ◌⊎◌, inl, inr, ℕ, zero, suc, ◌<◌, ◌==◌, Bool, true, false, List, [], ◌∷◌, ◌++◌, length, map, replicate, slice_get, Option, Some, None, refl, sym, ap, subst, ◌∙◌, arith}
use Rattle.std.specs.List.{AllByRecursion}
use Rattle.std.proofs.lemmas.Bool.{eqb-false, eqb-true}
use Rattle.wire_base.specs.model.Configuration.{DomainConf}
use Rattle.wire_base.specs.model.Control.{Control}
use Rattle.wire_base.specs.model.Item.{Item}
use Rattle.replay_text.specs.declared.event.Event.{Event}
use Rattle.replay_text.specs.declared.event.Event.TheVariants.{Take, Send}
use Rattle.domain_model.specs.Faults.{event_fault}
use Rattle.domain_model.specs.Run.{Direction, directions, round_events, round_sends, round_takes, taken_now, world_after}
use Rattle.domain_model.specs.Step.{Happened, comes, doing, happens, taken_off, takes, takes_over}
use Rattle.domain_model.specs.Truth.{EventFits, IsTruthful}
use Rattle.domain_model.specs.World.{WorldState, frames_between, link_between, peer_place, queue_at, queue_over}
use Rattle.domain_model.proofs.EachLaws.{each_joined, each_repeated}
use Rattle.domain_model.proofs.LinkLaws.{peer_is}
use Rattle.domain_model.proofs.QueueLaws.{got_within}
use Rattle.laws_ledger.specs.Runs.{AreAllowed}
use Rattle.laws_settle.proofs.RoundQueues.{HasOne, StandsAt, steps_forward}
use Rattle.laws_settle.proofs.RoundStays.{came_stays, send_stays, take_stays}

-- ---- lists of events

pub world_joined : (es fs : List Event) (w : WorldState) → world_after w (es ++ fs) ≡ world_after (world_after w es) fs
world_joined [] fs w = refl
world_joined (e ∷ es) fs w = world_joined es fs (happens w e).world

pub allowed_parts : (es fs : List Event) (w : WorldState) → AreAllowed w (es ++ fs) → AreAllowed w es × AreAllowed (world_after w es) fs
allowed_parts [] fs w all = (tt, all)
allowed_parts (e ∷ es) fs w all = let rest = allowed_parts es fs (happens w e).world all.2 in ((all.0, all.1, rest.0), rest.1)

abbrev pub send_event : Direction → Event
send_event s = Send s.from s.to

-- what holds of each frame that is sent, or received
pub sends_are : (P : Event → Type 0) → ((a b : ℕ) → P (Send a b)) → (ds : List Direction) → AllByRecursion P (map send_event ds)
sends_are P each [] = tt
sends_are P each (s ∷ ds) = (each s.from s.to, sends_are P each ds)

pub takes_are : (P : Event → Type 0) → ((a b i : ℕ) → P (Take a b i)) → (ds : List Direction) (w : WorldState) → AllByRecursion P (round_takes w ds)
takes_are P each [] w = tt
takes_are P each (s ∷ ds) w = each_joined P (taken_now w s) (round_takes (world_after w (taken_now w s)) ds) (each_repeated P (length (frames_between w s.from s.to)) (Take s.from s.to 0) (each s.from s.to 0)) (takes_are P each ds (world_after w (taken_now w s)))

-- a round: all send, and then all receive
pub in_round : (P : WorldState → Type 0) (w : WorldState) → AreAllowed w (round_events w)
    → (AreAllowed w (round_sends w) → AreAllowed (world_after w (round_sends w)) (round_takes (world_after w (round_sends w)) (directions w.domain.routers)) → P (world_after (world_after w (round_sends w)) (round_takes (world_after w (round_sends w)) (directions w.domain.routers))))
    → P (world_after w (round_events w))
unfolding round_events
in_round P w allowed holds =
    let takes = round_takes (world_after w (round_sends w)) (directions w.domain.routers) in
    let parts = allowed_parts (round_sends w) takes w allowed in
    subst P (sym (world_joined (round_sends w) takes w)) (holds parts.0 parts.1)

-- ---- one link

-- the interface `link` of x leads to y, whose interface `back` leads to x
pub record IsLink (d : DomainConf) (x y link back : ℕ) : Type 0 where
  pub toward : link_between d.routers x y ≡ Some link
  pub backward : link_between d.routers y x ≡ Some back

-- a direction from x over its interface to y
pub record IsAlong (x y link : ℕ) (s : Direction) : Type 0 where
  pub from : s.from ≡ x
  pub over : s.link ≡ link
  pub to : s.to ≡ y

-- one of the first m frames from x to y
pub record IsOnWay (x link : ℕ) (Z : Item → Type 0) (m : ℕ) (w : WorldState) : Type 0 where
  pub at : ℕ
  pub before : at < m
  pub item : Item
  pub there : StandsAt w.flights x link at item
  pub is : Z item

-- what the routers send leaves it there
pub sends_leave : (x link : ℕ) (Z : Item → Type 0) (ds : List Direction) (w : WorldState) (m : ℕ) → IsOnWay x link Z m w → IsOnWay x link Z m (world_after w (map send_event ds))
sends_leave x link Z [] w m o = o
sends_leave x link Z (s ∷ ds) w m o =
    sends_leave x link Z ds (happens w (Send s.from s.to)).world m (record { at = o.at; before = o.before; item = o.item; there = send_stays w s.from s.to x link o.at o.item o.there; is = o.is })

-- what is known of a world in which y is a router
pub record IsHere (d : DomainConf) (y : ℕ) (w : WorldState) : Type 0 where
  pub truth : IsTruthful w
  pub domain : w.domain ≡ d
  pub router : Control
  pub there : slice_get w.routers y ≡ Some router

-- the first frame from x comes to y
pub taking_is : (x y link back : ℕ) (w : WorldState) → link_between w.domain.routers x y ≡ Some link → link_between w.domain.routers y x ≡ Some back → (item : Item) (c : Control)
    → slice_get (queue_at w.flights x link) 0 ≡ Some item → slice_get w.routers y ≡ Some c → doing w (Take x y 0) ≡ comes (taken_off w x link 0) y back c item
taking_is x y link back w toward backward item c there at =
    ap (λ (o : Option ℕ). takes_over w x y 0 o (link_between w.domain.routers y x)) toward
    ∙ ap (takes_over w x y 0 (Some link)) backward
    ∙ ap (λ (o : Option Item). takes w x link y back 0 o (slice_get w.routers y)) there
    ∙ ap (takes w x link y back 0 (Some item)) at

-- Events keep Keeps, frames that y receives keep Got, and the arrival of a frame of which Z holds makes it.
module _ (d : DomainConf) (x y link back : ℕ) (joined : IsLink d x y link back) (Z : Item → Type 0) (Keeps Got : WorldState → Type 0)
    (keeps : (w : WorldState) (a b i : ℕ) → EventFits (length w.domain.routers) (Take a b i) → event_fault w (Take a b i) ≡ None → Keeps w → Keeps (happens w (Take a b i)).world)
    (here : (w : WorldState) → Keeps w → IsHere d y w)
    (stays : (w : WorldState) (a b i : ℕ) → Keeps w → Got w → Got (happens w (Take a b i)).world)
    (arrives_ : (w : WorldState) (z : Item) → Keeps w → Z z → slice_get (queue_at w.flights x link) 0 ≡ Some z → Got (happens w (Take x y 0)).world) where
  abbrev Reaches : ℕ → WorldState → Type 0
  Reaches m w = Got w ⊎ IsOnWay x link Z m w

  turn_keeps : (k a b : ℕ) (w : WorldState) → AreAllowed w (replicate k (Take a b 0)) → Keeps w → Keeps (world_after w (replicate k (Take a b 0)))
  turn_keeps zero a b w allowed kept = kept
  turn_keeps (suc k) a b w allowed kept = turn_keeps k a b (happens w (Take a b 0)).world allowed.2 (keeps w a b 0 allowed.0 allowed.1 kept)

  toward_here : (w : WorldState) → Keeps w → link_between w.domain.routers x y ≡ Some link
  toward_here w k = ap (λ (c : DomainConf). link_between c.routers x y) (here w k).domain ∙ joined.toward

  peer_here : (w : WorldState) → Keeps w → peer_place w.domain.routers x link ≡ y
  peer_here w k = peer_is w.domain.routers (here w k).truth.valid.consistent.systems x y link (toward_here w k)

  -- ---- the next frame from x arrives at y

  -- those behind it move up
  moves_up : (w : WorldState) → Keeps w → (i : ℕ) (z : Item) → StandsAt w.flights x link (suc i) z → StandsAt (happens w (Take x y 0)).world.flights x link i z
  unfolding happens
  moves_up w k i z at =
      let u = here w k in
      let f = first (queue_at w.flights x link) at in
      subst (λ (h : Happened). StandsAt h.world.flights x link i z) (sym (taking_is x y link back w (toward_here w k) (ap (λ (c : DomainConf). link_between c.routers y x) u.domain ∙ joined.backward) f.0 u.router f.1 u.there))
      (came_stays (taken_off w x link 0) y back u.router f.0 x link i z (steps_forward w.flights x link i z at))
    where
      first : (queue : List Item) → slice_get queue (suc i) ≡ Some z → (item : Item) × (slice_get queue 0 ≡ Some item)
      first [] e = cc
      first (item ∷ queue) e = (item, refl)

  own_step : (w : WorldState) (m : ℕ) → Keeps w → Reaches (suc m) w → Reaches m (happens w (Take x y 0)).world
  own_step w m k (inl got) = inl (stays w x y 0 k got)
  own_step w m k (inr o) = by o.at o.before o.there
    where
      by : (i : ℕ) → i < suc m → StandsAt w.flights x link i o.item → Reaches m (happens w (Take x y 0)).world
      by zero low there = inl (arrives_ w o.item k o.is there)
      by (suc i) low there = inr (record { at = i; before = omega (arith, low); item = o.item; there = moves_up w k i o.item there; is = o.is })

  own_turn : (k : ℕ) (w : WorldState) → AreAllowed w (replicate k (Take x y 0)) → Keeps w → Reaches k w → Got (world_after w (replicate k (Take x y 0)))
  own_turn zero w allowed kept (inl got) = got
  own_turn zero w allowed kept (inr o) = absurd (let low = o.before in omega (arith, low))
  own_turn (suc k) w allowed kept h = own_turn k (happens w (Take x y 0)).world allowed.2 (keeps w x y 0 allowed.0 allowed.1 kept) (own_step w k kept h)

  -- ---- frames of another direction

  other_turn : (k a b m : ℕ) (w : WorldState) → (a ≡ x → b ≡ y → ⊥) → AreAllowed w (replicate k (Take a b 0)) → Keeps w → Reaches m w → Reaches m (world_after w (replicate k (Take a b 0)))
  other_turn zero a b m w apart allowed kept h = h
  other_turn (suc k) a b m w apart allowed kept h = other_turn k a b m (happens w (Take a b 0)).world apart allowed.2 (keeps w a b 0 allowed.0 allowed.1 kept) (one h)
    where
      elsewhere : (l : ℕ) → link_between w.domain.routers a b ≡ Some l → a ≡ x → l ≡ link → ⊥
      elsewhere l between from same =
          let far : peer_place w.domain.routers a l ≡ b = peer_is w.domain.routers (here w kept).truth.valid.consistent.systems a b l between in
          apart from (sym far ∙ ap (λ (n : ℕ). peer_place w.domain.routers n l) from ∙ ap (peer_place w.domain.routers x) same ∙ peer_here w kept)

      one : Reaches m w → Reaches m (happens w (Take a b 0)).world
      one (inl got) = inl (stays w a b 0 kept got)
      one (inr o) = inr (record { at = o.at; before = o.before; item = o.item; there = take_stays w a b 0 x link o.at o.item elsewhere o.there; is = o.is })

  -- ---- all that stands there when its turn comes

  whole_turn : (m : ℕ) (w : WorldState) → AreAllowed w (replicate (length (frames_between w x y)) (Take x y 0)) → Keeps w → Reaches m w → Got (world_after w (replicate (length (frames_between w x y)) (Take x y 0)))
  whole_turn m w allowed kept h = own_turn (length (frames_between w x y)) w allowed kept (within h)
    where
      within : Reaches m w → Reaches (length (frames_between w x y)) w
      within (inl got) = inl got
      within (inr o) =
          let low = got_within (queue_at w.flights x link) o.at o.item o.there in
          let same : length (frames_between w x y) ≡ length (queue_at w.flights x link) = ap (λ (l : Option ℕ). length (queue_over w.flights x l)) (toward_here w kept) in
          inr (record { at = o.at; before = omega (arith, low, same); item = o.item; there = o.there; is = o.is })

  turn_stays : (k a b : ℕ) (w : WorldState) → AreAllowed w (replicate k (Take a b 0)) → Keeps w → Got w → Got (world_after w (replicate k (Take a b 0)))
  turn_stays zero a b w allowed kept got = got
  turn_stays (suc k) a b w allowed kept got = turn_stays k a b (happens w (Take a b 0)).world allowed.2 (keeps w a b 0 allowed.0 allowed.1 kept) (stays w a b 0 kept got)

  after_turn : (s : Direction) (w : WorldState) → AreAllowed w (taken_now w s) → Keeps w → Keeps (world_after w (taken_now w s))
  after_turn s w allowed kept = turn_keeps (length (frames_between w s.from s.to)) s.from s.to w allowed kept

  takes_stay : (ds : List Direction) (w : WorldState) → AreAllowed w (round_takes w ds) → Keeps w → Got w → Got (world_after w (round_takes w ds))
  takes_stay [] w allowed kept got = got
  takes_stay (s ∷ ds) w allowed kept got =
      let rest = round_takes (world_after w (taken_now w s)) ds in
      let parts = allowed_parts (taken_now w s) rest w allowed in
      subst Got (sym (world_joined (taken_now w s) rest w))
      (takes_stay ds (world_after w (taken_now w s)) parts.1 (after_turn s w parts.0 kept) (turn_stays (length (frames_between w s.from s.to)) s.from s.to w parts.0 kept got))

  pub takes_reach : (ds : List Direction) (m : ℕ) (w : WorldState) → AreAllowed w (round_takes w ds) → Keeps w → Reaches m w → HasOne (IsAlong x y link) ds → Got (world_after w (round_takes w ds))
  takes_reach [] m w allowed kept reaches h = absurd h
  takes_reach (s ∷ ds) m w allowed kept reaches h =
      subst Got (sym (world_joined (taken_now w s) (round_takes (world_after w (taken_now w s)) ds) w)) (by (s.from == x) refl (s.to == y) refl h (λ next after on later. takes_reach ds m (world_after w (taken_now w s)) after next on later))
    where
      Again : Type 0
      Again = Keeps (world_after w (taken_now w s)) → AreAllowed (world_after w (taken_now w s)) (round_takes (world_after w (taken_now w s)) ds) → Reaches m (world_after w (taken_now w s)) → HasOne (IsAlong x y link) ds → Got (world_after (world_after w (taken_now w s)) (round_takes (world_after w (taken_now w s)) ds))

      parts : AreAllowed w (taken_now w s) × AreAllowed (world_after w (taken_now w s)) (round_takes (world_after w (taken_now w s)) ds)
      parts = allowed_parts (taken_now w s) (round_takes (world_after w (taken_now w s)) ds) w allowed

      passed : (s.from ≡ x → s.to ≡ y → ⊥) → (IsAlong x y link s ⊎ HasOne (IsAlong x y link) ds) → Again → Got (world_after (world_after w (taken_now w s)) (round_takes (world_after w (taken_now w s)) ds))
      passed apart (inl along) again = absurd (apart along.from along.to)
      passed apart (inr later) again = again (after_turn s w parts.0 kept) parts.1 (other_turn (length (frames_between w s.from s.to)) s.from s.to m w apart parts.0 kept reaches) later

      by : (a : Bool) → (s.from == x) ≡ a → (b : Bool) → (s.to == y) ≡ b → (IsAlong x y link s ⊎ HasOne (IsAlong x y link) ds) → Again → Got (world_after (world_after w (taken_now w s)) (round_takes (world_after w (taken_now w s)) ds))
      by true p true q h again =
          let same : Take s.from s.to 0 ≡ Take x y 0 = ap (λ (k : ℕ). Take k s.to 0) (eqb-true s.from x p) ∙ ap (λ (k : ℕ). Take x k 0) (eqb-true s.to y q) in
          let frames : frames_between w s.from s.to ≡ frames_between w x y = ap (λ (k : ℕ). frames_between w k s.to) (eqb-true s.from x p) ∙ ap (λ (k : ℕ). frames_between w x k) (eqb-true s.to y q) in
          let events : taken_now w s ≡ replicate (length (frames_between w x y)) (Take x y 0) = ap (λ (l : List Item). replicate (length l) (Take s.from s.to 0)) frames ∙ ap (replicate (length (frames_between w x y))) same in
          let got : Got (world_after w (taken_now w s)) = subst (λ (es : List Event). Got (world_after w es)) (sym events) (whole_turn m w (subst (AreAllowed w) events parts.0) kept reaches) in
          takes_stay ds (world_after w (taken_now w s)) parts.1 (after_turn s w parts.0 kept) got
      by true p false q h again = passed (λ from to. eqb-false s.to y q to) h again
      by false p b q h again = passed (λ from to. eqb-false s.from x p from) h again
