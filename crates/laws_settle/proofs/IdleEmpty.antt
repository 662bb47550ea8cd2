-- After a round no PDU is in flight.
use Rattle.std.proofs.Common.{◌≡◌, inl, inr, ℕ, zero, suc, List, [], ◌∷◌, ◌++◌, drop, length, map, replicate, slice_get, Option, Some, None, refl, sym, ap, subst, ◌∙◌}
use Rattle.std.specs.List.{AllByRecursion, remove}
use Rattle.wire_base.specs.declared.cause.Cause.TheVariants as cause
use Rattle.wire_base.specs.declared.conf.RouterConf.{RouterConf}
use Rattle.wire_base.specs.declared.entry.Entry.{Entry}
use Rattle.wire_base.specs.declared.addresses.LspId.{LspId}
use Rattle.wire_base.specs.model.Configuration.{DomainConf}
use Rattle.wire_base.specs.model.Control.{Control}
use Rattle.wire_base.specs.model.Item.{Item, ControlItem, PacketItem}
use Rattle.wire_base.specs.model.Pdu.{Pdu}
use Rattle.laws_router.specs.Becoming.{HaveBecome}
use Rattle.replay_text.specs.declared.event.Event.{Event}
use Rattle.replay_text.specs.declared.event.Event.TheVariants.{Take}
use Rattle.domain_model.specs.Faults.{event_fault}
use Rattle.domain_model.specs.Moves.{Sending, item_lost, over_end, packet_taken}
use Rattle.domain_model.specs.Run.{Direction, round_takes, taken_now, world_after}
use Rattle.domain_model.specs.Step.{Happened, comes, doing, happens, makes, push_all, push_sending, same_world, taken_off, takes, takes_over}
use Rattle.domain_model.specs.Truth.{EventFits}
use Rattle.domain_model.specs.World.{WorldState, frames_between, link_between, queue_at, queue_over}
use Rattle.domain_model.proofs.EachLaws.{each_got, each_joined, each_weaker}
use Rattle.domain_model.proofs.LinkLaws.{join_of}
use Rattle.laws_ledger.specs.Runs.{AreAllowed}
use Rattle.laws_settle.specs.Idle.{IsPacket}
use Rattle.laws_settle.specs.Fresh.{IsItemOfJournal}
use Rattle.laws_settle.proofs.ControlOwes.{pdu_silent}
use Rattle.laws_settle.proofs.EventCases.{after_coming}
use Rattle.laws_settle.proofs.IdleSteps.{each_given, take_flights}
use Rattle.laws_settle.proofs.PacketSends.{taken_packets}
use Rattle.laws_settle.proofs.RoundQueues.{HasOne, queue_here, queue_read}
use Rattle.laws_settle.proofs.RoundStays.{gentle_of}
use Rattle.laws_settle.proofs.RoundTurns.{IsAlong, IsLink, allowed_parts, taking_is, world_joined}
use Rattle.laws_settle.proofs.RoundUps.{still_step}
use Rattle.laws_settle.proofs.RunLaws.{IsRun, run_step}

-- ---- what an arrival sends

record PushesPackets (before after : List (List (List Item))) : Type 0 where
  sendings : List Sending
  is : after ≡ push_all before sendings
  packets : AllByRecursion (λ (s : Sending). IsPacket s.item) sendings

came_pushes : (v : WorldState) (b back : ℕ) (c : Control) (x : Item) (journal : LspId → ℕ → Entry) → IsItemOfJournal journal x → PushesPackets v.flights (comes v b back c x).world.flights
came_pushes v b back c x journal told =
    after_coming v (λ n. PushesPackets v.flights n.world.flights) b back c x
    (λ p is up.
    let silent = pdu_silent c back p journal (subst (IsItemOfJournal journal) is told) in
    record { sendings = []; is = ap (λ (ps : List Pdu). push_all v.flights (map (λ q. over_end v.domain.routers b back (ControlItem q)) ps)) silent; packets = tt })
    (λ y. record { sendings = (packet_taken v.domain.routers b c y y.outer).sent; is = refl; packets = taken_packets IsPacket (λ z. tt) v.domain.routers b c y }) (lost x)
  where
    lost : (y : Item) → PushesPackets v.flights (makes v (item_lost b cause.Link y)).world.flights
    lost (ControlItem p) = record { sendings = []; is = refl; packets = tt }
    lost (PacketItem y) = record { sendings = []; is = refl; packets = tt }

-- behind the first m frames there are packets alone
abbrev pub Tail : ℕ → List Item → Type 0
Tail m queue = AllByRecursion IsPacket (drop m queue)

none_behind : (m : ℕ) → Tail m []
none_behind zero = tt
none_behind (suc m) = tt

tail_joined : (m : ℕ) (queue : List Item) (z : Item) → Tail m queue → IsPacket z → Tail m (queue ++ z ∷ [])
tail_joined zero queue z all h = each_joined IsPacket queue (z ∷ []) all (h, tt)
tail_joined (suc m) [] z all h = none_behind m
tail_joined (suc m) (y ∷ ys) z all h = tail_joined m ys z all h

tail_pushed : (m x link : ℕ) (sendings : List Sending) (flights : List (List (List Item))) → AllByRecursion (λ (s : Sending). IsPacket s.item) sendings → Tail m (queue_at flights x link) → Tail m (queue_at (push_all flights sendings) x link)
tail_pushed m x link [] flights all tail = tail
tail_pushed m x link (s ∷ ss) flights all tail = tail_pushed m x link ss (push_sending flights s) all.1 (elim (queue_read flights s.from s.link (queue_at flights s.from s.link ++ s.item ∷ []) x link) [
  | inl same ↦ subst (Tail m) (sym same) tail
  | inr here ↦
      let old : queue_at flights s.from s.link ≡ queue_at flights x link = ap (λ (n : ℕ). queue_at flights n s.link) here.0 ∙ ap (queue_at flights x) here.1 in
      subst (Tail m) (sym here.2) (tail_joined m (queue_at flights s.from s.link) s.item (subst (Tail m) (sym old) tail) all.0)
])

drop_all : (queue : List Item) → drop (length queue) queue ≡ []
drop_all [] = refl
drop_all (x ∷ xs) = drop_all xs

-- ---- one direction

become_get : (rs : List RouterConf) (cs : List Control) (i : ℕ) (r : RouterConf) → HaveBecome rs (map (λ c. c.conf) cs) → slice_get rs i ≡ Some r → (c : Control) × (slice_get cs i ≡ Some c)
become_get [] cs i r b at = cc
become_get (q ∷ rs) [] i r b at = absurd b
become_get (q ∷ rs) (c ∷ cs) zero r b at = (c, refl)
become_get (q ∷ rs) (c ∷ cs) (suc i) r b at = become_get rs cs i r b.1 at

module _ (d : DomainConf) (x y link back : ℕ) (joined : IsLink d x y link back) where
  pub record IsRunning (u : WorldState) : Type 0 where
    pub run : IsRun u
    pub domain : u.domain ≡ d

  running_step : (u : WorldState) (a b i : ℕ) → EventFits (length u.domain.routers) (Take a b i) → event_fault u (Take a b i) ≡ None → IsRunning u → IsRunning (happens u (Take a b i)).world
  running_step u a b i fits ok r = record { run = run_step u (Take a b i) r.run fits ok (gentle_of u (Take a b i) tt); domain = (still_step u (Take a b i) tt).domain ∙ r.domain }

  turn_runs : (k a b : ℕ) (u : WorldState) → AreAllowed u (replicate k (Take a b 0)) → IsRunning u → IsRunning (world_after u (replicate k (Take a b 0)))
  turn_runs zero a b u allowed r = r
  turn_runs (suc k) a b u allowed r = turn_runs k a b (happens u (Take a b 0)).world allowed.2 (running_step u a b 0 allowed.0 allowed.1 r)

  abbrev pub Left : ℕ → WorldState → Type 0
  Left m u = Tail m (queue_at u.flights x link)

  -- the first frame goes
  own_left : (u : WorldState) (m : ℕ) → IsRunning u → Left (suc m) u → Left m (happens u (Take x y 0)).world
  unfolding happens
  own_left u m r left = by (queue_at u.flights x link) refl left
    where
      toward : link_between u.domain.routers x y ≡ Some link
      toward = ap (λ (c : DomainConf). link_between c.routers x y) r.domain ∙ joined.toward

      backward : link_between u.domain.routers y x ≡ Some back
      backward = ap (λ (c : DomainConf). link_between c.routers y x) r.domain ∙ joined.backward

      router : (c : Control) × (slice_get u.routers y ≡ Some c)
      router = let j = join_of u.domain.routers y x back backward in become_get u.domain.routers u.routers y j.near r.run.truth.become j.near_at

      by : (queue : List Item) → queue_at u.flights x link ≡ queue → Tail (suc m) queue → Tail m (queue_at (doing u (Take x y 0)).world.flights x link)
      by [] q tail =
          let done : doing u (Take x y 0) ≡ same_world u =
          ap (λ (o : Option ℕ). takes_over u x y 0 o (link_between u.domain.routers y x)) toward
          ∙ ap (takes_over u x y 0 (Some link)) backward
          ∙ ap (λ (l : List Item). takes u x link y back 0 (slice_get l 0) (slice_get u.routers y)) q in
          subst (λ (h : Happened). Tail m (queue_at h.world.flights x link)) (sym done) (subst (Tail m) (sym q) (none_behind m))
      by (z ∷ zs) q tail =
          let there : slice_get (queue_at u.flights x link) 0 ≡ Some z = ap (λ (l : List Item). slice_get l 0) q in
          let done = taking_is x y link back u toward backward z router.0 there router.1 in
          let told = each_got (IsItemOfJournal r.run.fresh.journal) (queue_at u.flights x link) 0 z (r.run.fresh.journaled.items x link) there in
          let pushes = came_pushes (taken_off u x link 0) y back router.0 z r.run.fresh.journal told in
          let rest : queue_at (taken_off u x link 0).flights x link ≡ zs = queue_here u.flights x link 0 z (remove (queue_at u.flights x link) 0) there ∙ ap (λ (l : List Item). remove l 0) q in
          let off : Tail m (queue_at (taken_off u x link 0).flights x link) = subst (Tail m) (sym rest) tail in
          subst (λ (h : Happened). Tail m (queue_at h.world.flights x link)) (sym done)
          (subst (λ (fs : List (List (List Item))). Tail m (queue_at fs x link)) (sym pushes.is) (tail_pushed m x link pushes.sendings (taken_off u x link 0).flights pushes.packets off))

  own_turn : (k : ℕ) (u : WorldState) → AreAllowed u (replicate k (Take x y 0)) → IsRunning u → Left k u → Left 0 (world_after u (replicate k (Take x y 0)))
  own_turn zero u allowed r left = left
  own_turn (suc k) u allowed r left = own_turn k (happens u (Take x y 0)).world allowed.2 (running_step u x y 0 allowed.0 allowed.1 r) (own_left u k r left)

  -- frames of any direction bring no PDU there
  stays_left : (u : WorldState) (a b i : ℕ) → IsRunning u → Left 0 u → Left 0 (happens u (Take a b i)).world
  stays_left u a b i r left =
      each_weaker (λ z. x ≡ x → link ≡ link → IsPacket z) IsPacket (λ z h. h refl refl) (queue_at (happens u (Take a b i)).world.flights x link)
      (take_flights (λ p l z. p ≡ x → l ≡ link → IsPacket z) (λ p l z h from over. h) u r.run.fresh there a b i x link)
    where
      there : (p l : ℕ) → AllByRecursion (λ z. p ≡ x → l ≡ link → IsPacket z) (queue_at u.flights p l)
      there p l = each_given (λ (from : p ≡ x). l ≡ link) IsPacket (queue_at u.flights p l) (λ from over. subst (λ (n : ℕ). AllByRecursion IsPacket (queue_at u.flights n l)) (sym from) (subst (λ (n : ℕ). AllByRecursion IsPacket (queue_at u.flights x n)) (sym over) left))

  turn_left : (k a b : ℕ) (u : WorldState) → AreAllowed u (replicate k (Take a b 0)) → IsRunning u → Left 0 u → Left 0 (world_after u (replicate k (Take a b 0)))
  turn_left zero a b u allowed r left = left
  turn_left (suc k) a b u allowed r left = turn_left k a b (happens u (Take a b 0)).world allowed.2 (running_step u a b 0 allowed.0 allowed.1 r) (stays_left u a b 0 r left)

  -- later directions
  takes_left : (ds : List Direction) (u : WorldState) → AreAllowed u (round_takes u ds) → IsRunning u → Left 0 u → Left 0 (world_after u (round_takes u ds))
  takes_left [] u allowed r left = left
  takes_left (s ∷ ds) u allowed r left =
      let rest = round_takes (world_after u (taken_now u s)) ds in
      let parts = allowed_parts (taken_now u s) rest u allowed in
      let k = length (frames_between u s.from s.to) in
      subst (Left 0) (sym (world_joined (taken_now u s) rest u)) (takes_left ds (world_after u (taken_now u s)) parts.1 (turn_runs k s.from s.to u parts.0 r) (turn_left k s.from s.to u parts.0 r left))

  whole_turn : (s : Direction) (u : WorldState) → AreAllowed u (taken_now u s) → IsRunning u → IsAlong x y link s → Left 0 (world_after u (taken_now u s))
  whole_turn s u allowed r along =
      let same : Take s.from s.to 0 ≡ Take x y 0 = ap (λ (k : ℕ). Take k s.to 0) along.from ∙ ap (λ (k : ℕ). Take x k 0) along.to in
      let frames : frames_between u s.from s.to ≡ queue_at u.flights x link =
      ap (λ (k : ℕ). frames_between u k s.to) along.from ∙ ap (λ (k : ℕ). frames_between u x k) along.to
      ∙ ap (queue_over u.flights x) (ap (λ (c : DomainConf). link_between c.routers x y) r.domain ∙ joined.toward) in
      let k = length (queue_at u.flights x link) in
      let events : taken_now u s ≡ replicate k (Take x y 0) = ap (λ (l : List Item). replicate (length l) (Take s.from s.to 0)) frames ∙ ap (replicate k) same in
      subst (λ (es : List Event). Left 0 (world_after u es)) (sym events) (own_turn k u (subst (AreAllowed u) events allowed) r (subst (AllByRecursion IsPacket) (sym (drop_all (queue_at u.flights x link))) tt))

  pub takes_empty : (ds : List Direction) (u : WorldState) → AreAllowed u (round_takes u ds) → IsRunning u → HasOne (IsAlong x y link) ds → Left 0 (world_after u (round_takes u ds))
  takes_empty [] u allowed r h = absurd h
  takes_empty (s ∷ ds) u allowed r (inl along) =
      let rest = round_takes (world_after u (taken_now u s)) ds in
      let parts = allowed_parts (taken_now u s) rest u allowed in
      let k = length (frames_between u s.from s.to) in
      subst (Left 0) (sym (world_joined (taken_now u s) rest u)) (takes_left ds (world_after u (taken_now u s)) parts.1 (turn_runs k s.from s.to u parts.0 r) (whole_turn s u parts.0 r along))
  takes_empty (s ∷ ds) u allowed r (inr later) =
      let rest = round_takes (world_after u (taken_now u s)) ds in
      let parts = allowed_parts (taken_now u s) rest u allowed in
      let k = length (frames_between u s.from s.to) in
      subst (Left 0) (sym (world_joined (taken_now u s) rest u)) (takes_empty ds (world_after u (taken_now u s)) parts.1 (turn_runs k s.from s.to u parts.0 r) later)
