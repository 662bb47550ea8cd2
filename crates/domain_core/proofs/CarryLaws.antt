-- What a router did on octets, queued, is what happens in the world.
use Rattle.std.proofs.Common.{◌≡◌, ◌⊎◌, inl, inr, ℕ, zero, suc, ◌+◌, ◌<◌, ◌≤◌, true, false, List, [], ◌∷◌, length, map, slice_get, slice_set, Option, Some, None, option_map, refl, sym, ap, subst, ◌∙◌}
use Rattle.std.specs.List.{AllByRecursion}
use Rattle.std.proofs.lemmas.Option.{same_Some}
use Rattle.wire_base.specs.declared.limits.TheConstants.{MOST_FRAME}
use Rattle.wire_base.specs.declared.bsl.Bsl.{Bsl}
use Rattle.wire_base.specs.declared.cause.Cause.TheVariants as cause
use Rattle.wire_base.specs.declared.conf.RouterConf.{RouterConf}
use Rattle.wire_base.specs.declared.effects.Sent.{Sent}
use Rattle.wire_base.specs.model.Configuration.{IsConsistent}
use Rattle.wire_base.specs.model.Control.{Control}
use Rattle.wire_base.specs.model.Flooding.{Reply, on_pdu, send}
use Rattle.wire_base.specs.model.Ingress.{edge_fault, inject}
use Rattle.wire_base.specs.model.Item.{Item, ControlItem, PacketItem}
use Rattle.wire_base.specs.model.OnFrame.{Drop, Effects, Next, framed, frames_of, nothing, on_frame}
use Rattle.wire_base.specs.model.Pdu.{Pdu}
use Rattle.laws_router.specs.State.{RouterState, counted}
use Rattle.replay_text.specs.declared.event.Event.TheVariants.{Take}
use Rattle.frames_in_flight.specs.declared.flight.Flight.{Flight}
use Rattle.frames_in_flight.specs.declared.flight.Note.{Note}
use Rattle.domain_model.specs.declared.step_out.StepOut.{StepOut}
use Rattle.frames_in_flight.specs.Told.{IsSilent, told, told_of}
use Rattle.frames_in_flight.specs.Flights.{IsOver, item_seen, items_seen, place_seen, ids_read, ids_seen, number_of, frames_at, without_frame, push_all_sent}
use Rattle.frames_in_flight.specs.Framed.{frame_over, IsFramed, IsFlooded}
use Rattle.frames_in_flight.specs.Read.{pdu_in, copy_in, outer_in, packet_in, item_in, item_ids}
use Rattle.frames_in_flight.proofs.ReadLaws.{number_read, none_dropped}
use Rattle.domain_model.specs.Moves.{Made, item_lost, replied, packet_taken, inject_made}
use Rattle.domain_core.specs.Answers.{outcome}
use Rattle.domain_core.specs.Network.{NetworkState, confs_of, confs_in, world_of, heard_after, IsFrameOver, AreFramesOver, IsTrueNetwork}
use Rattle.domain_model.specs.Step.{Happened, makes, same_world, push_all, with_router, sends, injects, taken_off, arrives, takes_over}
use Rattle.domain_model.specs.Truth.{router_at, IsTrueControl, IsTruePdu, IsTrueCopy, IsTrueItem, InjectFits}
use Rattle.domain_model.specs.World.{WorldState, is_up, link_between, queue_at, queue_over}
use Rattle.domain_model.proofs.ControlTruth.{IsTrueReply}
use Rattle.domain_model.proofs.WorldTruth.{AreOf}
use Rattle.domain_model.proofs.EachLaws.{each_got}
use Rattle.domain_core.proofs.FramedWorld.{conf_there, control_there, item_there, of_now, frame_short}
use Rattle.domain_core.proofs.FramedPdus.{pdu_reply, send_reply, pdu_framed, send_framed}
use Rattle.domain_core.proofs.FramedCopies.{packet_framed, inject_framed}
use Rattle.domain_core.proofs.RefusalLaws.{toward}
use Rattle.domain_core.proofs.SeenLaws.{some_seen_at, none_there, frames_left}
use Rattle.domain_core.proofs.SentLaws.{IsCarried, carried}
use Rattle.domain_core.proofs.StayLaws.{reader_is}
use Rattle.domain_core.proofs.StillLaws.{pdu_still, silent_framed}
use Rattle.domain_core.proofs.TransitLaws.{gone_world, lost_world, same_frames, none_taken, down_taken, up_taken, one_heard}
use Rattle.domain_core.proofs.TurnLaws.{nothing_told, control_at, confs_kept, kept_stay, turned_world, counted_heard}

pub set_same : {X : Type 0} (xs : List X) (i : ℕ) (x : X) → slice_get xs i ≡ Some x → slice_set xs i x ≡ xs
set_same [] i x h = refl
set_same {X} (y ∷ ys) zero x h = ap (λ (z : X). z ∷ ys) (sym (same_Some y x h))
set_same {X} (y ∷ ys) (suc i) x h = ap (λ (zs : List X). y ∷ zs) (set_same ys i x h)

-- ---- the world afterwards

module _ (n : NetworkState) (a : ℕ) (r : RouterState) (at : slice_get n.routers a ≡ Some r) (i : ℕ) (same : i ≡ a) (next : RouterState) (kept : next.control.conf ≡ r.control.conf) where
  confs_same : confs_of (slice_set n.routers i next) ≡ confs_in n
  confs_same = confs_kept n a r at i next same kept

  pub items_same : (flights : List (List (List Flight))) → items_seen (confs_of (slice_set n.routers i next)) flights ≡ items_seen (confs_in n) flights
  items_same flights = ap (λ (cs : List RouterConf). items_seen cs flights) confs_same

  -- frames that are those of their items, are it still
  pub same_over : (flights : List (List (List Flight))) → AreFramesOver n.domain.routers (confs_in n) flights → AreFramesOver n.domain.routers (confs_of (slice_set n.routers i next)) flights
  same_over flights are = subst (λ (cs : List RouterConf). AreFramesOver n.domain.routers cs flights) (sym confs_same) are

  -- a router has turned, and what it sent is in flight
  pub carried_world : (flights : List (List (List Flight))) (c : Control) (m : Made) (h : Happened) → next.control ≡ c → items_seen (confs_in n) flights ≡ push_all (items_seen (confs_in n) n.flights) m.sent → h ≡ makes (with_router (world_of n) a c) m
      → world_of (record n { routers = slice_set n.routers i next; flights = flights }) ≡ h.world
  carried_world flights c m h is seen happened =
      ap (λ (xs : List (List (List Item))). record (world_of n) { routers = map (λ (x : RouterState). x.control) (slice_set n.routers i next); flights = xs }) (items_same flights ∙ seen)
      ∙ ap (λ (w : WorldState). record w { flights = push_all (items_seen (confs_in n) n.flights) m.sent }) (turned_world n a r at i next c same is (kept_stay n a r at i next same kept))
      ∙ sym (ap (λ (x : Happened). x.world) happened)

  -- it has taken a frame, and is unchanged
  pub still_world : next.control ≡ r.control → world_of (record n { routers = slice_set n.routers i next }) ≡ world_of n
  still_world is =
      turned_world n a r at i next r.control same is (kept_stay n a r at i next same kept)
      ∙ ap (λ (cs : List Control). record (world_of n) { routers = cs }) (set_same (world_of n).routers a r.control (control_at n a r at))

-- ---- what is due is sent

frames_over : (conf : RouterConf) (link : ℕ) (pdus : List Pdu) → AllByRecursion (IsOver link) (frames_of conf link pdus)
frames_over conf link [] = tt
frames_over conf link (p ∷ pdus) = (refl, frames_over conf link pdus)

-- what a router sends on a link goes over that link
pub send_over : (link : ℕ) (c : Control) (sent : List Sent) → record nothing { sent = sent } ≡ (framed link (send c link)).effects → AllByRecursion (IsOver link) sent
unfolding framed
send_over link c sent due = subst (AllByRecursion (IsOver link)) (sym (ap (λ (e : Effects). e.sent) due)) (frames_over (send c link).control.conf link (send c link).sent)

-- the next state and what is answered, each by itself
pub same_next : (link : ℕ) (r : Reply) (next : Control) (e : Effects) → next ≡ r.control → e ≡ (framed link r).effects → ◌≡◌ {A = Next} (record { control = next; effects = e }) (framed link r)
unfolding framed
same_next link r next e p q = ap (λ (c : Control). record { control = c; effects = e }) p ∙ ap (λ (f : Effects). record { control = r.control; effects = f }) q

module _ (n : NetworkState) (t : IsTrueNetwork n) (a b link : ℕ) (r : RouterState) (at : slice_get n.routers a ≡ Some r) where
  abbrev os : List RouterConf
  os = n.domain.routers

  pub send_is : link_between os a b ≡ Some link → sends (world_of n) a (slice_get (world_of n).routers a) (link_between os a b) ≡ makes (with_router (world_of n) a (send r.control link).control) (replied os a link (send r.control link))
  send_is joined = ap (λ (o : Option ℕ). sends (world_of n) a (slice_get (world_of n).routers a) o) joined ∙ ap (λ (o : Option Control). sends (world_of n) a o (Some link)) (control_at n a r at)

  -- nothing is due, so nothing happens
  pub send_idle : link_between os a b ≡ Some link → send r.control link ≡ record { control = r.control; sent = []; drops = [] } → sends (world_of n) a (slice_get (world_of n).routers a) (link_between os a b) ≡ same_world (world_of n)
  send_idle joined idle =
      send_is joined
      ∙ ap (λ (reply : Reply). makes (with_router (world_of n) a reply.control) (replied os a link reply)) idle
      ∙ ap (λ (cs : List Control). same_world (record (world_of n) { routers = cs })) (set_same (world_of n).routers a r.control (control_at n a r at))

  conf_at : slice_get (confs_in n) a ≡ Some r.control.conf
  conf_at = conf_there (world_of n) a r.control (control_at n a r at)

  state_at : IsTrueControl (confs_in n) r.control
  state_at = control_there (world_of n) t.truth a r.control (control_at n a r at)

  send_flooded : link < length r.control.conf.ends → (next : Control) (e : Effects) → ◌≡◌ {A = Next} (record { control = next; effects = e }) (framed link (send r.control link)) → IsFlooded os (confs_in n) a link r.control (send r.control link) next e
  send_flooded within next e done = send_framed n.domain t.truth.valid.consistent (confs_in n) (of_now (world_of n) t.truth) a r.control conf_at state_at link within next e done

  pub send_control : link < length r.control.conf.ends → (next : Control) (e : Effects) → ◌≡◌ {A = Next} (record { control = next; effects = e }) (framed link (send r.control link)) → next ≡ (send r.control link).control
  send_control within next e done = (send_flooded within next e done).control

  -- its configuration stays
  pub send_conf : (send r.control link).control.conf ≡ r.control.conf
  send_conf = (send_reply n.domain t.truth.valid.consistent (confs_in n) (of_now (world_of n) t.truth) a r.control conf_at state_at link).next.conf

  pub send_carried : link < length r.control.conf.ends → (next : Control) (e : Effects) → ◌≡◌ {A = Next} (record { control = next; effects = e }) (framed link (send r.control link))
      → IsCarried os (confs_in n) a None n.flights [] e (replied os a link (send r.control link))
  send_carried within next e done = carried os (confs_in n) a None n.flights [] e (replied os a link (send r.control link)) t.frames (send_flooded within next e done).framed

-- ---- what arrives

not_none : {X : Type 0} (x : X) (xs : List X) → x ∷ xs ≡ [] → ⊥
not_none x xs e = cc

module _ (n : NetworkState) (t : IsTrueNetwork n) (a b link back i : ℕ) (r : RouterState) (at : slice_get n.routers b ≡ Some r) (joined : link_between n.domain.routers a b ≡ Some link) (up : is_up r.control back ≡ true)
    (f : Flight) (there : Some f ≡ slice_get (frames_at n.flights a link) i) where
  abbrev gone : WorldState
  gone = taken_off (world_of n) a link i

  abbrev places : List RouterConf
  places = n.domain.routers

  abbrev confs : List RouterConf
  confs = confs_in n

  start : IsConsistent n.domain
  start = t.truth.valid.consistent

  now : AreOf n.domain confs
  now = of_now (world_of n) t.truth

  over_its_end : f.octets ≡ frame_over places a link (item_seen confs f)
  over_its_end = each_got (IsFrameOver places confs a link) (frames_at n.flights a link) i f (t.frames a link) (sym there)

  is_true : IsTrueItem confs n.injections b (item_seen confs f)
  is_true = item_there (world_of n) t.truth a b link i (item_seen confs f) joined (some_seen_at confs n.flights a link i f there)

  pub is_short : length f.octets ≤ MOST_FRAME
  is_short = subst (λ (octets : List ℕ). length octets ≤ MOST_FRAME) (sym over_its_end) (frame_short n.domain start confs now n.injections b a link (item_seen confs f) is_true)

  conf : slice_get confs b ≡ Some r.control.conf
  conf = conf_there (world_of n) b r.control (control_at n b r at)

  state : IsTrueControl confs r.control
  state = control_there (world_of n) t.truth b r.control (control_at n b r at)

  true_reply : (p : Pdu) → IsTruePdu confs p → IsTrueReply confs r.control (on_pdu r.control back p)
  true_reply p says = pdu_reply n.domain start confs now b r.control conf state back p says

  -- What a frame does at an end that is up. Where anything is to be told or sent, the router is unchanged.
  pub record IsArrival (next : Control) (e : Effects) : Type 0 where
    pub made : Made
    pub happened : arrives gone b back r.control (item_seen confs f) ≡ makes (with_router gone b next) made
    pub framed : IsFramed places confs b (number_of f) (ids_seen confs f) e made
    pub still : IsSilent e ⊎ (next ≡ r.control)
    pub conf_kept : next.conf ≡ r.control.conf

  module _ (next : Control) (e : Effects) (done : ◌≡◌ {A = Next} (record { control = next; effects = e }) (on_frame r.control back f.octets)) where
    over_item : (x : Item) → item_seen confs f ≡ x → ◌≡◌ {A = Next} (record { control = next; effects = e }) (on_frame r.control back (frame_over places a link x))
    over_item x is = done ∙ ap (on_frame r.control back) (over_its_end ∙ ap (frame_over places a link) is)

    pdu_arrival : f.note ≡ None → IsArrival next e
    unfolding item_in
    pdu_arrival none =
        let p = pdu_in confs f.octets in
        let is : item_seen confs f ≡ ControlItem p = ap (λ (o : Option Note). item_in confs o f.octets) none in
        let says : IsTruePdu confs p = subst (IsTrueItem confs n.injections b) is is_true in
        let flooded = pdu_framed n.domain start confs now b r.control conf state a link back p joined says up next e (over_item (ControlItem p) is) in
        let m = replied places b back (on_pdu r.control back p) in
        record {
          made = m;
          happened = ap (arrives gone b back r.control) is ∙ ap (λ (c : Control). makes (with_router gone b c) m) (sym flooded.control);
          framed = subst (λ (o : Option Note). IsFramed places confs b (option_map (λ k. k.number) o) (item_ids (item_in confs o f.octets)) e m) (sym none) flooded.framed;
          still = elim (pdu_still r.control back p) [
            | inl none ↦ inl (silent_framed places confs b e back (on_pdu r.control back p) flooded.framed none (true_reply p says).none)
            | inr same ↦ inr (flooded.control ∙ same)
          ];
          conf_kept = ap (λ (c : Control). c.conf) flooded.control ∙ (true_reply p says).next.conf;
        }

    packet_arrival : (note : Note) → f.note ≡ Some note → IsArrival next e
    unfolding item_in
    packet_arrival note some =
        let x = copy_in confs note f.octets in
        let is : item_seen confs f ≡ PacketItem x = ap (λ (o : Option Note). item_in confs o f.octets) some in
        let copy : IsTrueCopy confs n.injections b x = subst (IsTrueItem confs n.injections b) is is_true in
        let hopped = packet_framed n.domain start confs now b r.control conf state n.injections a link back x joined copy up next e (over_item (PacketItem x) is) in
        let m = packet_taken places b r.control x x.outer in
        let number : x.number ≡ note.number = number_read note.number (outer_in f.octets) (packet_in confs note.to f.octets) in
        let routers : slice_set (world_of n).routers b next ≡ (world_of n).routers =
        ap (slice_set (world_of n).routers b) hopped.control ∙ set_same (world_of n).routers b r.control (control_at n b r at) in
        let same_gone : with_router gone b next ≡ gone = ap (λ (cs : List Control). record gone { routers = cs }) routers in
        record {
          made = m;
          happened = ap (arrives gone b back r.control) is ∙ ap (λ (w : WorldState). makes w m) (sym same_gone);
          framed = subst (λ (o : Option Note). IsFramed places confs b (option_map (λ k. k.number) o) (item_ids (item_in confs o f.octets)) e m) (sym some)
              (subst (λ (k : ℕ). IsFramed places confs b (Some k) x.ids e m) number hopped.framed);
          still = inr hopped.control;
          conf_kept = ap (λ (c : Control). c.conf) hopped.control;
        }

    pub arrival : IsArrival next e
    arrival = by f.note refl
      where
        by : (o : Option Note) → f.note ≡ o → IsArrival next e
        by None is = pdu_arrival is
        by (Some note) is = packet_arrival note is

  -- where an answer isn't told or sent, the router is unchanged
  pub unmoved : (next : Control) (e : Effects) → ◌≡◌ {A = Next} (record { control = next; effects = e }) (on_frame r.control back f.octets) → (IsSilent e → ⊥) → next ≡ r.control
  unmoved next e done tells = elim ((arrival next e done).still) [ inl silent ↦ absurd (tells silent) | inr same ↦ same ]

  -- its configuration stays in any case
  pub frame_conf : (next : Control) (e : Effects) → ◌≡◌ {A = Next} (record { control = next; effects = e }) (on_frame r.control back f.octets) → next.conf ≡ r.control.conf
  frame_conf next e done = (arrival next e done).conf_kept

  -- the BFR-ids of what is dropped as a whole are parsed as by the router that the packet is for, if anything is dropped
  pub told_taken : (e : Effects) (reader : Option RouterConf) → ((e.drops ≡ [] → ⊥) → reader ≡ router_at confs (place_seen places f)) → told_of places b (number_of f) (ids_read reader f) e ≡ told_of places b (number_of f) (ids_seen confs f) e
  told_taken e reader is = by e.drops refl
    where
      by : (l : List Drop) → e.drops ≡ l → told_of places b (number_of f) (ids_read reader f) e ≡ told_of places b (number_of f) (ids_seen confs f) e
      by [] none = none_dropped places b (number_of f) (ids_read reader f) (ids_seen confs f) e none
      by (d ∷ ds) some = ap (λ (ids : List ℕ). told_of places b (number_of f) ids e) (reader_is places confs t.truth.become f reader (is (λ none. not_none d ds (sym some ∙ none))))

  -- but for its count
  pub heard_there : link_between places b a ≡ Some back → (k : ℕ) → k ≡ b → (next : RouterState) → next.heard ≡ counted r.heard → map (λ (x : RouterState). x.heard) (slice_set n.routers k next) ≡ heard_after (world_of n) (map (λ (x : RouterState). x.heard) n.routers) (Take a b i)
  heard_there facing k same next is =
      counted_heard n b r at k next same is
      ∙ sym (one_heard (world_of n) (map (λ (x : RouterState). x.heard) n.routers) a b i (item_seen confs f)
      (toward (world_of n) b a back r.control (control_at n b r at) facing ∙ up)
      (ap (λ (l : Option ℕ). slice_get (queue_over (world_of n).flights a l) i) joined ∙ some_seen_at confs n.flights a link i f there))

  -- the frame is gone
  module _ (flights : List (List (List Flight))) (left : flights ≡ without_frame n.flights a link i) where
    pub left_frames : AreFramesOver places confs flights
    left_frames = same_frames places confs flights (without_frame n.flights a link i) left (frames_left (IsFrameOver places confs) n.flights a link i t.frames)

    pub left_world : world_of (record n { flights = flights }) ≡ gone
    left_world = gone_world n flights a link i left

    -- and what the router sent because of it is in flight
    pub record IsTaken (routers : List RouterState) (sent : List (List (List Flight))) (out : StepOut) : Type 0 where
      pub world : world_of (record n { routers = routers; flights = sent }) ≡ (takes_over (world_of n) a b i (link_between places a b) (link_between places b a)).world
      pub frames : AreFramesOver places (confs_of routers) sent
      pub answer : out ≡ told places (takes_over (world_of n) a b i (link_between places a b) (link_between places b a)).made

    pub taken_done : link_between places b a ≡ Some back → (k : ℕ) → k ≡ b → (next : RouterState) (e : Effects) → ◌≡◌ {A = Next} (record { control = next.control; effects = e }) (on_frame r.control back f.octets)
        → (sent : List (List (List Flight))) → sent ≡ push_all_sent places b (number_of f) flights e.sent → (out : StepOut) → out ≡ told_of places b (number_of f) (ids_seen confs f) e
        → IsTaken (slice_set n.routers k next) sent out
    taken_done facing k same next e done sent pushed out tells =
        let arrived = arrival next.control e done in
        let put = carried places confs b (number_of f) flights (ids_seen confs f) e arrived.made left_frames arrived.framed in
        let happened = up_taken (world_of n) a b i link joined back facing (item_seen confs f) r.control (some_seen_at confs n.flights a link i f there) (control_at n b r at) up
        ∙ arrived.happened ∙ ap (λ (w : WorldState). makes (with_router w b next.control) arrived.made) (sym left_world) in
        record {
          world = carried_world (record n { flights = flights }) b r at k same next arrived.conf_kept sent next.control arrived.made _ refl (ap (items_seen confs) pushed ∙ put.seen) happened;
          frames = same_over n b r at k same next arrived.conf_kept sent (same_frames places confs sent _ pushed put.frames);
          answer = tells ∙ put.out ∙ sym (ap (λ (h : Happened). told places h.made) happened);
        }

-- ---- what comes to an end that is down

module _ (n : NetworkState) (are : AreFramesOver n.domain.routers (confs_in n) n.flights) (a b link back i : ℕ) (r : RouterState) (at : slice_get n.routers b ≡ Some r) (joined : link_between n.domain.routers a b ≡ Some link)
    (facing : link_between n.domain.routers b a ≡ Some back) (down : is_up r.control back ≡ false) where
  abbrev taken : Happened
  taken = takes_over (world_of n) a b i (link_between n.domain.routers a b) (link_between n.domain.routers b a)

  pub record IsDropped (m : NetworkState) (out : Option StepOut) : Type 0 where
    pub world : world_of m ≡ taken.world
    pub frames : AreFramesOver n.domain.routers (confs_in m) m.flights
    pub answer : outcome out ≡ told n.domain.routers taken.made

  dropped_at : (m : NetworkState) → m ≡ record n { flights = without_frame n.flights a link i } → (out : Option StepOut) (o : Option Item) → slice_get (queue_at (world_of n).flights a link) i ≡ o → out ≡ option_map (λ x. told n.domain.routers (item_lost b cause.Link x)) o
      → IsDropped m out
  dropped_at m gone out None is tells =
      let happened = none_taken (world_of n) a b i link joined back facing is in
      let same = gone ∙ none_there n a link i is in
      record {
        world = ap world_of same ∙ sym (ap (λ (h : Happened). h.world) happened);
        frames = subst (λ (z : NetworkState). AreFramesOver n.domain.routers (confs_in z) z.flights) (sym same) are;
        answer = nothing_told n.domain.routers (outcome out) _ (ap outcome tells) (ap (λ (h : Happened). h.made) happened);
      }
  dropped_at m gone out (Some x) is tells =
      let happened = down_taken (world_of n) a b i link joined back facing x r.control is (control_at n b r at) down in
      record {
        world = ap world_of gone ∙ gone_world n (without_frame n.flights a link i) a link i refl
            ∙ sym (ap (λ (h : Happened). h.world) happened ∙ lost_world (taken_off (world_of n) a link i) b cause.Link x);
        frames = subst (λ (z : NetworkState). AreFramesOver n.domain.routers (confs_in z) z.flights) (sym gone) (frames_left (IsFrameOver n.domain.routers (confs_in n)) n.flights a link i are);
        answer = ap outcome tells ∙ sym (ap (λ (h : Happened). told n.domain.routers h.made) happened);
      }

  pub down_dropped : (m : NetworkState) → m ≡ record n { flights = without_frame n.flights a link i } → (out : Option StepOut) → out ≡ option_map (λ x. told n.domain.routers (item_lost b cause.Link x)) (slice_get (queue_at (world_of n).flights a link) i) → IsDropped m out
  down_dropped m gone out tells = dropped_at m gone out (slice_get (queue_at (world_of n).flights a link) i) refl tells

-- ---- what enters

module _ (n : NetworkState) (t : IsTrueNetwork n) (a : ℕ) (r : RouterState) (at : slice_get n.routers a ≡ Some r) (sd : ℕ) (bsl : Bsl) (ks : List ℕ) (ttl entropy : ℕ) (payload : List ℕ) where
  abbrev entered : Control → Made
  entered c = inject_made n.domain.routers a c (n.injections + 1) sd bsl ks ttl entropy payload

  pub inject_is : injects (world_of n) a entered (slice_get (world_of n).routers a) ≡ makes (record (world_of n) { injections = n.injections + 1 }) (entered r.control)
  inject_is = ap (injects (world_of n) a entered) (control_at n a r at)

  pub inject_carried : InjectFits (length n.domain.routers) a sd ks ttl entropy payload → edge_fault r.control.conf sd bsl ks ≡ None → (e : Effects) → e ≡ inject r.control sd bsl ks ttl entropy payload
      → IsCarried n.domain.routers (confs_in n) a (Some (n.injections + 1)) n.flights [] e (entered r.control)
  inject_carried fits ok e done =
      let c = control_at n a r at in
      carried n.domain.routers (confs_in n) a (Some (n.injections + 1)) n.flights [] e (entered r.control) t.frames
      (inject_framed n.domain t.truth.valid.consistent (confs_in n) (of_now (world_of n) t.truth) a r.control (conf_there (world_of n) a r.control c) (control_there (world_of n) t.truth a r.control c) n.injections sd bsl ks ttl entropy payload fits ok e done)

  pub inject_world : (routers : List RouterState) (flights : List (List (List Flight))) (m : Made) (h : Happened) → routers ≡ n.routers → items_seen (confs_in n) flights ≡ push_all (items_seen (confs_in n) n.flights) m.sent → h ≡ makes (record (world_of n) { injections = n.injections + 1 }) m
      → world_of (record n { routers = routers; flights = flights; injections = n.injections + 1 }) ≡ h.world
  inject_world routers flights m h same seen happened =
      ap (λ (rs : List RouterState). world_of (record n { routers = rs; flights = flights; injections = n.injections + 1 })) same
      ∙ ap (λ (xs : List (List (List Item))). record (world_of n) { flights = xs; injections = n.injections + 1 }) seen
      ∙ sym (ap (λ (x : Happened). x.world) happened)
