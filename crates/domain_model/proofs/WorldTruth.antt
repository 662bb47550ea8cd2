-- Every event that is allowed keeps the truth of a domain, whose routers' configurations may change.
use Rattle.std.proofs.Common.{◌≡◌, ℕ, suc, ◌+◌, ◌<◌, ◌≤◌, nat_le, Bool, true, false, if◌then◌else◌, List, [], ◌∷◌, ◌++◌, length, map, slice_get, slice_set, Option, Some, None, is_none, is_some, option_map, refl, sym, ap, subst, ◌∙◌, arith}
use mathlib.Core.Bool.{true≢false}
use Rattle.std.specs.List.{AllByRecursion, remove}
use Rattle.std.proofs.lemmas.Bool.{leb-false, ltb-false}
use Rattle.std.proofs.lemmas.List.{length-map}
use Rattle.wire_base.specs.declared.bsl.Bsl.{Bsl}
use Rattle.wire_base.specs.declared.cause.Cause.{Cause}
use Rattle.wire_base.specs.declared.cause.Cause.TheVariants as cause
use Rattle.wire_base.specs.declared.conf.End.{End}
use Rattle.wire_base.specs.declared.conf.LabelRange.{LabelRange}
use Rattle.wire_base.specs.declared.conf.OwnSub.{OwnSub}
use Rattle.wire_base.specs.declared.conf.RouterConf.{RouterConf}
use Rattle.wire_base.specs.declared.faults.EdgeFault.{EdgeFault}
use Rattle.wire_base.specs.declared.limits.TheConstants.{LAST_LABEL, MOST_RELABELS}
use Rattle.wire_base.specs.model.Configuration.{DomainConf, IsConsistent, IsSound, IsValid, KeepsKinds}
use Rattle.wire_base.specs.model.Control.{Control}
use Rattle.wire_base.specs.model.Flooding.{Reply, quiet, reissue_unless_spent, on_pdu, tick, send, end_up, end_down, relabel, leave, join, restart, first_control}
use Rattle.wire_base.specs.model.Ingress.{edge_fault}
use Rattle.wire_base.specs.model.Item.{Item, ControlItem, PacketItem}
use Rattle.wire_base.specs.model.Membership.{own_range, moved, used_label, is_too_high, is_worn, relabelled, left, rejoined, CanRelabel}
use Rattle.wire_base.specs.model.Pdu.{Pdu}
use Rattle.wire_base.specs.model.Place.{sub_in, known_subs}
use Rattle.laws_router.proofs.ChangeLaws.{relabel_later, leave_later, join_later}
use Rattle.laws_router.proofs.DomainLaws.{consistent_kept, become_self, become_later}
use Rattle.laws_router.proofs.MeaningLaws.{earlier_self}
use Rattle.laws_router.specs.Becoming.{IsLater, HaveBecome}
use Rattle.laws_router.specs.State.{IsRouter}
use Rattle.replay_text.specs.declared.event.Event.{Event}
use Rattle.replay_text.specs.declared.event.Event.TheVariants.{Inject, Take, Lose, Again, Down, Up, Send, Tick, Restart, Relabel, Leave, Join}
use Rattle.domain_model.specs.declared.fault.EventFault.{EventFault}
use Rattle.domain_model.specs.declared.fault.EventFault.TheVariants as faults
use Rattle.domain_model.specs.World.{WorldState, is_up, peer_place, link_between, queue_at, push_item, in_flight, no_flights, first_world}
use Rattle.domain_model.specs.Moves.{Sending, Made, over_end, control_lost, item_lost, replied, packet_taken, inject_made}
use Rattle.domain_model.specs.Faults.{most_events, most_in_flight, first_fault, entry_fault, used_fault, range_fault, relabel_fault, member_fault, rule_fault, event_fault}
use Rattle.domain_model.specs.Step.{Happened, same_world, with_router, push_sending, push_all, makes, replies, turns, taken_off, arrives, comes, takes, takes_over, loses, loses_over, repeats, repeats_over, injects, changes_end, sends, changes, doing, counted, happens}
use Rattle.domain_model.specs.Truth.{IsAmong, IsTrueControl, IsTruePdu, IsTrueItem, confs_now, IsTruthful, InjectFits, EventFits, IsWorldCause, AreWorldDrops}
use Rattle.domain_model.proofs.EachLaws.{each_weaker, each_mapped, each_got, each_set, fold_keeps}
use Rattle.domain_model.proofs.QueueLaws.{got_within, get_mapped, map_set, AllQueues, item_pushed, item_gone, shape_kept, none_queued}
use Rattle.domain_model.proofs.ControlTruth.{IsTrueNext, IsTrueReply, state_of, on_pdu_true, tick_true, end_up_true, end_down_true, restart_true, changed_true, first_state_true, first_conf}
use Rattle.domain_model.proofs.SendTruth.{send_true}
use Rattle.domain_model.proofs.DomainLaws.{sound_of, keeps_of, own_earlier}
use Rattle.domain_model.proofs.LinkLaws.{end_found, join_of, peer_is, become_at, places_stay}
use Rattle.domain_model.proofs.RouterTruth.{pdu_keeps, send_keeps, up_keeps, down_keeps, tick_keeps, restart_keeps, changed_keeps, first_keeps}
use Rattle.domain_model.proofs.CopyTruth.{SamePlaces, IsTrueSending, IsTrueMade, lost_true, taken_true}
use Rattle.domain_model.proofs.EnterTruth.{inject_true}
use Rattle.domain_model.proofs.LaterTruth.{set_there, map_of_set, state_next, item_next, controls_next}

-- ---- what stands, whatever the count of events

-- The domain as it started, `old`, and its routers as they are configured now, `confs`.
pub record IsBase (old : DomainConf) (confs : List RouterConf) (events : ℕ) (w : WorldState) : Type 0 where
  pub domain : w.domain ≡ old
  pub confs_are : confs_now w ≡ confs
  pub controls : AllByRecursion (IsTrueControl confs) w.routers
  pub queues : map (λ qs. length qs) w.flights ≡ map (λ r. length r.ends) old.routers
  pub items : AllQueues (λ a link. IsTrueItem confs w.injections (peer_place old.routers a link)) w.flights
  pub counted : w.events ≡ events
  pub injections : w.injections ≤ events + 1

pub record IsTrueDone (old : DomainConf) (confs : List RouterConf) (events : ℕ) (n : Happened) : Type 0 where
  pub base : IsBase old confs events n.world
  pub made : IsTrueMade old.routers confs n.world.injections n.made

-- the configurations of a domain's routers that they came to have
pub record AreOf (old : DomainConf) (confs : List RouterConf) : Type 0 where
  pub valid : IsConsistent (record old { routers = confs })
  pub become : HaveBecome old.routers confs

base_of : (w : WorldState) → IsTruthful w → IsBase w.domain (confs_now w) w.events w
base_of w t = record { domain = refl; confs_are = refl; controls = t.controls; queues = t.queues; items = t.items; counted = refl; injections = omega (arith, t.injections) }

module _ (old : DomainConf) (start : IsValid old) (confs : List RouterConf) (of : AreOf old confs) (events : ℕ) where
  abbrev d : DomainConf
  d = record old { routers = confs }

  abbrev valid : IsConsistent d
  valid = of.valid

  places : SamePlaces old.routers confs
  places a link = places_stay old.routers confs a link of.become

  same_done : (w : WorldState) → IsBase old confs events w → IsTrueDone old confs events (same_world w)
  same_done w b = record { base = b; made = record { sent = tt; drops = tt } }

  -- what is sent goes to the end of its direction
  pushed : (n : ℕ) (sendings : List Sending) (flights : List (List (List Item))) → AllByRecursion (IsTrueSending old.routers confs n) sendings → AllQueues (λ a link. IsTrueItem confs n (peer_place old.routers a link)) flights → AllQueues (λ a link. IsTrueItem confs n (peer_place old.routers a link)) (push_all flights sendings)
  pushed n sendings flights all items =
      fold_keeps (AllQueues (λ a link. IsTrueItem confs n (peer_place old.routers a link))) (IsTrueSending old.routers confs n) push_sending
      (λ f s h k. item_pushed (λ a link. IsTrueItem confs n (peer_place old.routers a link)) f s.from s.link s.item h.item k) sendings flights all items

  pushed_shape : (sendings : List Sending) (flights : List (List (List Item))) → map (λ qs. length qs) (push_all flights sendings) ≡ map (λ qs. length qs) flights
  pushed_shape [] flights = refl
  pushed_shape (s ∷ ss) flights = pushed_shape ss (push_sending flights s) ∙ shape_kept flights s.from s.link (queue_at flights s.from s.link ++ s.item ∷ [])

  makes_done : (w : WorldState) (m : Made) → IsBase old confs events w → IsTrueMade old.routers confs w.injections m → IsTrueDone old confs events (makes w m)
  makes_done w m b t =
      record {
        base = record {
          domain = b.domain;
          confs_are = b.confs_are;
          controls = b.controls;
          queues = pushed_shape m.sent w.flights ∙ b.queues;
          items = pushed w.injections m.sent w.flights t.sent b.items;
          counted = b.counted;
          injections = b.injections;
        };
        made = t;
      }

  -- ---- routers

  conf_at : (w : WorldState) → IsBase old confs events w → (a : ℕ) (c : Control) → slice_get w.routers a ≡ Some c → slice_get confs a ≡ Some c.conf
  conf_at w b a c e = ap (λ (rs : List RouterConf). slice_get rs a) (sym b.confs_are) ∙ get_mapped (λ (x : Control). x.conf) w.routers a c e

  control_at : (w : WorldState) → IsBase old confs events w → (a : ℕ) (c : Control) → slice_get w.routers a ≡ Some c → IsTrueControl confs c
  control_at w b a c e = each_got (IsTrueControl confs) w.routers a c b.controls e

  router_base : (w : WorldState) (a : ℕ) (c e : Control) → IsBase old confs events w → slice_get w.routers a ≡ Some c → e.conf ≡ c.conf → IsTrueControl confs e → IsBase old confs events (with_router w a e)
  router_base w a c e b at same t = record {
    domain = b.domain;
    confs_are = map_set (λ (x : Control). x.conf) w.routers a e c at same ∙ b.confs_are;
    controls = each_set (IsTrueControl confs) w.routers a e b.controls t;
    queues = b.queues;
    items = b.items;
    counted = b.counted;
    injections = b.injections;
  }

  control_of : (c e : Control) → IsTrueControl confs c → IsRouter e → IsTrueNext confs c e → IsTrueControl confs e
  control_of c e t kept n = record { among = subst (IsAmong confs) (sym n.conf) t.among; kept = kept; entries = n.state.entries_true; unsent = n.state.unsent }

  -- ---- replies

  replied_true : (n a link : ℕ) (c : Control) (r : Reply) → IsTrueReply confs c r → IsTrueMade old.routers confs n (replied old.routers a link r)
  replied_true n a link c r t = record {
    sent = each_mapped (IsTrueSending old.routers confs n) (λ p. over_end old.routers a link (ControlItem p)) r.sent (each_weaker (IsTruePdu confs) (λ p. IsTrueSending old.routers confs n (over_end old.routers a link (ControlItem p))) (λ p h. record { item = h }) r.sent t.says);
    drops = subst (λ (l : List Cause). AreWorldDrops (map (control_lost a) l)) (sym t.none) tt;
  }

  replies_done : (w : WorldState) (a link : ℕ) (c : Control) (r : Reply) → IsBase old confs events w → slice_get w.routers a ≡ Some c → IsTrueReply confs c r → IsRouter r.control → IsTrueDone old confs events (replies w a link r)
  replies_done w a link c r b at t kept =
      let next = router_base w a c r.control b at t.next.conf (control_of c r.control (control_at w b a c at) kept t.next) in
      subst (λ (rs : List RouterConf). IsTrueDone old confs events (makes (with_router w a r.control) (replied rs a link r))) (ap (λ (x : DomainConf). x.routers) (sym b.domain))
      (makes_done (with_router w a r.control) (replied old.routers a link r) next (replied_true w.injections a link c r t))

  turns_done : (w : WorldState) (a : ℕ) (c : Control) (r : Reply) → IsBase old confs events w → slice_get w.routers a ≡ Some c → IsTrueReply confs c r → IsRouter r.control → IsTrueDone old confs events (turns w a r)
  turns_done w a c r b at t kept = same_done (with_router w a r.control) (router_base w a c r.control b at t.next.conf (control_of c r.control (control_at w b a c at) kept t.next))

  -- ---- what arrives or is lost

  taken_base : (w : WorldState) (a link i : ℕ) → IsBase old confs events w → IsBase old confs events (taken_off w a link i)
  taken_base w a link i b = record {
    domain = b.domain;
    confs_are = b.confs_are;
    controls = b.controls;
    queues = shape_kept w.flights a link (remove (queue_at w.flights a link) i) ∙ b.queues;
    items = item_gone (λ a link. IsTrueItem confs w.injections (peer_place old.routers a link)) w.flights a link i b.items;
    counted = b.counted;
    injections = b.injections;
  }

  lost_made : (n b : ℕ) (why : Cause) (x : Item) → IsWorldCause why → IsTrueMade old.routers confs n (item_lost b why x)
  lost_made n b why (ControlItem p) h = record { sent = tt; drops = (h, tt) }
  lost_made n b why (PacketItem x) h = lost_true old.routers confs n b x why x.ids h

  joined_at : (w : WorldState) (b : IsBase old confs events w) (x y link : ℕ) → link_between w.domain.routers x y ≡ Some link → link_between old.routers x y ≡ Some link
  joined_at w b x y link e = subst (λ (z : DomainConf). link_between z.routers x y ≡ Some link) b.domain e

  item_at : (w : WorldState) (x y link i : ℕ) (item : Item) → IsBase old confs events w → link_between w.domain.routers x y ≡ Some link → slice_get (queue_at w.flights x link) i ≡ Some item → IsTrueItem confs w.injections y item
  item_at w x y link i item b joined there =
      subst (λ (n : ℕ). IsTrueItem confs w.injections n item) (peer_is old.routers start.consistent.systems x y link (joined_at w b x y link joined))
      (each_got (IsTrueItem confs w.injections (peer_place old.routers x link)) (queue_at w.flights x link) i item (b.items x link) there)

  pdu_reply : (c : Control) (link : ℕ) (p : Pdu) → IsTrueControl confs c → IsTruePdu confs p → IsTrueReply confs c (on_pdu c link p)
  pdu_reply c link p t says = on_pdu_true confs valid.few valid.sound c t.among (own_earlier d valid c.conf t.among) t.kept.control.links (state_of confs c t) link p says

  arrives_done : (w : WorldState) (b back : ℕ) (c : Control) (x : Item) → IsBase old confs events w → slice_get w.routers b ≡ Some c → is_up c back ≡ true → IsTrueItem confs w.injections b x → IsTrueDone old confs events (arrives w b back c x)
  arrives_done w b back c (ControlItem p) base at up says =
      let t = control_at w base b c at in
      let reply = pdu_reply c back p t says in
      replies_done w b back c (on_pdu c back p) base at reply (pdu_keeps confs valid.few c t back p up says reply)
  arrives_done w b back c (PacketItem x) base at up says =
      subst (λ (rs : List RouterConf). IsTrueDone old confs events (makes w (packet_taken rs b c x x.outer))) (ap (λ (z : DomainConf). z.routers) (sym base.domain))
      (makes_done w (packet_taken old.routers b c x x.outer) base (taken_true old.routers d valid places w.injections b c (conf_at w base b c at) (control_at w base b c at) x says))

  comes_done : (w : WorldState) (b back : ℕ) (c : Control) (x : Item) → IsBase old confs events w → slice_get w.routers b ≡ Some c → IsTrueItem confs w.injections b x → IsTrueDone old confs events (comes w b back c x)
  comes_done w b back c x base at says = by (is_up c back) refl
    where
      by : (u : Bool) → is_up c back ≡ u → IsTrueDone old confs events (if u then arrives w b back c x else makes w (item_lost b cause.Link x))
      by true e = arrives_done w b back c x base at e says
      by false e = makes_done w (item_lost b cause.Link x) base (lost_made w.injections b cause.Link x tt)

  takes_done : (w : WorldState) (a link b back i : ℕ) (o : Option Item) (q : Option Control) → IsBase old confs events w → link_between w.domain.routers a b ≡ Some link → slice_get (queue_at w.flights a link) i ≡ o → slice_get w.routers b ≡ q → IsTrueDone old confs events (takes w a link b back i o q)
  takes_done w a link b back i None q base joined e f = same_done w base
  takes_done w a link b back i (Some x) None base joined e f = same_done w base
  takes_done w a link b back i (Some x) (Some c) base joined e f = comes_done (taken_off w a link i) b back c x (taken_base w a link i base) f (item_at w a b link i x base joined e)

  take_done : (w : WorldState) (a b i : ℕ) (l m : Option ℕ) → IsBase old confs events w → link_between w.domain.routers a b ≡ l → IsTrueDone old confs events (takes_over w a b i l m)
  take_done w a b i None m base e = same_done w base
  take_done w a b i (Some link) None base e = same_done w base
  take_done w a b i (Some link) (Some back) base e = takes_done w a link b back i (slice_get (queue_at w.flights a link) i) (slice_get w.routers b) base e refl refl

  lose_done : (w : WorldState) (a b i : ℕ) (l : Option ℕ) → IsBase old confs events w → IsTrueDone old confs events (loses_over w a b i l)
  lose_done w a b i None base = same_done w base
  lose_done w a b i (Some link) base = by (slice_get (queue_at w.flights a link) i)
    where
      by : (o : Option Item) → IsTrueDone old confs events (loses w a link b i o)
      by None = same_done w base
      by (Some x) = makes_done (taken_off w a link i) (item_lost b cause.Lost x) (taken_base w a link i base) (lost_made w.injections b cause.Lost x tt)

  again_done : (w : WorldState) (a i : ℕ) (l : Option ℕ) → IsBase old confs events w → IsTrueDone old confs events (repeats_over w a i l)
  again_done w a i None base = same_done w base
  again_done w a i (Some link) base = by (slice_get (queue_at w.flights a link) i) refl
    where
      by : (o : Option Item) → slice_get (queue_at w.flights a link) i ≡ o → IsTrueDone old confs events (repeats w a link o)
      by None e = same_done w base
      by (Some (PacketItem x)) e = same_done w base
      by (Some (ControlItem p)) e =
          let says = each_got (IsTrueItem confs w.injections (peer_place old.routers a link)) (queue_at w.flights a link) i (ControlItem p) (base.items a link) e in
          same_done (record w { flights = push_item w.flights a link (ControlItem p) })
          (record {
            domain = base.domain;
            confs_are = base.confs_are;
            controls = base.controls;
            queues = shape_kept w.flights a link (queue_at w.flights a link ++ ControlItem p ∷ []) ∙ base.queues;
            items = item_pushed (λ a link. IsTrueItem confs w.injections (peer_place old.routers a link)) w.flights a link (ControlItem p) says base.items;
            counted = base.counted;
            injections = base.injections;
          })

  -- ---- what a router does by itself

  module _ (w : WorldState) (base : IsBase old confs events w) (a : ℕ) where
    tick_done : (q : Option Control) → slice_get w.routers a ≡ q → IsTrueDone old confs events (changes w a tick q)
    tick_done None e = same_done w base
    tick_done (Some c) e =
        let t = control_at w base a c e in
        let reply = tick_true confs valid.few valid.sound c t.among (own_earlier d valid c.conf t.among) t.kept.control.links (state_of confs c t) t.kept.control.flood.in_order in
        turns_done w a c (tick c) base e reply (tick_keeps confs valid.few c t reply)

    restart_done : (q : Option Control) → slice_get w.routers a ≡ q → IsTrueDone old confs events (changes w a restart q)
    restart_done None e = same_done w base
    restart_done (Some c) e =
        let t = control_at w base a c e in
        let reply = restart_true confs c t.among (own_earlier d valid c.conf t.among) t.kept.control.links in
        turns_done w a c (restart c) base e reply (restart_keeps confs c valid.few t.kept reply)

    send_done : (q : Option Control) (l : Option ℕ) → slice_get w.routers a ≡ q → IsTrueDone old confs events (sends w a q l)
    send_done None l e = same_done w base
    send_done (Some c) None e = same_done w base
    send_done (Some c) (Some link) e =
        let t = control_at w base a c e in
        let reply = send_true confs valid.sound c t.among (state_of confs c t) link in
        replies_done w a link c (send c link) base e reply (send_keeps confs valid.few c t link reply)

    down_done : (q : Option Control) (l : Option ℕ) → slice_get w.routers a ≡ q → IsTrueDone old confs events (changes_end w a end_down q l)
    down_done None l e = same_done w base
    down_done (Some c) None e = same_done w base
    down_done (Some c) (Some link) e =
        let t = control_at w base a c e in
        let reply = end_down_true confs valid.few valid.sound c t.among (own_earlier d valid c.conf t.among) t.kept.control.links (state_of confs c t) link in
        turns_done w a c (end_down c link) base e reply (down_keeps confs valid.few c t link reply)

    -- the end that comes up is one of the router's
    end_within : (c : Control) (b link : ℕ) → slice_get w.routers a ≡ Some c → link_between w.domain.routers a b ≡ Some link → link < length c.conf.ends
    end_within c b link e joined =
        let j = join_of old.routers a b link (joined_at w base a b link joined) in
        let become = become_at old.routers confs a j.near c.conf of.become j.near_at (conf_at w base a c e) in
        let there = end_found j.near.ends j.far.system link j.toward in
        subst (λ (es : List End). link < length es) (sym (ap (λ (r : RouterConf). r.ends) become.one)) (got_within j.near.ends link there.at there.there)

    up_done : (b : ℕ) (q : Option Control) (l : Option ℕ) → slice_get w.routers a ≡ q → link_between w.domain.routers a b ≡ l → IsTrueDone old confs events (changes_end w a end_up q l)
    up_done b None l e f = same_done w base
    up_done b (Some c) None e f = same_done w base
    up_done b (Some c) (Some link) e f =
        let t = control_at w base a c e in
        let reply = end_up_true confs valid.few valid.sound c t.among (own_earlier d valid c.conf t.among) t.kept.control.links (state_of confs c t) link in
        turns_done w a c (end_up c link) base e reply (up_keeps confs valid.few c t link (end_within c b link e f) reply)

    -- an injection more
    entered : w.injections ≤ events → IsBase old confs events (record w { injections = w.injections + 1 })
    entered low = record {
      domain = base.domain;
      confs_are = base.confs_are;
      controls = base.controls;
      queues = base.queues;
      items = λ x link. each_weaker (IsTrueItem confs w.injections (peer_place old.routers x link)) (IsTrueItem confs (w.injections + 1) (peer_place old.routers x link)) (λ item h. item_more (peer_place old.routers x link) item h) (queue_at w.flights x link) (base.items x link);
      counted = base.counted;
      injections = omega (arith, low);
    }
      where
        item_more : (b : ℕ) (item : Item) → IsTrueItem confs w.injections b item → IsTrueItem confs (w.injections + 1) b item
        item_more b (ControlItem p) h = h
        item_more b (PacketItem x) h = record {
          told = h.told;
          made = omega (arith, h.made);
          some = h.some;
          ids = h.ids;
          bfr_ids = h.bfr_ids;
          lives = h.lives;
          ttl = h.ttl;
          entropy = h.entropy;
          bfir = h.bfir;
          payload = h.payload;
          sd = h.sd;
          si = h.si;
          bift = h.bift;
          outer = h.outer;
          means = h.means;
        }

    inject_done : (sd : ℕ) (bsl : Bsl) (ks : List ℕ) (ttl entropy : ℕ) (octets : List ℕ) (q : Option Control) → w.injections ≤ events → slice_get w.routers a ≡ q → InjectFits (length old.routers) a sd ks ttl entropy octets → entry_fault q sd bsl ks ≡ None
        → IsTrueDone old confs events (injects w a (λ c. inject_made w.domain.routers a c (w.injections + 1) sd bsl ks ttl entropy octets) q)
    inject_done sd bsl ks ttl entropy octets None low e fits ok = same_done w base
    inject_done sd bsl ks ttl entropy octets (Some c) low e fits ok =
        subst (λ (rs : List RouterConf). IsTrueDone old confs events (makes (record w { injections = w.injections + 1 }) (inject_made rs a c (w.injections + 1) sd bsl ks ttl entropy octets))) (ap (λ (z : DomainConf). z.routers) (sym base.domain))
        (makes_done (record w { injections = w.injections + 1 }) (inject_made old.routers a c (w.injections + 1) sd bsl ks ttl entropy octets) (entered low)
        (inject_true old.routers d valid places w.injections a c (conf_at w base a c e) (control_at w base a c e) sd bsl ks ttl entropy octets fits (no_edge (edge_fault c.conf sd bsl ks) ok)))
      where
        no_edge : (o : Option EdgeFault) → option_map faults.Edge o ≡ None → o ≡ None
        no_edge None h = refl
        no_edge (Some f) h = cc

-- ---- a configuration that changes

-- the router originates its own LSP anew, unless it is spent
abbrev anew : Control → RouterConf → Reply
anew c next = quiet (reissue_unless_spent (record c { conf = next }))

-- what stands after an event, whose configurations may be other ones than before
pub record IsTrueAfter (old : DomainConf) (events : ℕ) (n : Happened) : Type 0 where
  pub confs : List RouterConf
  pub of : AreOf old confs
  pub done : IsTrueDone old confs events n

module _ (old : DomainConf) (confs : List RouterConf) (of : AreOf old confs) (events : ℕ) (w : WorldState) (base : IsBase old confs events w) (a : ℕ) (c : Control) (at : slice_get w.routers a ≡ Some c) (next : RouterConf) (later : IsLater c.conf next) where
  abbrev nexts : List RouterConf
  nexts = slice_set confs a next

  conf_here : slice_get confs a ≡ Some c.conf
  conf_here = ap (λ (rs : List RouterConf). slice_get rs a) (sym base.confs_are) ∙ get_mapped (λ (x : Control). x.conf) w.routers a c at

  control_here : IsTrueControl confs c
  control_here = each_got (IsTrueControl confs) w.routers a c base.controls at

  of_next : AreOf old nexts
  of_next = record {
    valid = consistent_kept (record old { routers = confs }) a c.conf next of.valid conf_here later;
    become = become_later old.routers confs a c.conf next of.become conf_here later;
  }

  anew_true : IsTrueReply nexts (record c { conf = next }) (anew c next)
  anew_true =
      changed_true nexts c next (record { place = a; there = set_there confs a c.conf next conf_here }) (earlier_self next later.sound later.kinds)
      (control_here.kept.control.links ∙ ap (λ (r : RouterConf). length r.ends) (sym later.one))
      (state_next confs a c.conf next conf_here control_here.kept.sound later c (state_of confs c control_here))

  anew_keeps : IsRouter (anew c next).control
  anew_keeps = changed_keeps nexts c next of_next.valid.few control_here.kept later.sound (ap (λ (r : RouterConf). r.system) later.one) (ap (λ (r : RouterConf). r.ends) later.one) anew_true

  confs_next : map (λ (x : Control). x.conf) (slice_set w.routers a (anew c next).control) ≡ nexts
  confs_next =
      map_of_set (λ (x : Control). x.conf) w.routers a (anew c next).control
      ∙ ap (λ (rs : List RouterConf). slice_set rs a (anew c next).control.conf) base.confs_are
      ∙ ap (λ (r : RouterConf). slice_set confs a r) anew_true.next.conf

  changed_base : IsBase old nexts events (with_router w a (anew c next).control)
  changed_base = record {
    domain = base.domain;
    confs_are = confs_next;
    controls = controls_next confs a c.conf next conf_here control_here.kept.sound later w.routers (anew c next).control confs_next base.controls anew_keeps anew_true.next.state;
    queues = base.queues;
    items = λ x link. each_weaker (IsTrueItem confs w.injections (peer_place old.routers x link)) (IsTrueItem nexts w.injections (peer_place old.routers x link))
        (λ item h. item_next confs a c.conf next conf_here control_here.kept.sound later w.injections (peer_place old.routers x link) item h) (queue_at w.flights x link) (base.items x link);
    counted = base.counted;
    injections = base.injections;
  }

  changed_done : IsTrueAfter old events (turns w a (anew c next))
  changed_done = record { confs = nexts; of = of_next; done = record { base = changed_base; made = record { sent = tt; drops = tt } } }

-- ---- when a configuration may change

pub first_none : (b : Bool) (reason : EventFault) (next : Option EventFault) → first_fault b reason next ≡ None → (b ≡ false) × (next ≡ None)
first_none true reason next h = absurd (some_none reason h)
  where
    some_none : (e : EventFault) → Some e ≡ None → ⊥
    some_none e h = cc
first_none false reason next h = (refl, h)

used_none : (o : Option ℕ) (next : Option EventFault) → used_fault o next ≡ None → (o ≡ None) × (next ≡ None)
used_none None next h = (refl, h)
used_none (Some label) next h = absurd (some_none (faults.LabelUsed label) h)
  where
    some_none : (e : EventFault) → Some e ≡ None → ⊥
    some_none e h = cc

pub may_relabel : (r : RouterConf) (sd : ℕ) (bsl : Bsl) (label : ℕ) → 16 ≤ label → (o : Option LabelRange) → own_range r sd bsl ≡ o → range_fault r label o ≡ None → CanRelabel r sd bsl label
may_relabel r sd bsl label low None e h = absurd (some_none faults.NoSub h)
  where
    some_none : (f : EventFault) → Some f ≡ None → ⊥
    some_none f h = cc
may_relabel r sd bsl label low (Some x) e h =
    let high = first_none (is_too_high (moved x label)) faults.LabelHigh _ h in
    let used = used_none (used_label r (moved x label)) _ high.1 in
    let worn = first_none (is_worn r) faults.Relabels None used.1 in
    record {
      range = x;
      own = e;
      first = low;
      last = ltb-false LAST_LABEL (label + x.max_si) high.0;
      free = used.0;
      room = leb-false MOST_RELABELS (length r.past) worn.0;
    }

some_of : {X : Type 0} (o : Option X) → is_none o ≡ false → is_some o ≡ true
some_of None h = absurd (true≢false h)
some_of (Some x) h = refl

pub may_turn : (c : Control) (subs : RouterConf → List OwnSub) (sd : ℕ) → member_fault (Some c) subs sd ≡ None → is_some (sub_in (subs c.conf) sd) ≡ true
may_turn c subs sd h =
    let known = first_none (is_none (sub_in (known_subs c.conf) sd)) faults.NoSub _ h in
    let state = first_none (is_none (sub_in (subs c.conf) sd)) faults.SubState None known.1 in
    some_of (sub_in (subs c.conf) sd) state.0

-- ---- the events

relabel_is : (c : Control) (sd : ℕ) (bsl : Bsl) (label : ℕ) → relabel c sd bsl label ≡ anew c (relabelled c.conf sd bsl label)
unfolding relabel
relabel_is c sd bsl label = refl

leave_is : (c : Control) (sd : ℕ) → leave c sd ≡ anew c (left c.conf sd)
unfolding leave
leave_is c sd = refl

join_is : (c : Control) (sd : ℕ) → join c sd ≡ anew c (rejoined c.conf sd)
unfolding join
join_is c sd = refl

module _ (old : DomainConf) (confs : List RouterConf) (of : AreOf old confs) (events : ℕ) (w : WorldState) (base : IsBase old confs events w) (a : ℕ) where
  same_after : IsTrueAfter old events (same_world w)
  same_after = record { confs = confs; of = of; done = record { base = base; made = record { sent = tt; drops = tt } } }

  turned : (c : Control) → slice_get w.routers a ≡ Some c → (next : RouterConf) → (IsSound c.conf → KeepsKinds c.conf → IsLater c.conf next) → (r : Reply) → r ≡ anew c next → IsTrueAfter old events (turns w a r)
  turned c at next later r is =
      let t = each_got (IsTrueControl confs) w.routers a c base.controls at in
      subst (λ (x : Reply). IsTrueAfter old events (turns w a x)) (sym is)
      (changed_done old confs of events w base a c at next (later t.kept.sound (keeps_of (record old { routers = confs }) of.valid c.conf t.among)))

  relabel_done : (sd : ℕ) (bsl : Bsl) (label : ℕ) (q : Option Control) → slice_get w.routers a ≡ q → 16 ≤ label → relabel_fault q sd bsl label ≡ None → IsTrueAfter old events (changes w a (λ c. relabel c sd bsl label) q)
  relabel_done sd bsl label None at low ok = same_after
  relabel_done sd bsl label (Some c) at low ok =
      turned c at (relabelled c.conf sd bsl label) (λ sound kinds. relabel_later c.conf sd bsl label sound kinds (may_relabel c.conf sd bsl label low (own_range c.conf sd bsl) refl ok)) (relabel c sd bsl label) (relabel_is c sd bsl label)

  leave_done : (sd : ℕ) (q : Option Control) → slice_get w.routers a ≡ q → member_fault q (λ r. r.subs) sd ≡ None → IsTrueAfter old events (changes w a (λ c. leave c sd) q)
  leave_done sd None at ok = same_after
  leave_done sd (Some c) at ok = turned c at (left c.conf sd) (λ sound kinds. leave_later c.conf sd sound kinds (may_turn c (λ r. r.subs) sd ok)) (leave c sd) (leave_is c sd)

  join_done : (sd : ℕ) (q : Option Control) → slice_get w.routers a ≡ q → member_fault q (λ r. r.away) sd ≡ None → IsTrueAfter old events (changes w a (λ c. join c sd) q)
  join_done sd None at ok = same_after
  join_done sd (Some c) at ok = turned c at (rejoined c.conf sd) (λ sound kinds. join_later c.conf sd sound kinds (may_turn c (λ r. r.away) sd ok)) (join c sd) (join_is c sd)

module _ (w : WorldState) (t : IsTruthful w) where
  of_now : AreOf w.domain (confs_now w)
  of_now = record { valid = t.now; become = t.become }

  -- the configurations are those of before
  stays : (n : Happened) → IsTrueDone w.domain (confs_now w) w.events n → IsTrueAfter w.domain w.events n
  stays n k = record { confs = confs_now w; of = of_now; done = k }

  doing_true : (e : Event) → EventFits (length w.domain.routers) e → rule_fault w e ≡ None → IsTrueAfter w.domain w.events (doing w e)
  doing_true (Inject a sd bsl ks ttl entropy octets) fits ok =
      stays (doing w (Inject a sd bsl ks ttl entropy octets))
      (inject_done w.domain t.valid (confs_now w) of_now w.events w (base_of w t) a sd bsl ks ttl entropy octets (slice_get w.routers a) t.injections refl fits
      (first_none (nat_le most_in_flight (in_flight w.flights)) faults.InFlight (entry_fault (slice_get w.routers a) sd bsl ks) ok).1)
  doing_true (Take a b i) fits ok = stays (doing w (Take a b i)) (take_done w.domain t.valid (confs_now w) of_now w.events w a b i (link_between w.domain.routers a b) (link_between w.domain.routers b a) (base_of w t) refl)
  doing_true (Lose a b i) fits ok = stays (doing w (Lose a b i)) (lose_done w.domain t.valid (confs_now w) of_now w.events w a b i (link_between w.domain.routers a b) (base_of w t))
  doing_true (Again a b i) fits ok = stays (doing w (Again a b i)) (again_done w.domain t.valid (confs_now w) of_now w.events w a i (link_between w.domain.routers a b) (base_of w t))
  doing_true (Down a b) fits ok = stays (doing w (Down a b)) (down_done w.domain t.valid (confs_now w) of_now w.events w (base_of w t) a (slice_get w.routers a) (link_between w.domain.routers a b) refl)
  doing_true (Up a b) fits ok = stays (doing w (Up a b)) (up_done w.domain t.valid (confs_now w) of_now w.events w (base_of w t) a b (slice_get w.routers a) (link_between w.domain.routers a b) refl refl)
  doing_true (Send a b) fits ok = stays (doing w (Send a b)) (send_done w.domain t.valid (confs_now w) of_now w.events w (base_of w t) a (slice_get w.routers a) (link_between w.domain.routers a b) refl)
  doing_true (Tick a) fits ok = stays (doing w (Tick a)) (tick_done w.domain t.valid (confs_now w) of_now w.events w (base_of w t) a (slice_get w.routers a) refl)
  doing_true (Restart a) fits ok = stays (doing w (Restart a)) (restart_done w.domain t.valid (confs_now w) of_now w.events w (base_of w t) a (slice_get w.routers a) refl)
  doing_true (Relabel a sd bsl label) fits ok = relabel_done w.domain (confs_now w) of_now w.events w (base_of w t) a sd bsl label (slice_get w.routers a) refl fits.first ok
  doing_true (Leave a sd) fits ok = leave_done w.domain (confs_now w) of_now w.events w (base_of w t) a sd (slice_get w.routers a) refl ok
  doing_true (Join a sd) fits ok = join_done w.domain (confs_now w) of_now w.events w (base_of w t) a sd (slice_get w.routers a) refl ok

-- the same of the world with one event more
pub record AreFacts (old : DomainConf) (confs : List RouterConf) (v : WorldState) : Type 0 where
  pub valid : IsValid old
  pub of : AreOf old confs
  pub controls : AllByRecursion (IsTrueControl confs) v.routers
  pub queues : map (λ qs. length qs) v.flights ≡ map (λ r. length r.ends) old.routers
  pub items : AllQueues (λ a link. IsTrueItem confs v.injections (peer_place old.routers a link)) v.flights
  pub injections : v.injections ≤ v.events
  pub events : v.events ≤ most_events

truth_of : (old : DomainConf) (confs : List RouterConf) (v : WorldState) → v.domain ≡ old → confs_now v ≡ confs → AreFacts old confs v → IsTruthful v
truth_of old confs v same now facts =
    let h : AreFacts v.domain confs v = subst (λ (x : DomainConf). AreFacts x confs v) (sym same) facts in
    let k : AreFacts v.domain (confs_now v) v = subst (λ (x : List RouterConf). AreFacts v.domain x v) (sym now) h in
    record { valid = k.valid; now = k.of.valid; become = k.of.become; controls = k.controls; queues = k.queues; items = k.items; injections = k.injections; events = k.events }

-- Every event that is allowed keeps the truth; each item that it sends is true, and what it drops has one of six causes.
pub record KeepsTruth (old : DomainConf) (n : Happened) : Type 0 where
  pub truth : IsTruthful n.world
  pub domain : n.world.domain ≡ old
  pub made : IsTrueMade old.routers (confs_now n.world) n.world.injections n.made

counted_true : (w : WorldState) → IsTruthful w → w.events < most_events → (n : Happened) → IsTrueAfter w.domain w.events n → KeepsTruth w.domain (counted n)
counted_true w t more n after =
    let k = after.done in
    record {
      truth = truth_of w.domain after.confs (record n.world { events = n.world.events + 1 }) k.base.domain k.base.confs_are (record {
        valid = t.valid;
        of = after.of;
        controls = k.base.controls;
        queues = k.base.queues;
        items = k.base.items;
        injections = (let c = k.base.counted in let i = k.base.injections in omega (arith, c, i));
        events = (let c = k.base.counted in omega (arith, c, more));
      });
      domain = k.base.domain;
      made = subst (λ (rs : List RouterConf). IsTrueMade w.domain.routers rs n.world.injections n.made) (sym k.base.confs_are) k.made;
    }

pub happens_true : (w : WorldState) (e : Event) → IsTruthful w → EventFits (length w.domain.routers) e → event_fault w e ≡ None → KeepsTruth w.domain (happens w e)
unfolding happens event_fault
happens_true w e t fits ok =
    let allowed = first_none (nat_le most_events w.events) faults.Events (rule_fault w e) ok in
    counted_true w t (leb-false most_events w.events allowed.0) (doing w e) (doing_true w t e fits allowed.1)

-- ---- the beginning

-- the routers in their first states
first_confs : (rs : List RouterConf) → map (λ c. c.conf) (map first_control rs) ≡ rs
first_confs [] = refl
first_confs (r ∷ rs) = ap (λ (x : RouterConf). x ∷ map (λ c. c.conf) (map first_control rs)) (first_conf r) ∙ ap (λ (l : List RouterConf). r ∷ l) (first_confs rs)

first_control_true : (d : DomainConf) → IsConsistent d → (r : RouterConf) → IsAmong d.routers r → IsTrueControl d.routers (first_control r)
first_control_true d valid r a =
    let s = first_state_true d.routers r a (own_earlier d valid r a) in
    record {
      among = subst (IsAmong d.routers) (sym (first_conf r)) a;
      kept = first_keeps d.routers r valid.few (sound_of d valid r a) s;
      entries = s.entries_true;
      unsent = s.unsent;
    }

-- each router of a list by its place
all_among : (confs : List RouterConf) → AllByRecursion (IsAmong confs) confs
all_among [] = tt
all_among (r ∷ rs) = (record { place = 0; there = refl }, each_weaker (IsAmong rs) (IsAmong (r ∷ rs)) (λ q a. record { place = suc a.place; there = a.there }) rs (all_among rs))

first_queues : (rs : List RouterConf) → map (λ qs. length qs) (no_flights rs) ≡ map (λ r. length r.ends) rs
first_queues [] = refl
first_queues (r ∷ rs) = ap (λ (n : ℕ). n ∷ map (λ qs. length qs) (no_flights rs)) (length-map r.ends (λ e. [])) ∙ ap (λ (l : List ℕ). length r.ends ∷ l) (first_queues rs)

pub first_true : (d : DomainConf) → IsValid d → IsTruthful (first_world d)
unfolding first_world
first_true d valid =
    truth_of d d.routers (first_world d) refl (first_confs d.routers)
    (record {
      valid = valid;
      of = record { valid = valid.consistent; become = become_self d.routers };
      controls = each_mapped (IsTrueControl d.routers) first_control d.routers (each_weaker (IsAmong d.routers) (λ r. IsTrueControl d.routers (first_control r)) (first_control_true d valid.consistent) d.routers (all_among d.routers));
      queues = first_queues d.routers;
      items = none_queued (λ a link. IsTrueItem d.routers 0 (peer_place d.routers a link)) d.routers;
      injections = omega arith;
      events = omega arith;
    })
