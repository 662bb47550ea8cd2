-- A router sends all that is due to another, which receives the CSNPs among it.
use Rattle.std.proofs.Common.{◌≡◌, ◌⊎◌, inl, inr, ℕ, zero, suc, ◌<◌, Bool, true, false, if◌then◌else◌, List, [], ◌∷◌, ◌++◌, length, map, filter, replicate, slice_get, slice_set, slice_index_or, Option, Some, refl, sym, ap, subst, ◌∙◌, append-nil, append_assoc, arith}
use Rattle.std.specs.List.{AllByRecursion, remove}
use Rattle.wire_base.specs.declared.addresses.LspId.{LspId}
use Rattle.wire_base.specs.declared.cause.Cause.{Cause}
use Rattle.wire_base.specs.declared.cause.Cause.TheVariants as cause
use Rattle.wire_base.specs.declared.conf.RouterConf.{RouterConf}
use Rattle.wire_base.specs.declared.entry.Entry.{Entry}
use Rattle.wire_base.specs.declared.triple.Summary.{Summary}
use Rattle.wire_base.specs.model.Checksum.{check_sum}
use Rattle.wire_base.specs.model.Configuration.{DomainConf, IsSound}
use Rattle.wire_base.specs.model.Control.{Control, IsWithinLinks, summary_of}
use Rattle.wire_base.specs.model.Flooding.{Reply, csnps, due_csnps, due_lsps, due_psnps, id_after, is_known, last_listed, most_listed, on_csnp, on_pdu, send, send_of, zero_id}
use Rattle.wire_base.specs.model.Item.{Item, ControlItem}
use Rattle.wire_base.specs.model.Lists.{blocks}
use Rattle.wire_base.specs.model.Pdu.{Pdu, CsnpPdu, lsp_covered}
use Rattle.laws_router.proofs.KeptLaws.{csnp_kept}
use Rattle.laws_router.specs.State.{IsRouter}
use Rattle.lsp_store.specs.Keys.{IsOctets}
use Rattle.router_core.proofs.OwnLaws.{kept_of}
use Rattle.quiet_domain.specs.Live.{AreSameLive}
use Rattle.replay_text.specs.declared.event.Event.{Event}
use Rattle.replay_text.specs.declared.event.Event.TheVariants.{Send, Take}
use Rattle.domain_model.specs.Moves.{control_lost, item_lost, over_end}
use Rattle.domain_model.specs.Run.{world_after}
use Rattle.domain_model.specs.Step.{arrives, counted, happens, makes, push_all, replies, sends, taken_off, takes, takes_over}
use Rattle.domain_model.specs.Truth.{AreWorldDrops, IsDeadLsp, IsOwnLsp, IsTrueControl, IsTrueEntry, IsTruthful, confs_now, head_of}
use Rattle.domain_model.specs.World.{WorldState, is_up, link_between, push_item, queue_at, with_queue, without_item}
use Rattle.domain_model.proofs.EachLaws.{each_got, each_weaker}
use Rattle.domain_model.proofs.FloodTruth.{row_true}
use Rattle.domain_model.proofs.QueueLaws.{shape_kept}
use Rattle.domain_model.proofs.WorldTruth.{happens_true}
use Rattle.laws_ledger.specs.Runs.{AreAllowed}
use Rattle.laws_ledger.proofs.FlightLaws.{shape}
use Rattle.laws_ledger.proofs.WorldLaws.{room_at}
use Rattle.laws_quiet.specs.Quiet.{lsdb_at, lsdb_of}
use Rattle.laws_settle.specs.Csnps.{AreToldBySums, IsAnswered, IsExchange, IsSoundEntry, NoneDropped, after_pdus}
use Rattle.laws_settle.proofs.CsnpAt.{IsReceiving, if_receives}
use Rattle.laws_settle.proofs.Joined.{joined_differ}
use Rattle.laws_settle.proofs.SameByCsnps.{same_live}
use Rattle.laws_settle.proofs.RoundQueues.{set_within}
use Rattle.router_core.proofs.CountLaws.{up_within}
use Rattle.router_core.proofs.KeepLaws.{sent_entries}

-- ---- lists

set_here : {X : Type 0} (xs : List X) (i : ℕ) (x y : X) → slice_get xs i ≡ Some y → slice_get (slice_set xs i x) i ≡ Some x
set_here [] i x y h = cc
set_here (z ∷ zs) zero x y h = refl
set_here (z ∷ zs) (suc i) x y h = set_here zs i x y h

set_there : {X : Type 0} (xs : List X) (i j : ℕ) (x : X) → (i ≡ j → ⊥) → slice_get (slice_set xs i x) j ≡ slice_get xs j
set_there [] i j x h = refl
set_there (z ∷ zs) zero zero x h = absurd (h refl)
set_there (z ∷ zs) zero (suc j) x h = refl
set_there (z ∷ zs) (suc i) zero x h = refl
set_there (z ∷ zs) (suc i) (suc j) x h = set_there zs i j x (λ e. h (ap suc e))

-- one after others is there, and goes
got_after : {X : Type 0} (old : List X) (x : X) (rest : List X) → slice_get (old ++ x ∷ rest) (length old) ≡ Some x
got_after [] x rest = refl
got_after (y ∷ old) x rest = got_after old x rest

gone_after : {X : Type 0} (old : List X) (x : X) (rest : List X) → remove (old ++ x ∷ rest) (length old) ≡ old ++ rest
gone_after [] x rest = refl
gone_after {X} (y ∷ old) x rest = ap (λ (l : List X). y ∷ l) (gone_after old x rest)

-- ---- queues

row_read : (flights : List (List (List Item))) (a : ℕ) → slice_index_or (shape flights) a 0 ≡ length (slice_index_or flights a [])
row_read [] a = refl
row_read (row ∷ rows) zero = refl
row_read (row ∷ rows) (suc a) = row_read rows a

row_within : (flights : List (List (List Item))) (a link : ℕ) → link < slice_index_or (shape flights) a 0 → a < length flights
row_within [] a link h = absurd (omega (arith, h))
row_within (row ∷ rows) zero link h = omega arith
row_within (row ∷ rows) (suc a) link h = let k = row_within rows a link h in omega (arith, k)

queue_read : (flights : List (List (List Item))) (a link : ℕ) (queue : List Item) → link < slice_index_or (shape flights) a 0 → queue_at (with_queue flights a link queue) a link ≡ queue
queue_read flights a link queue h =
    let row = slice_index_or flights a [] in
    let long = row_read flights a in
    ap (λ (r : List (List Item)). slice_index_or r link []) (set_within flights a (slice_set row link queue) [] (row_within flights a link h))
    ∙ set_within row link queue [] (omega (arith, h, long))

-- what is sent is queued in order
sent_queue : (confs : List RouterConf) (a link : ℕ) (ps : List Pdu) (flights : List (List (List Item))) → link < slice_index_or (shape flights) a 0
    → queue_at (push_all flights (map (λ p. over_end confs a link (ControlItem p)) ps)) a link ≡ queue_at flights a link ++ map ControlItem ps
sent_queue confs a link [] flights h = sym (append-nil (queue_at flights a link))
sent_queue confs a link (p ∷ ps) flights h =
    let queue = queue_at flights a link ++ ControlItem p ∷ [] in
    let next = push_item flights a link (ControlItem p) in
    let same : slice_index_or (shape next) a 0 ≡ slice_index_or (shape flights) a 0 = ap (λ (l : List ℕ). slice_index_or l a 0) (shape_kept flights a link queue) in
    sent_queue confs a link ps next (omega (arith, h, same))
    ∙ ap (λ (q : List Item). q ++ map ControlItem ps) (queue_read flights a link queue h)
    ∙ append_assoc (queue_at flights a link) (ControlItem p ∷ []) (map ControlItem ps)

-- ---- entries of a truthful world

sum_some : (octets : List ℕ) (at : ℕ) → 0 < check_sum octets at
unfolding check_sum
sum_some octets at = omega arith

entry_sound : (confs : List RouterConf) → AllByRecursion IsSound confs → (e : Entry) → IsTrueEntry confs e → IsSoundEntry e
entry_sound confs sound e t =
    let row = row_true confs (head_of e) e.content t in
    let router = each_got IsSound confs t.named.among.place t.named.router sound t.named.among.there in
    let octets : IsOctets (record { system = t.named.router.system; pseudonode = 0; fragment = 0 }) = record { system = record { six = router.system.long; each = router.system.each }; pseudonode = omega arith; fragment = omega arith } in
    record {
      id = subst IsOctets (sym t.named.is) octets;
      life = (let low = row.life in omega (arith, low));
      seq = (let low = row.seq in omega (arith, low));
      sum = (let low = row.sum in omega (arith, low));
      some_seq = λ live. has_seq t.says live;
      some_sum = λ live. has_sum t.says live;
    }
  where
    has_seq : IsOwnLsp confs (head_of e) e.content ⊎ IsDeadLsp (head_of e) e.content → 0 < e.life → 0 < e.seq
    has_seq (inl own) live = own.some
    has_seq (inr dead) live = absurd (let none = dead.dead in omega (arith, none, live))

    has_sum : IsOwnLsp confs (head_of e) e.content ⊎ IsDeadLsp (head_of e) e.content → 0 < e.life → 0 < e.sum
    has_sum (inl own) live = (let some = sum_some (lsp_covered (record (head_of e) { sum = 0 }) e.content) 12 in let is = own.sum in omega (arith, some, is))
    has_sum (inr dead) live = absurd (let none = dead.dead in omega (arith, none, live))

pub entries_sound : (w : WorldState) → IsTruthful w → (a : ℕ) (c : Control) → slice_get w.routers a ≡ Some c → AllByRecursion IsSoundEntry c.entries
entries_sound w t a c at = each_weaker (IsTrueEntry (confs_now w)) IsSoundEntry (entry_sound (confs_now w) t.now.sound) c.entries (each_got (IsTrueControl (confs_now w)) w.routers a c t.controls at).entries

pub router_is : (w : WorldState) → IsTruthful w → (a : ℕ) (c : Control) → slice_get w.routers a ≡ Some c → IsRouter c
router_is w t a c at = (each_got (IsTrueControl (confs_now w)) w.routers a c t.controls at).kept

-- ---- a CSNP that is received

abbrev IsCsnp : Pdu → Type 0
IsCsnp (CsnpPdu source start last tlvs) = Unit {0}
IsCsnp other = ⊥

csnps_are : (c : Control) (start : LspId) (bs : List (List Summary)) → AllByRecursion IsCsnp (csnps c start bs)
csnps_are c start (block ∷ next ∷ more) = (tt, csnps_are c (id_after (last_listed start block)) (next ∷ more))
csnps_are c start other = (tt, tt)

due_are : (c : Control) → AllByRecursion IsCsnp (due_csnps c true)
due_are c = csnps_are c zero_id (blocks most_listed (map summary_of (filter is_known c.entries)))

-- nothing is sent, and nothing but full is dropped
pub record IsQuietReply (r : Reply) : Type 0 where
  pub sent : r.sent ≡ []
  pub full : ℕ
  pub drops : r.drops ≡ replicate full cause.Full

module _ (up : List Bool) (back : ℕ) (open_ : slice_index_or up back false ≡ true) where
  csnp_reply : (e : Control) (p : Pdu) → IsCsnp p → IsQuietReply (on_pdu e back p)
  unfolding on_pdu
  csnp_reply e (CsnpPdu source start last tlvs) is = record { sent = refl; full = (on_csnp e.flood e.entries back start last tlvs e.spent).answer.full; drops = refl }
  csnp_reply e other is = absurd is

  csnp_next : (e : Control) (p : Pdu) → IsCsnp p → IsReceiving up e → IsReceiving up (on_pdu e back p).control
  unfolding on_pdu
  csnp_next e (CsnpPdu source start last tlvs) is r =
      let a = on_csnp e.flood e.entries back start last tlvs e.spent in
      if_receives up (record e { flood = a.flood; entries = a.entries }) a.answer.reissue (record { sound = r.sound; kept = (csnp_kept e.conf.system up e.spent back open_ e.flood e.entries start last tlvs r.kept).kept })
  csnp_next e other is r = absurd is

no_full : (b n : ℕ) → AreWorldDrops (map (control_lost b) (replicate n cause.Full)) → replicate n cause.Full ≡ []
no_full b zero all = refl
no_full b (suc n) all = absurd all.0

-- ---- the world between

module _ (dom : DomainConf) (a b link back : ℕ) (differ : a ≡ b → ⊥) (joined : link_between dom.routers a b ≡ Some link) (met : link_between dom.routers b a ≡ Some back) (c : Control) (up : List Bool) (open_ : slice_index_or up back false ≡ true) (old : List Item) where
  -- some of the CSNPs are received, and these PDUs are still in flight behind what was there before
  record IsUnderway (rest : List Pdu) (u : WorldState) (e : Control) : Type 0 where
    pub truth : IsTruthful u
    pub domain : u.domain ≡ dom
    pub sender : slice_get u.routers a ≡ Some c
    pub receiver : slice_get u.routers b ≡ Some e
    pub receives : IsReceiving up e
    pub room : link < slice_index_or (shape u.flights) a 0
    pub queue : queue_at u.flights a link ≡ old ++ map ControlItem rest

  abbrev taking : Event
  taking = Take a b (length old)

  module _ (p : Pdu) (rest : List Pdu) (is : IsCsnp p) (u : WorldState) (e : Control) (h : IsUnderway (p ∷ rest) u e) where
    abbrev off : WorldState
    off = taken_off u a link (length old)

    abbrev reply : Reply
    reply = on_pdu e back p

    at : slice_get (queue_at u.flights a link) (length old) ≡ Some (ControlItem p)
    at = ap (λ (q : List Item). slice_get q (length old)) h.queue ∙ got_after old (ControlItem p) (map ControlItem rest)

    opened : is_up e back ≡ true
    opened = ap (λ (l : List Bool). slice_index_or l back false) h.receives.kept.up_is ∙ open_

    taken_is : happens u taking ≡ counted (replies off b back reply)
    unfolding happens
    taken_is =
        ap (λ (d : DomainConf). counted (takes_over u a b (length old) (link_between d.routers a b) (link_between d.routers b a))) h.domain
        ∙ ap (λ (l : Option ℕ). counted (takes_over u a b (length old) l (link_between dom.routers b a))) joined
        ∙ ap (λ (m : Option ℕ). counted (takes_over u a b (length old) (Some link) m)) met
        ∙ ap (λ (o : Option Item). counted (takes u a link b back (length old) o (slice_get u.routers b))) at
        ∙ ap (λ (q : Option Control). counted (takes u a link b back (length old) (Some (ControlItem p)) q)) h.receiver
        ∙ ap (λ (t : Bool). counted (if t then arrives off b back e (ControlItem p) else makes off (item_lost b cause.Link (ControlItem p)))) opened

    quiet : IsQuietReply reply
    quiet = csnp_reply up back open_ e p is

    -- what is left in flight
    flights_are : (happens u taking).world.flights ≡ without_item u.flights a link (length old)
    flights_are =
        ap (λ n. n.world.flights) taken_is
        ∙ ap (λ (ps : List Pdu). push_all (without_item u.flights a link (length old)) (map (λ p. over_end u.domain.routers b back (ControlItem p)) ps)) quiet.sent

    shape_is : slice_index_or (shape (happens u taking).world.flights) a 0 ≡ slice_index_or (shape u.flights) a 0
    shape_is = ap (λ (f : List (List (List Item))). slice_index_or (shape f) a 0) flights_are ∙ ap (λ (l : List ℕ). slice_index_or l a 0) (shape_kept u.flights a link (remove (queue_at u.flights a link) (length old)))

    module _ (allowed : AreAllowed u (taking ∷ [])) where
      taken_underway : IsUnderway rest (happens u taking).world reply.control
      taken_underway = record {
        truth = (happens_true u taking h.truth allowed.0 allowed.1).truth;
        domain = ap (λ n. n.world.domain) taken_is ∙ h.domain;
        sender = ap (λ n. slice_get n.world.routers a) taken_is ∙ set_there u.routers b a reply.control (λ same. differ (sym same)) ∙ h.sender;
        receiver = ap (λ n. slice_get n.world.routers b) taken_is ∙ set_here u.routers b reply.control e h.receiver;
        receives = csnp_next up back open_ e p is h.receives;
        room = (let more = h.room in omega (arith, more, shape_is));
        queue = ap (λ (f : List (List (List Item))). queue_at f a link) flights_are
            ∙ queue_read u.flights a link (remove (queue_at u.flights a link) (length old)) h.room
            ∙ ap (λ (q : List Item). remove q (length old)) h.queue ∙ gone_after old (ControlItem p) (map ControlItem rest);
      }

      none_full : reply.drops ≡ []
      none_full =
          let drops : AreWorldDrops (happens u taking).made.drops = (happens_true u taking h.truth allowed.0 allowed.1).made.drops in
          let these : AreWorldDrops (map (control_lost b) reply.drops) = subst (λ n. AreWorldDrops n.made.drops) taken_is drops in
          quiet.drops ∙ no_full b quiet.full (subst (λ (l : List Cause). AreWorldDrops (map (control_lost b) l)) quiet.drops these)

  -- after all of them
  record IsReceived (more : List Pdu) (v : WorldState) (ps : List Pdu) (e : Control) : Type 0 where
    pub underway : IsUnderway more v (after_pdus e back ps)
    pub none : NoneDropped e back ps

  all_received : (ps more : List Pdu) (u : WorldState) (e : Control) → AllByRecursion IsCsnp ps → IsUnderway (ps ++ more) u e → AreAllowed u (replicate (length ps) taking) → IsReceived more (world_after u (replicate (length ps) taking)) ps e
  all_received [] more u e are h allowed = record { underway = h; none = tt }
  all_received (p ∷ ps) more u e are h allowed =
      let one : AreAllowed u (taking ∷ []) = (allowed.0, allowed.1, tt) in
      let next = taken_underway p (ps ++ more) are.0 u e h one in
      let rest = all_received ps more (happens u taking).world (on_pdu e back p).control are.1 next allowed.2 in
      record { underway = rest.underway; none = (none_full p (ps ++ more) are.0 u e h one, rest.none) }

-- ---- the world before

within_long : (xs up : List Bool) → IsWithinLinks xs up → length xs ≡ length up
within_long [] [] w = refl
within_long [] (y ∷ ys) w = absurd w
within_long (x ∷ xs) [] w = absurd w
within_long (false ∷ xs) (y ∷ ys) w = ap suc (within_long xs ys w)
within_long (true ∷ xs) (y ∷ ys) w = ap suc (within_long xs ys w.1)

send_sent : (c : Control) (link : ℕ) → slice_index_or c.flood.due link false ≡ true → (send c link).sent ≡ due_csnps c true ++ (due_lsps c link ++ due_psnps c link)
unfolding send send_of
send_sent c link due = ap (λ (b : Bool). due_csnps c b ++ (due_lsps c link ++ due_psnps c link)) due

module _ (w : WorldState) (a b : ℕ) (c d : Control) (link back : ℕ) (v : WorldState) (h : IsExchange w a b c d link back v) where
  differ : a ≡ b → ⊥
  differ = joined_differ w.domain h.truth.valid.consistent a b link h.joined

  abbrev sending : Event
  sending = Send a b

  abbrev sendings : Reply
  sendings = send c link

  abbrev old : List Item
  old = queue_at w.flights a link

  abbrev more : List Pdu
  more = due_lsps c link ++ due_psnps c link

  sent_is : happens w sending ≡ counted (replies w a link sendings)
  unfolding happens
  sent_is = ap (λ (q : Option Control). counted (sends w a q (link_between w.domain.routers a b))) h.sender ∙ ap (λ (l : Option ℕ). counted (sends w a (Some c) l)) h.joined

  room : link < slice_index_or (shape w.flights) a 0
  room =
      let k = router_is w h.truth a c h.sender in
      let low = up_within c.flood.due link h.due in
      let long = within_long c.flood.due c.flood.up k.control.flood.due_up in
      let ends = k.control.links in
      let rows = room_at w h.truth a c h.sender in
      omega (arith, low, long, ends, rows)

  pushed : List (List (List Item))
  pushed = push_all w.flights (map (λ p. over_end w.domain.routers a link (ControlItem p)) sendings.sent)

  pushed_shape : (ps : List Pdu) (flights : List (List (List Item))) → shape (push_all flights (map (λ p. over_end w.domain.routers a link (ControlItem p)) ps)) ≡ shape flights
  pushed_shape [] flights = refl
  pushed_shape (p ∷ ps) flights = pushed_shape ps (push_item flights a link (ControlItem p)) ∙ shape_kept flights a link (queue_at flights a link ++ ControlItem p ∷ [])

  receiving : IsReceiving d.flood.up d
  receiving = let k = router_is w h.truth b d h.receiver in record { sound = k.sound; kept = kept_of d k }

  begun : IsUnderway w.domain a b link back differ h.joined h.met sendings.control d.flood.up h.up old (due_csnps c true ++ more) (happens w sending).world d
  unfolding pushed
  begun = record {
    truth = (happens_true w sending h.truth h.allowed.0 h.allowed.1).truth;
    domain = ap (λ n. n.world.domain) sent_is;
    sender = ap (λ n. slice_get n.world.routers a) sent_is ∙ set_here w.routers a sendings.control c h.sender;
    receiver = ap (λ n. slice_get n.world.routers b) sent_is ∙ set_there w.routers a b sendings.control differ ∙ h.receiver;
    receives = receiving;
    room = (let same : slice_index_or (shape (happens w sending).world.flights) a 0 ≡ slice_index_or (shape w.flights) a 0 = ap (λ n. slice_index_or (shape n.world.flights) a 0) sent_is ∙ ap (λ (l : List ℕ). slice_index_or l a 0) (pushed_shape sendings.sent w.flights) in omega (arith, room, same));
    queue = ap (λ n. queue_at n.world.flights a link) sent_is ∙ sent_queue w.domain.routers a link sendings.sent w.flights room ∙ ap (λ (ps : List Pdu). old ++ map ControlItem ps) (send_sent c link h.due);
  }

  takes_are : AreAllowed (happens w sending).world (replicate (length (due_csnps c true)) (Take a b (length old)))
  takes_are = h.allowed.2

  received : IsReceived w.domain a b link back differ h.joined h.met sendings.control d.flood.up h.up old more (world_after (happens w sending).world (replicate (length (due_csnps c true)) (Take a b (length old)))) (due_csnps c true) d
  received = all_received w.domain a b link back differ h.joined h.met sendings.control d.flood.up h.up old (due_csnps c true) more (happens w sending).world d (due_are c) begun takes_are

  abbrev last : Control
  last = after_pdus d back (due_csnps c true)

  at_last : slice_get v.routers b ≡ Some last
  at_last = ap (λ (x : WorldState). slice_get x.routers b) h.is ∙ received.underway.receiver

  near_is : lsdb_at v a ≡ c.entries
  near_is = ap (λ (x : WorldState). lsdb_of (slice_get x.routers a)) h.is ∙ ap lsdb_of received.underway.sender ∙ sent_entries c link

  far_is : lsdb_at v b ≡ last.entries
  far_is = ap lsdb_of at_last

  answered : IsAnswered c d back last
  answered = record {
    sender = router_is w h.truth a c h.sender;
    receiver = router_is w h.truth b d h.receiver;
    up = h.up;
    sent = entries_sound w h.truth a c h.sender;
    room = received.none;
    is = refl;
    stored = entries_sound v (subst IsTruthful (sym h.is) received.underway.truth) b last at_last;
    idle = h.idle last at_last;
    told = subst (λ (xs : List Entry). AreToldBySums xs last.entries) near_is (subst (λ (ys : List Entry). AreToldBySums (lsdb_at v a) ys) far_is h.told);
  }

  pub exchange_same : AreSameLive (lsdb_at v a) (lsdb_at v b)
  exchange_same = subst (λ (xs : List Entry). AreSameLive xs (lsdb_at v b)) (sym near_is) (subst (λ (ys : List Entry). AreSameLive c.entries ys) (sym far_is) (same_live c d back last answered))
