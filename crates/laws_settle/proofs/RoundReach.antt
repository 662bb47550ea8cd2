-- In a round each router gets what its neighbors had, over every link whose two interfaces are up.
use Rattle.std.proofs.Common.{◌≡◌, ◌⊎◌, inl, inr, ℕ, zero, suc, ◌<◌, ◌≤◌, ◌+◌, Bool, true, false, if◌then◌else◌, List, [], ◌∷◌, ◌++◌, length, map, filter, slice_get, slice_index_or, Option, Some, None, refl, sym, ap, subst, ◌∙◌, arith}
use Rattle.std.specs.List.{AllByRecursion, range_with_len}
use Rattle.std.proofs.lemmas.Bool.{cases_lt, false≢true}
use Rattle.std.proofs.lemmas.Option.{same_Some}
use Rattle.wire_base.specs.declared.addresses.LspId.{LspId}
use Rattle.wire_base.specs.declared.conf.RouterConf.{RouterConf}
use Rattle.wire_base.specs.declared.entry.Entry.{Entry}
use Rattle.wire_base.specs.model.Configuration.{DomainConf}
use Rattle.wire_base.specs.model.Control.{Control, entry_in, same_id, seq_of, srm}
use Rattle.wire_base.specs.model.Flooding.{due_csnps, due_lsps, due_psnps, lsp_of, send, send_of}
use Rattle.wire_base.specs.model.Item.{Item, ControlItem}
use Rattle.wire_base.specs.model.Pdu.{Head, Pdu, LspPdu}
use Rattle.replay_text.specs.declared.event.Event.{Event}
use Rattle.replay_text.specs.declared.event.Event.TheVariants.{Take, Send}
use Rattle.domain_model.specs.Faults.{up_over}
use Rattle.domain_model.specs.Moves.{over_end}
use Rattle.domain_model.specs.Run.{Direction, direction_over, directions, directions_from, may_send, round_events, round_sends, round_takes, world_after}
use Rattle.domain_model.specs.Step.{Happened, doing, happens, replies, sends}
use Rattle.domain_model.specs.Truth.{IsTruthful}
use Rattle.domain_model.specs.World.{WorldState, link_between, peer_place, queue_at}
use Rattle.domain_model.proofs.EachLaws.{each_joined}
use Rattle.domain_model.proofs.FlagLaws.{found_id, same_id_is}
use Rattle.domain_model.proofs.LinkLaws.{end_found, join_of, peer_is}
use Rattle.domain_model.proofs.QueueLaws.{got_within}
use Rattle.laws_ledger.specs.Runs.{AreAllowed}
use Rattle.laws_quiet.specs.Quiet.{lsdb_of}
use Rattle.laws_settle.specs.Fresh.{number_at, number_in}
use Rattle.laws_settle.specs.Gentle.{IsTraffic}
use Rattle.laws_settle.proofs.RoundQueues.{HasOne, IsSentOn, one_left, one_right, shape_place, stands_sent}
use Rattle.laws_settle.proofs.RoundSteps.{IsInRound, comes_in, has_step, round_step, up_here}
use Rattle.laws_settle.proofs.RoundTurns.{IsAlong, IsHere, IsLink, IsOnWay, in_round, send_event, sends_are, sends_leave, takes_are, takes_reach}

-- ---- lists

pub one_kept : {X : Type 0} (P : X → Type 0) (p : X → Bool) (xs : List X) → ((x : X) → P x → p x ≡ true) → HasOne P xs → HasOne P (filter p xs)
one_kept P p [] passes h = absurd h
one_kept P p (x ∷ xs) passes h = by (p x) refl h (one_kept P p xs passes)
  where
    by : (b : Bool) → p x ≡ b → P x ⊎ HasOne P xs → (HasOne P xs → HasOne P (filter p xs)) → HasOne P (if b then x ∷ filter p xs else filter p xs)
    by true e (inl h) more = inl h
    by true e (inr h) more = inr (more h)
    by false e (inl h) more = absurd (false≢true (sym e ∙ passes x h))
    by false e (inr h) more = more h

pub one_some : {X : Type 0} (P : X → Type 0) (xs : List X) → HasOne P xs → (x : X) × P x × HasOne (λ y. y ≡ x) xs
one_some P [] h = absurd h
one_some P (x ∷ xs) (inl h) = (x, h, inl refl)
one_some P (x ∷ xs) (inr h) = let more = one_some P xs h in (more.0, more.1, inr more.2)

pub one_mapped : {X Y : Type 0} (P : X → Type 0) (Q : Y → Type 0) (f : X → Y) → ((x : X) → P x → Q (f x)) → (xs : List X) → HasOne P xs → HasOne Q (map f xs)
one_mapped P Q f to [] h = absurd h
one_mapped P Q f to (x ∷ xs) (inl h) = inl (to x h)
one_mapped P Q f to (x ∷ xs) (inr h) = inr (one_mapped P Q f to xs h)

-- ---- the events of a round

pub events_of_round : (w : WorldState) → AllByRecursion IsTraffic (round_events w)
unfolding round_events
events_of_round w = each_joined IsTraffic (round_sends w) (round_takes (world_after w (round_sends w)) (directions w.domain.routers)) (sends_are IsTraffic (λ a b. tt) (filter (may_send w) (directions w.domain.routers))) (takes_are IsTraffic (λ a b i. tt) (directions w.domain.routers) (world_after w (round_sends w)))

-- ---- the directions

in_range : (start link n : ℕ) → link < n → HasOne (λ k. k ≡ start + link) (range_with_len start n)
in_range start link zero low = absurd (omega (arith, low))
in_range start zero (suc n) low = inl (omega arith)
in_range start (suc link) (suc n) low = inr (later (range_with_len (start + 1) n) (in_range (start + 1) link n (omega (arith, low))))
  where
    later : (ks : List ℕ) → HasOne (λ k. k ≡ start + 1 + link) ks → HasOne (λ k. k ≡ start + suc link) ks
    later [] h = absurd h
    later (k ∷ ks) (inl h) = inl (omega (arith, h))
    later (k ∷ ks) (inr h) = inr (later ks h)

along_from : (confs : List RouterConf) (x y link : ℕ) (r : RouterConf) → peer_place confs x link ≡ y → link < length r.ends → (a : ℕ) (rs : List RouterConf) (i : ℕ) → slice_get rs i ≡ Some r → a + i ≡ x → HasOne (IsAlong x y link) (directions_from confs a rs)
along_from confs x y link r peer within a [] i at is = cc
along_from confs x y link r peer within a (q ∷ rs) zero at is =
    let first : a ≡ x = omega (arith, is) in
    let long : link < length q.ends = subst (λ (c : RouterConf). link < length c.ends) (sym (same_Some q r at)) within in
    one_left (IsAlong x y link) (map (direction_over confs a) (range_with_len 0 (length q.ends))) (directions_from confs (a + 1) rs)
    (one_mapped (λ k. k ≡ 0 + link) (IsAlong x y link) (direction_over confs a)
    (λ k h. (let same : k ≡ link = omega (arith, h) in record { from = first; over = same; to = ap (λ (n : ℕ). peer_place confs n k) first ∙ ap (peer_place confs x) same ∙ peer }))
    (range_with_len 0 (length q.ends)) (in_range 0 link (length q.ends) long))
along_from confs x y link r peer within a (q ∷ rs) (suc i) at is =
    one_right (IsAlong x y link) (map (direction_over confs a) (range_with_len 0 (length q.ends))) (directions_from confs (a + 1) rs)
    (along_from confs x y link r peer within (a + 1) rs i at (omega (arith, is)))

pub along_all : (confs : List RouterConf) (x y link : ℕ) (r : RouterConf) → peer_place confs x link ≡ y → slice_get confs x ≡ Some r → link < length r.ends → HasOne (IsAlong x y link) (directions confs)
unfolding directions
along_all confs x y link r peer at within = along_from confs x y link r peer within 0 confs x at (omega arith)

-- ---- entries

-- an entry that is found is one of them
pub one_found : (es : List Entry) (id : LspId) (e : Entry) → entry_in es id ≡ Some e → HasOne (λ (f : Entry). f ≡ e) es
one_found [] id e h = cc
one_found (f ∷ es) id e h = by (same_id f.id id) refl (one_found es id e)
  where
    by : (b : Bool) → same_id f.id id ≡ b → (entry_in es id ≡ Some e → HasOne (λ (g : Entry). g ≡ e) es) → HasOne (λ (g : Entry). g ≡ e) (f ∷ es)
    by true t more = let k : Some f ≡ Some e = rw t at h in inl (same_Some f e k)
    by false t more = let k : entry_in es id ≡ Some e = rw t at h in inr (more k)

pub entry_there : (o : Option Entry) → 0 < seq_of o → (e : Entry) × (o ≡ Some e)
entry_there None some = absurd (omega (arith, some))
entry_there (Some e) some = (e, refl)

-- an LSP that is to be sent is sent
pub is_due : (id : LspId) (c : Control) (link : ℕ) (e : Entry) → entry_in c.entries id ≡ Some e → srm c.flood id link ≡ true → HasOne (λ (p : Pdu). p ≡ lsp_of e) (send_of c link)
unfolding send_of
is_due id c link e found set =
    one_right (λ (p : Pdu). p ≡ lsp_of e) (due_csnps c (slice_index_or c.flood.due link false)) (due_lsps c link ++ due_psnps c link)
    (one_left (λ (p : Pdu). p ≡ lsp_of e) (due_lsps c link) (due_psnps c link)
    (one_mapped (λ (f : Entry). f ≡ e) (λ (p : Pdu). p ≡ lsp_of e) lsp_of (λ f same. ap lsp_of same) (filter (λ f. srm c.flood f.id link) c.entries)
    (one_kept (λ (f : Entry). f ≡ e) (λ f. srm c.flood f.id link) c.entries (λ f same. ap (λ (g : Entry). srm c.flood g.id link) same ∙ ap (λ (i : LspId). srm c.flood i link) (same_id_is e.id id (found_id c.entries id e found)) ∙ set) (one_found c.entries id e found))))

-- what a router sends stands in the queue
pub put_out : (w : WorldState) (x y link : ℕ) (c : Control) (W : Pdu → Type 0) (Z : Item → Type 0) → IsTruthful w → link_between w.domain.routers x y ≡ Some link → slice_get w.routers x ≡ Some c → ((p : Pdu) → W p → Z (ControlItem p)) → HasOne W (send_of c link)
    → (m : ℕ) × IsOnWay x link Z m (happens w (Send x y)).world
unfolding happens send
put_out w x y link c W Z truth toward at is some =
    let j = join_of w.domain.routers x y link toward in
    let f = end_found j.near.ends j.far.system link j.toward in
    let place = shape_place w.flights w.domain.routers x link j.near truth.queues j.near_at (got_within j.near.ends link f.at f.there) in
    let one = one_some W (send_of c link) some in
    let z = ControlItem one.0 in
    let out = one_mapped (λ (p : Pdu). p ≡ one.0) (IsSentOn x link z) (λ p. over_end w.domain.routers x link (ControlItem p)) (λ p same. record { from = refl; over = refl; item = ap (λ (q : Pdu). ControlItem q) same }) (send_of c link) one.2 in
    let s = stands_sent x link z (map (λ p. over_end w.domain.routers x link (ControlItem p)) (send_of c link)) w.flights place out in
    let sending : doing w (Send x y) ≡ replies w x link (send c link) = ap (λ (q : Option Control). sends w x q (link_between w.domain.routers x y)) at ∙ ap (sends w x (Some c)) toward in (
      suc s.0,
      record {
        at = s.0;
        before = omega arith;
        item = z;
        there = subst (λ (h : Happened). slice_get (queue_at h.world.flights x link) s.0 ≡ Some z) (sym sending) s.1;
        is = is one.0 one.1;
      },
    )

-- ---- one link

-- an LSP of that number, or a higher one
record IsLspOf (id : LspId) (n : ℕ) (item : Item) : Type 0 where
  head : Head
  content : List ℕ
  item_is : item ≡ ControlItem (LspPdu head content)
  is : head.id ≡ id
  new : n ≤ head.seq

module _ (d : DomainConf) (x y link back : ℕ) (joined : IsLink d x y link back) (id : LspId) (n : ℕ) where
  abbrev Round : WorldState → Type 0
  Round w = IsInRound d x y link back id n w

  abbrev Has : WorldState → Type 0
  Has w = n ≤ number_at w y id

  -- y has it, or it is in flight to y
  abbrev Comes : WorldState → Type 0
  Comes w = (m : ℕ) × (Has w ⊎ IsOnWay x link (IsLspOf id n) m w)

  rounds_keep : (es : List Event) (w : WorldState) → AllByRecursion IsTraffic es → AreAllowed w es → Round w → Round (world_after w es)
  rounds_keep [] w of allowed r = r
  rounds_keep (e ∷ es) w of allowed r = rounds_keep es (happens w e).world of.1 allowed.2 (round_step d x y link back joined id n w e of.0 allowed.0 allowed.1 r)

  has_keeps : (es : List Event) (w : WorldState) → AllByRecursion IsTraffic es → AreAllowed w es → Round w → Has w → Has (world_after w es)
  has_keeps [] w of allowed r has = has
  has_keeps (e ∷ es) w of allowed r has = has_keeps es (happens w e).world of.1 allowed.2 (round_step d x y link back joined id n w e of.0 allowed.0 allowed.1 r) (has_step d x y link back joined id n w e of.0 r.run has)

  -- ---- x sends

  module _ (w : WorldState) (r : Round w) where
    joined_here : link_between w.domain.routers x y ≡ Some link
    joined_here = ap (λ (c : DomainConf). link_between c.routers x y) r.domain ∙ joined.toward

    peer_here : peer_place w.domain.routers x link ≡ y
    peer_here = peer_is w.domain.routers r.run.truth.valid.consistent.systems x y link joined_here

    goes_out : (c : Control) (e : Entry) → slice_get w.routers x ≡ Some c → entry_in c.entries id ≡ Some e → n ≤ e.seq → srm c.flood id link ≡ true → Comes (happens w (Send x y)).world
    goes_out c e at found new set =
        let out = put_out w x y link c (λ (p : Pdu). p ≡ lsp_of e) (IsLspOf id n) r.run.truth joined_here at
        (λ p same. record { head = record { life = e.life; id = e.id; seq = e.seq; sum = e.sum; flags = e.flags }; content = e.content; item_is = ap (λ (q : Pdu). ControlItem q) same; is = same_id_is e.id id (found_id c.entries id e found); new = new }) (is_due id c link e found set) in
        (out.0, inr out.1)

    send_gets : Comes (happens w (Send x y)).world
    send_gets = elim (cases_lt (number_at w y id) n) [
      | inl low ↦
          let u = up_here (slice_get w.routers x) link r.near in
          let c = u.router in
          let far : number_at w (peer_place w.domain.routers x link) id ≡ number_at w y id = ap (λ (k : ℕ). number_at w k id) peer_here in
          let near : number_at w x id ≡ number_in c.entries id = ap (λ (o : Option Control). number_in (lsdb_of o) id) u.is in
          let some = r.some in
          let set = r.run.fresh.owed x link c id u.is u.up (omega (arith, low, far, near, some)) in
          let f = entry_there (entry_in c.entries id) (omega (arith, low, near, some)) in
          let seq = ap seq_of f.1 in
          goes_out c f.0 u.is f.1 (omega (arith, near, some, seq)) set
      | inr has ↦ (0, inl (has_step d x y link back joined id n w (Send x y) tt r.run has))
    ]

  -- whatever the routers send after that
  sends_keep : (ds : List Direction) (w : WorldState) → AreAllowed w (map send_event ds) → Round w → Comes w → Comes (world_after w (map send_event ds))
  sends_keep ds w allowed r (m, inl has) = (m, inl (has_keeps (map send_event ds) w (sends_are IsTraffic (λ a b. tt) ds) allowed r has))
  sends_keep ds w allowed r (m, inr o) = (m, inr (sends_leave x link (IsLspOf id n) ds w m o))

  sends_reach : (ds : List Direction) (w : WorldState) → AreAllowed w (map send_event ds) → Round w → HasOne (IsAlong x y link) ds → Comes (world_after w (map send_event ds))
  sends_reach [] w allowed r h = absurd h
  sends_reach (s ∷ ds) w allowed r (inl here) =
      let next = round_step d x y link back joined id n w (Send s.from s.to) tt allowed.0 allowed.1 r in
      let same : Send s.from s.to ≡ Send x y = ap (λ (k : ℕ). Send k s.to) here.from ∙ ap (λ (k : ℕ). Send x k) here.to in
      sends_keep ds (happens w (Send s.from s.to)).world allowed.2 next (subst (λ (e : Event). Comes (happens w e).world) (sym same) (send_gets w r))
  sends_reach (s ∷ ds) w allowed r (inr h) = sends_reach ds (happens w (Send s.from s.to)).world allowed.2 (round_step d x y link back joined id n w (Send s.from s.to) tt allowed.0 allowed.1 r) h

  -- ---- y receives

  here : (w : WorldState) → Round w → IsHere d y w
  here w r = let u = up_here (slice_get w.routers y) back r.far in record { truth = r.run.truth; domain = r.domain; router = u.router; there = u.is }

  arrives_here : (w : WorldState) (z : Item) → Round w → IsLspOf id n z → slice_get (queue_at w.flights x link) 0 ≡ Some z → Has (happens w (Take x y 0)).world
  arrives_here w z r of there = comes_in d x y link back joined id n w r of.head of.content (there ∙ ap (λ (i : Item). Some i) of.item_is) of.is of.new

  -- ---- the round

  pub round_reaches : (w : WorldState) → AreAllowed w (round_events w) → Round w → Has (world_after w (round_events w))
  round_reaches w allowed r =
      let ds = directions w.domain.routers in
      let j = join_of w.domain.routers x y link (joined_here w r) in
      let f = end_found j.near.ends j.far.system link j.toward in
      let along = along_all w.domain.routers x y link j.near (peer_here w r) j.near_at (got_within j.near.ends link f.at f.there) in
      let sending = one_kept (IsAlong x y link) (may_send w) ds (λ s h. ap (λ (k : ℕ). up_over (slice_get w.routers k) (Some s.link)) h.from ∙ ap (λ (k : ℕ). up_over (slice_get w.routers x) (Some k)) h.over ∙ r.near) along in
      in_round Has w allowed
      (λ sends takes.
      let comes = sends_reach (filter (may_send w) ds) w sends r sending in
      let next = rounds_keep (round_sends w) w (sends_are IsTraffic (λ a b. tt) (filter (may_send w) ds)) sends r in
      takes_reach d x y link back joined (IsLspOf id n) Round Has (λ u a b i fits ok k. round_step d x y link back joined id n u (Take a b i) tt fits ok k) here (λ u a b i k has. has_step d x y link back joined id n u (Take a b i) tt k.run has) arrives_here ds comes.0 (world_after w (round_sends w)) takes next comes.1 along)
