-- What a truthful domain says of its copies and of the queues that its routers have.
use Rattle.std.proofs.Common.{◌≡◌, ℕ, zero, suc, ◌+◌, ◌*◌, ◌<◌, ◌^◌, ◌==◌, if◌then◌else◌, List, [], ◌∷◌, ◌++◌, length, map, slice_get, slice_index_or, Option, Some, None, option_map, refl, sym, ap, subst, ◌∙◌, arith}
use Rattle.std.specs.List.{AllByRecursion}
use Rattle.std.proofs.lemmas.List.{append-nil, length-map}
use Rattle.wire_base.specs.declared.conf.OwnSub.{OwnSub}
use Rattle.wire_base.specs.declared.conf.RouterConf.{RouterConf}
use Rattle.wire_base.specs.model.BitSet.{IsWithin}
use Rattle.wire_base.specs.model.Configuration.{IsUnchanged}
use Rattle.wire_base.specs.model.Control.{Control}
use Rattle.wire_base.specs.model.Item.{Item, PacketItem, DataItem}
use Rattle.wire_base.specs.model.Lists.{or_else}
use Rattle.wire_base.specs.model.Place.{bits_of, sub_in, known_subs, id_of, own_id}
use Rattle.laws_router.specs.Becoming.{HasBecome}
use Rattle.laws_router.proofs.DomainLaws.{same_stripped, length_stripped, became_from}
use Rattle.laws_router.proofs.SubLaws.{sub_in_both}
use Rattle.domain_model.specs.World.{WorldState, peer_place, link_between, queue_at}
use Rattle.domain_model.specs.Truth.{IsTrueItem, IsTrueCopy, IsTruthful, confs_now}
use Rattle.domain_model.proofs.EachLaws.{each_got}
use Rattle.domain_model.proofs.QueueLaws.{get_mapped}
use Rattle.domain_model.proofs.LinkLaws.{peer_is}
use Rattle.laws_ledger.proofs.FlightLaws.{shape, read_got}
use Rattle.laws_ledger.proofs.MeasureLaws.{AreIdsInOrder}

-- ---- ids

small_within : (low high : ℕ) (ks : List ℕ) → IsWithin low high ks → AllByRecursion (λ k. k < 2 ^ 16) ks → IsWithin low 65535 ks
small_within low high [] h all = tt
small_within low high (k ∷ ks) h all = (h.0, omega (arith, all.0), small_within k high ks h.2 all.1)

from_zero : (low high : ℕ) (ks : List ℕ) → IsWithin low high ks → IsWithin 0 high ks
from_zero low high [] h = tt
from_zero low high (k ∷ ks) h = (omega (arith, h.0), h.1, h.2)

-- ids of a set that are BFR-ids
pub in_order : (low high : ℕ) (ks : List ℕ) → IsWithin low high ks → AllByRecursion (λ k. k < 2 ^ 16) ks → AreIdsInOrder ks
in_order low high ks h small = from_zero low 65535 ks (small_within low high ks h small)

-- ---- routers

pub got_some : {X : Type 0} (xs : List X) (i : ℕ) → i < length xs → slice_get xs i ≡ None → ⊥
got_some [] i h e = absurd (omega (arith, h))
got_some (x ∷ xs) zero h e = cc
got_some (x ∷ xs) (suc i) h e = got_some xs i (omega (arith, h)) e

-- ---- BFR-ids of now

id_is : (o p : Option OwnSub) (k : ℕ) → id_of o ≡ Some k → option_map (λ (s : OwnSub). s.id) p ≡ option_map (λ (s : OwnSub). s.id) o → id_of p ≡ Some k
id_is None p k e same = cc
id_is (Some s) None k e same = cc
id_is (Some s) (Some t) k e same = let ids : t.id ≡ s.id = cc in ap (λ (n : ℕ). if n == 0 then None else Some n) ids ∙ e

first_found : (o p : Option OwnSub) (k : ℕ) → id_of o ≡ Some k → or_else o p ≡ o
first_found None p k e = cc
first_found (Some s) p k e = refl

-- A router's own BFR-id of now is the one that it has in the domain file.
pub own_became : (r now : RouterConf) (sd k : ℕ) → r.away ≡ [] → HasBecome r now → own_id now sd ≡ Some k → own_id r sd ≡ Some k
own_became r now sd k away become e =
    let known : sub_in (known_subs now) sd ≡ sub_in now.subs sd = sub_in_both now.subs now.away sd ∙ first_found (sub_in now.subs sd) (sub_in now.away sd) k e in
    let all : sub_in (known_subs r) sd ≡ sub_in r.subs sd = ap (λ (l : List OwnSub). sub_in (r.subs ++ l) sd) away ∙ ap (λ (l : List OwnSub). sub_in l sd) (append-nil r.subs) in
    id_is (sub_in now.subs sd) (sub_in r.subs sd) k e (ap (option_map (λ (s : OwnSub). s.id)) (sym all) ∙ sym (become.ids sd) ∙ ap (option_map (λ (s : OwnSub). s.id)) known)

-- The router at that index is configured as `now`: it has the BFR-ids there that its configuration of now says.
pub record IsOwnerAt (confs : List RouterConf) (a : ℕ) (now : RouterConf) : Type 0 where
  pub router : RouterConf
  pub there : slice_get confs a ≡ Some router
  pub become : HasBecome router now
  pub own : (sd k : ℕ) → own_id now sd ≡ Some k → own_id router sd ≡ Some k

-- ---- a domain

module _ (w : WorldState) (truth : IsTruthful w) where
  pub now_at : (a : ℕ) (c : Control) → slice_get w.routers a ≡ Some c → slice_get (confs_now w) a ≡ Some c.conf
  now_at a c e = get_mapped (λ (x : Control). x.conf) w.routers a c e

  pub owner_at : (a : ℕ) (c : Control) → slice_get w.routers a ≡ Some c → IsOwnerAt w.domain.routers a c.conf
  owner_at a c e =
      let b = became_from w.domain.routers (confs_now w) a c.conf truth.become (now_at a c e) in
      let unchanged : IsUnchanged b.0 = each_got IsUnchanged w.domain.routers a b.0 truth.valid.unchanged b.1 in
      record { router = b.0; there = b.1; become = b.2; own = λ sd k h. own_became b.0 c.conf sd k unchanged.away b.2 h }

  -- a router of the domain is at work
  pub is_there : (a : ℕ) → a < length w.domain.routers → slice_get w.routers a ≡ None → ⊥
  is_there a h e =
      let long = length_stripped w.domain.routers (confs_now w) (same_stripped w.domain.routers (confs_now w) truth.become) in
      let same = length-map w.routers (λ (x : Control). x.conf) in
      got_some w.routers a (omega (arith, h, long, same)) e

  -- it has a queue for each of its ends
  pub room_at : (a : ℕ) (c : Control) → slice_get w.routers a ≡ Some c → slice_index_or (shape w.flights) a 0 ≡ length c.conf.ends
  room_at a c e =
      let o = owner_at a c e in
      ap (λ (counts : List ℕ). slice_index_or counts a 0) truth.queues
      ∙ read_got (map (λ (r : RouterConf). length r.ends) w.domain.routers) a (length o.router.ends) 0 (get_mapped (λ (r : RouterConf). length r.ends) w.domain.routers a o.router o.there)
      ∙ ap (λ (r : RouterConf). length r.ends) (sym o.become.one)

  -- ---- copies

  pub item_at : (a b link i : ℕ) (x : Item) → link_between w.domain.routers a b ≡ Some link → slice_get (queue_at w.flights a link) i ≡ Some x → IsTrueItem (confs_now w) w.injections b x
  item_at a b link i x joined at =
      subst (λ (n : ℕ). IsTrueItem (confs_now w) w.injections n x) (peer_is w.domain.routers truth.valid.consistent.systems a b link joined)
      (each_got (IsTrueItem (confs_now w) w.injections (peer_place w.domain.routers a link)) (queue_at w.flights a link) i x (truth.items a link) at)

  pub copy_at : (a b link i : ℕ) (x : DataItem) → link_between w.domain.routers a b ≡ Some link → slice_get (queue_at w.flights a link) i ≡ Some (PacketItem x) → IsTrueCopy (confs_now w) w.injections b x
  copy_at a b link i x joined at = item_at a b link i (PacketItem x) joined at

pub copy_order : (confs : List RouterConf) (n b : ℕ) (x : DataItem) → IsTrueCopy confs n b x → AreIdsInOrder x.ids
copy_order confs n b x h = in_order (x.triple.si * bits_of x.triple.bsl) (x.triple.si * bits_of x.triple.bsl + bits_of x.triple.bsl) x.ids h.ids h.bfr_ids
