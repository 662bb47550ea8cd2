-- What a router of a truthful domain is, and what is on the way there.
use Rattle.std.proofs.Common.{◌≡◌, ℕ, ◌≤◌, List, [], length, slice_get, Option, Some, None, refl, ap, subst, ◌∙◌, arith}
use Rattle.wire_base.specs.declared.limits.TheConstants.{MOST_FRAME}
use Rattle.wire_base.specs.declared.conf.End.{End}
use Rattle.wire_base.specs.declared.conf.RouterConf.{RouterConf}
use Rattle.wire_base.specs.model.Configuration.{DomainConf, IsConsistent}
use Rattle.wire_base.specs.model.Control.{Control}
use Rattle.wire_base.specs.model.Item.{Item, ControlItem, PacketItem}
use Rattle.domain_model.specs.World.{WorldState, peer_place, link_between, queue_at}
use Rattle.domain_model.specs.Truth.{IsTrueItem, IsTrueControl, confs_now, IsTruthful}
use Rattle.frames_in_flight.specs.Framed.{frame_on, frame_from, frame_over}
use Rattle.domain_model.proofs.EachLaws.{each_got}
use Rattle.domain_model.proofs.QueueLaws.{get_mapped}
use Rattle.domain_model.proofs.LinkLaws.{peer_is}
use Rattle.domain_model.proofs.WorldTruth.{AreOf}
use Rattle.domain_core.proofs.FramedCopies.{copy_short}
use Rattle.domain_core.proofs.FramedPdus.{pdu_short}

pub conf_there : (w : WorldState) (b : ℕ) (c : Control) → slice_get w.routers b ≡ Some c → slice_get (confs_now w) b ≡ Some c.conf
conf_there w b c there = get_mapped (λ (x : Control). x.conf) w.routers b c there

pub control_there : (w : WorldState) → IsTruthful w → (b : ℕ) (c : Control) → slice_get w.routers b ≡ Some c → IsTrueControl (confs_now w) c
control_there w t b c there = each_got (IsTrueControl (confs_now w)) w.routers b c t.controls there

pub item_over : (w : WorldState) → IsTruthful w → (a link i : ℕ) (x : Item) → slice_get (queue_at w.flights a link) i ≡ Some x → IsTrueItem (confs_now w) w.injections (peer_place w.domain.routers a link) x
item_over w t a link i x there = each_got (IsTrueItem (confs_now w) w.injections (peer_place w.domain.routers a link)) (queue_at w.flights a link) i x (t.items a link) there

pub item_there : (w : WorldState) → IsTruthful w → (a b link i : ℕ) (x : Item) → link_between w.domain.routers a b ≡ Some link → slice_get (queue_at w.flights a link) i ≡ Some x → IsTrueItem (confs_now w) w.injections b x
item_there w t a b link i x joined there =
    subst (λ (n : ℕ). IsTrueItem (confs_now w) w.injections n x) (peer_is w.domain.routers t.valid.consistent.systems a b link joined) (item_over w t a link i x there)

-- the configurations of now are those that the routers came to have
pub of_now : (w : WorldState) → IsTruthful w → AreOf w.domain (confs_now w)
of_now w t = record { valid = t.now; become = t.become }

-- what is on the way is short enough for a router
pub frame_short : (old : DomainConf) → IsConsistent old → (confs : List RouterConf) → AreOf old confs → (injections b a link : ℕ) (x : Item) → IsTrueItem confs injections b x → length (frame_over old.routers a link x) ≤ MOST_FRAME
frame_short old start confs of injections b a link x t = at_router (slice_get old.routers a) refl
  where
    by_kind : (r : RouterConf) (e : End) → slice_get old.routers a ≡ Some r → slice_get r.ends link ≡ Some e → (y : Item) → IsTrueItem confs injections b y → length (frame_over old.routers a link y) ≤ MOST_FRAME
    by_kind r e at there (ControlItem p) h = pdu_short old start confs of a r link e p at there h
    by_kind r e at there (PacketItem y) h = copy_short old start confs of injections b a r link e y at there h

    none : (octets : List ℕ) → octets ≡ [] → length octets ≤ MOST_FRAME
    none octets e = rw e (omega arith)

    at_end : (r : RouterConf) → slice_get old.routers a ≡ Some r → (o : Option End) → slice_get r.ends link ≡ o → length (frame_over old.routers a link x) ≤ MOST_FRAME
    at_end r at None there = none (frame_over old.routers a link x) (ap (λ (o : Option RouterConf). frame_from o link x) at ∙ ap (λ (o : Option End). frame_on r.level o x) there)
    at_end r at (Some e) there = by_kind r e at there x t

    at_router : (o : Option RouterConf) → slice_get old.routers a ≡ o → length (frame_over old.routers a link x) ≤ MOST_FRAME
    at_router None at = none (frame_over old.routers a link x) (ap (λ (o : Option RouterConf). frame_from o link x) at)
    at_router (Some r) at = at_end r at (slice_get r.ends link) refl
