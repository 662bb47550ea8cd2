-- The one step: while views agree and no copy of the injection is lost, an event keeps its copies for a BFR-id on their course
-- and drops none.
use Rattle.std.proofs.Common.{◌≡◌, ◌⊎◌, inl, inr, ℕ, ◌+◌, ◌≤◌, ◌==◌, ◌&&◌, Bool, true, false, List, slice_get, Option, Some, refl, sym, ap, subst, ◌∙◌, arith}
use mathlib.Core.Bool.{false≢true, true≢false}
use Rattle.std.specs.List.{AllByRecursion}
use Rattle.std.proofs.lemmas.Bool.{eqb-true, eq-eqb}
use Rattle.wire_base.specs.declared.cause.Cause.{Cause}
use Rattle.wire_base.specs.declared.cause.Cause.TheVariants as cause
use Rattle.wire_base.specs.declared.conf.RouterConf.{RouterConf}
use Rattle.wire_base.specs.declared.view.ViewNode.{ViewNode}
use Rattle.wire_base.specs.model.Control.{Control}
use Rattle.wire_base.specs.model.Hop.{has}
use Rattle.wire_base.specs.model.Item.{Item, ControlItem, PacketItem, DataItem}
use Rattle.wire_base.specs.model.OnFrame.{node_place}
use Rattle.wire_base.specs.model.View.{control_view}
use Rattle.replay_text.specs.declared.event.Event.{Event}
use Rattle.replay_text.specs.declared.event.Event.TheVariants.{Lose}
use Rattle.domain_model.specs.declared.lines.DropLine.{DropLine}
use Rattle.domain_model.specs.World.{WorldState, is_up, peer_place, link_between, queue_at, queue_over, frames_between}
use Rattle.domain_model.specs.Moves.{Sending, Made, listed, packet_lost, item_lost, packet_taken, inject_made}
use Rattle.domain_model.specs.Step.{Happened, makes, taken_off, counted, happens}
use Rattle.domain_model.specs.Truth.{IsTrueCopy, IsTruthful, confs_now}
use Rattle.domain_model.proofs.EachLaws.{each_weaker, each_got}
use Rattle.domain_model.proofs.QueueLaws.{AllQueues, item_gone}
use Rattle.domain_model.proofs.LinkLaws.{peer_is}
use Rattle.laws_ledger.specs.Ledger.{is_numbered}
use Rattle.laws_ledger.specs.Weights.{is_one_of}
use Rattle.laws_ledger.proofs.ShapeLaws.{IsControlItem, IsControlSending, IsControlDrop, IsOff, IsQuiet, IsEndedBy, IsDropped, IsTaken, IsEntered, Shape, Quiet, Dropped, Taken, Entered, shape_of}
use Rattle.laws_ledger.proofs.WorldLaws.{owner_at, copy_at}
use Rattle.laws_ledger.proofs.SourceLaws.{IfPacket, IsDropFrom, inject_from}
use Rattle.laws_course.specs.Course.{Agreed, IsOnCourse, loses_copy}
use Rattle.laws_course.proofs.ChangedLaws.{Keeps}
use Rattle.laws_course.proofs.StepLaws.{listed_has, IsOther, drop_parts, pushed_kept, taken_keeps, taken_drops, comes_up, idle_taken}

module _ (confs : List RouterConf) (r : RouterConf) (g : List ViewNode) (u n k : ℕ) where
  abbrev Kind : ℕ → ℕ → Item → Type 0
  Kind a link item = Keeps confs r g u n k a link item

  -- what is kept, and what isn't dropped
  pub record IsKeptBy (h : Happened) : Type 0 where
    pub kept : AllQueues Kind h.world.flights
    pub drops : AllByRecursion (IsOther n k) h.made.drops

  control_kept : (z : Sending) → IsControlSending z → Kind z.from z.link z.item
  control_kept z h = by z.item h
    where
      by : (x : Item) → IsControlItem x → Kind z.from z.link x
      by (ControlItem p) h = tt
      by (PacketItem x) h = absurd h

  control_other : (l : DropLine) → IsControlDrop l → IsOther n k l
  control_other l h dropped = false≢true (ap (λ (o : Option ℕ). is_numbered o n && has l.ids k) (sym h.0) ∙ dropped)

  quiet_kept : (w : WorldState) (h : Happened) → AllQueues Kind w.flights → IsQuiet w h → IsKeptBy h
  quiet_kept w h all q = record {
    kept = subst (AllQueues Kind) (sym q.flights) (pushed_kept Kind q.pushed q.before (each_weaker IsControlSending (λ z. Kind z.from z.link z.item) control_kept q.pushed q.controls) (before q.before q.off));
    drops = each_weaker IsControlDrop (IsOther n k) control_other h.made.drops q.drops;
  }
    where
      before : (flights : List (List (List Item))) → (flights ≡ w.flights) ⊎ IsOff w.flights flights → AllQueues Kind flights
      before flights (inl same) = subst (AllQueues Kind) (sym same) all
      before flights (inr off) = subst (AllQueues Kind) (sym off.is) (item_gone Kind w.flights off.from off.link off.i all)

  pub made_kept : (v : WorldState) (m : Made) → AllQueues Kind v.flights → AllByRecursion (λ (z : Sending). Kind z.from z.link z.item) m.sent → AllByRecursion (IsOther n k) m.drops → IsKeptBy (counted (makes v m))
  made_kept v m all sent drops = record { kept = pushed_kept Kind m.sent v.flights sent all; drops = drops }

module _ (w : WorldState) (truth : IsTruthful w) (s : ℕ) (ingress : Control) (at : slice_get w.routers s ≡ Some ingress) (n k : ℕ) where
  abbrev confs : List RouterConf
  confs = w.domain.routers

  abbrev g : List ViewNode
  g = control_view ingress

  abbrev u : ℕ
  u = node_place (control_view ingress) ingress.conf.system

  abbrev r : RouterConf
  r = ingress.conf

  abbrev Here : ℕ → ℕ → Item → Type 0
  Here a link item = Keeps confs r g u n k a link item

  module _ (agreed : Agreed w g u) (kept : AllQueues Here w.flights) (e : Event) (h : Happened) where
    -- ---- a copy that comes to a router

    module _ (a b link i : ℕ) (x : DataItem) (joined : link_between confs a b ≡ Some link) (there : slice_get (queue_at w.flights a link) i ≡ Some (PacketItem x)) where
      copy : IsTrueCopy (confs_now w) w.injections b x
      copy = copy_at w truth a b link i x joined there

      course : x.number ≡ n → has x.ids k ≡ true → IsOnCourse confs r g u k a b x
      course number named =
          subst (λ (z : ℕ). IsOnCourse confs r g u k a z x) (peer_is confs truth.valid.consistent.systems a b link joined)
          (let on : Here a link (PacketItem x) = each_got (Here a link) (queue_at w.flights a link) i (PacketItem x) (kept a link) there in on number named)

      -- whether the copy is one for the id
      data IsFor : Type 0 where
        Yes : x.number ≡ n → has x.ids k ≡ true → IsFor
        No : (x.number ≡ n → has x.ids k ≡ true → ⊥) → IsFor

      is_for : IsFor
      is_for = by (x.number == n) refl (has x.ids k) refl
        where
          by : (t : Bool) → (x.number == n) ≡ t → (v : Bool) → has x.ids k ≡ v → IsFor
          by true p true q = Yes (eqb-true x.number n p) q
          by true p false q = No (λ number named. true≢false (sym named ∙ q))
          by false p v q = No (λ number named. true≢false (sym (eq-eqb x.number n number) ∙ p))

      taken_both : (c : Control) → slice_get w.routers b ≡ Some c → AllByRecursion (λ (z : Sending). Here z.from z.link z.item) (packet_taken confs b c x x.outer).sent × AllByRecursion (IsOther n k) (packet_taken confs b c x x.outer).drops
      taken_both c router = by is_for
        where
          by : IsFor → AllByRecursion (λ (z : Sending). Here z.from z.link z.item) (packet_taken confs b c x x.outer).sent × AllByRecursion (IsOther n k) (packet_taken confs b c x x.outer).drops
          by (Yes number named) =
              let on = course number named in
              let true_copy = copy in
              subst (λ (m : ℕ). AllByRecursion (λ (z : Sending). Keeps confs r g u m k z.from z.link z.item) (packet_taken confs b c x x.outer).sent × AllByRecursion (IsOther m k) (packet_taken confs b c x x.outer).drops) number
              (taken_keeps w truth s ingress at agreed n k a b x true_copy.lives on c router true_copy.outer, taken_drops w truth s ingress at agreed n k a b x true_copy.lives on c router true_copy.outer)
          by (No none) = idle_taken (λ a' link'. IsOnCourse confs r g u k a' (peer_place confs a' link')) confs n k b c x none

    taken_kept : IsTaken w e h → IsKeptBy confs r g u n k h
    taken_kept t =
        let both = taken_both t.from t.to t.link t.i t.item t.joined t.at t.router t.there in
        subst (IsKeptBy confs r g u n k) (sym t.is)
        (made_kept confs r g u n k (taken_off w t.from t.link t.i) (packet_taken confs t.to t.router t.item t.item.outer) (item_gone Here w.flights t.from t.link t.i kept) both.0 both.1)

    -- ---- a copy that is dropped as a whole

    dropped_kept : loses_copy w n e ≡ false → IsDropped w e h → IsKeptBy confs r g u n k h
    dropped_kept harmless t =
        subst (IsKeptBy confs r g u n k) (sym t.is)
        (made_kept confs r g u n k (taken_off w t.from t.link t.i) (item_lost t.to t.why (PacketItem t.item)) (item_gone Here w.flights t.from t.link t.i kept) tt (safe t.why t.how))
      where
        copy_for : IsTrueCopy (confs_now w) w.injections t.to t.item
        copy_for = copy t.from t.to t.link t.i t.item t.joined t.at

        not_lost : e ≡ Lose t.from t.to t.i → t.item.number ≡ n → has t.item.ids k ≡ true → ⊥
        not_lost is number named =
            let there : slice_get (frames_between w t.from t.to) t.i ≡ Some (PacketItem t.item) = ap (λ (l : Option ℕ). slice_get (queue_over w.flights t.from l) t.i) t.joined ∙ t.at in
            let lost : loses_copy w n e ≡ (t.item.number == n) = ap (loses_copy w n) is ∙ ap (is_one_of n) there in
            true≢false (sym (eq-eqb t.item.number n number) ∙ sym lost ∙ harmless)

        not_down : (c : Control) → slice_get w.routers t.to ≡ Some c → (back : ℕ) → link_between confs t.to t.from ≡ Some back → is_up c back ≡ false → t.item.number ≡ n → has t.item.ids k ≡ true → ⊥
        not_down c router back turned down number named =
            let true_copy = copy_for in
            true≢false (sym (comes_up w truth s ingress at agreed n k t.from t.to t.item true_copy.lives (course t.from t.to t.link t.i t.item t.joined t.at number named) c router back turned) ∙ down)

        gone : (why : Cause) → (t.item.number ≡ n → has t.item.ids k ≡ true → ⊥) → AllByRecursion (IsOther n k) (packet_lost t.to t.item why t.item.ids).drops
        gone why none = ((λ dropped. (let p = drop_parts n k t.item.number (record { router = t.to; injection = Some t.item.number; cause = why; ids = listed t.item.ids }) refl dropped in none p.0 (listed_has t.item.ids k p.1))), tt)

        safe : (why : Cause) → IsEndedBy w e t.from t.to t.i why → AllByRecursion (IsOther n k) (packet_lost t.to t.item why t.item.ids).drops
        safe cause.Lost is = gone cause.Lost (not_lost is)
        safe cause.Link is = gone cause.Link (not_down is.1 is.2 is.3 is.4 is.5)
        safe cause.NoRow is = absurd is
        safe cause.Ttl is = absurd is
        safe cause.Outer is = absurd is
        safe cause.Route is = absurd is
        safe cause.Label is = absurd is
        safe (cause.Head fault) is = absurd is
        safe (cause.Frame fault) is = absurd is
        safe (cause.Ip fault) is = absurd is
        safe (cause.Pdu fault) is = absurd is
        safe cause.Sequence is = absurd is
        safe cause.Full is = absurd is

  -- ---- packets of another injection

  other_kept : (e : Event) (h : Happened) → AllQueues Here w.flights → (w.injections + 1 ≡ n → ⊥) → IsEntered w e h → IsKeptBy confs r g u n k h
  other_kept e h kept other t =
      let i = t.injection in
      let Q : DataItem → Type 0 = λ y. y.number ≡ w.injections + 1 in
      let from = inject_from Q (λ x y same number. same.number ∙ number) confs i.router t.router (w.injections + 1) i (owner_at w truth i.router t.router t.there) (λ x number of. number) in
      let made = inject_made confs i.router t.router (w.injections + 1) i.sd i.bsl i.ids i.ttl i.entropy i.payload in
      subst (IsKeptBy confs r g u n k) (sym t.is)
      (made_kept confs r g u n k (record w { injections = w.injections + 1 }) made kept
      (each_weaker (λ (z : Sending). IfPacket Q z.item) (λ (z : Sending). Here z.from z.link z.item) (λ z q. sent z.from z.link z.item q) made.sent from.sent)
      (each_weaker (IsDropFrom Q) (IsOther n k) not_dropped made.drops from.drops))
    where
      sent : (a link : ℕ) (x : Item) → IfPacket (λ y. y.number ≡ w.injections + 1) x → Here a link x
      sent a link (ControlItem p) q = tt
      sent a link (PacketItem x) q = λ number named. absurd (other (sym q ∙ number))

      not_dropped : (l : DropLine) → IsDropFrom (λ y. y.number ≡ w.injections + 1) l → IsOther n k l
      not_dropped l (inl none) dropped = control_other confs r g u n k l none dropped
      not_dropped l (inr some) dropped = let p = drop_parts n k some.0.number l some.2 dropped in other (sym some.1 ∙ p.0)

  -- ---- an event after the injection

  pub later_kept : Agreed w g u → n ≤ w.injections → AllQueues Here w.flights → (e : Event) → loses_copy w n e ≡ false → IsKeptBy confs r g u n k (happens w e)
  later_kept agreed made kept e harmless = by (happens w e) (shape_of w e)
    where
      by : (h : Happened) → Shape w e h → IsKeptBy confs r g u n k h
      by h (Quiet q none) = quiet_kept confs r g u n k w h kept q
      by h (Dropped t none) = dropped_kept agreed kept e h harmless t
      by h (Taken t none) = taken_kept agreed kept e h t
      by h (Entered t) = other_kept e h kept (λ same. omega (arith, same, made)) t

-- the domain stays
pub domain_kept : (w : WorldState) (e : Event) → (happens w e).world.domain ≡ w.domain
domain_kept w e = by (happens w e) (shape_of w e)
  where
    by : (h : Happened) → Shape w e h → h.world.domain ≡ w.domain
    by h (Quiet q none) = q.domain
    by h (Dropped t none) = ap (λ (z : Happened). z.world.domain) t.is
    by h (Taken t none) = ap (λ (z : Happened). z.world.domain) t.is
    by h (Entered t) = ap (λ (z : Happened). z.world.domain) t.is
