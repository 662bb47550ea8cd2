-- Events that inject a payload in a quiet domain and receive its copies deliver it once for each BFR-id that it reaches, and drop none.
use Rattle.std.proofs.Common.{◌≡◌, ℕ, ◌+◌, ◌<◌, ◌≤◌, ◌==◌, Bool, true, false, if◌then◌else◌, List, [], ◌∷◌, length, slice_get, sum_by, Option, Some, None, refl, ap, ◌∙◌, arith}
use mathlib.Core.Bool.{false≢true}
use Rattle.std.proofs.lemmas.Bool.{eqb-true, ne_eqb}
use Rattle.wire_base.specs.model.Control.{Control}
use Rattle.wire_base.specs.model.Hop.{one_if}
use Rattle.wire_base.specs.model.Item.{Item, ControlItem, PacketItem}
use Rattle.wire_base.specs.model.View.{control_view}
use Rattle.replay_text.specs.declared.event.Event.{Event}
use Rattle.replay_text.specs.declared.event.Event.TheVariants.{Inject, Take, Lose, Again, Down, Up, Send, Tick, Restart, Relabel, Leave, Join}
use Rattle.domain_model.specs.Faults.{event_fault}
use Rattle.domain_model.specs.Run.{world_after}
use Rattle.domain_model.specs.Step.{happens}
use Rattle.domain_model.specs.Truth.{EventFits, IsTrueItem, IsTruthful, confs_now}
use Rattle.domain_model.specs.World.{WorldState, peer_place, queue_at}
use Rattle.domain_model.proofs.EachLaws.{each_weaker}
use Rattle.domain_model.proofs.WorldTruth.{happens_true}
use Rattle.laws_ledger.specs.Ledger.{Balances, Injection, carries, copies_of, drops_of, entered, injection_of, names, over_all}
use Rattle.laws_ledger.specs.Runs.{AreAllowed}
use Rattle.laws_ledger.specs.Weights.{copies_in, takes_copy}
use Rattle.laws_ledger.proofs.FallLaws.{over-most}
use Rattle.laws_ledger.proofs.LedgerLaws.{event_balances}
use Rattle.laws_ledger.proofs.RunLaws.{entered_more, listed_one}
use Rattle.laws_ledger.proofs.SourceLaws.{IfPacket}
use Rattle.laws_ledger.proofs.SumLaws.{sum-none}
use Rattle.laws_course.specs.Course.{Agreed, GoesOn, KeptFor, own_node}
use Rattle.laws_course.proofs.LawLaws.{begun, gone_on}
use Rattle.laws_quiet.specs.Cover.{AreTakes, IsCoveredAt, deliveries_by, drops_by}
use Rattle.laws_quiet.proofs.AgreeLaws.{agreed}
use Rattle.laws_quiet.proofs.CoverLaws.{KeepsRouters, agreed_kept, covered_is, inject_keeps, take_keeps, take_loses_none}
use Rattle.laws_course.proofs.OnceLaws.{copies_few}

both_none : (a b : ℕ) → a ≡ 0 → b ≡ 0 → a + b ≡ 0
both_none a b p q = omega (arith, p, q)

-- ---- copies in flight

all_zero : (flights : List (List (List Item))) → over_all (λ x. 0) flights ≡ 0
unfolding over_all
all_zero flights = sum-none (λ qs. sum_by (λ q. sum_by (λ x. 0) q) qs) flights (λ qs. sum-none (λ q. sum_by (λ x. 0) q) qs (λ q. sum-none (λ x. 0) q (λ x. refl)))

-- no copy has the number of an injection to come
none_yet : (w : WorldState) (n k : ℕ) → IsTruthful w → w.injections < n → copies_of n k w.flights ≡ 0
none_yet w n k truth later =
    let few = over-most (IfPacket (λ y. y.number ≤ w.injections)) (λ x. one_if (carries n k x)) (λ x. 0) none w.flights
    (λ a link. each_weaker (IsTrueItem (confs_now w) w.injections (peer_place w.domain.routers a link)) (IfPacket (λ y. y.number ≤ w.injections)) (known (peer_place w.domain.routers a link)) (queue_at w.flights a link) (truth.items a link)) in
    omega (arith, few, all_zero w.flights)
  where
    known : (b : ℕ) (x : Item) → IsTrueItem (confs_now w) w.injections b x → IfPacket (λ y. y.number ≤ w.injections) x
    known b (ControlItem p) h = tt
    known b (PacketItem x) h = h.made

    none : (x : Item) → IfPacket (λ y. y.number ≤ w.injections) x → one_if (carries n k x) ≤ 0
    none (ControlItem p) h = omega arith
    none (PacketItem x) h = let e : (x.number == n) ≡ false = ne_eqb x.number n (λ z. omega (arith, z, h, later)) in rw e (omega arith)

-- ---- events that receive copies

-- they are no injections
take_names : (w : WorldState) (n k : ℕ) (e : Event) → takes_copy w n e ≡ true → one_if (names (entered w.injections e n) k) ≡ 0
take_names w n k (Take a b j) h = none (w.injections + 1 == n)
  where
    none : (t : Bool) → one_if (names (if t then None else None) k) ≡ 0
    none true = refl
    none false = refl
take_names w n k (Inject a sd bsl ks ttl entropy payload) h = absurd (false≢true h)
take_names w n k (Lose a b j) h = absurd (false≢true h)
take_names w n k (Again a b j) h = absurd (false≢true h)
take_names w n k (Down a b) h = absurd (false≢true h)
take_names w n k (Up a b) h = absurd (false≢true h)
take_names w n k (Send a b) h = absurd (false≢true h)
take_names w n k (Tick a) h = absurd (false≢true h)
take_names w n k (Restart a) h = absurd (false≢true h)
take_names w n k (Relabel a sd bsl label) h = absurd (false≢true h)
take_names w n k (Leave a sd) h = absurd (false≢true h)
take_names w n k (Join a sd) h = absurd (false≢true h)

-- the copies of injection n for k are on their course in the topology of the router c, with which all topologies agree
record IsUnderway (w : WorldState) (s : ℕ) (c : Control) (n k : ℕ) : Type 0 where
  truth : IsTruthful w
  ingress : slice_get w.routers s ≡ Some c
  agreed : Agreed w (control_view c) (own_node c)
  made : n ≤ w.injections
  kept : KeptFor w c n k

module _ (s : ℕ) (c : Control) (n k : ℕ) where
  goes : (w : WorldState) (e : Event) → takes_copy w n e ≡ true → IsUnderway w s c n k → GoesOn w e s c n k
  goes w e takes h = record {
    truth = h.truth;
    ingress = h.ingress;
    agreed = h.agreed;
    made = h.made;
    kept = h.kept;
    harmless = take_loses_none w n e takes;
  }

  underway_on : (w : WorldState) (e : Event) → EventFits (length w.domain.routers) e → event_fault w e ≡ None → takes_copy w n e ≡ true → IsUnderway w s c n k → IsUnderway (happens w e).world s c n k
  underway_on w e fits ok takes h =
      let keeps : KeepsRouters w e = take_keeps w n e takes in
      let next = happens_true w e h.truth fits ok in
      let step = gone_on w e s c n k (goes w e takes h) in
      record {
        truth = next.truth;
        ingress = ap (λ (rs : List Control). slice_get rs s) keeps ∙ h.ingress;
        agreed = agreed_kept w (happens w e).world (control_view c) (own_node c) keeps h.agreed;
        made = (let more = entered_more w e h.truth fits in let made = h.made in omega (arith, more, made));
        kept = step.0;
      }

  -- events drop nothing for k, and what was in flight for it is in flight or delivered
  record IsTaken (w : WorldState) (es : List Event) : Type 0 where
    none : drops_by n k w es ≡ 0
    sum : copies_of n k w.flights ≡ copies_of n k (world_after w es).flights + deliveries_by n k w es

  taken_on : (es : List Event) (w : WorldState) → AreAllowed w es → AreTakes n w es → IsUnderway w s c n k → IsTaken w es
  taken_on [] w allowed takes h = record { none = refl; sum = omega arith }
  taken_on (e ∷ es) w allowed takes h =
      let step = gone_on w e s c n k (goes w e takes.0 h) in
      let more = taken_on es (happens w e).world allowed.2 takes.1 (underway_on w e allowed.0 allowed.1 takes.0 h) in
      let whole : Balances w e n k = event_balances n k w e h.truth allowed.0 allowed.1 in
      record { none = both_none _ _ step.1 more.none; sum = summed _ _ _ _ _ _ _ whole (take_names w n k e takes.0) step.1 more.sum }
    where
      summed : (before named after got dropped last later : ℕ) → before + named ≡ after + (got + dropped) → named ≡ 0 → dropped ≡ 0 → after ≡ last + later → before ≡ last + (got + later)
      summed before named after got dropped last later whole unnamed none rest = omega (arith, whole, unnamed, none, rest)

-- ---- the injection and the events after it

module _ (w : WorldState) (e : Event) (es : List Event) (c : Control) (n k : ℕ) (i : Injection) (h : IsCoveredAt w e es c n k i) where
  number : (b : Bool) → (w.injections + 1 == n) ≡ b → (if b then injection_of e else None) ≡ Some i → (w.injections + 1 ≡ n) × (injection_of e ≡ Some i)
  number true t q = (eqb-true (w.injections + 1) n t, q)
  number false t q = cc

  this : (w.injections + 1 ≡ n) × (injection_of e ≡ Some i)
  this = number (w.injections + 1 == n) refl h.enters

  first : KeptFor (happens w e).world c n k × (drops_of n k (happens w e).made.drops ≡ 0)
  first =
      let allowed = h.allowed in
      begun w e c n k i (record {
        truth = h.truth;
        fits = allowed.0;
        allowed = allowed.1;
        enters = h.enters;
        ingress = h.ingress;
        covered = covered_is w h.truth i.router c h.ingress k i h.covered;
      })

  under : IsUnderway (happens w e).world i.router c n k
  under =
      let allowed = h.allowed in
      let keeps : KeepsRouters w e = inject_keeps w n e i h.enters in
      let next = happens_true w e h.truth allowed.0 allowed.1 in
      record {
        truth = next.truth;
        ingress = ap (λ (rs : List Control). slice_get rs i.router) keeps ∙ h.ingress;
        agreed = agreed_kept w (happens w e).world (control_view c) (own_node c) keeps (agreed w h.truth h.issuers h.quiet i.router c h.ingress);
        made = (let more = entered_more w e h.truth allowed.0 in let one = ap (λ o. length (listed_one o)) this.1 in let z = this.0 in omega (arith, more, one, z));
        kept = first.0;
      }

  after : IsTaken i.router c n k (happens w e).world es
  after = let allowed = h.allowed in taken_on i.router c n k es (happens w e).world allowed.2 h.takes under

  pub covered_drops : drops_by n k w (e ∷ es) ≡ 0
  covered_drops = both_none _ _ first.1 after.none

  -- it was delivered once, or is in one copy
  once : deliveries_by n k w (e ∷ es) + copies_of n k (world_after w (e ∷ es)).flights ≡ 1
  once =
      let allowed = h.allowed in
      let z = this.0 in
      let none : copies_of n k w.flights ≡ 0 = none_yet w n k h.truth (omega (arith, z)) in
      let named : one_if (names (entered w.injections e n) k) ≡ 1 = ap (λ (o : Option Injection). one_if (names o k)) h.enters ∙ ap one_if h.names in
      let whole : Balances w e n k = event_balances n k w e h.truth allowed.0 allowed.1 in
      summed _ _ _ _ _ _ _ whole none named first.1 after.sum
    where
      summed : (before named after got dropped last later : ℕ) → before + named ≡ after + (got + dropped) → before ≡ 0 → named ≡ 1 → dropped ≡ 0 → after ≡ last + later → (got + later) + last ≡ 1
      summed before named after got dropped last later whole none is dropless rest = omega (arith, whole, none, is, dropless, rest)

  pub covered_delivers : copies_in n (world_after w (e ∷ es)).flights ≡ 0 → deliveries_by n k w (e ∷ es) ≡ 1
  covered_delivers gone = last_one _ _ _ once (copies_few n k (world_after w (e ∷ es)).flights) gone
    where
      last_one : (got left all : ℕ) → got + left ≡ 1 → left ≤ all → all ≡ 0 → got ≡ 1
      last_one got left all whole few gone = omega (arith, whole, few, gone)
