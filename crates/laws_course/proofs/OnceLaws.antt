-- While views agree and no copy is lost, a reachable BFR-id is delivered once or is in one copy, and is never dropped.
use Rattle.std.proofs.Common.{◌≡◌, ℕ, zero, suc, ◌+◌, ◌<◌, ◌≤◌, ◌==◌, ◌&&◌, Bool, true, false, if◌then◌else◌, List, [], ◌∷◌, ◌++◌, length, slice_get, fold, Option, Some, None, refl, sym, ap, subst, ◌∙◌, arith}
use Rattle.std.specs.List.{AllByRecursion}
use Rattle.std.proofs.lemmas.Bool.{eqb-true}
use Rattle.std.proofs.lemmas.List.Sums.{fold-append}
use Rattle.std.proofs.lemmas.Option.{same_Some}
use Rattle.wire_base.specs.declared.conf.RouterConf.{RouterConf}
use Rattle.wire_base.specs.declared.view.ViewNode.{ViewNode}
use Rattle.wire_base.specs.model.Configuration.{DomainConf}
use Rattle.wire_base.specs.model.Control.{Control}
use Rattle.wire_base.specs.model.Hop.{has, one_if}
use Rattle.wire_base.specs.model.Item.{Item, ControlItem, PacketItem}
use Rattle.wire_base.specs.model.OnFrame.{node_place}
use Rattle.wire_base.specs.model.View.{control_view}
use Rattle.replay_text.specs.declared.event.Event.{Event}
use Rattle.domain_model.specs.World.{first_world, WorldState, queue_at}
use Rattle.domain_model.specs.Faults.{event_fault}
use Rattle.domain_model.specs.Step.{happens}
use Rattle.domain_model.specs.Run.{Run, first_run, goes_on, run_of, world_after}
use Rattle.domain_model.specs.Truth.{IsTruthful, EventFits}
use Rattle.domain_model.proofs.WorldTruth.{happens_true, first_true}
use Rattle.laws_router.proofs.DomainLaws.{strip, become_stripped}
use Rattle.laws_ledger.specs.Ledger.{Injection, injection_of, names, entered, injected, numbered, injections_in, carries, copies_of, is_drop, deliveries, drops_of, drops, ledger}
use Rattle.laws_ledger.specs.Runs.{AreAllowed, unlined, IsAccounted}
use Rattle.laws_ledger.specs.Weights.{is_of, copies_in}
use Rattle.laws_ledger.proofs.WorldLaws.{owner_at}
use Rattle.laws_ledger.proofs.FallLaws.{over-most}
use Rattle.laws_ledger.proofs.RunLaws.{run_accounted, tally-told, next_truth, next_allowed, run_goes_on, still_injected, now_injected, entered_more, listed_one}
use Rattle.laws_course.specs.Course.{Agreed, Kept, loses_copy, IsCovered, HasAgreed, IsSteady, own_node, IsCarried, IsCarriedIn, carried_on}
use Rattle.laws_course.proofs.StepLaws.{none_dropped}
use Rattle.laws_course.proofs.ChangedLaws.{Keeps, keeps_stay}
use Rattle.laws_course.proofs.KeptLaws.{IsKeptBy, later_kept}
use Rattle.laws_course.proofs.FirstLaws.{first_kept}

-- a run whose copies of the injection for the id are on their course, and that dropped none
pub record IsOnce (r : Run) (conf : RouterConf) (g : List ViewNode) (u n k : ℕ) (i : Injection) : Type 0 where
  pub truth : IsTruthful r.world
  pub accounts : IsAccounted r
  pub known : injected r n ≡ Some i
  pub made : n ≤ r.world.injections
  pub kept : Kept r.world conf g u n k
  pub none : drops n k r ≡ 0

-- the drops of one event more
drops_next : (r : Run) (e : ℕ × Event) (n k : ℕ) → drops n k (goes_on r e) ≡ drops n k r + drops_of n k (happens r.world e.1).made.drops
unfolding goes_on
drops_next r e n k = tally-told (is_drop n k) e.0 r.drops (happens r.world e.1).made.drops

kept_next : (r : Run) (e : ℕ × Event) (conf : RouterConf) (g : List ViewNode) (u n k : ℕ) → (happens r.world e.1).world.domain ≡ r.world.domain → IsKeptBy r.world.domain.routers conf g u n k (happens r.world e.1) → Kept (goes_on r e).world conf g u n k
unfolding goes_on
kept_next r e conf g u n k same h a link = subst (λ (d : DomainConf). AllByRecursion (Keeps d.routers conf g u n k a link) (queue_at (happens r.world e.1).world.flights a link)) (sym same) (h.kept a link)

count_next : (r : Run) (e : ℕ × Event) → (goes_on r e).world.injections ≡ (happens r.world e.1).world.injections
unfolding goes_on
count_next r e = refl

domain_next : (r : Run) (e : ℕ × Event) → (goes_on r e).world.domain ≡ (happens r.world e.1).world.domain
unfolding goes_on
domain_next r e = refl

-- the step, where the ingress has that configuration and that view
abbrev MovesOn : WorldState → ℕ → ℕ → RouterConf → List ViewNode → Type 0
MovesOn w n k conf g =
    Agreed w g (node_place g conf.system) → n ≤ w.injections → Kept w conf g (node_place g conf.system) n k
    → (e : Event) → loses_copy w n e ≡ false → IsKeptBy w.domain.routers conf g (node_place g conf.system) n k (happens w e)

-- for a configuration that differs at most in its sub-domains and label ranges
moves_stripped : (w : WorldState) (n k : ℕ) (conf : RouterConf) (g : List ViewNode) → MovesOn w n k conf g → MovesOn w n k (strip conf) g
moves_stripped w n k conf g h agreed made kept e harmless =
    let u = node_place g conf.system in
    let q = h agreed made (λ a link. keeps_stay w.domain.routers (strip conf) conf refl g u n k a link (queue_at w.flights a link) (kept a link)) e harmless in
    record { kept = λ a link. keeps_stay w.domain.routers conf (strip conf) refl g u n k a link (queue_at (happens w e).world.flights a link) (q.kept a link); drops = q.drops }

moves_whole : (w : WorldState) (n k : ℕ) (conf : RouterConf) (g : List ViewNode) → MovesOn w n k (strip conf) g → MovesOn w n k conf g
moves_whole w n k conf g h agreed made kept e harmless =
    let u = node_place g conf.system in
    let q = h agreed made (λ a link. keeps_stay w.domain.routers conf (strip conf) refl g u n k a link (queue_at w.flights a link) (kept a link)) e harmless in
    record { kept = λ a link. keeps_stay w.domain.routers (strip conf) conf refl g u n k a link (queue_at (happens w e).world.flights a link) (q.kept a link); drops = q.drops }

moved : (w : WorldState) → IsTruthful w → (s : ℕ) (c : Control) → slice_get w.routers s ≡ Some c → (conf : RouterConf) (g : List ViewNode) → strip c.conf ≡ strip conf → control_view c ≡ g → (n k : ℕ) → MovesOn w n k conf g
moved w truth s c at conf g same view n k =
    let here : MovesOn w n k c.conf (control_view c) = λ agreed made kept e harmless. later_kept w truth s c at n k agreed made kept e harmless in
    moves_whole w n k conf g (subst (λ (z : RouterConf). MovesOn w n k z g) same (moves_stripped w n k c.conf g (subst (MovesOn w n k c.conf) view here)))

module _ (s : ℕ) (first conf : RouterConf) (one : strip first ≡ strip conf) (g : List ViewNode) (n k : ℕ) (i : Injection) where
  abbrev u : ℕ
  u = node_place g conf.system

  -- one event after the injection
  once_next : (r : Run) (e : ℕ × Event) → slice_get r.world.domain.routers s ≡ Some first → EventFits (length r.world.domain.routers) e.1 → event_fault r.world e.1 ≡ None → HasAgreed r.world s g → loses_copy r.world n e.1 ≡ false → IsOnce r conf g u n k i → IsOnce (goes_on r e) conf g u n k i
  once_next r e at fits ok a harmless o =
      let happened = happens_true r.world e.1 o.truth fits ok in
      let owner = owner_at r.world o.truth s a.router a.there in
      let same : strip a.router.conf ≡ strip conf = become_stripped owner.router a.router.conf owner.become ∙ ap strip (same_Some owner.router first (sym owner.there ∙ at)) ∙ one in
      let agreed : Agreed r.world g u = subst (λ (c : RouterConf). Agreed r.world g (node_place g c.system)) same a.agreed in
      let step = moved r.world o.truth s a.router a.there conf g same a.view n k agreed o.made o.kept e.1 harmless in
      record {
        truth = next_truth r e o.truth fits ok;
        accounts = run_goes_on r e o.truth fits ok o.accounts;
        known = still_injected r e o.truth fits ok o.accounts n i o.known;
        made = (let more = entered_more r.world e.1 o.truth fits in let made = o.made in let count = count_next r e in omega (arith, more, made, count));
        kept = kept_next r e conf g u n k happened.domain step;
        none = (let before = o.none in omega (arith, drops_next r e n k, before, none_dropped n k (happens r.world e.1).made.drops step.drops));
      }

  -- and several
  once_on : (es : List (ℕ × Event)) (r : Run) → slice_get r.world.domain.routers s ≡ Some first → AreAllowed r.world (unlined es) → IsSteady r s g n es → IsOnce r conf g u n k i → IsOnce (fold goes_on r es) conf g u n k i
  once_on [] r at allowed steady o = o
  once_on (e ∷ es) r at allowed steady o =
      let happened = happens_true r.world e.1 o.truth allowed.0 allowed.1 in
      let same : (goes_on r e).world.domain ≡ r.world.domain = domain_next r e ∙ happened.domain in
      once_on es (goes_on r e) (ap (λ (d : DomainConf). slice_get d.routers s) same ∙ at) (next_allowed r e (unlined es) allowed.2) steady.2 (once_next r e at allowed.0 allowed.1 steady.0 steady.1 o)

-- the injection
module _ (r : Run) (e : ℕ × Event) (n k : ℕ) (i : Injection) (c : Control) (truth : IsTruthful r.world) (accounts : IsAccounted r) (fits : EventFits (length r.world.domain.routers) e.1) (ok : event_fault r.world e.1 ≡ None)
    (is : entered r.world.injections e.1 n ≡ Some i) (at : slice_get r.world.routers i.router ≡ Some c) (covered : IsCovered c.conf (control_view c) (node_place (control_view c) c.conf.system) i k) where
  number : (b : Bool) → (r.world.injections + 1 == n) ≡ b → (if b then injection_of e.1 else None) ≡ Some i → (r.world.injections + 1 ≡ n) × (injection_of e.1 ≡ Some i)
  number true t h = (eqb-true (r.world.injections + 1) n t, h)
  number false t h = cc

  this : (r.world.injections + 1 ≡ n) × (injection_of e.1 ≡ Some i)
  this = number (r.world.injections + 1 == n) refl is

  now : injected (goes_on r e) n ≡ Some i
  now = ap (injected (goes_on r e)) (sym this.0) ∙ now_injected r e truth fits ok accounts i this.1

  -- nothing of it was dropped before
  none_before : drops n k r ≡ 0
  none_before = let whole = accounts.balanced n k in let z = ap one_if (ap (λ (o : Option Injection). names o k) unknown) in omega (arith, whole, z)
    where
      past : (js : List Injection) (m : ℕ) → length js < m → numbered js m ≡ None
      past js zero l = refl
      past [] (suc m) l = refl
      past (j ∷ js) (suc zero) l = absurd (omega (arith, l))
      past (j ∷ js) (suc (suc m)) l = past js (suc m) (omega (arith, l))

      unknown : injected r n ≡ None
      unknown = past (injections_in r.events) n (let count = accounts.counted in let z = this.0 in omega (arith, count, z))

  pub once_first : IsOnce (goes_on r e) c.conf (control_view c) (node_place (control_view c) c.conf.system) n k i
  once_first =
      let happened = happens_true r.world e.1 truth fits ok in
      let step = first_kept r.world truth i.router c at n k i e.1 fits is refl covered in
      record {
        truth = next_truth r e truth fits ok;
        accounts = run_goes_on r e truth fits ok accounts;
        known = now;
        made = (let more = entered_more r.world e.1 truth fits in let l = ap (λ o. length (listed_one o)) this.1 in let count = count_next r e in let z = this.0 in omega (arith, more, l, count, z));
        kept = kept_next r e c.conf (control_view c) (node_place (control_view c) c.conf.system) n k happened.domain step;
        none = omega (arith, drops_next r e n k, none_before, none_dropped n k (happens r.world e.1).made.drops step.drops);
      }

  pub once_after : (fs : List (ℕ × Event)) → AreAllowed (goes_on r e).world (unlined fs) → IsSteady (goes_on r e) i.router (control_view c) n fs → IsOnce (fold goes_on (goes_on r e) fs) c.conf (control_view c) (node_place (control_view c) c.conf.system) n k i
  once_after fs allowed steady =
      let happened = happens_true r.world e.1 truth fits ok in
      let same : (goes_on r e).world.domain ≡ r.world.domain = domain_next r e ∙ happened.domain in
      let owner = owner_at r.world truth i.router c at in
      once_on i.router owner.router c.conf (sym (become_stripped owner.router c.conf owner.become)) (control_view c) n k i fs (goes_on r e) (ap (λ (d : DomainConf). slice_get d.routers i.router) same ∙ owner.there) allowed steady once_first

-- ---- what that says of deliveries

pub copies_few : (n k : ℕ) (flights : List (List (List Item))) → copies_of n k flights ≤ copies_in n flights
copies_few n k flights = over-most (λ x. Unit {0}) (λ x. one_if (carries n k x)) (λ x. one_if (is_of n x)) (λ x h. one x) flights (λ a link. any (queue_at flights a link))
  where
    any : (xs : List Item) → AllByRecursion (λ x. Unit {0}) xs
    any [] = tt
    any (x ∷ xs) = (tt, any xs)

    one : (x : Item) → one_if (carries n k x) ≤ one_if (is_of n x)
    one (ControlItem p) = omega arith
    one (PacketItem x) = by (x.number == n) (has x.ids k)
      where
        by : (a b : Bool) → one_if (a && b) ≤ one_if a
        by true true = omega arith
        by true false = omega arith
        by false b = omega arith

module _ (r : Run) (conf : RouterConf) (g : List ViewNode) (u n k : ℕ) (i : Injection) (o : IsOnce r conf g u n k i) (named : has i.ids k ≡ true) where
  whole : ledger n k r ≡ 1
  whole = let balanced = o.accounts.balanced n k in balanced ∙ ap one_if (ap (λ (z : Option Injection). names z k) o.known ∙ named)

  -- it was delivered once, or is in one copy
  pub one_place : deliveries n k r + copies_of n k r.world.flights ≡ 1
  one_place = let none = o.none in omega (arith, whole, none)

  -- and where none of its copies is on the way, it was delivered
  pub delivered_once : copies_in n r.world.flights ≡ 0 → deliveries n k r ≡ 1
  delivered_once gone = omega (arith, one_place, copies_few n k r.world.flights, gone)

pub carried_once : (r : Run) (e : ℕ × Event) (fs : List (ℕ × Event)) (c : Control) (n k : ℕ) (i : Injection) → IsCarried r e fs c n k i → IsOnce (carried_on r e fs) c.conf (control_view c) (own_node c) n k i
carried_once r e fs c n k i h =
    let allowed = h.allowed in
    once_after r e n k i c h.truth h.accounts allowed.0 allowed.1 h.enters h.ingress h.covered fs (next_allowed r e (unlined fs) allowed.2) h.steady

-- ---- runs from the start of a domain

pub allowed_parts : (xs ys : List Event) (w : WorldState) → AreAllowed w (xs ++ ys) → AreAllowed w xs × AreAllowed (world_after w xs) ys
allowed_parts [] ys w all = (tt, all)
allowed_parts (x ∷ xs) ys w all = let more = allowed_parts xs ys (happens w x).world all.2 in ((all.0, all.1, more.0), more.1)

pub unlined-join : (es fs : List (ℕ × Event)) → unlined (es ++ fs) ≡ unlined es ++ unlined fs
unlined-join [] fs = refl
unlined-join (e ∷ es) fs = ap (λ (l : List Event). e.1 ∷ l) (unlined-join es fs)

pub world_next : (r : Run) (e : ℕ × Event) → (goes_on r e).world ≡ (happens r.world e.1).world
unfolding goes_on
world_next r e = refl

pub run_world : (es : List (ℕ × Event)) (r : Run) → (fold goes_on r es).world ≡ world_after r.world (unlined es)
run_world [] r = refl
run_world (e ∷ es) r = run_world es (goes_on r e) ∙ ap (λ (w : WorldState). world_after w (unlined es)) (world_next r e)

pub truth_on : (es : List (ℕ × Event)) (r : Run) → IsTruthful r.world → AreAllowed r.world (unlined es) → IsTruthful (fold goes_on r es).world
truth_on [] r truth all = truth
truth_on (e ∷ es) r truth all = truth_on es (goes_on r e) (next_truth r e truth all.0 all.1) (next_allowed r e (unlined es) all.2)

module _ (d : DomainConf) (es : List (ℕ × Event)) (e : ℕ × Event) (fs : List (ℕ × Event)) (c : Control) (n k : ℕ) (i : Injection) (h : IsCarriedIn d es e fs c n k i) where
  parts : AreAllowed (first_world d) (unlined es) × AreAllowed (world_after (first_world d) (unlined es)) (unlined (e ∷ fs))
  parts = allowed_parts (unlined es) (unlined (e ∷ fs)) (first_world d) (subst (AreAllowed (first_world d)) (unlined-join es (e ∷ fs)) h.allowed)

  pub carried_in : IsCarried (run_of d es) e fs c n k i
  unfolding run_of first_run
  carried_in = record {
    truth = truth_on es (first_run d) (first_true d h.valid) parts.0;
    accounts = run_accounted d es h.valid parts.0;
    allowed = subst (λ (w : WorldState). AreAllowed w (unlined (e ∷ fs))) (sym (run_world es (first_run d))) parts.1;
    enters = h.enters;
    names = h.names;
    ingress = h.ingress;
    covered = h.covered;
    steady = h.steady;
  }

  pub whole_run : run_of d (es ++ e ∷ fs) ≡ carried_on (run_of d es) e fs
  unfolding run_of
  whole_run = fold-append goes_on (first_run d) es (e ∷ fs)

  abbrev end : Run
  end = carried_on (run_of d es) e fs

  pub run_drops_none : drops n k (run_of d (es ++ e ∷ fs)) ≡ 0
  run_drops_none = let o = carried_once (run_of d es) e fs c n k i carried_in in ap (drops n k) whole_run ∙ o.none

  pub run_has_one : deliveries n k (run_of d (es ++ e ∷ fs)) + copies_of n k (run_of d (es ++ e ∷ fs)).world.flights ≡ 1
  run_has_one =
      ap (λ (q : Run). deliveries n k q + copies_of n k q.world.flights) whole_run
      ∙ one_place end c.conf (control_view c) (own_node c) n k i (carried_once (run_of d es) e fs c n k i carried_in) h.names

  pub run_delivers : copies_in n (run_of d (es ++ e ∷ fs)).world.flights ≡ 0 → deliveries n k (run_of d (es ++ e ∷ fs)) ≡ 1
  run_delivers gone =
      ap (deliveries n k) whole_run
      ∙ delivered_once end c.conf (control_view c) (own_node c) n k i (carried_once (run_of d es) e fs c n k i carried_in) h.names (ap (λ (q : Run). copies_in n q.world.flights) (sym whole_run) ∙ gone)
