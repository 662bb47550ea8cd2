-- The accounts of a run are kept by each event that is allowed.
use Rattle.std.proofs.Common.{◌≡◌, inl, inr, ℕ, zero, suc, ◌+◌, ◌==◌, Bool, true, false, if◌then◌else◌, List, [], ◌∷◌, ◌++◌, length, map, slice_get, slice_index_or, sum_by, fold, Option, Some, None, refl, sym, ap, subst, ◌∙◌, arith}
use Rattle.std.specs.List.{AllByRecursion, filter_map, cons_option}
use Rattle.std.proofs.lemmas.Bool.{eq-eqb, ne_eqb}
use Rattle.std.proofs.lemmas.Bool.Decides.{eqb_tells}
use Rattle.std.proofs.lemmas.List.Sums.{sum_by-cons, sum_by-append}
use Rattle.std.proofs.lemmas.List.{length-append, length-map}
use Rattle.wire_base.specs.declared.conf.End.{End}
use Rattle.wire_base.specs.declared.conf.RouterConf.{RouterConf}
use Rattle.wire_base.specs.declared.triple.Triple.{Triple}
use Rattle.wire_base.specs.model.Configuration.{DomainConf, IsValid}
use Rattle.wire_base.specs.model.Hop.{one_if, tally}
use Rattle.wire_base.specs.model.Item.{Item, ControlItem, PacketItem, DataItem}
use Rattle.wire_base.specs.model.Place.{own_id}
use Rattle.replay_text.specs.declared.event.Event.{Event}
use Rattle.domain_model.specs.declared.lines.GotLine.{GotLine}
use Rattle.domain_model.specs.declared.lines.DropLine.{DropLine}
use Rattle.domain_model.specs.World.{WorldState, queue_at, no_flights, first_world, ids_in_flight, carried}
use Rattle.domain_model.specs.Faults.{event_fault}
use Rattle.domain_model.specs.Step.{Happened, happens}
use Rattle.domain_model.specs.Run.{Run, first_run, on_line, goes_on, run_of}
use Rattle.domain_model.specs.Truth.{IsTruthful, EventFits}
use Rattle.domain_model.proofs.EachLaws.{each_weaker, each_joined, each_mapped}
use Rattle.domain_model.proofs.WorldTruth.{happens_true, first_true}
use Rattle.laws_route.proofs.HopLemmas.{tally-append}
use Rattle.laws_ledger.specs.Ledger.{Injection, injection_of, names, entered, carries, numbered, injections_in, injected, over_all, copies_of, is_got, is_drop, deliveries_of, drops_of, ledger}
use Rattle.laws_ledger.specs.Runs.{AreAllowed, unlined, named_in, named_total, dropped_total, IsCopyIn, IsItemIn, IsDeliveryIn, IsAccounted}
use Rattle.laws_ledger.proofs.ShapeLaws.{Shape, Quiet, Dropped, Taken, Entered, shape_of}
use Rattle.laws_ledger.proofs.CountLaws.{injection_there}
use Rattle.laws_ledger.proofs.LedgerLaws.{event_balances}
use Rattle.laws_ledger.proofs.SumLaws.{sum-map}
use Rattle.laws_ledger.proofs.TotalLaws.{carried-all, event_total}
use Rattle.laws_ledger.proofs.SourceLaws.{IsSameSource, IfPacket, IsGotFrom, IsAfterFrom, event_from}
use Rattle.domain_model.proofs.ReadBack.{map_joined}

-- ---- injections

-- the one of an event, where it is one
abbrev pub listed_one : Option Injection → List Injection
listed_one None = []
listed_one (Some i) = i ∷ []

filter_map-join : {X Y : Type 0} (f : X → Option Y) (xs ys : List X) → filter_map f (xs ++ ys) ≡ filter_map f xs ++ filter_map f ys
filter_map-join f [] ys = refl
filter_map-join {X} {Y} f (x ∷ xs) ys = by (f x) (filter_map-join f xs ys)
  where
    by : (o : Option Y) → filter_map f (xs ++ ys) ≡ filter_map f xs ++ filter_map f ys → cons_option o (filter_map f (xs ++ ys)) ≡ cons_option o (filter_map f xs) ++ filter_map f ys
    by None e = e
    by (Some y) e = ap (λ (l : List Y). y ∷ l) e

one_more : (es : List (ℕ × Event)) (e : ℕ × Event) → injections_in (es ++ e ∷ []) ≡ injections_in es ++ listed_one (injection_of e.1)
one_more es e = filter_map-join (λ (x : ℕ × Event). injection_of x.1) es (e ∷ []) ∙ ap (λ (l : List Injection). injections_in es ++ l) (by (injection_of e.1))
  where
    by : (o : Option Injection) → cons_option o [] ≡ listed_one o
    by None = refl
    by (Some i) = refl

-- an event raises the number of injections where it is one
pub entered_more : (w : WorldState) (e : Event) → IsTruthful w → EventFits (length w.domain.routers) e → (happens w e).world.injections ≡ w.injections + length (listed_one (injection_of e))
entered_more w e truth fits = by (shape_of w e)
  where
    none : (m : ℕ) → m ≡ w.injections → injection_of e ≡ None → m ≡ w.injections + length (listed_one (injection_of e))
    none m h is = let l = ap (λ o. length (listed_one o)) is in omega (arith, h, l)

    by : Shape w e (happens w e) → (happens w e).world.injections ≡ w.injections + length (listed_one (injection_of e))
    by (Quiet q (inl is)) = none (happens w e).world.injections q.injections is
    by (Quiet q (inr nowhere)) = absurd (injection_there w truth e nowhere.0 nowhere.1 fits nowhere.2)
    by (Dropped d is) = none (happens w e).world.injections (ap (λ (n : Happened). n.world.injections) d.is) is
    by (Taken k is) = none (happens w e).world.injections (ap (λ (n : Happened). n.world.injections) k.is) is
    by (Entered k) = ap (λ (n : Happened). n.world.injections) k.is ∙ (let l = ap (λ o. length (listed_one o)) k.event in omega (arith, l))

-- the injections of a number are those before, or the one that enters
names-more : (is : List Injection) (o : Option Injection) (n k : ℕ) → one_if (names (numbered (is ++ listed_one o) n) k) ≡ one_if (names (numbered is n) k) + one_if (names (if length is + 1 == n then o else None) k)
names-more is o zero k = rw (ne_eqb (length is + 1) 0 (λ e. omega (arith, e))) (omega arith)
names-more [] None (suc n) k = by (0 + 1 == suc n)
  where
    by : (b : Bool) → 0 ≡ 0 + one_if (names (if b then None else None) k)
    by true = refl
    by false = refl
names-more [] (Some i) (suc zero) k = omega arith
names-more [] (Some i) (suc (suc n)) k = rw (ne_eqb (0 + 1) (suc (suc n)) (λ e. omega (arith, e))) (omega arith)
names-more (j ∷ is) o (suc zero) k = rw (ne_eqb (length (j ∷ is) + 1) 1 (λ e. omega (arith, e))) (omega arith)
names-more (j ∷ is) o (suc (suc n)) k =
    let turned : (length (j ∷ is) + 1 == suc (suc n)) ≡ (length is + 1 == suc n) = same_tests (length (j ∷ is) + 1) (suc (suc n)) (length is + 1) (suc n) (λ e. omega (arith, e)) (λ e. omega (arith, e)) in
    rw turned (names-more is o (suc n) k)
  where
    same_tests : (a b c d : ℕ) → (a ≡ b → c ≡ d) → (c ≡ d → a ≡ b) → (a == b) ≡ (c == d)
    same_tests a b c d f g = elim (eqb_tells c d) [
      | inl t ↦ eq-eqb a b (g t.1) ∙ sym t.0
      | inr t ↦ ne_eqb a b (λ e. t.1 (f e)) ∙ sym t.0
    ]

-- an injection keeps its number
numbered_kept : (is js : List Injection) (n : ℕ) (i : Injection) → numbered is n ≡ Some i → numbered (is ++ js) n ≡ Some i
numbered_kept is js zero i e = cc
numbered_kept [] js (suc n) i e = cc
numbered_kept (j ∷ is) js (suc zero) i e = e
numbered_kept (j ∷ is) js (suc (suc n)) i e = numbered_kept is js (suc n) i e

numbered_last : (is : List Injection) (i : Injection) → numbered (is ++ i ∷ []) (length is + 1) ≡ Some i
numbered_last is i = ap (numbered (is ++ i ∷ [])) (plus_one (length is)) ∙ by is
  where
    plus_one : (n : ℕ) → n + 1 ≡ suc n
    plus_one n = omega arith

    by : (is : List Injection) → numbered (is ++ i ∷ []) (suc (length is)) ≡ Some i
    by [] = refl
    by (j ∷ is) = by is

-- ---- what was reported on lines

no_lines : {X : Type 0} (line : ℕ) (xs : List X) → map (λ (x : ℕ × X). x.1) (on_line line xs) ≡ xs
no_lines line [] = refl
no_lines {X} line (x ∷ xs) = ap (λ (l : List X). x ∷ l) (no_lines line xs)

pub tally-told : {X : Type 0} (p : X → Bool) (line : ℕ) (xs : List (ℕ × X)) (ys : List X) → tally p (map (λ (x : ℕ × X). x.1) (xs ++ on_line line ys)) ≡ tally p (map (λ (x : ℕ × X). x.1) xs) + tally p ys
tally-told {X} p line xs ys =
    ap (tally p) (map_joined (λ (x : ℕ × X). x.1) xs (on_line line ys) ∙ ap (λ (l : List X). map (λ (x : ℕ × X). x.1) xs ++ l) (no_lines line ys))
    ∙ tally-append p (map (λ (x : ℕ × X). x.1) xs) ys

-- ---- one event more

module _ (r : Run) (e : ℕ × Event) (truth : IsTruthful r.world) (fits : EventFits (length r.world.domain.routers) e.1) (ok : event_fault r.world e.1 ≡ None) (old : IsAccounted r) where
  abbrev next : Run
  next = goes_on r e

  next_injections : injections_in next.events ≡ injections_in r.events ++ listed_one (injection_of e.1)
  unfolding goes_on
  next_injections = one_more r.events e

  next_counted : length (injections_in next.events) ≡ next.world.injections
  unfolding goes_on
  next_counted =
      let l = ap (λ (is : List Injection). length is) (one_more r.events e) in
      omega (arith, l, length-append (injections_in r.events) (listed_one (injection_of e.1)), old.counted, entered_more r.world e.1 truth fits)

  names_next : (n k : ℕ) → one_if (names (injected next n) k) ≡ one_if (names (injected r n) k) + one_if (names (entered r.world.injections e.1 n) k)
  names_next n k =
      ap (λ (is : List Injection). one_if (names (numbered is n) k)) next_injections
      ∙ names-more (injections_in r.events) (injection_of e.1) n k
      ∙ ap (λ (m : ℕ). one_if (names (injected r n) k) + one_if (names (if m + 1 == n then injection_of e.1 else None) k)) old.counted

  next_ledger : (n k : ℕ) → ledger n k next ≡ (copies_of n k (happens r.world e.1).world.flights + (deliveries_of n k (happens r.world e.1).made.got + drops_of n k (happens r.world e.1).made.drops)) + (deliveries_of n k (map (λ g. g.1) r.got) + drops_of n k (map (λ d. d.1) r.drops))
  unfolding goes_on
  next_ledger n k = omega (arith, tally-told (is_got n k) e.0 r.got (happens r.world e.1).made.got, tally-told (is_drop n k) e.0 r.drops (happens r.world e.1).made.drops)

  next_balanced : (n k : ℕ) → ledger n k next ≡ one_if (names (injected next n) k)
  next_balanced n k = omega (arith, next_ledger n k, event_balances n k r.world e.1 truth fits ok, old.balanced n k, names_next n k)

  -- an injection of the run keeps its number
  pub still_injected : (n : ℕ) (i : Injection) → injected r n ≡ Some i → injected next n ≡ Some i
  still_injected n i is = ap (λ (js : List Injection). numbered js n) next_injections ∙ numbered_kept (injections_in r.events) (listed_one (injection_of e.1)) n i is

  -- and the one that enters has the next
  pub now_injected : (i : Injection) → injection_of e.1 ≡ Some i → injected next (r.world.injections + 1) ≡ Some i
  now_injected i is =
      ap (λ (js : List Injection). numbered js (r.world.injections + 1)) (next_injections ∙ ap (λ (o : Option Injection). injections_in r.events ++ listed_one o) is)
      ∙ ap (λ (m : ℕ). numbered (injections_in r.events ++ i ∷ []) (m + 1)) (sym old.counted) ∙ numbered_last (injections_in r.events) i

  copy_kept : (x y : DataItem) → IsSameSource x y → IsCopyIn next x → IsCopyIn next y
  copy_kept x y same h = record {
    injection = h.injection;
    there = ap (injected next) same.number ∙ h.there;
    is = record { sd = ap (λ (t : Triple). t.sd) same.triple ∙ h.is.sd; triple = λ j named. same.triple ∙ h.is.triple j (same.part j named); payload = same.payload ∙ h.is.payload; entropy = same.entropy ∙ h.is.entropy };
  }

  old_copies : (a link : ℕ) → AllByRecursion (IfPacket (IsCopyIn next)) (queue_at r.world.flights a link)
  old_copies a link = each_weaker (IsItemIn r) (IfPacket (IsCopyIn next)) one (queue_at r.world.flights a link) (old.copies a link)
    where
      one : (x : Item) → IsItemIn r x → IfPacket (IsCopyIn next) x
      one (ControlItem p) h = tt
      one (PacketItem x) h = record { injection = h.injection; there = still_injected x.number h.injection h.there; is = h.is }

  made_of : IsAfterFrom (IsCopyIn next) copy_kept r.world.domain.routers (happens r.world e.1)
  made_of =
      event_from (IsCopyIn next) copy_kept r.world e.1 truth old_copies
      (λ i is x number of. record { injection = i; there = ap (injected next) number ∙ now_injected i is; is = of })

  abbrev confs : List RouterConf
  confs = r.world.domain.routers

  same_domain : next.world.domain ≡ r.world.domain
  unfolding goes_on
  same_domain = let k = happens_true r.world e.1 truth fits ok in k.domain

  next_copies : (a link : ℕ) → AllByRecursion (IsItemIn next) (queue_at next.world.flights a link)
  unfolding goes_on
  next_copies a link = each_weaker (IfPacket (IsCopyIn next)) (IsItemIn next) one (queue_at next.world.flights a link) (made_of.copies a link)
    where
      one : (x : Item) → IfPacket (IsCopyIn next) x → IsItemIn next x
      one (ControlItem p) h = tt
      one (PacketItem x) h = h

  delivery_old : (g : GotLine) → IsDeliveryIn r g → IsDeliveryIn next g
  delivery_old g h = record {
    injection = h.injection;
    there = still_injected g.injection h.injection h.there;
    is = record { router = h.is.router; there = ap (λ (d : DomainConf). slice_get d.routers g.router) same_domain ∙ h.is.there; own = h.is.own; payload = h.is.payload };
  }

  delivery_new : (g : GotLine) → IsGotFrom confs (IsCopyIn next) g → IsDeliveryIn next g
  delivery_new g h = record {
    injection = h.holds.injection;
    there = ap (injected next) h.number ∙ h.holds.there;
    is = record {
      router = h.router;
      there = ap (λ (d : DomainConf). slice_get d.routers g.router) same_domain ∙ h.there;
      own = ap (own_id h.router) (sym h.holds.is.sd) ∙ h.own;
      payload = h.payload ∙ h.holds.is.payload;
    };
  }

  next_delivered : AllByRecursion (λ (g : ℕ × GotLine). IsDeliveryIn next g.1) next.got
  unfolding goes_on
  next_delivered =
      let P : ℕ × GotLine → Type 0 = λ g. IsDeliveryIn next g.1 in
      each_joined P r.got (on_line e.0 (happens r.world e.1).made.got)
      (each_weaker (λ (g : ℕ × GotLine). IsDeliveryIn r g.1) P (λ g h. delivery_old g.1 h) r.got old.delivered)
      (each_mapped P (λ (g : GotLine). (e.0, g)) (happens r.world e.1).made.got (each_weaker (IsGotFrom confs (IsCopyIn next)) (IsDeliveryIn next) delivery_new (happens r.world e.1).made.got made_of.got))

  next_total : named_total next ≡ length next.got + (dropped_total next + ids_in_flight next.world.flights)
  unfolding goes_on
  next_total =
      let n = happens r.world e.1 in
      let all = event_total r.world e.1 truth fits ok in
      let a = sum_by-append (λ (x : ℕ × Event). named_in (injection_of x.1)) r.events (e ∷ []) in
      let b = sum_by-cons (λ (x : ℕ × Event). named_in (injection_of x.1)) e [] in
      let c = length-append r.got (on_line e.0 n.made.got) in
      let d = length-map {B = ℕ × GotLine} n.made.got (λ (g : GotLine). (e.0, g)) in
      let f = sum_by-append (λ (x : ℕ × DropLine). length x.1.ids) r.drops (on_line e.0 n.made.drops) in
      let g = sum-map {Y = ℕ × DropLine} (λ (x : ℕ × DropLine). length x.1.ids) (λ (x : DropLine). (e.0, x)) n.made.drops in
      omega (arith, all, a, b, c, d, f, g, old.total)

  pub run_goes_on : IsAccounted next
  run_goes_on = record { counted = next_counted; balanced = next_balanced; copies = next_copies; delivered = next_delivered; total = next_total }

-- ---- whole runs

pub none_on_way : (f : Item → ℕ) (rs : List RouterConf) → over_all f (no_flights rs) ≡ 0
unfolding over_all
none_on_way f rs = by rs
  where
    row : (es : List End) → sum_by (λ queue. sum_by f queue) (map (λ e. []) es) ≡ 0
    row [] = refl
    row (e ∷ es) = omega (arith, sum_by-cons (λ queue. sum_by f queue) [] (map (λ e. []) es), row es)

    by : (rs : List RouterConf) → sum_by (λ queues. sum_by (λ queue. sum_by f queue) queues) (no_flights rs) ≡ 0
    by [] = refl
    by (r ∷ rs) = omega (arith, sum_by-cons (λ queues. sum_by (λ queue. sum_by f queue) queues) (map (λ e. []) r.ends) (no_flights rs), row r.ends, by rs)

pub none_queued : (P : Item → Type 0) (rs : List RouterConf) (a link : ℕ) → AllByRecursion P (queue_at (no_flights rs) a link)
none_queued P rs a link = row rs a
  where
    queue : (es : List End) (n : ℕ) → AllByRecursion P (slice_index_or (map (λ (e : End). []) es) n [])
    queue [] n = tt
    queue (e ∷ es) zero = tt
    queue (e ∷ es) (suc n) = queue es n

    row : (qs : List RouterConf) (n : ℕ) → AllByRecursion P (slice_index_or (slice_index_or (no_flights qs) n []) link [])
    row [] n = tt
    row (r ∷ qs) zero = queue r.ends link
    row (r ∷ qs) (suc n) = row qs n

-- where nothing is on the way and nothing was done
pub nothing_done : (w : WorldState) (rs : List RouterConf) → w.flights ≡ no_flights rs → w.injections ≡ 0 → IsAccounted (record { world = w; events = []; sent = []; got = []; drops = [] })
nothing_done w rs none first = record { counted = sym first; balanced = balanced; copies = copies; delivered = tt; total = total }
  where
    balanced : (n k : ℕ) → copies_of n k w.flights + (0 + 0) ≡ one_if (names (numbered [] n) k)
    balanced zero k = omega (arith, ap (over_all (λ x. one_if (carries zero k x))) none, none_on_way (λ x. one_if (carries zero k x)) rs)
    balanced (suc n) k = omega (arith, ap (over_all (λ x. one_if (carries (suc n) k x))) none, none_on_way (λ x. one_if (carries (suc n) k x)) rs)

    copies : (a link : ℕ) → AllByRecursion (IsItemIn (record { world = w; events = []; sent = []; got = []; drops = [] })) (queue_at w.flights a link)
    copies a link =
        let P : Item → Type 0 = IsItemIn (record { world = w; events = []; sent = []; got = []; drops = [] }) in
        subst (λ (f : List (List (List Item))). AllByRecursion P (queue_at f a link)) (sym none) (none_queued P rs a link)

    total : 0 ≡ 0 + (0 + ids_in_flight w.flights)
    total = omega (arith, carried-all w.flights, ap (over_all carried) none, none_on_way carried rs)

pub run_starts : (d : DomainConf) → IsValid d → IsAccounted (first_run d)
unfolding first_run first_world
run_starts d valid = nothing_done (first_world d) d.routers refl refl

pub next_truth : (r : Run) (e : ℕ × Event) → IsTruthful r.world → EventFits (length r.world.domain.routers) e.1 → event_fault r.world e.1 ≡ None → IsTruthful (goes_on r e).world
unfolding goes_on
next_truth r e truth fits ok = let k = happens_true r.world e.1 truth fits ok in k.truth

pub next_allowed : (r : Run) (e : ℕ × Event) (es : List Event) → AreAllowed (happens r.world e.1).world es → AreAllowed (goes_on r e).world es
unfolding goes_on
next_allowed r e es allowed = allowed

runs_on : (r : Run) → IsTruthful r.world → IsAccounted r → (es : List (ℕ × Event)) → AreAllowed r.world (unlined es) → IsAccounted (fold goes_on r es)
runs_on r truth old [] allowed = old
runs_on r truth old (e ∷ es) allowed = runs_on (goes_on r e) (next_truth r e truth allowed.0 allowed.1) (run_goes_on r e truth allowed.0 allowed.1 old) es (next_allowed r e (unlined es) allowed.2)

pub run_accounted : (d : DomainConf) (es : List (ℕ × Event)) → IsValid d → AreAllowed (first_world d) (unlined es) → IsAccounted (run_of d es)
unfolding run_of first_run
run_accounted d es valid allowed = runs_on (first_run d) (first_true d valid) (run_starts d valid) es allowed
