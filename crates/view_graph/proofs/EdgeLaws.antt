-- Where a system stands among the claims, what a link adds to the metrics, and which edges count.
use mathlib.Core.Bool.{false≢true, true≢false}
use Rattle.std.proofs.Common.{◌≡◌, ℕ, zero, suc, ◌+◌, ◌<◌, ◌≤◌, ◌==◌, nat_lt, min, Bool, true, false, if◌then◌else◌, List, [], ◌∷◌, ◌++◌, length, get_or, set, drop, map, filter, Option, Some, None, is_some, slice_get, inl, inr, refl, sym, ap, subst, ◌∙◌, arith}
use Rattle.std.specs.declared.cmp.Ordering.{Ordering}
use Rattle.std.specs.declared.cmp.Ordering.TheVariants.{Less, Equal, Greater}
use Rattle.std.specs.Ordering.{is_eq, is_lt, is_gt, match_ordering}
use Rattle.std.specs.List.{AllByRecursion, insert, list_all}
use Rattle.std.proofs.lemmas.Bool.{cases_lt, eqb-true, eq-eqb, ltb-true, lt-ltb}
use Rattle.std.proofs.lemmas.List.{get_or-set_other, get_or_default, length-map}
use Rattle.std.proofs.lemmas.Option.{slice_get_within}
use Rattle.wire_base.specs.declared.addresses.SystemId.{SystemId}
use Rattle.wire_base.specs.declared.view.ViewEdge.{ViewEdge}
use Rattle.wire_base.specs.model.Control.{same_system, system_order}
use Rattle.wire_base.specs.model.View.{Claim, Link, least_of, metric_to, lists, edges_from}
use Rattle.view_graph.specs.Edges.{is_before, AreInOrder, AreWhole, place_in, stands_at, metrics_to, counted, edge_place, leads_at, put_edge, half_edges, half_edges_of, leads_to, whole_edges}
use Rattle.view_graph.proofs.GraphLaws.{and_both}
use Rattle.view_graph.proofs.SystemLaws.{tie_is_same, before_trans, above_trans, before_differs, above_differs, same_before}

-- ---- each element

pub all_read : (P : SystemId → Type 0) (cs : List Claim) (i : ℕ) (c : Claim) → AllByRecursion (λ d. P d.system) cs → i < length cs → c ≡ get_or cs i c → P c.system
all_read P [] i c h lt at = absurd (omega (arith, lt))
all_read P (d ∷ ds) zero c h lt at = subst (λ z. P z.system) (sym at) h.0
all_read P (d ∷ ds) (suc i) c h lt at = all_read P ds i c h.1 (omega (arith, lt)) at

-- ---- halving

-- where a system is above the one at a place, its own place is higher
pub above_place : (cs : List Claim) (i : ℕ) (c : Claim) (s : SystemId) → AreInOrder cs → i < length cs → c ≡ get_or cs i c → is_gt (system_order s c.system) ≡ true → i < place_in s cs
above_place [] i c s asc lt at gt = absurd (omega (arith, lt))
above_place (d ∷ ds) zero c s asc lt at gt = first (system_order s d.system) (subst (λ z. is_gt (system_order s z.system) ≡ true) at gt)
  where
    first : (o : Ordering) → is_gt o ≡ true → 0 < match_ordering o 0 0 (suc (place_in s ds))
    first Less h = absurd (false≢true h)
    first Equal h = absurd (false≢true h)
    first Greater h = omega arith
above_place (d ∷ ds) (suc i) c s asc lt at gt =
    later (system_order s d.system) (above_trans s c.system d.system gt (all_read (λ z. is_before d.system z ≡ true) ds i c asc.0 (omega (arith, lt)) at)) (above_place ds i c s asc.1 (omega (arith, lt)) at gt)
  where
    later : (o : Ordering) → is_gt o ≡ true → i < place_in s ds → suc i < match_ordering o 0 0 (suc (place_in s ds))
    later Less h k = absurd (false≢true h)
    later Equal h k = absurd (false≢true h)
    later Greater h k = omega (arith, k)

-- where it isn't, its own place is at most that one
pub not_above_place : (cs : List Claim) (i : ℕ) (c : Claim) (s : SystemId) → i < length cs → c ≡ get_or cs i c → is_gt (system_order s c.system) ≡ false → place_in s cs ≤ i
not_above_place [] i c s lt at gt = absurd (omega (arith, lt))
not_above_place (d ∷ ds) zero c s lt at gt = first (system_order s d.system) (subst (λ z. is_gt (system_order s z.system) ≡ false) at gt)
  where
    first : (o : Ordering) → is_gt o ≡ false → match_ordering o 0 0 (suc (place_in s ds)) ≤ 0
    first Less h = omega arith
    first Equal h = omega arith
    first Greater h = absurd (true≢false h)
not_above_place (d ∷ ds) (suc i) c s lt at gt = later (system_order s d.system) (not_above_place ds i c s (omega (arith, lt)) at gt)
  where
    later : (o : Ordering) → place_in s ds ≤ i → match_ordering o 0 0 (suc (place_in s ds)) ≤ suc i
    later Less k = omega arith
    later Equal k = omega arith
    later Greater k = omega (arith, k)

pub place_within : (s : SystemId) (cs : List Claim) → place_in s cs ≤ length cs
place_within s [] = omega arith
place_within s (d ∷ ds) = more (system_order s d.system) (place_within s ds)
  where
    more : (o : Ordering) → place_in s ds ≤ length ds → match_ordering o 0 0 (suc (place_in s ds)) ≤ suc (length ds)
    more Less k = omega arith
    more Equal k = omega arith
    more Greater k = omega (arith, k)

pub stands_read : (cs : List Claim) (i : ℕ) (c : Claim) (s : SystemId) → i < length cs → c ≡ get_or cs i c → stands_at cs i s ≡ same_system s c.system
stands_read [] i c s lt at = absurd (omega (arith, lt))
stands_read (d ∷ ds) zero c s lt at = ap (λ z. same_system s z.system) (sym at)
stands_read (d ∷ ds) (suc i) c s lt at = stands_read ds i c s (omega (arith, lt)) at

pub stands_past : (cs : List Claim) (i : ℕ) (s : SystemId) → length cs ≤ i → stands_at cs i s ≡ false
stands_past [] i s le = refl
stands_past (d ∷ ds) zero s le = absurd (omega (arith, le))
stands_past (d ∷ ds) (suc i) s le = stands_past ds i s (omega (arith, le))

pub stands_within : (cs : List Claim) (i : ℕ) (s : SystemId) → stands_at cs i s ≡ true → i < length cs
stands_within [] i s h = absurd (false≢true h)
stands_within (d ∷ ds) zero s h = omega arith
stands_within (d ∷ ds) (suc i) s h = omega (arith, stands_within ds i s h)

-- ---- a link more

-- a system below all of them is none of them
none_counted : (l : Link) (cs : List Claim) (ms : List (Option ℕ)) → length ms ≡ length cs → AllByRecursion (λ d. same_system l.neighbour d.system ≡ false) cs → counted l cs ms ≡ ms
none_counted l [] ms same none = refl
none_counted l (c ∷ cs) [] same none = refl
none_counted l (c ∷ cs) (m ∷ ms) same none = rw none.0 (ap (λ (xs : List (Option ℕ)). m ∷ xs) (none_counted l cs ms (omega (arith, same)) none.1))

pub below_all : (s : SystemId) (c : SystemId) (cs : List Claim) → is_before s c ≡ true → AllByRecursion (λ d. is_before c d.system ≡ true) cs → AllByRecursion (λ d. same_system s d.system ≡ false) cs
below_all s c [] h all = tt
below_all s c (d ∷ ds) h all = (before_differs s d.system (before_trans s c d.system h all.0), below_all s c ds h all.1)

pub same_all : (s : SystemId) (c : SystemId) (cs : List Claim) → same_system s c ≡ true → AllByRecursion (λ d. is_before c d.system ≡ true) cs → AllByRecursion (λ d. same_system s d.system ≡ false) cs
same_all s c [] h all = tt
same_all s c (d ∷ ds) h all = (before_differs s d.system (same_before s c d.system h all.0), same_all s c ds h all.1)

pub counted_not : (l : Link) (cs : List Claim) (ms : List (Option ℕ)) → AreInOrder cs → length ms ≡ length cs → stands_at cs (place_in l.neighbour cs) l.neighbour ≡ false → ms ≡ counted l cs ms
counted_not l [] ms asc same stands = refl
counted_not l (c ∷ cs) [] asc same stands = refl
counted_not l (c ∷ cs) (x ∷ xs) asc same stands = cases (λ k. counted_not l cs xs asc.1 (omega (arith, same)) k) (system_order l.neighbour c.system) refl stands
  where
    cases : (stands_at cs (place_in l.neighbour cs) l.neighbour ≡ false → xs ≡ counted l cs xs) → (o : Ordering) → system_order l.neighbour c.system ≡ o → stands_at (c ∷ cs) (match_ordering o 0 0 (suc (place_in l.neighbour cs))) l.neighbour ≡ false → x ∷ xs ≡ counted l (c ∷ cs) (x ∷ xs)
    cases again Less o k = rw k (ap (λ (ys : List (Option ℕ)). x ∷ ys) (sym (none_counted l cs xs (omega (arith, same)) (below_all l.neighbour c.system cs (ap is_lt o) asc.0))))
    cases again Equal o k = absurd (true≢false (sym (ap is_eq o) ∙ tie_is_same l.neighbour c.system ∙ k))
    cases again Greater o k = rw (above_differs l.neighbour c.system (ap is_gt o)) (ap (λ (ys : List (Option ℕ)). x ∷ ys) (again k))

-- one link more at the end of a list
pub metric_push : (links : List Link) (l : Link) (s : SystemId) → metric_to (links ++ l ∷ []) s ≡ (if same_system l.neighbour s then Some (least_of l.metric (metric_to links s)) else metric_to links s)
metric_push [] l s = refl
metric_push (x ∷ xs) l s = by (same_system x.neighbour s) refl (same_system l.neighbour s) refl (metric_to xs s) refl (metric_push xs l s)
  where
    by : (a : Bool) → same_system x.neighbour s ≡ a → (b : Bool) → same_system l.neighbour s ≡ b → (o : Option ℕ) → metric_to xs s ≡ o
        → metric_to (xs ++ l ∷ []) s ≡ (if same_system l.neighbour s then Some (least_of l.metric (metric_to xs s)) else metric_to xs s)
        → metric_to ((x ∷ xs) ++ l ∷ []) s ≡ (if same_system l.neighbour s then Some (least_of l.metric (metric_to (x ∷ xs) s)) else metric_to (x ∷ xs) s)
    by false a true b o e more = rw (more, a, b) refl
    by false a false b o e more = rw (more, a, b) refl
    by true a false b o e more = rw (more, a, b) refl
    by true a true b None e more = let m : min x.metric l.metric ≡ min l.metric x.metric = omega arith in rw (more, a, b, e) (ap (λ n. Some n) m)
    by true a true b (Some n) e more = let m : min x.metric (min l.metric n) ≡ min l.metric (min x.metric n) = omega arith in rw (more, a, b, e) (ap (λ k. Some k) m)

pub metrics_push : (links : List Link) (l : Link) (cs : List Claim) → counted l cs (metrics_to links cs) ≡ metrics_to (links ++ l ∷ []) cs
metrics_push links l [] = refl
metrics_push links l (c ∷ cs) = rw (metric_push links l c.system, metrics_push links l cs) refl

pub apart : (a b : ℕ) → (a ≡ b → ⊥) → (a == b) ≡ false
apart a b h = by (a == b) refl
  where
    by : (t : Bool) → (a == b) ≡ t → t ≡ false
    by false e = refl
    by true e = absurd (h (eqb-true a b e))

-- ---- an edge at its place

pub put_there : (es : List ViewEdge) (to m : ℕ) (e : ViewEdge) → leads_at to (drop (edge_place to es) es) ≡ true → e ≡ get_or es (edge_place to es) e → set es (edge_place to es) (record { to = to; metric = min m e.metric }) ≡ put_edge to m es
put_there [] to m e leads at = absurd (false≢true leads)
put_there (x ∷ xs) to m e leads at = by (nat_lt x.to to) refl leads at (λ l a. put_there xs to m e l a)
  where
    by : (b : Bool) → nat_lt x.to to ≡ b → leads_at to (drop (if b then suc (edge_place to xs) else 0) (x ∷ xs)) ≡ true → e ≡ get_or (x ∷ xs) (if b then suc (edge_place to xs) else 0) e
        → (leads_at to (drop (edge_place to xs) xs) ≡ true → e ≡ get_or xs (edge_place to xs) e → set xs (edge_place to xs) (record { to = to; metric = min m e.metric }) ≡ put_edge to m xs)
        → set (x ∷ xs) (edge_place to (x ∷ xs)) (record { to = to; metric = min m e.metric }) ≡ put_edge to m (x ∷ xs)
    by true f l a more = rw f (ap (λ (ys : List ViewEdge). x ∷ ys) (more l a))
    by false f l a more = rw (f, l, a) refl

pub put_new : (es : List ViewEdge) (to m : ℕ) → leads_at to (drop (edge_place to es) es) ≡ false → insert es (edge_place to es) (record { to = to; metric = m }) ≡ put_edge to m es
put_new [] to m leads = refl
put_new (x ∷ xs) to m leads = by (nat_lt x.to to) refl leads (λ l. put_new xs to m l)
  where
    by : (b : Bool) → nat_lt x.to to ≡ b → leads_at to (drop (if b then suc (edge_place to xs) else 0) (x ∷ xs)) ≡ false
        → (leads_at to (drop (edge_place to xs) xs) ≡ false → insert xs (edge_place to xs) (record { to = to; metric = m }) ≡ put_edge to m xs)
        → insert (x ∷ xs) (edge_place to (x ∷ xs)) (record { to = to; metric = m }) ≡ put_edge to m (x ∷ xs)
    by true f l more = rw f (ap (λ (ys : List ViewEdge). x ∷ ys) (more l))
    by false f l more = rw (f, l) refl

pub put_last : (es : List ViewEdge) (place to m : ℕ) → place ≡ edge_place to es → place ≡ length es → es ++ record { to = to; metric = m } ∷ [] ≡ put_edge to m es
put_last es place to m p l = by es (sym p ∙ l)
  where
    more : (x : ViewEdge) (xs : List ViewEdge) (b : Bool) → nat_lt x.to to ≡ b → (if b then suc (edge_place to xs) else 0) ≡ suc (length xs) → (edge_place to xs ≡ length xs → xs ++ record { to = to; metric = m } ∷ [] ≡ put_edge to m xs) → x ∷ xs ++ record { to = to; metric = m } ∷ [] ≡ put_edge to m (x ∷ xs)
    more x xs true f h again = rw f (ap (λ (ys : List ViewEdge). x ∷ ys) (again (omega (arith, h))))
    more x xs false f h again = absurd (omega (arith, h))

    by : (es : List ViewEdge) → edge_place to es ≡ length es → es ++ record { to = to; metric = m } ∷ [] ≡ put_edge to m es
    by [] e = refl
    by (x ∷ xs) e = more x xs (nat_lt x.to to) refl e (λ k. by xs k)

not_less : (a b : ℕ) → b ≤ a → nat_lt a b ≡ false
not_less a b h = by (nat_lt a b) refl
  where
    by : (t : Bool) → nat_lt a b ≡ t → t ≡ false
    by false e = refl
    by true e = let lt = ltb-true a b e in absurd (omega (arith, lt, h))

-- before all of them
put_first : (p q m : ℕ) (ms : List (Option ℕ)) → p < q → put_edge p m (half_edges q ms) ≡ record { to = p; metric = m } ∷ half_edges q ms
put_first p q m [] h = refl
put_first p q m (None ∷ ms) h = put_first p (q + 1) m ms (omega (arith, h))
put_first p q m (Some n ∷ ms) h = rw (not_less q p (omega (arith, h)), apart q p (λ e. omega (arith, h, e))) refl

half_put : (p : ℕ) (l : Link) (cs : List Claim) (ms : List (Option ℕ)) → AreInOrder cs → length ms ≡ length cs → stands_at cs (place_in l.neighbour cs) l.neighbour ≡ true → put_edge (p + place_in l.neighbour cs) l.metric (half_edges p ms) ≡ half_edges p (counted l cs ms)
half_put p l [] ms asc same stands = absurd (false≢true stands)
half_put p l (c ∷ cs) [] asc same stands = absurd (omega (arith, same))
half_put p l (c ∷ cs) (x ∷ xs) asc same stands = cases (λ k. half_put (p + 1) l cs xs asc.1 (omega (arith, same)) k) (system_order l.neighbour c.system) refl stands
  where
    here : (y : Option ℕ) → put_edge p l.metric (half_edges p (y ∷ xs)) ≡ record { to = p; metric = least_of l.metric y } ∷ half_edges (p + 1) xs
    here None = put_first p (p + 1) l.metric xs (omega arith)
    here (Some n) = rw (not_less p p (omega arith), eq-eqb p p refl) refl

    later : (y : Option ℕ) → put_edge ((p + 1) + place_in l.neighbour cs) l.metric (half_edges (p + 1) xs) ≡ half_edges (p + 1) (counted l cs xs) → put_edge (p + suc (place_in l.neighbour cs)) l.metric (half_edges p (y ∷ xs)) ≡ half_edges p (y ∷ counted l cs xs)
    later None more = let e : p + suc (place_in l.neighbour cs) ≡ (p + 1) + place_in l.neighbour cs = omega arith in ap (λ k. put_edge k l.metric (half_edges (p + 1) xs)) e ∙ more
    later (Some n) more =
        let e : p + suc (place_in l.neighbour cs) ≡ (p + 1) + place_in l.neighbour cs = omega arith in
        rw (lt-ltb p (p + suc (place_in l.neighbour cs)) (omega arith)) (ap (λ (es : List ViewEdge). record { to = p; metric = n } ∷ es) (ap (λ k. put_edge k l.metric (half_edges (p + 1) xs)) e ∙ more))

    cases : (stands_at cs (place_in l.neighbour cs) l.neighbour ≡ true → put_edge ((p + 1) + place_in l.neighbour cs) l.metric (half_edges (p + 1) xs) ≡ half_edges (p + 1) (counted l cs xs)) → (o : Ordering) → system_order l.neighbour c.system ≡ o
        → stands_at (c ∷ cs) (match_ordering o 0 0 (suc (place_in l.neighbour cs))) l.neighbour ≡ true → put_edge (p + match_ordering o 0 0 (suc (place_in l.neighbour cs))) l.metric (half_edges p (x ∷ xs)) ≡ half_edges p (counted l (c ∷ cs) (x ∷ xs))
    cases again Less o k = absurd (true≢false (sym k ∙ before_differs l.neighbour c.system (ap is_lt o)))
    cases again Equal o k =
        let e : p + 0 ≡ p = omega arith in
        ap (λ q. put_edge q l.metric (half_edges p (x ∷ xs))) e ∙ here x ∙ rw k (ap (λ (ys : List (Option ℕ)). record { to = p; metric = least_of l.metric x } ∷ half_edges (p + 1) ys) (sym (none_counted l cs xs (omega (arith, same)) (same_all l.neighbour c.system cs k asc.0))))
    cases again Greater o k = later x (again k) ∙ rw (above_differs l.neighbour c.system (ap is_gt o)) refl

pub count_put : (links : List Link) (l x : Link) (cs : List Claim) (place metric : ℕ) (old new : List ViewEdge) → l ≡ x → AreInOrder cs → place ≡ place_in l.neighbour cs → stands_at cs place l.neighbour ≡ true → metric ≡ l.metric → old ≡ half_edges 0 (metrics_to links cs) → new ≡ put_edge place metric old → new ≡ half_edges 0 (metrics_to (links ++ x ∷ []) cs)
count_put links l x cs place metric old new lx asc p stands m before step =
    let zero_in : place ≡ 0 + place_in l.neighbour cs = p ∙ omega arith in
    step ∙ ap (put_edge place metric) before ∙ ap (λ k. put_edge k metric (half_edges 0 (metrics_to links cs))) zero_in ∙ ap (λ k. put_edge (0 + place_in l.neighbour cs) k (half_edges 0 (metrics_to links cs))) m
    ∙ half_put 0 l cs (metrics_to links cs) asc (length-map cs (λ c. metric_to links c.system)) (ap (λ n. stands_at cs n l.neighbour) (sym p) ∙ stands)
    ∙ ap (half_edges 0) (metrics_push links l cs) ∙ ap (λ (y : Link). half_edges 0 (metrics_to (links ++ y ∷ []) cs)) lx

pub count_not : (links : List Link) (l x : Link) (cs : List Claim) (place : ℕ) (old : List ViewEdge) → l ≡ x → AreInOrder cs → place ≡ place_in l.neighbour cs → stands_at cs place l.neighbour ≡ false → old ≡ half_edges 0 (metrics_to links cs) → old ≡ half_edges 0 (metrics_to (links ++ x ∷ []) cs)
count_not links l x cs place old lx asc p stands before =
    before ∙ ap (half_edges 0) (counted_not l cs (metrics_to links cs) asc (length-map cs (λ c. metric_to links c.system)) (ap (λ n. stands_at cs n l.neighbour) (sym p) ∙ stands)) ∙ ap (half_edges 0) (metrics_push links l cs) ∙ ap (λ (y : Link). half_edges 0 (metrics_to (links ++ y ∷ []) cs)) lx

pub none_listed : (p : ℕ) (cs : List Claim) → [] ≡ half_edges p (metrics_to [] cs)
none_listed p [] = refl
none_listed p (c ∷ cs) = none_listed (p + 1) cs

-- ---- edges

-- no edge leads to a place before the first
half_none : (q p : ℕ) (ms : List (Option ℕ)) → q < p → leads_to q (half_edges p ms) ≡ false
half_none q p [] h = refl
half_none q p (None ∷ ms) h = half_none q (p + 1) ms (omega (arith, h))
half_none q p (Some n ∷ ms) h = rw (apart p q (λ e. omega (arith, h, e))) (half_none q (p + 1) ms (omega (arith, h)))

half_leads : (p i : ℕ) (ms : List (Option ℕ)) → leads_to (p + i) (half_edges p ms) ≡ is_some (get_or ms i None)
half_leads p i [] = refl
half_leads p zero (None ∷ ms) = half_none (p + zero) (p + 1) ms (omega arith)
half_leads p zero (Some n ∷ ms) = rw (eq-eqb p (p + zero) (omega arith)) refl
half_leads p (suc i) (None ∷ ms) = let e : p + suc i ≡ (p + 1) + i = omega arith in ap (λ q. leads_to q (half_edges (p + 1) ms)) e ∙ half_leads (p + 1) i ms
half_leads p (suc i) (Some n ∷ ms) =
    let e : p + suc i ≡ (p + 1) + i = omega arith in
    rw (apart p (p + suc i) (λ e. omega (arith, e))) (ap (λ q. leads_to q (half_edges (p + 1) ms)) e ∙ half_leads (p + 1) i ms)

pub from_start : (i : ℕ) (ms : List (Option ℕ)) → leads_to i (half_edges 0 ms) ≡ is_some (get_or ms i None)
from_start i ms = let e : i ≡ 0 + i = omega arith in ap (λ q. leads_to q (half_edges 0 ms)) e ∙ half_leads 0 i ms

-- the edges are those of one end that pass where the system at the other end lists this one
pub edges_whole : (g : ℕ → Bool) (c : Claim) (ds : List Claim) (p : ℕ) → ((k : ℕ) (d : Claim) → slice_get ds k ≡ Some d → g (p + k) ≡ lists d c.system) → edges_from c p ds ≡ filter (λ e. g e.to) (half_edges p (metrics_to c.links ds))
edges_whole g c [] p all = refl
edges_whole g c (d ∷ ds) p all =
    let p0 : p ≡ p + 0 = omega arith in
    by (metric_to c.links d.system) refl (lists d c.system) refl (ap g p0 ∙ all 0 d refl)
    (edges_whole g c ds (p + 1) (λ k x at. let e : (p + 1) + k ≡ p + suc k = omega arith in ap g e ∙ all (suc k) x at))
  where
    by : (o : Option ℕ) → metric_to c.links d.system ≡ o → (b : Bool) → lists d c.system ≡ b → g p ≡ lists d c.system
        → edges_from c (p + 1) ds ≡ filter (λ e. g e.to) (half_edges (p + 1) (metrics_to c.links ds))
        → edges_from c p (d ∷ ds) ≡ filter (λ e. g e.to) (half_edges p (metrics_to c.links (d ∷ ds)))
    by None e true f here more = rw (e, f) more
    by None e false f here more = rw (e, f) more
    by (Some m) e true f here more = rw (e, here, f) (ap (λ (es : List ViewEdge). record { to = p; metric = m } ∷ es) more)
    by (Some m) e false f here more = rw (e, here, f) more

pub get_map : {X Y : Type 0} (f : X → Y) (xs : List X) (i : ℕ) (x : X) (d : Y) → slice_get xs i ≡ Some x → get_or (map f xs) i d ≡ f x
get_map f [] i x d at = absurd cc
get_map {X} {Y} f (y ∷ ys) zero x d at = ap (λ (o : Option X). on o) at
  where
    on : Option X → Y
    on None = d
    on (Some z) = f z
get_map f (y ∷ ys) (suc i) x d at = get_map f ys i x d at

pub edges_are : (claims : List Claim) (i : ℕ) (c : Claim) → slice_get claims i ≡ Some c → whole_edges (map (half_edges_of claims) claims) i ≡ edges_from c 0 claims
edges_are claims i c at =
    let halves : List (List ViewEdge) = map (half_edges_of claims) claims in
    let own : get_or halves i [] ≡ half_edges_of claims c = get_map (half_edges_of claims) claims i c [] at in
    ap (λ es. filter (λ e. leads_to i (get_or halves e.to [])) es) own
    ∙ sym (edges_whole (λ k. leads_to i (get_or halves k [])) c claims 0 (λ k d there. let e : 0 + k ≡ k = omega arith in ap (λ q. leads_to i (get_or halves q [])) e ∙ ap (λ es. leads_to i es) (get_map (half_edges_of claims) claims k d [] there) ∙ from_start i (metrics_to d.links claims) ∙ ap is_some (get_map (λ (x : Claim). metric_to d.links x.system) claims i c None at)))

-- ---- where all of them count

all_pass : {X : Type 0} (p : X → Bool) (xs : List X) → list_all p xs ≡ true → xs ≡ filter p xs
all_pass p [] h = refl
all_pass {X} p (x ∷ xs) h =
    let both = and_both (p x) (list_all p xs) h in
    ap (λ (ys : List X). x ∷ ys) (all_pass p xs both.1) ∙ sym (ap (λ b. if b then x ∷ filter p xs else filter p xs) both.0)

pub back_step : (halves : List (List ViewEdge)) (place : ℕ) → ((i : ℕ) → i < place → get_or halves i [] ≡ whole_edges halves i) → list_all (λ e. leads_to place (get_or halves e.to [])) (get_or halves place []) ≡ true → (i : ℕ) → i < place + 1 → get_or halves i [] ≡ whole_edges halves i
back_step halves place before back i lt = elim (cases_lt i place) [
  | inl less ↦ before i less
  | inr more ↦
      let same : place ≡ i = omega (arith, lt, more) in
      subst (λ k. get_or halves k [] ≡ whole_edges halves k) same (all_pass (λ (e : ViewEdge). leads_to place (get_or halves e.to [])) (get_or halves place []) back)
]

-- the edges of the first claim that is left, where those of the claims before it are taken
pub taken_own : (claims : List Claim) (edges left : List (List ViewEdge)) (place k : ℕ) (c : Claim) (own : List ViewEdge)
    → slice_get claims place ≡ Some c → AreWhole (map (half_edges_of claims) claims) edges → length left ≡ length claims → ((i : ℕ) → place ≤ i → get_or left i [] ≡ get_or edges i []) → k ≡ place → own ≡ get_or left k own → own ≡ edges_from c 0 claims
taken_own claims edges left place k c own at whole long stay same is =
    let within : k < length left = omega (arith, long, same, slice_get_within claims place c at) in
    is ∙ get_or_default left k own [] within ∙ ap (λ n. get_or left n []) same ∙ stay place (omega arith) ∙ whole.each place ∙ edges_are claims place c at

pub taken_rest : (edges left : List (List ViewEdge)) (place next k : ℕ) (own : List ViewEdge) → ((i : ℕ) → place ≤ i → get_or left i [] ≡ get_or edges i []) → k ≡ place → next ≡ place + 1 → (i : ℕ) → next ≤ i → get_or (set left k own) i [] ≡ get_or edges i []
taken_rest edges left place next k own stay same one i h = get_or-set_other left k i own [] (λ e. omega (arith, h, one, same, e)) ∙ stay i (omega (arith, h, one))

pub put_at : (es : List ViewEdge) (place to m : ℕ) (e : ViewEdge) → place ≡ edge_place to es → leads_at to (drop place es) ≡ true → e ≡ get_or es place e → set es place (record { to = to; metric = min m e.metric }) ≡ put_edge to m es
put_at es place to m e p leads at =
    ap (λ k. set es k (record { to = to; metric = min m e.metric })) p ∙ put_there es to m e (ap (λ k. leads_at to (drop k es)) (sym p) ∙ leads) (at ∙ ap (λ k. get_or es k e) p)

-- what is read where there is nothing is read there again
pub read_again : (es : List ViewEdge) (i : ℕ) (d : ViewEdge) → get_or es i d ≡ get_or es i (get_or es i d)
read_again [] i d = refl
read_again (x ∷ xs) zero d = refl
read_again (x ∷ xs) (suc i) d = read_again xs i d

pub put_new_at : (es : List ViewEdge) (place to m : ℕ) → place ≡ edge_place to es → leads_at to (drop place es) ≡ false → insert es place (record { to = to; metric = m }) ≡ put_edge to m es
put_new_at es place to m p leads = ap (λ k. insert es k (record { to = to; metric = m })) p ∙ put_new es to m (ap (λ k. leads_at to (drop k es)) (sym p) ∙ leads)
