-- A view is a graph: its nodes stand in the order of their systems, its edges name nodes, and so on.
use mathlib.Core.Bool.{false≢true, true≢false}
use Rattle.std.proofs.Common.{◌≡◌, ℕ, suc, ◌+◌, ◌<◌, ◌≤◌, ◌^◌, ◌==◌, ◌&&◌, ◌||◌, nat_lt, not, min, Bool, true, false, List, [], ◌∷◌, length, get_or, map, filter, Option, Some, None, is_some, All, AllPairs, refl, sym, ap, subst, ◌∙◌, arith}
use Rattle.std.specs.declared.cmp.Ordering.{Ordering}
use Rattle.std.specs.declared.cmp.Ordering.TheVariants.{Less, Equal, Greater}
use Rattle.std.specs.Ordering.{nat_cmp, ordering_then, is_eq, is_lt, is_gt}
use Rattle.std.specs.Cmp.Lexicographic.{slice_cmp}
use Rattle.std.specs.List.{AllByRecursion, list_any}
use Rattle.std.specs.Str.{bytes_eq}
use Rattle.std.proofs.lemmas.Bool.{eqb-true, eq-eqb}
use Rattle.std.proofs.lemmas.List.{length-map}
use Rattle.std.proofs.lemmas.List.Kept.{AllPairs-filter, AllPairs-cons}
use Rattle.std.proofs.lemmas.List.Elements.{All-cons, All-filter, filter_passes}
use Rattle.wire_base.specs.declared.addresses.SystemId.{SystemId}
use Rattle.wire_base.specs.declared.addresses.LspId.{LspId}
use Rattle.wire_base.specs.declared.conf.RouterConf.{RouterConf}
use Rattle.wire_base.specs.declared.conf.SubKind.{SubKind}
use Rattle.wire_base.specs.declared.entry.Entry.{Entry}
use Rattle.wire_base.specs.declared.limits.TheConstants.{MOST_ENTRIES}
use Rattle.wire_base.specs.declared.addresses.Ipv4.{Ipv4}
use Rattle.wire_base.specs.declared.conf.LabelRange.{LabelRange}
use Rattle.wire_base.specs.declared.view.ViewEdge.{ViewEdge}
use Rattle.wire_base.specs.declared.view.ViewNode.{ViewNode}
use Rattle.wire_base.specs.declared.view.ViewSub.{ViewSub}
use Rattle.wire_base.specs.model.Control.{same_system, system_order, is_below, AreAscending, ids_of}
use Rattle.wire_base.specs.model.BierInfo.{any_overlap}
use Rattle.wire_base.specs.model.Place.{kind_of}
use Rattle.laws_format.proofs.TlvLaws.{some_is}
use Rattle.wire_base.specs.model.Graph.{octets_before, IsBefore, IsEdge, IsNode, ShareNoPrefix}
use Rattle.wire_base.specs.model.View.{Claim, Link, metric_to, lists, edges_from, first_each, all_ranges, unless_overlap, with_known, put_claim, claim_of, is_other, own_claim, claims_of, is_shared, has_prefix, node_of}
use Rattle.wire_base.proofs.ClaimLaws.{all_put}
use Rattle.view_graph.specs.Edges.{is_before, AreInOrder}
use Rattle.view_graph.proofs.SystemLaws.{tie_is_same, before_from_above, before_trans, before_differs, same_turned}
use Rattle.laws_format.proofs.InfoLaws.{all_weaker}

-- ---- words on lists

pub all_from : {X : Type 0} (P : X → Type 0) (xs : List X) → AllByRecursion P xs → All P xs
all_from P [] all = λ i d lt. absurd (omega (arith, lt))
all_from P (x ∷ xs) all = All-cons P x xs all.0 (all_from P xs all.1)

pub and_both : (a b : Bool) → (a && b) ≡ true → (a ≡ true) × (b ≡ true)
and_both true b h = (refl, h)
and_both false b h = absurd (false≢true h)

-- ---- the order of systems

octets_is : (xs ys : List ℕ) → octets_before xs ys ≡ is_lt (slice_cmp nat_cmp xs ys)
octets_is [] [] = refl
octets_is (x ∷ xs) [] = refl
octets_is [] (y ∷ ys) = refl
octets_is (x ∷ xs) (y ∷ ys) = by (nat_lt x y) refl (x == y) refl (octets_is xs ys)
  where
    by : (a : Bool) → nat_lt x y ≡ a → (b : Bool) → (x == y) ≡ b → octets_before xs ys ≡ is_lt (slice_cmp nat_cmp xs ys) → octets_before (x ∷ xs) (y ∷ ys) ≡ is_lt (slice_cmp nat_cmp (x ∷ xs) (y ∷ ys))
    by true a b e more = rw a refl
    by false a true e more = rw (a, e) more
    by false a false e more = rw (a, e) refl

-- of two fragments 0 the lower is of the lower system
pub fragments_below : (a b : LspId) → a.pseudonode ≡ 0 → b.pseudonode ≡ 0 → a.fragment ≡ 0 → b.fragment ≡ 0 → is_below a b ≡ true → is_before a.system b.system ≡ true
fragments_below a b pa pb fa fb h = by (system_order a.system b.system) refl (rw (pa, pb, fa, fb) at h)
  where
    by : (o : Ordering) → system_order a.system b.system ≡ o → is_lt (ordering_then (system_order a.system b.system) Equal) ≡ true → is_before a.system b.system ≡ true
    by Less e k = ap is_lt e
    by Equal e k = absurd (false≢true (sym (ap (λ o. is_lt (ordering_then o Equal)) e) ∙ k))
    by Greater e k = absurd (false≢true (sym (ap (λ o. is_lt (ordering_then o Equal)) e) ∙ k))

record IsFirst (own : SystemId) (e : Entry) : Type 0 where
  pub other : same_system e.id.system own ≡ false
  pub pseudonode : e.id.pseudonode ≡ 0
  pub fragment : e.id.fragment ≡ 0

pub not_true : (b : Bool) → not b ≡ true → b ≡ false
not_true true h = absurd (false≢true h)
not_true false h = refl

first_of : (own : SystemId) (e : Entry) → is_other own e ≡ true → IsFirst own e
first_of own e h =
    let a = and_both _ _ h in
    let b = and_both _ _ a.1 in
    let c = and_both _ _ b.1 in
    record { other = not_true _ a.0; pseudonode = eqb-true _ 0 b.0; fragment = eqb-true _ 0 c.0 }

unfoldable pub others : List Entry → SystemId → List Entry → List Claim
others all own es = map (claim_of all) (filter (is_other own) es)

others_above : (all : List Entry) (own : SystemId) (e : Entry) → IsFirst own e → (es : List Entry) → AllByRecursion (λ y. is_below e.id y ≡ true) (ids_of es) → AllByRecursion (λ d. is_before e.id.system d.system ≡ true) (others all own es)
unfolding others
others_above all own e first [] above = tt
others_above all own e first (x ∷ xs) above = by (is_other own x) refl (others_above all own e first xs above.1)
  where
    by : (b : Bool) → is_other own x ≡ b → AllByRecursion (λ d. is_before e.id.system d.system ≡ true) (others all own xs) → AllByRecursion (λ d. is_before e.id.system d.system ≡ true) (others all own (x ∷ xs))
    by true h more = rw h (let f = first_of own x h in (fragments_below e.id x.id first.pseudonode f.pseudonode first.fragment f.fragment above.0, more))
    by false h more = rw h more

others_in_order : (all : List Entry) (own : SystemId) (es : List Entry) → AreAscending (ids_of es) → AreInOrder (others all own es)
unfolding others
others_in_order all own [] asc = tt
others_in_order all own (x ∷ xs) asc = by (is_other own x) refl (others_in_order all own xs asc.1)
  where
    by : (b : Bool) → is_other own x ≡ b → AreInOrder (others all own xs) → AreInOrder (others all own (x ∷ xs))
    by true h more = rw h (others_above all own x (first_of own x h) xs asc.0, more)
    by false h more = rw h more

pub others_apart : (all : List Entry) (own : SystemId) (es : List Entry) → AllByRecursion (λ d. same_system d.system own ≡ false) (others all own es)
unfolding others
others_apart all own [] = tt
others_apart all own (x ∷ xs) = by (is_other own x) refl (others_apart all own xs)
  where
    by : (b : Bool) → is_other own x ≡ b → AllByRecursion (λ d. same_system d.system own ≡ false) (others all own xs) → AllByRecursion (λ d. same_system d.system own ≡ false) (others all own (x ∷ xs))
    by true h more = rw h ((first_of own x h).other, more)
    by false h more = rw h more

below_all : (a b : SystemId) (cs : List Claim) → is_before a b ≡ true → AllByRecursion (λ d. is_before b d.system ≡ true) cs → AllByRecursion (λ d. is_before a d.system ≡ true) cs
below_all a b cs h all = all_weaker _ _ (λ (d : Claim) k. before_trans a b d.system h k) cs all

put_in_order : (c : Claim) (cs : List Claim) → AreInOrder cs → AllByRecursion (λ d. same_system d.system c.system ≡ false) cs → AreInOrder (put_claim c cs)
put_in_order c [] asc apart = (tt, tt)
put_in_order c (x ∷ xs) asc apart = by (system_order c.system x.system) refl (put_in_order c xs asc.1 apart.1)
  where
    by : (o : Ordering) → system_order c.system x.system ≡ o → AreInOrder (put_claim c xs) → AreInOrder (put_claim c (x ∷ xs))
    by Less e more = rw e ((ap is_lt e, below_all c.system x.system xs (ap is_lt e) asc.0), asc)
    by Equal e more = absurd (true≢false (sym (ap is_eq e) ∙ tie_is_same c.system x.system ∙ same_turned c.system x.system ∙ apart.0))
    by Greater e more = rw e (all_put (λ d. is_before x.system d.system ≡ true) c xs (before_from_above c.system x.system (ap is_gt e)) asc.0, more)

known_in_order : (kinds : List SubKind) (cs : List Claim) → AreInOrder cs → AreInOrder (map (with_known kinds) cs)
known_in_order kinds [] asc = tt
known_in_order kinds (c ∷ cs) asc = (all_known cs asc.0, known_in_order kinds cs asc.1)
  where
    all_known : (ds : List Claim) → AllByRecursion (λ d. is_before c.system d.system ≡ true) ds → AllByRecursion (λ d. is_before c.system d.system ≡ true) (map (with_known kinds) ds)
    all_known [] all = tt
    all_known (d ∷ ds) all = (all.0, all_known ds all.1)

pub claims_in_order : (r : RouterConf) (up : List Bool) (entries : List Entry) → AreAscending (ids_of entries) → AreInOrder (map (with_known r.kinds) (claims_of r up entries))
unfolding claims_of others
claims_in_order r up entries asc =
    known_in_order r.kinds _ (put_in_order (own_claim r up) (others entries r.system entries) (others_in_order entries r.system entries asc) (others_apart entries r.system entries))

-- ---- how many

length_put : (c : Claim) (cs : List Claim) → length (put_claim c cs) ≡ suc (length cs)
length_put c [] = refl
length_put c (x ∷ xs) = by (is_lt (system_order c.system x.system)) refl (length_put c xs)
  where
    by : (b : Bool) → is_lt (system_order c.system x.system) ≡ b → length (put_claim c xs) ≡ suc (length xs) → length (put_claim c (x ∷ xs)) ≡ suc (length (x ∷ xs))
    by true e more = rw e refl
    by false e more = rw e (ap suc more)

fewer : {X : Type 0} (p : X → Bool) (xs : List X) → length (filter p xs) ≤ length xs
fewer p [] = omega arith
fewer p (x ∷ xs) = by (p x) refl (fewer p xs)
  where
    by : (b : Bool) → p x ≡ b → length (filter p xs) ≤ length xs → length (filter p (x ∷ xs)) ≤ length (x ∷ xs)
    by true e more = rw e (omega (arith, more))
    by false e more = rw e (omega (arith, more))

pub few_claims : (r : RouterConf) (up : List Bool) (entries : List Entry) → length entries ≤ MOST_ENTRIES → length (map (with_known r.kinds) (claims_of r up entries)) ≤ 65536
unfolding claims_of
few_claims r up entries few =
    let a = length-map (claims_of r up entries) (with_known r.kinds) in
    let b = length_put (own_claim r up) (map (claim_of entries) (filter (is_other r.system) entries)) in
    let c = length-map (filter (is_other r.system) entries) (claim_of entries) in
    let d = fewer (is_other r.system) entries in
    omega (arith, a, b, c, d, few)

-- ---- edges

pub record IsLink (l : Link) : Type 0 where
  pub positive : 0 < l.metric
  pub small : l.metric < 2 ^ 32

metric_good : (links : List Link) → AllByRecursion IsLink links → (s : SystemId) (m : ℕ) → metric_to links s ≡ Some m → (0 < m) × (m < 2 ^ 32)
metric_good [] all s m e = absurd cc
metric_good (l ∷ ls) all s m e = by (same_system l.neighbour s) refl (metric_to ls s) refl (metric_good ls all.1 s) e
  where
    by : (b : Bool) → same_system l.neighbour s ≡ b → (o : Option ℕ) → metric_to ls s ≡ o → ((k : ℕ) → metric_to ls s ≡ Some k → (0 < k) × (k < 2 ^ 32)) → metric_to (l ∷ ls) s ≡ Some m → (0 < m) × (m < 2 ^ 32)
    by true b None f more e =
        let first : metric_to (l ∷ ls) s ≡ Some l.metric = rw (b, f) refl in
        subst (λ z. (0 < z) × (z < 2 ^ 32)) (some_is l.metric m (sym first ∙ e)) (all.0.positive, all.0.small)
    by true b (Some n) f more e =
        let first : metric_to (l ∷ ls) s ≡ Some (min l.metric n) = rw (b, f) refl in
        let p = more n f in
        subst (λ z. (0 < z) × (z < 2 ^ 32)) (some_is (min l.metric n) m (sym first ∙ e)) (omega (arith, all.0.positive, p.0), omega (arith, all.0.small, p.1))
    by false b o f more e =
        let first : metric_to (l ∷ ls) s ≡ metric_to ls s = rw b refl in
        more m (sym first ∙ e)

edges_good : (c : Claim) → AllByRecursion IsLink c.links → (n p : ℕ) (ds : List Claim) → p + length ds ≤ n → AllByRecursion (λ e. IsEdge n e) (edges_from c p ds)
edges_good c ok n p [] h = tt
edges_good c ok n p (d ∷ ds) h = by (lists d c.system) refl (metric_to c.links d.system) refl (edges_good c ok n (p + 1) ds (omega (arith, h)))
  where
    by : (b : Bool) → lists d c.system ≡ b → (o : Option ℕ) → metric_to c.links d.system ≡ o → AllByRecursion (λ e. IsEdge n e) (edges_from c (p + 1) ds) → AllByRecursion (λ e. IsEdge n e) (edges_from c p (d ∷ ds))
    by false b o f more = rw b more
    by true b None f more = rw (b, f) more
    by true b (Some m) f more =
        let g = metric_good c.links ok d.system m f in
        rw (b, f) (record { names = omega (arith, h); positive = g.0; small = g.1 }, more)

edges_above : (c : Claim) (p : ℕ) (ds : List Claim) → AllByRecursion (λ e. p ≤ e.to) (edges_from c p ds)
edges_above c p [] = tt
edges_above c p (d ∷ ds) = by (lists d c.system) refl (metric_to c.links d.system) refl (all_weaker _ _ (λ (e : ViewEdge) q. omega (arith, q)) (edges_from c (p + 1) ds) (edges_above c (p + 1) ds))
  where
    by : (b : Bool) → lists d c.system ≡ b → (o : Option ℕ) → metric_to c.links d.system ≡ o → AllByRecursion (λ e. p ≤ e.to) (edges_from c (p + 1) ds) → AllByRecursion (λ e. p ≤ e.to) (edges_from c p (d ∷ ds))
    by false b o f more = rw b more
    by true b None f more = rw (b, f) more
    by true b (Some m) f more = rw (b, f) (omega arith, more)

pub no_pairs : {X : Type 0} (R : X → X → Type 0) → AllPairs R []
no_pairs R = λ i j d lt within. absurd (omega (arith, within))

edges_rise : (c : Claim) (p : ℕ) (ds : List Claim) → AllPairs (λ (a b : ViewEdge). a.to < b.to) (edges_from c p ds)
edges_rise c p [] = no_pairs (λ (a b : ViewEdge). a.to < b.to)
edges_rise c p (d ∷ ds) = by (lists d c.system) refl (metric_to c.links d.system) refl (edges_rise c (p + 1) ds)
  where
    by : (b : Bool) → lists d c.system ≡ b → (o : Option ℕ) → metric_to c.links d.system ≡ o → AllPairs (λ (a b : ViewEdge). a.to < b.to) (edges_from c (p + 1) ds) → AllPairs (λ (a b : ViewEdge). a.to < b.to) (edges_from c p (d ∷ ds))
    by false b o f more = rw b more
    by true b None f more = rw (b, f) more
    by true b (Some m) f more =
        let above : AllByRecursion (λ (e : ViewEdge). p < e.to) (edges_from c (p + 1) ds) = all_weaker _ _ (λ (e : ViewEdge) q. omega (arith, q)) (edges_from c (p + 1) ds) (edges_above c (p + 1) ds) in
        rw (b, f) (AllPairs-cons (λ (a b : ViewEdge). a.to < b.to) (record { to = p; metric = m }) (edges_from c (p + 1) ds) (all_from (λ (e : ViewEdge). p < e.to) (edges_from c (p + 1) ds) above) more)

-- ---- places in sub-domains

first_apart : (xs : List ViewSub) → AllPairs (λ (a b : ViewSub). a.sd ≡ b.sd → ⊥) (first_each xs)
first_apart [] = no_pairs (λ (a b : ViewSub). a.sd ≡ b.sd → ⊥)
first_apart (x ∷ xs) =
    let p : ViewSub → Bool = λ y. not (y.sd == x.sd) in
    let pass = filter_passes p (first_each xs) in
    AllPairs-cons (λ (a b : ViewSub). a.sd ≡ b.sd → ⊥) x (filter p (first_each xs))
    (λ i d lt e. true≢false (sym (eq-eqb _ x.sd (sym e)) ∙ not_true _ (pass i d lt)))
    (AllPairs-filter (λ (a b : ViewSub). a.sd ≡ b.sd → ⊥) p (first_each xs) (first_apart xs))

all_kept : {X : Type 0} (P : X → Type 0) (p : X → Bool) (xs : List X) → AllByRecursion P xs → AllByRecursion P (filter p xs)
all_kept P p [] all = tt
all_kept P p (x ∷ xs) all = by (p x) refl (all_kept P p xs all.1)
  where
    by : (b : Bool) → p x ≡ b → AllByRecursion P (filter p xs) → AllByRecursion P (filter p (x ∷ xs))
    by true e more = rw e (all.0, more)
    by false e more = rw e more

all_first : (P : ViewSub → Type 0) (xs : List ViewSub) → AllByRecursion P xs → AllByRecursion P (first_each xs)
all_first P [] all = tt
all_first P (x ∷ xs) all = (all.0, all_kept P _ (first_each xs) (all_first P xs all.1))

all_unless : (P : ViewSub → Type 0) (xs : List ViewSub) → AllByRecursion P xs → AllByRecursion P (unless_overlap xs)
all_unless P xs all = by (any_overlap (all_ranges xs)) refl
  where
    by : (b : Bool) → any_overlap (all_ranges xs) ≡ b → AllByRecursion P (unless_overlap xs)
    by true e = rw e tt
    by false e = rw e all

abbrev pub HasApart : ViewSub → Type 0
HasApart s = AllPairs (λ (a b : LabelRange). a.bsl ≡ b.bsl → ⊥) s.ranges

-- what a system claims
pub record IsClaim (c : Claim) : Type 0 where
  pub links : AllByRecursion IsLink c.links
  pub ranges : AllByRecursion HasApart c.subs

-- what of it counts
pub record IsKnown (c : Claim) : Type 0 where
  pub links : AllByRecursion IsLink c.links
  pub subs : AllPairs (λ (a b : ViewSub). a.sd ≡ b.sd → ⊥) c.subs
  pub ranges : AllByRecursion HasApart c.subs

pub known_good : (kinds : List SubKind) (cs : List Claim) → AllByRecursion IsClaim cs → AllByRecursion IsKnown (map (with_known kinds) cs)
known_good kinds [] all = tt
known_good kinds (c ∷ cs) all =
    (record { links = all.0.links; subs = first_apart (filter (λ s. is_some (kind_of kinds s.sd)) (unless_overlap c.subs)); ranges = all_first HasApart _ (all_kept HasApart _ _ (all_unless HasApart c.subs all.0.ranges)) }, known_good kinds cs all.1)

pub nodes_good : (k cs : List Claim) → AllByRecursion IsKnown cs → AllByRecursion (λ n. IsNode (length k) n) (map (node_of k) cs)
nodes_good k [] all = tt
nodes_good k (c ∷ cs) all = (
  record {
    edges = all_from (λ (e : ViewEdge). IsEdge (length k) e) (edges_from c 0 k) (edges_good c all.0.links (length k) 0 k (omega arith));
    edges_in_order = edges_rise c 0 k;
    subs_differ = AllPairs-filter (λ (a b : ViewSub). a.sd ≡ b.sd → ⊥) (λ s. not (is_shared k c.system s.prefix)) c.subs all.0.subs;
    ranges_differ = All-filter (λ s. not (is_shared k c.system s.prefix)) HasApart c.subs (all_from HasApart c.subs all.0.ranges);
  },
  nodes_good k cs all.1,
)

-- ---- systems in order, and prefixes that no two share

pub order_pairs : (k cs : List Claim) → AreInOrder cs → AllPairs (λ (a b : ViewNode). IsBefore a.system b.system) (map (node_of k) cs)
order_pairs k [] asc = no_pairs (λ (a b : ViewNode). IsBefore a.system b.system)
order_pairs k (c ∷ cs) asc = AllPairs-cons (λ (a b : ViewNode). IsBefore a.system b.system) (node_of k c) (map (node_of k) cs) (all_from _ _ (above cs asc.0)) (order_pairs k cs asc.1)
  where
    above : (ds : List Claim) → AllByRecursion (λ d. is_before c.system d.system ≡ true) ds → AllByRecursion (λ (n : ViewNode). IsBefore c.system n.system) (map (node_of k) ds)
    above [] all = tt
    above (d ∷ ds) all = (octets_is c.system.0 d.system.0 ∙ all.0, above ds all.1)

bytes_same : (xs : List ℕ) → bytes_eq xs xs ≡ true
bytes_same [] = refl
bytes_same (x ∷ xs) = rw (eq-eqb x x refl) (bytes_same xs)

pub none_passes : {X : Type 0} (q : X → Bool) (xs : List X) → list_any q xs ≡ false → AllByRecursion (λ x. q x ≡ false) xs
none_passes q [] h = tt
none_passes {X} q (x ∷ xs) h = by (λ k. none_passes q xs k) (q x) refl h
  where
    by : (list_any q xs ≡ false → AllByRecursion (λ x. q x ≡ false) xs) → (b : Bool) → q x ≡ b → (q x || list_any q xs) ≡ false → AllByRecursion (λ x. q x ≡ false) (x ∷ xs)
    by more true e h = absurd (true≢false (sym (ap (λ b. b || list_any q xs) e) ∙ h))
    by more false e h = (e, more (sym (ap (λ b. b || list_any q xs) e) ∙ h))

-- each of them is in the list
abbrev pub AreIn : List Claim → List Claim → Type 0
AreIn k cs = (p : Claim → Bool) → list_any p k ≡ false → AllByRecursion (λ d. p d ≡ false) cs

no_share : (k : List Claim) (c d : Claim) → is_before c.system d.system ≡ true → ((p : Claim → Bool) → list_any p k ≡ false → p d ≡ false) → ShareNoPrefix (node_of k c) (node_of k d)
no_share k c d before there i z lt =
    let q : ViewSub → Bool = λ s. not (is_shared k c.system s.prefix) in
    let s = get_or (filter q c.subs) i z in
    let alone : is_shared k c.system s.prefix ≡ false = not_true _ (filter_passes q c.subs i z lt) in
    let apart : same_system d.system c.system ≡ false = same_turned d.system c.system ∙ before_differs c.system d.system before in
    let here : (not (same_system d.system c.system) && has_prefix s.prefix d.subs) ≡ false = there (λ x. not (same_system x.system c.system) && has_prefix s.prefix x.subs) alone in
    let none : has_prefix s.prefix d.subs ≡ false = rw apart at here in
    All-filter (λ r. not (is_shared k d.system r.prefix)) (λ (r : ViewSub). s.prefix ≡ r.prefix → ⊥) d.subs
    (all_from _ d.subs (all_weaker (λ (r : ViewSub). bytes_eq r.prefix.0 s.prefix.0 ≡ false) (λ (r : ViewSub). s.prefix ≡ r.prefix → ⊥) (λ r h e. true≢false (sym (bytes_same s.prefix.0) ∙ ap (λ (p : Ipv4). bytes_eq p.0 s.prefix.0) e ∙ h)) d.subs (none_passes _ d.subs none)))

pub share_pairs : (k cs : List Claim) → AreInOrder cs → AreIn k cs → AllPairs ShareNoPrefix (map (node_of k) cs)
share_pairs k [] asc there = no_pairs ShareNoPrefix
share_pairs k (c ∷ cs) asc there = AllPairs-cons ShareNoPrefix (node_of k c) (map (node_of k) cs) (all_from _ _ (later cs asc.0 (λ p h. (there p h).1))) (share_pairs k cs asc.1 (λ p h. (there p h).1))
  where
    later : (ds : List Claim) → AllByRecursion (λ d. is_before c.system d.system ≡ true) ds → AreIn k ds → AllByRecursion (λ (n : ViewNode). ShareNoPrefix (node_of k c) n) (map (node_of k) ds)
    later [] all there = tt
    later (d ∷ ds) all there = (no_share k c d all.0 (λ p h. (there p h).0), later ds all.1 (λ p h. (there p h).1))
