-- Nodes made anew turn the nodes by what was said before into those by what is said now.
use Rattle.std.proofs.Common.{◌≡◌, ℕ, zero, suc, ◌+◌, ◌<◌, ◌==◌, ◌&&◌, ◌||◌, not, Bool, true, false, if◌then◌else◌, List, [], ◌∷◌, ◌++◌, length, map, filter, Option, Some, None, is_some, option_map, slice_get, refl, sym, ap, subst, ◌∙◌, arith}
use Rattle.std.specs.Prelude.{option_to_list}
use Rattle.std.specs.Ordering.{match_ordering}
use Rattle.std.specs.List.{AllByRecursion}
use Rattle.std.proofs.lemmas.Bool.{eq-eqb}
use Rattle.std.proofs.lemmas.List.{length-map}
use Rattle.std.proofs.lemmas.Option.{get_or_from_slice_get, slice_get-map, slice_get_within}
use Rattle.laws_format.proofs.TlvLaws.{some_is}
use Rattle.wire_base.specs.declared.addresses.Ipv4.{Ipv4}
use Rattle.wire_base.specs.declared.addresses.SystemId.{SystemId}
use Rattle.wire_base.specs.declared.view.ViewEdge.{ViewEdge}
use Rattle.wire_base.specs.declared.view.ViewNode.{ViewNode}
use Rattle.wire_base.specs.declared.view.ViewSub.{ViewSub}
use Rattle.wire_base.specs.model.Control.{same_system, system_order}
use Rattle.wire_base.specs.model.View.{Claim, Link, metric_to, lists, edge_to, edges_from, has_prefix, is_shared, own_subs, node_of, nodes_of}
use Rattle.view_graph.specs.declared.patch.NewNode.{NewNode}
use Rattle.view_graph.specs.Edges.{is_before, AreInOrder, place_in, metrics_to, half_edges, leads_to}
use Rattle.view_graph.specs.Keep.{is_named, said_by}
use Rattle.view_graph.specs.Renewal.{node_claims, has, AreNoted, is_listed_by, said_of, lists_at, edges_now, halves_now, IsMade, IsPatch, is_made, IsAt, AreTurning}
use Rattle.view_graph.proofs.EdgeLaws.{all_read, edges_whole, from_start, get_map, apart}
use Rattle.view_graph.proofs.FragmentLaws.{same_is}
use Rattle.laws_format.proofs.InfoLaws.{all_weaker}
use Rattle.view_graph.proofs.KeepLaws.{same_claims, said_head}
use Rattle.view_graph.proofs.AnewLaws.{place_self, put_turns}
use Rattle.view_graph.proofs.SystemLaws.{before_differs}

-- ---- what depends on the systems and their places in sub-domains alone

abbrev stripped : SystemId → List ViewSub → Claim
stripped s subs = record { system = s; overload = false; links = []; subs = subs }

abbrev strip : Claim → Claim
strip c = stripped c.system c.subs

said_strip : (cs : List Claim) (s : SystemId) → said_by (map strip cs) s ≡ option_map strip (said_by cs s)
said_strip [] s = refl
said_strip (c ∷ cs) s = by (same_system c.system s) refl (said_strip cs s)
  where
    by : (b : Bool) → same_system c.system s ≡ b → said_by (map strip cs) s ≡ option_map strip (said_by cs s) → said_by (map strip (c ∷ cs)) s ≡ option_map strip (said_by (c ∷ cs) s)
    by true e more = rw e refl
    by false e more = rw e more

all_strip : (P : SystemId → Type 0) (cs : List Claim) → AllByRecursion (λ d. P d.system) cs → AllByRecursion (λ d. P d.system) (map strip cs)
all_strip P [] all = tt
all_strip P (c ∷ cs) all = (all.0, all_strip P cs all.1)

order_strip : (cs : List Claim) → AreInOrder cs → AreInOrder (map strip cs)
order_strip [] order = tt
order_strip (c ∷ cs) order = (all_strip (λ t. is_before c.system t ≡ true) cs order.0, order_strip cs order.1)

metrics_strip : (links : List Link) (cs : List Claim) → metrics_to links (map strip cs) ≡ metrics_to links cs
metrics_strip links [] = refl
metrics_strip links (c ∷ cs) = ap (λ (ms : List (Option ℕ)). metric_to links c.system ∷ ms) (metrics_strip links cs)

shared_strip : (cs : List Claim) (s : SystemId) (p : Ipv4) → is_shared (map strip cs) s p ≡ is_shared cs s p
shared_strip [] s p = refl
shared_strip (c ∷ cs) s p = ap (λ b. (not (same_system c.system s) && has_prefix p c.subs) || b) (shared_strip cs s p)

filter_same : {X : Type 0} (p q : X → Bool) → ((x : X) → p x ≡ q x) → (xs : List X) → filter p xs ≡ filter q xs
filter_same p q same [] = refl
filter_same {X} p q same (x ∷ xs) = by (q x) refl (same x) (filter_same p q same xs)
  where
    by : (b : Bool) → q x ≡ b → p x ≡ q x → filter p xs ≡ filter q xs → filter p (x ∷ xs) ≡ filter q (x ∷ xs)
    by true e f more = rw (f, e) (ap (λ (ys : List X). x ∷ ys) more)
    by false e f more = rw (f, e) more

own_strip : (cs : List Claim) (c : Claim) → own_subs (map strip cs) (strip c) ≡ own_subs cs c
own_strip cs c = filter_same (λ (s : ViewSub). not (is_shared (map strip cs) c.system s.prefix)) (λ (s : ViewSub). not (is_shared cs c.system s.prefix)) (λ s. ap not (shared_strip cs c.system s.prefix)) c.subs

own_like : (cs ds : List Claim) (c d : Claim) → map strip cs ≡ map strip ds → strip c ≡ strip d → own_subs cs c ≡ own_subs ds d
own_like cs ds c d all one = sym (own_strip cs c) ∙ ap (λ (l : List Claim). own_subs l (strip c)) all ∙ ap (own_subs (map strip ds)) one ∙ own_strip ds d

none_some : {X : Type 0} (x : X) → None ≡ Some x → ⊥
none_some x e = absurd cc

-- the claim at the same place
pub record IsLike (ds : List Claim) (i : ℕ) (c : Claim) : Type 0 where
  pub claim : Claim
  pub at_place : slice_get ds i ≡ Some claim
  pub like : strip c ≡ strip claim

like_at : (cs ds : List Claim) (i : ℕ) (c : Claim) → map strip cs ≡ map strip ds → slice_get cs i ≡ Some c → IsLike ds i c
like_at cs ds i c all at = by (slice_get ds i) refl
  where
    same : Some (strip c) ≡ option_map strip (slice_get ds i)
    same = sym (slice_get-map strip cs i ∙ ap (option_map strip) at) ∙ ap (λ (l : List Claim). slice_get l i) all ∙ slice_get-map strip ds i

    by : (o : Option Claim) → slice_get ds i ≡ o → IsLike ds i c
    by None e = absurd (none_some (strip c) (sym (same ∙ ap (option_map strip) e)))
    by (Some d) e = record { claim = d; at_place = e; like = some_is (strip c) (strip d) (same ∙ ap (option_map strip) e) }

none_like : (cs ds : List Claim) (i : ℕ) → map strip cs ≡ map strip ds → slice_get cs i ≡ None → slice_get ds i ≡ None
none_like cs ds i all at = by (slice_get ds i) refl
  where
    by : (o : Option Claim) → slice_get ds i ≡ o → slice_get ds i ≡ None
    by None e = e
    by (Some d) e = let l = like_at ds cs i d (sym all) e in absurd (none_some l.claim (sym at ∙ l.at_place))

-- ---- seats

all_seats : (P : SystemId → Type 0) (k cs : List Claim) → AllByRecursion (λ d. P d.system) cs → AllByRecursion (λ d. P d.system) (node_claims (map (node_of k) cs))
all_seats P k [] all = tt
all_seats P k (c ∷ cs) all = (all.0, all_seats P k cs all.1)

order_seats : (k cs : List Claim) → AreInOrder cs → AreInOrder (node_claims (map (node_of k) cs))
order_seats k [] order = tt
order_seats k (c ∷ cs) order = (all_seats (λ t. is_before c.system t ≡ true) k cs order.0, order_seats k cs order.1)

-- the nodes of claims in order are in order
pub seats_order : (claims : List Claim) (nodes : List ViewNode) → nodes ≡ nodes_of claims → AreInOrder claims → AreInOrder (node_claims nodes)
seats_order claims nodes made order = subst (λ (ns : List ViewNode). AreInOrder (node_claims ns)) (sym made) (order_seats claims claims order)

place_seats : (s : SystemId) (k cs : List Claim) → place_in s (node_claims (map (node_of k) cs)) ≡ place_in s cs
place_seats s k [] = refl
place_seats s k (c ∷ cs) = ap (λ n. match_ordering (system_order s c.system) 0 0 (suc n)) (place_seats s k cs)

metrics_seats : (links : List Link) (k cs : List Claim) → metrics_to links (node_claims (map (node_of k) cs)) ≡ metrics_to links cs
metrics_seats links k [] = refl
metrics_seats links k (c ∷ cs) = ap (λ (ms : List (Option ℕ)). metric_to links c.system ∷ ms) (metrics_seats links k cs)

-- ---- what is said at a place

said_place : (cs : List Claim) (i : ℕ) (c : Claim) → AreInOrder cs → slice_get cs i ≡ Some c → said_by cs c.system ≡ Some c
said_place [] i c order at = absurd cc
said_place (d ∷ ds) zero c order at = subst (λ (x : Claim). said_by (d ∷ ds) x.system ≡ Some x) (some_is d c at) (said_head d ds)
said_place (d ∷ ds) (suc i) c order at =
    let before : is_before d.system c.system ≡ true = all_read (λ t. is_before d.system t ≡ true) ds i c order.0 (slice_get_within ds i c at) (sym (get_or_from_slice_get ds i c c at)) in
    rw (before_differs d.system c.system before) (said_place ds i c order.1 at)

said_own : (cs : List Claim) (s : SystemId) (c : Claim) → said_by cs s ≡ Some c → c.system ≡ s
said_own [] s c h = absurd cc
said_own (d ∷ ds) s c h = by (same_system d.system s) refl h (said_own ds s c)
  where
    by : (b : Bool) → same_system d.system s ≡ b → (if b then Some d else said_by ds s) ≡ Some c → (said_by ds s ≡ Some c → c.system ≡ s) → c.system ≡ s
    by true e k more = sym (ap (λ (x : Claim). x.system) (some_is d c k)) ∙ same_is d.system s e
    by false e k more = more k

-- the claim of a node
pub record IsNodeAt (k cs : List Claim) (i : ℕ) (n : ViewNode) : Type 0 where
  pub claim : Claim
  pub at_place : slice_get cs i ≡ Some claim
  pub made : n ≡ node_of k claim

node_read : (k cs : List Claim) (i : ℕ) (n : ViewNode) → slice_get (map (node_of k) cs) i ≡ Some n → IsNodeAt k cs i n
node_read k cs i n at = by (slice_get cs i) refl
  where
    seen : option_map (node_of k) (slice_get cs i) ≡ Some n
    seen = sym (slice_get-map (node_of k) cs i) ∙ at

    by : (o : Option Claim) → slice_get cs i ≡ o → IsNodeAt k cs i n
    by None e = absurd (none_some n (sym (ap (option_map (node_of k)) e) ∙ seen))
    by (Some c) e = record { claim = c; at_place = e; made = sym (some_is (node_of k c) n (sym (ap (option_map (node_of k)) e) ∙ seen)) }

-- ---- edges

abbrev edge : ℕ → Bool → Option ℕ → Option ViewEdge
edge p b o = if b then option_map (λ m. record { to = p; metric = m }) o else None

edge_none : (p : ℕ) (b : Bool) → edge p b None ≡ None
edge_none p true = refl
edge_none p false = refl

edge_like : (x c d : Claim) (p : ℕ) → c.system ≡ d.system → (lists x c.system ≡ true → lists c x.system ≡ lists d x.system) → edge_to x p c ≡ edge_to x p d
edge_like x c d p system same = by (metric_to x.links c.system) refl
  where
    metrics : metric_to x.links d.system ≡ metric_to x.links c.system
    metrics = ap (metric_to x.links) (sym system)

    by : (o : Option ℕ) → metric_to x.links c.system ≡ o → edge p (lists c x.system) (metric_to x.links c.system) ≡ edge p (lists d x.system) (metric_to x.links d.system)
    by None e = ap (edge p (lists c x.system)) e ∙ edge_none p (lists c x.system) ∙ sym (edge_none p (lists d x.system)) ∙ sym (ap (edge p (lists d x.system)) (metrics ∙ e))
    by (Some m) e = ap (λ b. edge p b (metric_to x.links c.system)) (same (ap is_some e)) ∙ ap (edge p (lists d x.system)) (sym metrics)

edges_like : (x : Claim) (p : ℕ) (cs ds : List Claim) → length cs ≡ length ds → ((j : ℕ) (c d : Claim) → slice_get cs j ≡ Some c → slice_get ds j ≡ Some d → (q : ℕ) → edge_to x q c ≡ edge_to x q d) → edges_from x p cs ≡ edges_from x p ds
edges_like x p [] [] long same = refl
edges_like x p [] (d ∷ ds) long same = absurd (omega (arith, long))
edges_like x p (c ∷ cs) [] long same = absurd (omega (arith, long))
edges_like x p (c ∷ cs) (d ∷ ds) long same =
    ap (λ (o : Option ViewEdge). option_to_list o ++ edges_from x (p + 1) cs) (same 0 c d refl refl p) ∙ ap (λ (es : List ViewEdge). option_to_list (edge_to x p d) ++ es) (edges_like x (p + 1) cs ds (omega (arith, long)) (λ j. same (suc j)))

lead_none : (q p : ℕ) (x : Claim) (ds : List Claim) → q < p → leads_to q (edges_from x p ds) ≡ false
lead_none q p x [] lt = refl
lead_none q p x (d ∷ ds) lt = by (lists d x.system) (metric_to x.links d.system) (lead_none q (p + 1) x ds (omega (arith, lt)))
  where
    by : (b : Bool) (o : Option ℕ) → leads_to q (edges_from x (p + 1) ds) ≡ false → leads_to q (option_to_list (edge p b o) ++ edges_from x (p + 1) ds) ≡ false
    by true (Some m) more = rw (apart p q (λ e. omega (arith, lt, e))) more
    by true None more = more
    by false o more = more

lead_at : (x : Claim) (p i : ℕ) (ds : List Claim) (d : Claim) → slice_get ds i ≡ Some d → leads_to (p + i) (edges_from x p ds) ≡ (lists d x.system && lists x d.system)
lead_at x p i [] d at = absurd cc
lead_at x p zero (y ∷ ys) d at =
    by (lists y x.system) (metric_to x.links y.system) (lead_none (p + zero) (p + 1) x ys (omega arith)) ∙ ap (λ (z : Claim). lists z x.system && lists x z.system) (some_is y d at)
  where
    by : (b : Bool) (o : Option ℕ) → leads_to (p + zero) (edges_from x (p + 1) ys) ≡ false → leads_to (p + zero) (option_to_list (edge p b o) ++ edges_from x (p + 1) ys) ≡ (b && is_some o)
    by true (Some m) more = rw (eq-eqb p (p + zero) (omega arith)) refl
    by true None more = more
    by false o more = more
lead_at x p (suc i) (y ∷ ys) d at = by (lists y x.system) (metric_to x.links y.system) (ap (λ q. leads_to q (edges_from x (p + 1) ys)) later ∙ lead_at x (p + 1) i ys d at)
  where
    later : p + suc i ≡ (p + 1) + i
    later = omega arith

    by : (b : Bool) (o : Option ℕ) → leads_to (p + suc i) (edges_from x (p + 1) ys) ≡ (lists d x.system && lists x d.system) → leads_to (p + suc i) (option_to_list (edge p b o) ++ edges_from x (p + 1) ys) ≡ (lists d x.system && lists x d.system)
    by true (Some m) more = rw (apart p (p + suc i) (λ e. omega (arith, e))) more
    by true None more = more
    by false o more = more

-- ---- what is known where a view is renewed

-- The nodes are those by what was said before, with all places in sub-domains; systems that are not named say the same now.
pub record IsBase (claims now : List Claim) (nodes : List ViewNode) (said : SystemId → Option Claim) (systems : List SystemId) : Type 0 where
  pub order : AreInOrder claims
  pub order_now : AreInOrder now
  pub made : nodes ≡ nodes_of claims
  pub whole : map (λ (n : ViewNode). n.subs) nodes ≡ map (λ (c : Claim). c.subs) claims
  pub unnamed : (s : SystemId) → is_named systems s ≡ false → said_by claims s ≡ said s
  pub said_now : (s : SystemId) → said_by now s ≡ said s

node_at : (claims : List Claim) (nodes : List ViewNode) (i : ℕ) (n : ViewNode) → nodes ≡ nodes_of claims → slice_get nodes i ≡ Some n → IsNodeAt claims claims i n
node_at claims nodes i n made at = node_read claims claims i n (ap (λ (ns : List ViewNode). slice_get ns i) (sym made) ∙ at)

claim_at : (claims : List Claim) (nodes : List ViewNode) (i : ℕ) (c : Claim) → nodes ≡ nodes_of claims → slice_get claims i ≡ Some c → slice_get nodes i ≡ Some (node_of claims c)
claim_at claims nodes i c made at = ap (λ (ns : List ViewNode). slice_get ns i) made ∙ slice_get-map (node_of claims) claims i ∙ ap (option_map (node_of claims)) at

whole_at : (claims : List Claim) (nodes : List ViewNode) (i : ℕ) (n : ViewNode) (c : Claim) → map (λ (m : ViewNode). m.subs) nodes ≡ map (λ (d : Claim). d.subs) claims → slice_get nodes i ≡ Some n → slice_get claims i ≡ Some c → n.subs ≡ c.subs
whole_at claims nodes i n c whole node claim =
    some_is n.subs c.subs
    (sym (slice_get-map (λ (m : ViewNode). m.subs) nodes i ∙ ap (option_map (λ (m : ViewNode). m.subs)) node) ∙ ap (λ (l : List (List ViewSub)). slice_get l i) whole ∙ slice_get-map (λ (d : Claim). d.subs) claims i ∙ ap (option_map (λ (d : Claim). d.subs)) claim)

-- the systems, and their places in sub-domains, are as before
same_strips : (claims now : List Claim) (nodes : List ViewNode) (said : SystemId → Option Claim) (systems : List SystemId) (places : List ℕ) → IsBase claims now nodes said systems → AreNoted said nodes systems places → map strip claims ≡ map strip now
same_strips claims now nodes said systems places base noted =
    same_claims (map strip claims) (map strip now) (order_strip claims base.order) (order_strip now base.order_now) (λ s. said_strip claims s ∙ by s (is_named systems s) refl ∙ sym (said_strip now s))
  where
    by : (s : SystemId) (b : Bool) → is_named systems s ≡ b → option_map strip (said_by claims s) ≡ option_map strip (said_by now s)
    by s false e = ap (option_map strip) (base.unnamed s e ∙ sym (base.said_now s))
    by s true e =
        let n = noted s e in
        let x = node_at claims nodes (place_in s (node_claims nodes)) n.node base.made n.at_place in
        let system : x.claim.system ≡ s = sym (ap (λ (m : ViewNode). m.system) x.made) ∙ n.system in
        let before : said_by claims s ≡ Some x.claim = ap (said_by claims) (sym system) ∙ said_place claims (place_in s (node_claims nodes)) x.claim base.order x.at_place in
        let now_said : said_by now s ≡ Some n.claim = base.said_now s ∙ n.says in
        let subs : x.claim.subs ≡ n.claim.subs = sym (whole_at claims nodes (place_in s (node_claims nodes)) n.node x.claim base.whole n.at_place x.at_place) ∙ n.subs in
        let alike : strip x.claim ≡ strip n.claim = ap (λ (t : SystemId). stripped t x.claim.subs) (system ∙ sym (said_own now s n.claim now_said)) ∙ ap (stripped n.claim.system) subs in
        ap (option_map strip) before ∙ ap (λ (c : Claim). Some c) alike ∙ sym (ap (option_map strip) now_said)

-- ---- nodes that are not made anew

abbrev built : Claim → List ViewEdge → List ViewSub → ViewNode
built x edges subs = record { system = x.system; overload = x.overload; edges = edges; subs = subs }

place_is : (claims now : List Claim) (nodes : List ViewNode) (said : SystemId → Option Claim) (systems : List SystemId) (i : ℕ) (x : Claim) → IsBase claims now nodes said systems → slice_get claims i ≡ Some x → place_in x.system (node_claims nodes) ≡ i
place_is claims now nodes said systems i x base at = ap (λ (ns : List ViewNode). place_in x.system (node_claims ns)) base.made ∙ place_seats x.system claims claims ∙ place_self claims i x base.order at

abbrev whole : SystemId → Bool → List ViewEdge → List ViewSub → ViewNode
whole s o edges subs = record { system = s; overload = o; edges = edges; subs = subs }

-- metrics to the nodes are those to the systems now
metrics_now : (claims now : List Claim) (nodes : List ViewNode) (said : SystemId → Option Claim) (systems : List SystemId) (links : List Link) → IsBase claims now nodes said systems → map strip claims ≡ map strip now → metrics_to links (node_claims nodes) ≡ metrics_to links now
metrics_now claims now nodes said systems links base strips =
    ap (λ (ns : List ViewNode). metrics_to links (node_claims ns)) base.made ∙ metrics_seats links claims claims ∙ sym (metrics_strip links claims) ∙ ap (metrics_to links) strips ∙ metrics_strip links now

-- a system lists itself an edge to those that it lists
half_at : (claims : List Claim) (nodes : List ViewNode) (links : List Link) (i : ℕ) (x : Claim) → nodes ≡ nodes_of claims → slice_get claims i ≡ Some x → leads_to i (halves_now nodes links) ≡ is_some (metric_to links x.system)
half_at claims nodes links i x made at =
    ap (λ (ns : List ViewNode). leads_to i (half_edges 0 (metrics_to links (node_claims ns)))) made ∙ ap (λ ms. leads_to i (half_edges 0 ms)) (metrics_seats links claims claims) ∙ from_start i (metrics_to links claims) ∙ ap is_some (get_map (λ (c : Claim). metric_to links c.system) claims i x None at)

-- edges of which all pass
all_pass : (g : ℕ → Bool) (x : Claim) (p : ℕ) (cs : List Claim) → ((k : ℕ) (c : Claim) → slice_get cs k ≡ Some c → lists c x.system ≡ true → lists x c.system ≡ true → g (p + k) ≡ true) → filter (λ (e : ViewEdge). g e.to) (edges_from x p cs) ≡ edges_from x p cs
all_pass g x p [] all = refl
all_pass g x p (c ∷ cs) all =
    by (lists c x.system) refl (metric_to x.links c.system) refl (let p0 : p ≡ p + 0 = omega arith in λ back listed. ap g p0 ∙ all 0 c refl back listed)
    (all_pass g x (p + 1) cs (λ k d at back listed. let e : (p + 1) + k ≡ p + suc k = omega arith in ap g e ∙ all (suc k) d at back listed))
  where
    by : (b : Bool) → lists c x.system ≡ b → (o : Option ℕ) → metric_to x.links c.system ≡ o → (lists c x.system ≡ true → lists x c.system ≡ true → g p ≡ true)
        → filter (λ (e : ViewEdge). g e.to) (edges_from x (p + 1) cs) ≡ edges_from x (p + 1) cs → filter (λ (e : ViewEdge). g e.to) (option_to_list (edge p (lists c x.system) (metric_to x.links c.system)) ++ edges_from x (p + 1) cs) ≡ option_to_list (edge p (lists c x.system) (metric_to x.links c.system)) ++ edges_from x (p + 1) cs
    by false e o f here more = rw e more
    by true e None f here more = rw (e, f) more
    by true e (Some m) f here more = rw (e, f, here e (ap is_some f)) (ap (λ (es : List ViewEdge). record { to = p; metric = m } ∷ es) more)

-- two systems, of which the first is not made anew: the second lists it as before
still_listed : (claims now : List Claim) (nodes : List ViewNode) (said : SystemId → Option Claim) (systems : List SystemId) (places : List ℕ) (i j : ℕ) (x c d : Claim)
    → IsBase claims now nodes said systems → AreNoted said nodes systems places → has places i ≡ false → slice_get claims i ≡ Some x → slice_get claims j ≡ Some c → slice_get now j ≡ Some d → c.system ≡ d.system → lists x c.system ≡ true → lists c x.system ≡ lists d x.system
still_listed claims now nodes said systems places i j x c d base noted away at c_at d_at system listed = by (is_named systems c.system) refl
  where
    d_said : said c.system ≡ Some d
    d_said = sym (base.said_now c.system) ∙ ap (said_by now) system ∙ said_place now j d base.order_now d_at

    by : (b : Bool) → is_named systems c.system ≡ b → lists c x.system ≡ lists d x.system
    by false e =
        let same : c ≡ d = some_is c d (sym (said_place claims j c base.order c_at) ∙ base.unnamed c.system e ∙ d_said) in
        ap (λ (z : Claim). lists z x.system) same
    by true e =
        let n = noted c.system e in
        let claim : n.claim ≡ d = some_is n.claim d (sym n.says ∙ d_said) in
        let node : n.node ≡ node_of claims c = some_is n.node (node_of claims c) (sym n.at_place ∙ ap (slice_get nodes) (place_is claims now nodes said systems j c base c_at) ∙ claim_at claims nodes j c base.made c_at) in
        let zero_in : i ≡ 0 + i = omega arith in
        let leads : leads_to i n.node.edges ≡ lists c x.system =
        ap (λ (m : ViewNode). leads_to i m.edges) node ∙ ap (λ q. leads_to q (edges_from c 0 claims)) zero_in ∙ lead_at c 0 i claims x at ∙ ap (λ b. b && lists c x.system) listed in
        sym leads ∙ n.ends i away ∙ half_at claims nodes n.claim.links i x base.made at ∙ ap (λ (z : Claim). lists z x.system) claim

unmade : (claims now : List Claim) (nodes : List ViewNode) (said : SystemId → Option Claim) (systems : List SystemId) (places : List ℕ) (i : ℕ) (x y : Claim)
    → IsBase claims now nodes said systems → AreNoted said nodes systems places → map strip claims ≡ map strip now → has places i ≡ false → slice_get claims i ≡ Some x → slice_get now i ≡ Some y → strip x ≡ strip y → node_of claims x ≡ node_of now y
unmade claims now nodes said systems places i x y base noted strips away at y_at alike = by (is_named systems x.system) refl
  where
    system : x.system ≡ y.system
    system = ap (λ (c : Claim). c.system) alike

    y_said : said x.system ≡ Some y
    y_said = sym (base.said_now x.system) ∙ ap (said_by now) system ∙ said_place now i y base.order_now y_at

    long : length claims ≡ length now
    long = sym (length-map claims strip) ∙ ap (λ (l : List Claim). length l) strips ∙ length-map now strip

    still : (j : ℕ) (c d : Claim) → slice_get claims j ≡ Some c → slice_get now j ≡ Some d → (c.system ≡ d.system) × (lists x c.system ≡ true → lists c x.system ≡ lists d x.system)
    still j c d c_at d_at =
        let l = like_at claims now j c strips c_at in
        let same : c.system ≡ d.system = ap (λ (z : Claim). z.system) l.like ∙ ap (λ (z : Claim). z.system) (some_is l.claim d (sym l.at_place ∙ d_at)) in
        (same, λ listed. still_listed claims now nodes said systems places i j x c d base noted away at c_at d_at same listed)

    by : (b : Bool) → is_named systems x.system ≡ b → node_of claims x ≡ node_of now y
    by false e =
        let same : x ≡ y = some_is x y (sym (said_place claims i x base.order at) ∙ base.unnamed x.system e ∙ y_said) in
        let edges : edges_from x 0 claims ≡ edges_from x 0 now = edges_like x 0 claims now long (λ j c d c_at d_at q. let s = still j c d c_at d_at in edge_like x c d q s.0 s.1) in
        ap (λ (es : List ViewEdge). built x es (own_subs claims x)) edges ∙ ap (built x (edges_from x 0 now)) (own_like claims now x x strips refl) ∙ ap (node_of now) same
    by true e =
        let n = noted x.system e in
        let place = place_is claims now nodes said systems i x base at in
        let claim : n.claim ≡ y = some_is n.claim y (sym n.says ∙ y_said) in
        let node : n.node ≡ node_of claims x = some_is n.node (node_of claims x) (sym n.at_place ∙ ap (slice_get nodes) place ∙ claim_at claims nodes i x base.made at) in
        let same = n.own (ap (has places) place ∙ away) in
        let overload : x.overload ≡ y.overload = sym (ap (λ (m : ViewNode). m.overload) node) ∙ same.overload ∙ ap (λ (z : Claim). z.overload) claim in
        let halves : half_edges 0 (metrics_to y.links now) ≡ edges_from x 0 claims =
        sym (ap (half_edges 0) (metrics_now claims now nodes said systems y.links base strips)) ∙ ap (λ (z : Claim). halves_now nodes z.links) (sym claim) ∙ sym same.edges ∙ ap (λ (m : ViewNode). m.edges) node in
        let edges : edges_from y 0 now ≡ edges_from x 0 claims =
        edges_whole (λ k. is_listed_by (slice_get now k) y.system) y now 0 (λ k d d_at. let z : 0 + k ≡ k = omega arith in ap (λ q. is_listed_by (slice_get now q) y.system) z ∙ ap (λ o. is_listed_by o y.system) d_at)
        ∙ ap (filter (λ (e : ViewEdge). is_listed_by (slice_get now e.to) y.system)) halves
        ∙ all_pass (λ k. is_listed_by (slice_get now k) y.system) x 0 claims (λ k c c_at back listed.
        let l = like_at claims now k c strips c_at in
        let z : 0 + k ≡ k = omega arith in
        ap (λ q. is_listed_by (slice_get now q) y.system) z ∙ ap (λ o. is_listed_by o y.system) l.at_place ∙ ap (lists l.claim) (sym system) ∙ sym ((still k c l.claim c_at l.at_place).1 listed) ∙ back) in
        ap (λ s. whole s x.overload (edges_from x 0 claims) (own_subs claims x)) system ∙ ap (λ o. whole y.system o (edges_from x 0 claims) (own_subs claims x)) overload ∙ ap (λ es. whole y.system y.overload es (own_subs claims x)) (sym edges) ∙ ap (whole y.system y.overload (edges_from y 0 now)) (own_like claims now x y strips alike)

-- ---- nodes that are made anew

made_right : (claims now : List Claim) (nodes : List ViewNode) (said : SystemId → Option Claim) (systems : List SystemId) (n : NewNode) → IsBase claims now nodes said systems → map strip claims ≡ map strip now → IsMade said nodes n → IsAt (nodes_of now) n
made_right claims now nodes said systems n base strips m =
    slice_get-map (node_of now) now n.place ∙ ap (option_map (node_of now)) y.at_place ∙ ap (λ (z : ViewNode). Some z) (sym whole)
  where
    x : IsNodeAt claims claims n.place m.before
    x = node_at claims nodes n.place m.before base.made m.at_place

    y : IsLike now n.place x.claim
    y = like_at claims now n.place x.claim strips x.at_place

    system : m.before.system ≡ y.claim.system
    system = ap (λ (z : ViewNode). z.system) x.made ∙ ap (λ (z : Claim). z.system) y.like

    claim : m.claim ≡ y.claim
    claim = some_is m.claim y.claim (sym m.says ∙ ap said system ∙ sym (base.said_now y.claim.system) ∙ said_place now n.place y.claim base.order_now y.at_place)

    metrics : metrics_to y.claim.links (node_claims nodes) ≡ metrics_to y.claim.links now
    metrics = metrics_now claims now nodes said systems y.claim.links base strips

    listed : (k : ℕ) (d : Claim) → slice_get now k ≡ Some d → lists_at said nodes k y.claim.system ≡ lists d y.claim.system
    listed k d at =
        let c = like_at now claims k d (sym strips) at in
        let d_said : said c.claim.system ≡ Some d = ap said (sym (ap (λ (z : Claim). z.system) c.like)) ∙ sym (base.said_now d.system) ∙ said_place now k d base.order_now at in
        ap (λ o. is_listed_by (said_of said o) y.claim.system) (claim_at claims nodes k c.claim base.made c.at_place) ∙ ap (λ o. is_listed_by o y.claim.system) d_said

    edges : edges_now said nodes y.claim.system y.claim.links ≡ edges_from y.claim 0 now
    edges =
        ap (λ ms. filter (λ e. lists_at said nodes e.to y.claim.system) (half_edges 0 ms)) metrics
        ∙ sym (edges_whole (λ k. lists_at said nodes k y.claim.system) y.claim now 0 (λ k d at. let e : 0 + k ≡ k = omega arith in ap (λ q. lists_at said nodes q y.claim.system) e ∙ listed k d at))

    subs : m.before.subs ≡ own_subs now y.claim
    subs = ap (λ (z : ViewNode). z.subs) x.made ∙ own_like claims now x.claim y.claim strips y.like

    node : SystemId → Claim → List ViewSub → ViewNode
    node s c ss = record { system = s; overload = c.overload; edges = edges_now said nodes s c.links; subs = ss }

    whole : n.node ≡ node_of now y.claim
    whole = m.made ∙ ap (λ s. node s m.claim m.before.subs) system ∙ ap (λ c. node y.claim.system c m.before.subs) claim ∙ ap (node y.claim.system y.claim) subs ∙ ap (λ es. built y.claim es (own_subs now y.claim)) edges

-- ---- all of them

has_made : (anew : List NewNode) (i : ℕ) → has (map (λ (n : NewNode). n.place) anew) i ≡ is_made anew i
has_made [] i = refl
has_made (n ∷ ns) i = ap (λ b. (n.place == i) || b) (has_made ns i)

pub patch_turns : (claims now : List Claim) (nodes : List ViewNode) (said : SystemId → Option Claim) (systems : List SystemId) (anew : List NewNode) → IsBase claims now nodes said systems → IsPatch said nodes systems anew → AreTurning nodes (nodes_of now) anew
patch_turns claims now nodes said systems anew base patch =
    record {
      within = all_weaker (IsAt (nodes_of now)) (λ (n : NewNode). n.place < length nodes) (λ n h. omega (arith, long, slice_get_within (nodes_of now) n.place n.node h)) anew right;
      right = right;
      turned = put_turns (nodes_of now) nodes anew long right elsewhere;
    }
  where
    strips : map strip claims ≡ map strip now
    strips = same_strips claims now nodes said systems (map (λ (n : NewNode). n.place) anew) base patch.noted

    right : AllByRecursion (IsAt (nodes_of now)) anew
    right = all_weaker (IsMade said nodes) (IsAt (nodes_of now)) (λ n m. made_right claims now nodes said systems n base strips m) anew patch.made

    long : length nodes ≡ length (nodes_of now)
    long =
        ap (λ (ns : List ViewNode). length ns) base.made ∙ length-map claims (node_of claims) ∙ sym (length-map claims strip) ∙ ap (λ (l : List Claim). length l) strips ∙ length-map now strip ∙ sym (length-map now (node_of now))

    elsewhere : (i : ℕ) → is_made anew i ≡ false → slice_get nodes i ≡ slice_get (nodes_of now) i
    elsewhere i away = ap (λ (ns : List ViewNode). slice_get ns i) base.made ∙ slice_get-map (node_of claims) claims i ∙ by (slice_get claims i) refl ∙ sym (slice_get-map (node_of now) now i)
      where
        by : (o : Option Claim) → slice_get claims i ≡ o → option_map (node_of claims) (slice_get claims i) ≡ option_map (node_of now) (slice_get now i)
        by None e = ap (option_map (node_of claims)) e ∙ sym (ap (option_map (node_of now)) (none_like claims now i strips e))
        by (Some x) e =
            let y = like_at claims now i x strips e in
            ap (option_map (node_of claims)) e
            ∙ ap (λ (n : ViewNode). Some n) (unmade claims now nodes said systems (map (λ (n : NewNode). n.place) anew) i x y.claim base patch.noted strips (has_made anew i ∙ away) e y.at_place y.like)
            ∙ sym (ap (option_map (node_of now)) y.at_place)

-- ---- that no place in a sub-domain is left out

own_all : (k cs : List Claim) → map (λ (n : ViewNode). n.subs) (map (node_of k) cs) ≡ map (own_subs (map strip k)) (map strip cs)
own_all k [] = refl
own_all k (c ∷ cs) =
    ap (λ (ss : List ViewSub). ss ∷ map (λ (n : ViewNode). n.subs) (map (node_of k) cs)) (sym (own_strip k c)) ∙ ap (λ (l : List (List ViewSub)). own_subs (map strip k) (strip c) ∷ l) (own_all k cs)

subs_all : (cs : List Claim) → map (λ (c : Claim). c.subs) cs ≡ map (λ (c : Claim). c.subs) (map strip cs)
subs_all [] = refl
subs_all (c ∷ cs) = ap (λ (l : List (List ViewSub)). c.subs ∷ l) (subs_all cs)

pub patch_whole : (claims now : List Claim) (nodes : List ViewNode) (said : SystemId → Option Claim) (systems : List SystemId) (anew : List NewNode) → IsBase claims now nodes said systems → IsPatch said nodes systems anew
    → map (λ (n : ViewNode). n.subs) (nodes_of now) ≡ map (λ (c : Claim). c.subs) now
patch_whole claims now nodes said systems anew base patch =
    let strips = same_strips claims now nodes said systems (map (λ (n : NewNode). n.place) anew) base patch.noted in
    own_all now now ∙ ap (λ (l : List Claim). map (own_subs l) l) (sym strips) ∙ sym (own_all claims claims) ∙ ap (map (λ (n : ViewNode). n.subs)) (sym base.made) ∙ base.whole ∙ subs_all claims ∙ ap (map (λ (c : Claim). c.subs)) strips ∙ sym (subs_all now)
