-- What the view of a router of a truthful domain is: a graph with the router's own node, whose edges lead over ends that are
-- up, and whose nodes are routers of the domain.
use Rattle.std.proofs.Common.{◌≡◌, ℕ, zero, suc, ◌+◌, ◌<◌, ◌≤◌, ◌&&◌, ◌||◌, not, Bool, true, false, if◌then◌else◌, List, [], ◌∷◌, ◌++◌, length, map, filter, Contains, slice_get, slice_index_or, is_some, Option, Some, None, option_map, refl, sym, ap, subst, ◌∙◌, arith}
use mathlib.Core.Bool.{false≢true, true≢false}
use Rattle.std.specs.Prelude.{option_to_list}
use Rattle.std.specs.List.{AllByRecursion, list_any}
use Rattle.std.specs.Ordering.{is_lt}
use Rattle.std.proofs.lemmas.List.{length-map}
use Rattle.std.proofs.lemmas.Option.{same_Some}
use Rattle.std.proofs.Math.Bool.{or-true}
use Rattle.wire_base.specs.declared.addresses.SystemId.{SystemId}
use Rattle.wire_base.specs.declared.conf.End.{End}
use Rattle.wire_base.specs.declared.conf.RouterConf.{RouterConf}
use Rattle.wire_base.specs.declared.conf.SubKind.{SubKind}
use Rattle.wire_base.specs.declared.entry.Entry.{Entry}
use Rattle.wire_base.specs.declared.view.ViewEdge.{ViewEdge}
use Rattle.wire_base.specs.declared.view.ViewNode.{ViewNode}
use Rattle.wire_base.specs.declared.view.ViewSub.{ViewSub}
use Rattle.wire_base.specs.model.Choice.{end_toward}
use Rattle.wire_base.specs.model.Configuration.{DomainConf, IsConsistent, same_peer}
use Rattle.wire_base.specs.model.Control.{same_system, system_order, Control}
use Rattle.wire_base.specs.model.Graph.{IsGraph}
use Rattle.wire_base.specs.model.Lists.{AreApart}
use Rattle.wire_base.specs.model.OnFrame.{node_place}
use Rattle.wire_base.specs.model.OwnLsp.{picked}
use Rattle.wire_base.specs.model.View.{Claim, Link, claim_of, claims_of, edge_to, edges_from, end_link, is_other, least_of, lists, metric_to, node_of, nodes_of, own_claim, put_claim, known_subs, is_shared, view_of, control_view, with_known}
use Rattle.view_graph.proofs.ViewLaws.{view_is_graph}
use Rattle.bier_forward.specs.Packets.{LeadsToEnds}
use Rattle.bier_forward.proofs.OwnEdges.{own_edges}
use Rattle.domain_model.specs.World.{WorldState}
use Rattle.domain_model.specs.Truth.{IsTrueControl, IsTruthful, confs_now}
use Rattle.domain_model.proofs.NamedLaws.{entries_few}
use Rattle.domain_model.proofs.EachLaws.{each_got}
use Rattle.domain_model.proofs.ViewTruth.{places_of, IsRouterNode, claims_read, known_places, known_claims, kept_places, view_true, nodes_true}
use Rattle.domain_model.proofs.DomainLaws.{bytes_is, bytes_from, own_earlier}
use Rattle.laws_router.proofs.DomainLaws.{same_stripped, length_stripped}

-- ---- lists

pub each_contained : {X : Type 0} (P : X → Type 0) (xs : List X) (x : X) → AllByRecursion P xs → Contains xs x → P x
each_contained P [] x all (i, lt, e) = absurd (omega (arith, lt))
each_contained P (y ∷ ys) x all (zero, lt, e) = subst P e all.0
each_contained P (y ∷ ys) x all (suc i, lt, e) = each_contained P ys x all.1 (i, omega (arith, lt), e)

-- ---- the own claim

-- what holds of a claim of that system
abbrev IfOwn : SystemId → (Claim → Type 0) → Claim → Type 0
IfOwn s P c = same_system c.system s ≡ true → P c

put_own : (s : SystemId) (P : Claim → Type 0) (c : Claim) (cs : List Claim) → IfOwn s P c → AllByRecursion (IfOwn s P) cs → AllByRecursion (IfOwn s P) (put_claim c cs)
put_own s P c [] h all = (h, tt)
put_own s P c (d ∷ ds) h all = by (is_lt (system_order c.system d.system)) (put_own s P c ds h all.1)
  where
    by : (b : Bool) → AllByRecursion (IfOwn s P) (put_claim c ds) → AllByRecursion (IfOwn s P) (if b then c ∷ d ∷ ds else d ∷ put_claim c ds)
    by true more = (h, all)
    by false more = (all.0, more)

others_apart : (s : SystemId) (P : Claim → Type 0) (every es : List Entry) → AllByRecursion (IfOwn s P) (map (claim_of every) (filter (is_other s) es))
others_apart s P every [] = tt
others_apart s P every (e ∷ es) = by (is_other s e) refl (others_apart s P every es)
  where
    other : (a b : Bool) → (not a && b) ≡ true → a ≡ false
    other true b q = absurd (false≢true q)
    other false b q = refl

    by : (b : Bool) → is_other s e ≡ b → AllByRecursion (IfOwn s P) (map (claim_of every) (filter (is_other s) es)) → AllByRecursion (IfOwn s P) (map (claim_of every) (if b then e ∷ filter (is_other s) es else filter (is_other s) es))
    by true q more = ((λ same. absurd (true≢false (sym same ∙ other (same_system e.id.system s) _ q))), more)
    by false q more = more

known_own : (s : SystemId) (P Q : Claim → Type 0) (kinds : List SubKind) → ((c : Claim) → P c → Q (with_known kinds c)) → (cs : List Claim) → AllByRecursion (IfOwn s P) cs → AllByRecursion (IfOwn s Q) (map (with_known kinds) cs)
known_own s P Q kinds h [] all = tt
known_own s P Q kinds h (c ∷ cs) all = ((λ same. h c (all.0 same)), known_own s P Q kinds h cs all.1)

-- what holds of the router's own claim
own_claims : (r : RouterConf) (up : List Bool) (entries : List Entry) (P Q : Claim → Type 0) → P (own_claim r up) → ((c : Claim) → P c → Q (with_known r.kinds c)) → AllByRecursion (IfOwn r.system Q) (map (with_known r.kinds) (claims_of r up entries))
unfolding claims_of
own_claims r up entries P Q own h =
    known_own r.system P Q r.kinds h (put_claim (own_claim r up) (map (claim_of entries) (filter (is_other r.system) entries)))
    (put_own r.system P (own_claim r up) (map (claim_of entries) (filter (is_other r.system) entries)) (λ same. own) (others_apart r.system P entries entries))

own_links_only : (r : RouterConf) (up : List Bool) (entries : List Entry) → AllByRecursion (IfOwn r.system (λ c. c.links ≡ map end_link (picked up r.ends))) (map (with_known r.kinds) (claims_of r up entries))
own_links_only r up entries = own_claims r up entries (λ c. c.links ≡ map end_link (picked up r.ends)) (λ c. c.links ≡ map end_link (picked up r.ends)) refl (λ c h. h)

own_subs_only : (r : RouterConf) (up : List Bool) (entries : List Entry) → AllByRecursion (IfOwn r.system (λ c. c.subs ≡ known_subs r.kinds (places_of r))) (map (with_known r.kinds) (claims_of r up entries))
own_subs_only r up entries = own_claims r up entries (λ c. c.subs ≡ places_of r) (λ c. c.subs ≡ known_subs r.kinds (places_of r)) refl (λ c h. ap (known_subs r.kinds) h)

-- ---- an end that is up

-- no end has the peer of another
no_other : (e : End) (s : SystemId) (bs : List Bool) (es : List End) → AllByRecursion (λ f. same_peer e f ≡ false) es → same_system e.peer s ≡ true → is_some (metric_to (map end_link (picked bs es)) s) ≡ true → ⊥
no_other e s [] [] all t h = false≢true h
no_other e s [] (f ∷ fs) all t h = false≢true h
no_other e s (b ∷ bs) [] all t h = false≢true h
no_other e s (true ∷ bs) (f ∷ fs) all t h = here (same_system f.peer s) refl h (no_other e s bs fs all.1 t)
  where
    here : (q : Bool) → same_system f.peer s ≡ q → is_some (if q then Some (least_of f.metric (metric_to (map end_link (picked bs fs)) s)) else metric_to (map end_link (picked bs fs)) s) ≡ true → (is_some (metric_to (map end_link (picked bs fs)) s) ≡ true → ⊥) → ⊥
    here true same h more =
        let z : e.peer.0 ≡ f.peer.0 = bytes_is e.peer.0 s.0 t ∙ sym (bytes_is f.peer.0 s.0 same) in
        true≢false (sym (bytes_from e.peer.0 f.peer.0 z) ∙ all.0)
    here false same h more = more h
no_other e s (false ∷ bs) (f ∷ fs) all t h = no_other e s bs fs all.1 t h

-- a link that is claimed has an end that is up, and no other end leads to that system
up_end : (s : SystemId) (up : List Bool) (ends : List End) (link : ℕ) → AreApart same_peer ends → is_some (metric_to (map end_link (picked up ends)) s) ≡ true → end_toward ends s ≡ Some link → slice_index_or up link false ≡ true
up_end s [] [] link apart h at = absurd (false≢true h)
up_end s [] (e ∷ ends) link apart h at = absurd (false≢true h)
up_end s (b ∷ up) [] link apart h at = cc
up_end s (true ∷ up) (e ∷ ends) link apart h at = by (same_system e.peer s) h at (λ l k q. up_end s up ends l apart.1 k q)
  where
    more : (o : Option ℕ) → option_map (λ n. n + 1) o ≡ Some link → ((l : ℕ) → o ≡ Some l → slice_index_or up l false ≡ true) → slice_index_or (true ∷ up) link false ≡ true
    more None q f = cc
    more (Some n) q f = let z : n + 1 ≡ link = same_Some (n + 1) link q in let y : suc n ≡ link = omega (arith, z) in subst (λ (m : ℕ). slice_index_or (true ∷ up) m false ≡ true) y (f n refl)

    by : (t : Bool) → is_some (if t then Some (least_of e.metric (metric_to (map end_link (picked up ends)) s)) else metric_to (map end_link (picked up ends)) s) ≡ true → (if t then Some 0 else option_map (λ n. n + 1) (end_toward ends s)) ≡ Some link
        → ((l : ℕ) → is_some (metric_to (map end_link (picked up ends)) s) ≡ true → end_toward ends s ≡ Some l → slice_index_or up l false ≡ true) → slice_index_or (true ∷ up) link false ≡ true
    by true h at rest = subst (λ (m : ℕ). slice_index_or (true ∷ up) m false ≡ true) (same_Some 0 link at) refl
    by false h at rest = more (end_toward ends s) at (λ l q. rest l h q)
up_end s (false ∷ up) (e ∷ ends) link apart h at = by (same_system e.peer s) refl at (λ l q. up_end s up ends l apart.1 h q)
  where
    more : (o : Option ℕ) → option_map (λ n. n + 1) o ≡ Some link → ((l : ℕ) → o ≡ Some l → slice_index_or up l false ≡ true) → slice_index_or (false ∷ up) link false ≡ true
    more None q f = cc
    more (Some n) q f = let z : n + 1 ≡ link = same_Some (n + 1) link q in let y : suc n ≡ link = omega (arith, z) in subst (λ (m : ℕ). slice_index_or (false ∷ up) m false ≡ true) y (f n refl)

    by : (t : Bool) → same_system e.peer s ≡ t → (if t then Some 0 else option_map (λ n. n + 1) (end_toward ends s)) ≡ Some link → ((l : ℕ) → end_toward ends s ≡ Some l → slice_index_or up l false ≡ true) → slice_index_or (false ∷ up) link false ≡ true
    by true t at rest = absurd (no_other e s up ends apart.0 t h)
    by false t at rest = more (end_toward ends s) at rest

-- ---- places of systems

-- where a system has a node, its place is one
place_within : (s : SystemId) (g : List ViewNode) → list_any (λ (n : ViewNode). same_system n.system s) g ≡ true → node_place g s < length g
place_within s [] h = absurd (false≢true h)
place_within s (n ∷ g) h = by (same_system n.system s) refl h (place_within s g)
  where
    by : (b : Bool) → same_system n.system s ≡ b → (b || list_any (λ (n : ViewNode). same_system n.system s) g) ≡ true → (list_any (λ (n : ViewNode). same_system n.system s) g ≡ true → node_place g s < length g) → (if b then 0 else 1 + node_place g s) < length (n ∷ g)
    by true e h more = omega arith
    by false e h more = let l = more h in omega (arith, l)

-- the node at the place of a system is that system's
pub place_has : (s : SystemId) (g : List ViewNode) (n : ViewNode) → slice_get g (node_place g s) ≡ Some n → n.system ≡ s
place_has s [] n h = cc
place_has s (m ∷ g) n h = by (same_system m.system s) refl h (λ k. place_has s g n k)
  where
    by : (b : Bool) → same_system m.system s ≡ b → slice_get (m ∷ g) (if b then 0 else 1 + node_place g s) ≡ Some n → (slice_get g (node_place g s) ≡ Some n → n.system ≡ s) → n.system ≡ s
    by true e h more = ap (λ (x : ViewNode). x.system) (sym (same_Some m n h)) ∙ ap (λ (l : List ℕ). record { 0 = l }) (bytes_is m.system.0 s.0 e)
    by false e h more =
        let step : 1 + node_place g s ≡ suc (node_place g s) = omega arith in
        more (subst (λ (i : ℕ). slice_get (m ∷ g) i ≡ Some n) step h)

-- ---- the own node

own_among : (s : SystemId) (c : Claim) (cs : List Claim) → same_system c.system s ≡ true → list_any (λ (d : Claim). same_system d.system s) (put_claim c cs) ≡ true
own_among s c [] h = ap (λ (b : Bool). b || false) h
own_among s c (d ∷ ds) h = by (is_lt (system_order c.system d.system)) (own_among s c ds h)
  where
    by : (b : Bool) → list_any (λ (d : Claim). same_system d.system s) (put_claim c ds) ≡ true → list_any (λ (d : Claim). same_system d.system s) (if b then c ∷ d ∷ ds else d ∷ put_claim c ds) ≡ true
    by true more = ap (λ (b : Bool). b || list_any (λ (d : Claim). same_system d.system s) (d ∷ ds)) h
    by false more = rw more (or-true (same_system d.system s))

any_mapped : {X Y : Type 0} (p : Y → Bool) (f : X → Y) (xs : List X) → list_any p (map f xs) ≡ list_any (λ x. p (f x)) xs
any_mapped p f [] = refl
any_mapped p f (x ∷ xs) = ap (λ (b : Bool). p (f x) || b) (any_mapped p f xs)

bytes_own : (s : SystemId) → same_system s s ≡ true
bytes_own s = bytes_from s.0 s.0 refl

own_within : (r : RouterConf) (up : List Bool) (entries : List Entry) → node_place (view_of r up entries) r.system < length (view_of r up entries)
unfolding view_of claims_of
own_within r up entries =
    let others = map (claim_of entries) (filter (is_other r.system) entries) in
    let known = map (with_known r.kinds) (put_claim (own_claim r up) others) in
    place_within r.system (nodes_of known)
    (any_mapped (λ (n : ViewNode). same_system n.system r.system) (node_of known) known
    ∙ any_mapped (λ (c : Claim). same_system c.system r.system) (with_known r.kinds) (put_claim (own_claim r up) others)
    ∙ own_among r.system (own_claim r up) others (bytes_own r.system))

-- ---- edges to the own node

-- edges lead to systems that list the node's
edges_listed : (P : ℕ → Type 0) (c : Claim) (place : ℕ) (ds : List Claim) → ((k : ℕ) (d : Claim) → slice_get ds k ≡ Some d → lists d c.system ≡ true → P (place + k)) → AllByRecursion (λ (e : ViewEdge). P e.to) (edges_from c place ds)
edges_listed P c place [] each = tt
edges_listed P c place (d ∷ ds) each =
    joined (edge_to c place d) (edges_from c (place + 1) ds)
    (here (lists d c.system) refl (metric_to c.links d.system))
    (edges_listed P c (place + 1) ds (λ k x at h. let e : place + suc k ≡ (place + 1) + k = omega arith in subst P e (each (suc k) x at h)))
  where
    joined : (o : Option ViewEdge) (es : List ViewEdge) → AllByRecursion (λ (e : ViewEdge). P e.to) (option_to_list o) → AllByRecursion (λ (e : ViewEdge). P e.to) es → AllByRecursion (λ (e : ViewEdge). P e.to) (option_to_list o ++ es)
    joined None es h more = more
    joined (Some e) es h more = (h.0, more)

    here : (b : Bool) → lists d c.system ≡ b → (o : Option ℕ) → AllByRecursion (λ (e : ViewEdge). P e.to) (option_to_list (if b then option_map (λ m. record { to = place; metric = m }) o else None))
    here false e o = tt
    here true e None = tt
    here true e (Some m) = (let z : place + 0 ≡ place = omega arith in subst P z (each 0 d refl e), tt)

-- each node is a claim's
pub claim_at : (k cs : List Claim) (x : ℕ) (n : ViewNode) → slice_get (map (node_of k) cs) x ≡ Some n → (c : Claim) × (slice_get cs x ≡ Some c) × (n ≡ node_of k c)
claim_at k [] x n h = cc
claim_at k (c ∷ cs) zero n h = (c, refl, sym (same_Some (node_of k c) n h))
claim_at k (c ∷ cs) (suc x) n h = claim_at k cs x n h

pub node_there : (k cs : List Claim) (x : ℕ) (c : Claim) → slice_get cs x ≡ Some c → slice_get (map (node_of k) cs) x ≡ Some (node_of k c)
node_there k [] x c h = cc
node_there k (d ∷ ds) zero c h = ap (λ (z : Claim). Some (node_of k z)) (same_Some d c h)
node_there k (d ∷ ds) (suc x) c h = node_there k ds x c h

-- an edge to the router's own node comes from a router to which its end is up
abbrev pub ComesOverUp : RouterConf → List Bool → List ViewNode → ViewNode → ViewEdge → Type 0
ComesOverUp r up g n e = e.to ≡ node_place g r.system → (link : ℕ) → end_toward r.ends n.system ≡ Some link → slice_index_or up link false ≡ true

own_comes : (r : RouterConf) (up : List Bool) (entries : List Entry) → AreApart same_peer r.ends → (x : ℕ) (n : ViewNode) → slice_get (view_of r up entries) x ≡ Some n → AllByRecursion (ComesOverUp r up (view_of r up entries) n) n.edges
unfolding view_of
own_comes r up entries apart x n at =
    let known = map (with_known r.kinds) (claims_of r up entries) in
    let g = nodes_of known in
    let c = claim_at known known x n at in
    let P : ℕ → Type 0 = λ p. p ≡ node_place g r.system → (link : ℕ) → end_toward r.ends c.0.system ≡ Some link → slice_index_or up link false ≡ true in
    subst (λ (m : ViewNode). AllByRecursion (ComesOverUp r up g m) m.edges) (sym c.2) (edges_listed P c.0 0 known (listed c.0))
  where
    listed : (c : Claim) (k : ℕ) (d : Claim) → slice_get (map (with_known r.kinds) (claims_of r up entries)) k ≡ Some d → lists d c.system ≡ true
        → 0 + k ≡ node_place (nodes_of (map (with_known r.kinds) (claims_of r up entries))) r.system → (link : ℕ) → end_toward r.ends c.system ≡ Some link → slice_index_or up link false ≡ true
    listed c k d there h is link toward =
        let known = map (with_known r.kinds) (claims_of r up entries) in
        let place : k ≡ node_place (nodes_of known) r.system = omega (arith, is) in
        let node : slice_get (nodes_of known) (node_place (nodes_of known) r.system) ≡ Some (node_of known d) = ap (slice_get (nodes_of known)) (sym place) ∙ node_there known known k d there in
        let system : d.system ≡ r.system = place_has r.system (nodes_of known) (node_of known d) node in
        let links : d.links ≡ map end_link (picked up r.ends) = each_got (IfOwn r.system (λ x. x.links ≡ map end_link (picked up r.ends))) known k d (own_links_only r up entries) there (ap (λ (s : SystemId). same_system s r.system) system ∙ bytes_own r.system) in
        up_end c.system up r.ends link apart (ap (λ (ls : List Link). is_some (metric_to ls c.system)) (sym links) ∙ h) toward

-- ---- the places of the own node

-- A router's own node in a view has its sub-domains of now.
abbrev pub IsOfNow : RouterConf → List ViewNode → Type 0
IsOfNow r g = (n : ViewNode) → slice_get g (node_place g r.system) ≡ Some n → n.subs ≡ places_of r

own_now : (d : DomainConf) → IsConsistent d → (c : Control) → IsTrueControl d.routers c → IsOfNow c.conf (control_view c)
unfolding view_of
own_now d valid c t n at =
    let r = c.conf in
    let known = map (with_known r.kinds) (claims_of r c.flood.up c.entries) in
    let same = own_earlier d valid r t.among in
    let own = claim_at known known (node_place (nodes_of known) r.system) n at in
    let system : own.0.system ≡ r.system = ap (λ (x : ViewNode). x.system) (sym own.2) ∙ place_has r.system (nodes_of known) n at in
    let subs : own.0.subs ≡ known_subs r.kinds (places_of r) = each_got (IfOwn r.system (λ x. x.subs ≡ known_subs r.kinds (places_of r))) known (node_place (nodes_of known) r.system) own.0 (own_subs_only r c.flood.up c.entries) own.1 (ap (λ (s : SystemId). same_system s r.system) system ∙ bytes_own r.system) in
    let each = known_claims d valid r t.among (claims_of r c.flood.up c.entries) (claims_read d.routers r c.flood.up c.entries t.among same t.kept.control.links t.kept.control.entries.in_order t.entries) in
    ap (λ (x : ViewNode). x.subs) own.2
    ∙ ap (λ (s : SystemId). filter (λ (x : ViewSub). not (is_shared known s x.prefix)) own.0.subs) system
    ∙ ap (filter (λ (x : ViewSub). not (is_shared known r.system x.prefix))) (subs ∙ known_places d valid r r r t.among t.among same)
    ∙ kept_places d valid r r t.among same known each

-- ---- all that is known

pub record IsKnown (confs : List RouterConf) (c : Control) (g : List ViewNode) : Type 0 where
  pub graph : IsGraph g
  pub own : node_place g c.conf.system < length g
  pub nodes : AllByRecursion (IsRouterNode confs) g
  pub now : IsOfNow c.conf g
  pub leads : LeadsToEnds c.conf g
  pub comes : (x : ℕ) (n : ViewNode) → slice_get g x ≡ Some n → AllByRecursion (ComesOverUp c.conf c.flood.up g n) n.edges

pub known_of : (d : DomainConf) → IsConsistent d → (c : Control) → IsTrueControl d.routers c → IsKnown d.routers c (control_view c)
known_of d valid c t = record {
  graph = view_is_graph c.conf c.flood.up c.entries t.kept.sound t.kept.control.entries;
  own = own_within c.conf c.flood.up c.entries;
  nodes = nodes_true d valid (control_view c) (view_true d valid c t);
  now = own_now d valid c t;
  leads = own_edges c.conf c.flood.up c.entries;
  comes = own_comes c.conf c.flood.up c.entries t.kept.sound.peers;
}

-- ---- how many nodes

pub length_put : (c : Claim) (cs : List Claim) → length (put_claim c cs) ≡ suc (length cs)
length_put c [] = refl
length_put c (d ∷ ds) = by (is_lt (system_order c.system d.system)) (length_put c ds)
  where
    by : (b : Bool) → length (put_claim c ds) ≡ suc (length ds) → length (if b then c ∷ d ∷ ds else d ∷ put_claim c ds) ≡ suc (length (d ∷ ds))
    by true more = refl
    by false more = ap suc more

fewer : {X : Type 0} (p : X → Bool) (xs : List X) → length (filter p xs) ≤ length xs
fewer p [] = omega arith
fewer {X} p (x ∷ xs) = by (p x) (fewer p xs)
  where
    by : (b : Bool) → length (filter p xs) ≤ length xs → length (if b then x ∷ filter p xs else filter p xs) ≤ length (x ∷ xs)
    by true more = omega (arith, more)
    by false more = omega (arith, more)

view_length : (r : RouterConf) (up : List Bool) (entries : List Entry) → length (view_of r up entries) ≤ length entries + 1
unfolding view_of claims_of
view_length r up entries =
    let others = filter (is_other r.system) entries in
    let known = map (with_known r.kinds) (put_claim (own_claim r up) (map (claim_of entries) others)) in
    omega (
      arith,
      length-map known (node_of known),
      length-map (put_claim (own_claim r up) (map (claim_of entries) others)) (with_known r.kinds),
      length_put (own_claim r up) (map (claim_of entries) others),
      length-map others (claim_of entries),
      fewer (is_other r.system) entries,
    )

-- a view has no more nodes than the domain has routers and one
pub few_nodes : (w : WorldState) (a : ℕ) (c : Control) → IsTruthful w → slice_get w.routers a ≡ Some c → length (control_view c) ≤ length w.domain.routers + 1
few_nodes w a c truth at =
    let t = each_got (IsTrueControl (confs_now w)) w.routers a c truth.controls at in
    let few = entries_few (confs_now w) c.entries t.kept.control.entries.in_order t.entries in
    let long = length_stripped w.domain.routers (confs_now w) (same_stripped w.domain.routers (confs_now w) truth.become) in
    omega (arith, view_length c.conf c.flood.up c.entries, few, long)
