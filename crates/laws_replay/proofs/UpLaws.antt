-- Where a topology that a router's own LSDB describes has an edge from or to the router, the interface there is up.
use Rattle.std.proofs.Common.{◌≡◌, ℕ, zero, suc, ◌+◌, Bool, true, false, if◌then◌else◌, List, [], ◌∷◌, ◌++◌, map, Contains, slice_get, is_some, Option, Some, None, option_map, refl, sym, ap, subst, arith}
use Rattle.std.specs.Prelude.{option_to_list}
use Rattle.std.specs.List.{AllByRecursion}
use Rattle.std.proofs.lemmas.Option.{same_Some}
use Rattle.wire_base.specs.declared.addresses.SystemId.{SystemId}
use Rattle.wire_base.specs.declared.entry.Entry.{Entry}
use Rattle.wire_base.specs.declared.conf.RouterConf.{RouterConf}
use Rattle.wire_base.specs.declared.view.ViewEdge.{ViewEdge}
use Rattle.wire_base.specs.declared.view.ViewNode.{ViewNode}
use Rattle.wire_base.specs.model.Control.{Control}
use Rattle.wire_base.specs.model.OnFrame.{node_place}
use Rattle.wire_base.specs.model.View.{Claim, claims_of, edge_to, edges_from, lists, metric_to, node_of, view_of, control_view, with_known}
use Rattle.domain_model.specs.World.{WorldState}
use Rattle.domain_model.specs.Truth.{IsTrueControl, IsTruthful, confs_now, domain_now}
use Rattle.domain_model.proofs.EachLaws.{each_got}
use Rattle.laws_course.proofs.KnownLaws.{each_contained, place_has, ComesOverUp, known_of, claim_at, node_there}
use Rattle.laws_replay.specs.Paths.{IsUpToward}

-- ---- edges of claims

some_is : (o : Option ℕ) → is_some o ≡ true → (m : ℕ) × (o ≡ Some m)
some_is None h = absurd (differ h)
  where
    differ : false ≡ true → ⊥
    differ e = cc
some_is (Some m) h = (m, refl)

-- both systems of an edge list each other
edges_mutual : (P : ℕ → Type 0) (c : Claim) (place : ℕ) (ds : List Claim) → ((k : ℕ) (d : Claim) → slice_get ds k ≡ Some d → lists d c.system ≡ true → lists c d.system ≡ true → P (place + k))
    → AllByRecursion (λ (e : ViewEdge). P e.to) (edges_from c place ds)
edges_mutual P c place [] each = tt
edges_mutual P c place (d ∷ ds) each =
    joined (edge_to c place d) (edges_from c (place + 1) ds)
    (here (lists d c.system) refl (metric_to c.links d.system) refl)
    (edges_mutual P c (place + 1) ds (λ k x at h back. let e : place + suc k ≡ (place + 1) + k = omega arith in subst P e (each (suc k) x at h back)))
  where
    joined : (o : Option ViewEdge) (es : List ViewEdge) → AllByRecursion (λ (e : ViewEdge). P e.to) (option_to_list o) → AllByRecursion (λ (e : ViewEdge). P e.to) es → AllByRecursion (λ (e : ViewEdge). P e.to) (option_to_list o ++ es)
    joined None es h more = more
    joined (Some e) es h more = (h.0, more)

    here : (b : Bool) → lists d c.system ≡ b → (o : Option ℕ) → metric_to c.links d.system ≡ o → AllByRecursion (λ (e : ViewEdge). P e.to) (option_to_list (if b then option_map (λ m. record { to = place; metric = m }) o else None))
    here false e o is = tt
    here true e None is = tt
    here true e (Some m) is = (let z : place + 0 ≡ place = omega arith in subst P z (each 0 d refl e (ap is_some is)), tt)

-- and where they do, there is an edge
edge_there : (P : ViewEdge → Type 0) (d : Claim) (place : ℕ) (cs : List Claim) (k : ℕ) (c : Claim) → slice_get cs k ≡ Some c → lists c d.system ≡ true → lists d c.system ≡ true
    → AllByRecursion P (edges_from d place cs) → (m : ℕ) × P (record { to = place + k; metric = m })
edge_there P d place [] k c at there back all = cc
edge_there P d place (x ∷ xs) zero c at there back all =
    let same : x ≡ c = same_Some x c at in
    let metric = some_is (metric_to d.links x.system) (subst (λ (y : Claim). lists d y.system ≡ true) (sym same) back) in
    let z : place ≡ place + 0 = omega arith in
    (metric.0, subst (λ (p : ℕ). P (record { to = p; metric = metric.0 })) z (first (lists x d.system) (metric_to d.links x.system) (subst (λ (y : Claim). lists y d.system ≡ true) (sym same) there) metric.0 metric.1 all))
  where
    first : (b : Bool) (o : Option ℕ) → b ≡ true → (m : ℕ) → o ≡ Some m
        → AllByRecursion P (option_to_list (if b then option_map (λ m. record { to = place; metric = m }) o else None) ++ edges_from d (place + 1) xs) → P (record { to = place; metric = m })
    first b o yes_listed m is all = (subst (λ (q : Option ℕ). AllByRecursion P (option_to_list (option_map (λ m. record { to = place; metric = m }) q) ++ edges_from d (place + 1) xs)) is
        (subst (λ (c : Bool). AllByRecursion P (option_to_list (if c then option_map (λ m. record { to = place; metric = m }) o else None) ++ edges_from d (place + 1) xs)) yes_listed all)).0
edge_there P d place (x ∷ xs) (suc k) c at there back all =
    let more = edge_there P d (place + 1) xs k c at there back (later (edge_to d place x) (edges_from d (place + 1) xs) all) in
    let z : (place + 1) + k ≡ place + suc k = omega arith in
    (more.0, subst (λ (p : ℕ). P (record { to = p; metric = more.0 })) z more.1)
  where
    later : (o : Option ViewEdge) (es : List ViewEdge) → AllByRecursion P (option_to_list o ++ es) → AllByRecursion P es
    later None es all = all
    later (Some e) es all = all.1

-- so an edge leads back
edge_back : (r : RouterConf) (up : List Bool) (entries : List Entry) (P : ViewNode → ViewEdge → Type 0) → ((x : ℕ) (n : ViewNode) → slice_get (view_of r up entries) x ≡ Some n → AllByRecursion (P n) n.edges)
    → (x y : ℕ) (n : ViewNode) (e : ViewEdge) → slice_get (view_of r up entries) x ≡ Some n → Contains n.edges e → e.to ≡ y
    → (m : ViewNode) × (slice_get (view_of r up entries) y ≡ Some m) × ((metric : ℕ) × P m (record { to = x; metric = metric }))
unfolding view_of
edge_back r up entries P all x y n e at has to =
    let known = map (with_known r.kinds) (claims_of r up entries) in
    let from = claim_at known known x n at in
    let Q : ℕ → Type 0 = λ p. p ≡ y → (d : Claim) × (slice_get known y ≡ Some d) × (lists d from.0.system ≡ true) × (lists from.0 d.system ≡ true) in
    let each : AllByRecursion (λ (f : ViewEdge). Q f.to) (edges_from from.0 0 known) =
    edges_mutual Q from.0 0 known (λ k d there listed lists_it is. let z : k ≡ y = omega (arith, is) in (d, subst (λ (p : ℕ). slice_get known p ≡ Some d) z there, listed, lists_it)) in
    let held : Contains (edges_from from.0 0 known) e = subst (λ (m : ViewNode). Contains m.edges e) from.2 has in
    let other = each_contained (λ (f : ViewEdge). Q f.to) (edges_from from.0 0 known) e each held to in
    let node = node_there known known y other.0 other.1 in
    let back = edge_there (P (node_of known other.0)) other.0 0 known x from.0 from.1 other.3 other.2 (all y (node_of known other.0) node) in
    let z : 0 + x ≡ x = omega arith in
    (node_of known other.0, node, (back.0, subst (λ (p : ℕ). P (node_of known other.0) (record { to = p; metric = back.0 })) z back.1))

-- ---- routers

module _ (w : WorldState) (truth : IsTruthful w) where
  -- the router at the head of an edge of its topology
  comes_up : (b : ℕ) (c : Control) (x : ℕ) (n : ViewNode) (e : ViewEdge) → slice_get w.routers b ≡ Some c → slice_get (control_view c) x ≡ Some n → Contains n.edges e
      → e.to ≡ node_place (control_view c) c.conf.system → IsUpToward c n.system
  comes_up b c x n e there at has to =
      let t = each_got (IsTrueControl (confs_now w)) w.routers b c truth.controls there in
      let known = known_of (domain_now w) truth.now c t in
      each_contained (ComesOverUp c.conf c.flood.up (control_view c) n) n.edges e (known.comes x n at) has to

  -- the router at its tail
  leaves_up : (a : ℕ) (c : Control) (s : SystemId) (n : ViewNode) (e : ViewEdge) → slice_get w.routers a ≡ Some c → slice_get (control_view c) (node_place (control_view c) c.conf.system) ≡ Some n
      → Contains n.edges e → e.to ≡ node_place (control_view c) s → IsUpToward c s
  leaves_up a c s n e there at has to =
      let t = each_got (IsTrueControl (confs_now w)) w.routers a c truth.controls there in
      let known = known_of (domain_now w) truth.now c t in
      let back = edge_back c.conf c.flood.up c.entries (ComesOverUp c.conf c.flood.up (control_view c)) known.comes (node_place (control_view c) c.conf.system) (node_place (control_view c) s) n e at has to in
      let system : back.0.system ≡ s = place_has s (control_view c) back.0 back.1 in
      subst (IsUpToward c) system (back.2.1 refl)

  pub both_up : (g : List ViewNode) (a b : ℕ) (ca cb : Control) (n : ViewNode) (e : ViewEdge) → slice_get w.routers a ≡ Some ca → slice_get w.routers b ≡ Some cb → control_view ca ≡ g → control_view cb ≡ g
      → slice_get g (node_place g ca.conf.system) ≡ Some n → Contains n.edges e → e.to ≡ node_place g cb.conf.system → IsUpToward ca cb.conf.system × IsUpToward cb ca.conf.system
  both_up g a b ca cb n e at_a at_b view_a view_b node has to =
      let system : n.system ≡ ca.conf.system = place_has ca.conf.system g n node in (
        leaves_up a ca cb.conf.system n e at_a (subst (λ (v : List ViewNode). slice_get v (node_place v ca.conf.system) ≡ Some n) (sym view_a) node) has (subst (λ (v : List ViewNode). e.to ≡ node_place v cb.conf.system) (sym view_a) to),
        subst (IsUpToward cb) system
            (comes_up b cb (node_place g ca.conf.system) n e at_b (subst (λ (v : List ViewNode). slice_get v (node_place g ca.conf.system) ≡ Some n) (sym view_b) node) has (subst (λ (v : List ViewNode). e.to ≡ node_place v cb.conf.system) (sym view_b) to)),
      )
