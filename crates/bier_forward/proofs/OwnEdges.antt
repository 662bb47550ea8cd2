-- In a router's view each edge of its own node leads to the peer of one of its ends.
use mathlib.Core.Bool.{false≢true, true≢false}
use Rattle.std.proofs.Common.{◌≡◌, ℕ, suc, ◌+◌, ◌&&◌, not, Bool, true, false, List, [], ◌∷◌, ◌++◌, filter, map, Option, Some, None, is_some, option_and_then, option_map, slice_get, cond, refl, sym, ap, subst, ◌∙◌, arith, if◌then◌else◌}
use Rattle.std.specs.Prelude.{option_to_list}
use Rattle.std.specs.List.{AllByRecursion}
use Rattle.std.specs.Ordering.{is_lt}
use Rattle.std.proofs.lemmas.Option.{slice_get-map}
use Rattle.wire_base.specs.declared.addresses.SystemId.{SystemId}
use Rattle.wire_base.specs.declared.conf.End.{End}
use Rattle.wire_base.specs.declared.conf.RouterConf.{RouterConf}
use Rattle.wire_base.specs.declared.entry.Entry.{Entry}
use Rattle.wire_base.specs.declared.view.ViewEdge.{ViewEdge}
use Rattle.wire_base.specs.declared.view.ViewNode.{ViewNode}
use Rattle.wire_base.specs.model.Choice.{end_toward}
use Rattle.wire_base.specs.model.Control.{same_system, system_order}
use Rattle.wire_base.specs.model.Graph.{edges_of}
use Rattle.wire_base.specs.model.OnFrame.{link_to, node_place}
use Rattle.wire_base.specs.model.OwnLsp.{picked}
use Rattle.wire_base.specs.model.View.{Claim, claim_of, claims_of, edge_to, edges_from, end_link, is_other, least_of, lists, metric_to, node_of, own_claim, put_claim, view_of, with_known}
use Rattle.bier_forward.specs.Packets.{LeadsToEnds}
use Rattle.bier_forward.proofs.DueLaws.{all-map}

-- ---- links and ends

-- a link that the router claims has an end
has-end : (s : SystemId) (up : List Bool) (ends : List End) → is_some (metric_to (map end_link (picked up ends)) s) ≡ true → is_some (end_toward ends s) ≡ true
has-end s [] [] h = absurd (false≢true h)
has-end s [] (e ∷ ends) h = absurd (false≢true h)
has-end s (b ∷ up) [] h = absurd (false≢true h)
has-end s (true ∷ up) (e ∷ ends) h = by (same_system e.peer s) h (has-end s up ends)
  where
    by : (b : Bool) → is_some (if b then Some (least_of e.metric (metric_to (map end_link (picked up ends)) s)) else metric_to (map end_link (picked up ends)) s) ≡ true → (is_some (metric_to (map end_link (picked up ends)) s) ≡ true → is_some (end_toward ends s) ≡ true)
        → is_some (if b then Some 0 else option_map (λ n. n + 1) (end_toward ends s)) ≡ true
    by true h more = refl
    by false h more = one-more (end_toward ends s) (more h)
      where
        one-more : (o : Option ℕ) → is_some o ≡ true → is_some (option_map (λ n. n + 1) o) ≡ true
        one-more None h = h
        one-more (Some n) h = refl
has-end s (false ∷ up) (e ∷ ends) h = later (same_system e.peer s) (end_toward ends s) (has-end s up ends h)
  where
    later : (b : Bool) (o : Option ℕ) → is_some o ≡ true → is_some (if b then Some 0 else option_map (λ n. n + 1) o) ≡ true
    later true o h = refl
    later false None h = absurd (false≢true h)
    later false (Some n) h = refl

-- ---- edges

-- edges lead to systems to which the claim has a link
pub edges-lead : (P : ℕ → Type 0) (c : Claim) (place : ℕ) (ds : List Claim) → ((k : ℕ) (d : Claim) → slice_get ds k ≡ Some d → is_some (metric_to c.links d.system) ≡ true → P (place + k))
    → AllByRecursion (λ (e : ViewEdge). P e.to) (edges_from c place ds)
edges-lead P c place [] each = tt
edges-lead P c place (d ∷ ds) each =
    joined (edge_to c place d) (edges_from c (place + 1) ds)
    (here (lists d c.system) (metric_to c.links d.system) refl)
    (edges-lead P c (place + 1) ds (λ k x at h. let e : place + suc k ≡ (place + 1) + k = omega arith in subst P e (each (suc k) x at h)))
  where
    joined : (o : Option ViewEdge) (es : List ViewEdge) → AllByRecursion (λ (e : ViewEdge). P e.to) (option_to_list o) → AllByRecursion (λ (e : ViewEdge). P e.to) es → AllByRecursion (λ (e : ViewEdge). P e.to) (option_to_list o ++ es)
    joined None es h more = more
    joined (Some e) es h more = (h.0, more)

    here : (b : Bool) (o : Option ℕ) → metric_to c.links d.system ≡ o → AllByRecursion (λ (e : ViewEdge). P e.to) (option_to_list (if b then option_map (λ m. record { to = place; metric = m }) o else None))
    here false o e = tt
    here true None e = tt
    here true (Some m) e = (let z : place + 0 ≡ place = omega arith in subst P z (each 0 d refl (ap is_some e)), tt)

-- ---- the own node

-- what holds of the edges of each node of a system holds of those of the first
first-of : (Q : List ViewEdge → Type 0) → Q [] → (s : SystemId) (g : List ViewNode) → AllByRecursion (λ n. same_system n.system s ≡ true → Q n.edges) g → Q (edges_of g (node_place g s))
first-of Q none s [] all = none
first-of Q none s (n ∷ g) all = by (same_system n.system s) refl (first-of Q none s g all.1)
  where
    by : (b : Bool) → same_system n.system s ≡ b → Q (edges_of g (node_place g s)) → Q (edges_of (n ∷ g) (if b then 0 else 1 + node_place g s))
    by true e more = all.0 e
    by false e more = let step : suc (node_place g s) ≡ 1 + node_place g s = omega arith in subst (λ (k : ℕ). Q (edges_of (n ∷ g) k)) step more

all-put : (P : Claim → Type 0) (c : Claim) (cs : List Claim) → P c → AllByRecursion P cs → AllByRecursion P (put_claim c cs)
all-put P c [] h all = (h, tt)
all-put P c (d ∷ ds) h all = by (is_lt (system_order c.system d.system)) (all-put P c ds h all.1)
  where
    by : (b : Bool) → AllByRecursion P (put_claim c ds) → AllByRecursion P (if b then c ∷ d ∷ ds else d ∷ put_claim c ds)
    by true more = (h, all)
    by false more = (all.0, more)

-- the claims of other systems
all-others : (P : Claim → Type 0) (own : SystemId) (entries every : List Entry) → ((c : Claim) → same_system c.system own ≡ false → P c) → AllByRecursion P (map (claim_of every) (filter (is_other own) entries))
all-others P own [] every h = tt
all-others P own (e ∷ entries) every h = by (is_other own e) refl (all-others P own entries every h)
  where
    other : (a b : Bool) → (not a && b) ≡ true → a ≡ false
    other true b q = absurd (false≢true q)
    other false b q = refl

    by : (b : Bool) → is_other own e ≡ b → AllByRecursion P (map (claim_of every) (filter (is_other own) entries)) → AllByRecursion P (map (claim_of every) (cond b (e ∷ filter (is_other own) entries) (filter (is_other own) entries)))
    by true q more = (h (claim_of every e) (other (same_system e.id.system own) _ q), more)
    by false q more = more

pub own_edges : (r : RouterConf) (up : List Bool) (entries : List Entry) → LeadsToEnds r (view_of r up entries)
unfolding view_of claims_of
own_edges r up entries =
    first-of (λ (es : List ViewEdge). AllByRecursion (λ (e : ViewEdge). is_some (link_to r g e.to) ≡ true) es) tt r.system g
    (all-map (λ (n : ViewNode). same_system n.system r.system ≡ true → AllByRecursion (λ (e : ViewEdge). is_some (link_to r g e.to) ≡ true) n.edges) (node_of known) known
    (all-map (λ (c : Claim). same_system c.system r.system ≡ true → AllByRecursion (λ (e : ViewEdge). is_some (link_to r g e.to) ≡ true) (edges_from c 0 known)) (with_known r.kinds) (put_claim (own_claim r up) (map (claim_of entries) (filter (is_other r.system) entries)))
    (all-put (λ (c : Claim). same_system c.system r.system ≡ true → AllByRecursion (λ (e : ViewEdge). is_some (link_to r g e.to) ≡ true) (edges_from (with_known r.kinds c) 0 known)) (own_claim r up) (map (claim_of entries) (filter (is_other r.system) entries))
    (λ same. edges-lead (λ (x : ℕ). is_some (link_to r g x) ≡ true) (with_known r.kinds (own_claim r up)) 0 known leads)
    (all-others (λ (c : Claim). same_system c.system r.system ≡ true → AllByRecursion (λ (e : ViewEdge). is_some (link_to r g e.to) ≡ true) (edges_from (with_known r.kinds c) 0 known)) r.system entries entries (λ c other same. absurd (true≢false (sym same ∙ other)))))))
  where
    known : List Claim
    known = map (with_known r.kinds) (put_claim (own_claim r up) (map (claim_of entries) (filter (is_other r.system) entries)))

    g : List ViewNode
    g = map (node_of known) known

    leads : (k : ℕ) (d : Claim) → slice_get known k ≡ Some d → is_some (metric_to (own_claim r up).links d.system) ≡ true → is_some (link_to r g (0 + k)) ≡ true
    leads k d at h =
        let node : slice_get g k ≡ Some (node_of known d) = slice_get-map (node_of known) known k ∙ ap (option_map (node_of known)) at in
        let place : k ≡ 0 + k = omega arith in
        ap (λ (x : ℕ). is_some (link_to r g x)) (sym place) ∙ ap (λ (o : Option ViewNode). is_some (option_and_then (λ n. end_toward r.ends n.system) o)) node ∙ has-end d.system up r.ends h
