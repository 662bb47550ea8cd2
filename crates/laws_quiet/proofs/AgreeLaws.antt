-- In a quiet domain all routers to which a path leads have the same topology.
use Rattle.std.proofs.Common.{◌≡◌, ℕ, ◌-◌, true, false, List, [], ◌∷◌, length, map, filter, Contains, slice_get, is_some, Option, Some, None, option_map, inl, inr, refl, sym, ap, subst, ◌∙◌}
use Rattle.std.specs.Prelude.{◌⊎◌}
use Rattle.std.proofs.lemmas.Option.{same_Some, slice_get-map}
use Rattle.wire_base.specs.declared.addresses.SystemId.{SystemId}
use Rattle.wire_base.specs.declared.conf.LinkConf.{LinkConf}
use Rattle.wire_base.specs.declared.conf.RouterConf.{RouterConf}
use Rattle.wire_base.specs.declared.entry.Entry.{Entry}
use Rattle.wire_base.specs.declared.view.ViewEdge.{ViewEdge}
use Rattle.wire_base.specs.declared.view.ViewNode.{ViewNode}
use Rattle.wire_base.specs.model.Control.{AreAscending, Control, ids_of}
use Rattle.wire_base.specs.model.Graph.{edges_of, edges_at}
use Rattle.wire_base.specs.model.OnFrame.{node_place}
use Rattle.wire_base.specs.model.OwnLsp.{picked}
use Rattle.wire_base.specs.model.View.{control_view, end_link, metric_to, nodes_of, with_known}
use Rattle.wire_base.specs.model.Walk.{Leads, dist}
use Rattle.laws_route.proofs.DescentLemmas.{edge-within}
use Rattle.laws_route.proofs.WalkLemmas.{best-route}
use Rattle.laws_router.specs.State.{IssuesAlone}
use Rattle.domain_model.specs.Faults.{is_up_toward}
use Rattle.domain_model.specs.Truth.{IsTrueControl, IsTruthful, confs_now, domain_now}
use Rattle.domain_model.specs.World.{WorldState}
use Rattle.domain_model.proofs.DomainLaws.{alike, system_place}
use Rattle.domain_model.proofs.EachLaws.{each_got}
use Rattle.domain_model.proofs.QueueLaws.{get_mapped}
use Rattle.laws_course.specs.Course.{Agreed, own_node}
use Rattle.laws_course.proofs.KnownLaws.{known_of, place_has}
use Rattle.laws_course.proofs.NodeLaws.{node_some, place_is, router_at}
use Rattle.quiet_domain.specs.Live.{AreSameLive}
use Rattle.laws_quiet.specs.Quiet.{AreIssuers, IsQuiet, IsQuietLink, lsdb_at}
use Rattle.laws_quiet.proofs.OwnLaws.{HasOwnLsp, own_links_are, own_lsp_of}
use Rattle.laws_quiet.proofs.SaidLaws.{claims_in, is_first, said_in, same_said}
use Rattle.laws_quiet.proofs.EdgeLaws.{leaves}
use Rattle.laws_quiet.proofs.SameLaws.{same_topology, view_said}
use Rattle.laws_quiet.proofs.UpLaws.{is_toward, link_of, some_up}

same_lists : {a b c d : List Entry} → a ≡ c → b ≡ d → AreSameLive a b → AreSameLive c d
same_lists {a} {b} {c} {d} p q h = subst (λ (x : List Entry). AreSameLive x d) p (subst (λ (y : List Entry). AreSameLive a y) q h)

module _ (w : WorldState) (truth : IsTruthful w) (issuers : AreIssuers w.routers) (quiet : IsQuiet w) where
  -- all that is known of a router
  record IsHere (a : ℕ) (c : Control) : Type 0 where
    at : slice_get w.routers a ≡ Some c
    conf : slice_get (confs_now w) a ≡ Some c.conf
    control : IsTrueControl (confs_now w) c
    own : HasOwnLsp c.conf c.flood.up c.entries

  here : (a : ℕ) (c : Control) → slice_get w.routers a ≡ Some c → IsHere a c
  here a c at =
      let control = each_got (IsTrueControl (confs_now w)) w.routers a c truth.controls at in
      record {
        at = at;
        conf = get_mapped (λ (x : Control). x.conf) w.routers a c at;
        control = control;
        own = own_lsp_of c control.kept (each_got IssuesAlone w.routers a c issuers at) (each_got (λ (x : Control). x.spent ≡ false) w.routers a c quiet.unspent at);
      }

  asc : (a : ℕ) (c : Control) → IsHere a c → AreAscending (ids_of c.entries)
  asc a c h = h.control.kept.control.entries.in_order

  view_by : (a : ℕ) (c : Control) → IsHere a c → control_view c ≡ nodes_of (map (with_known c.conf.kinds) (claims_in c.entries))
  view_by a c h = view_said c h.control.kept.sound (asc a c h) h.own

  lsdb_is : (a : ℕ) (c : Control) → slice_get w.routers a ≡ Some c → lsdb_at w a ≡ c.entries
  lsdb_is a c at = rw at refl

  -- across a link that is up the topology is the same
  across : (a b : ℕ) (c d : Control) → IsHere a c → IsHere b d → is_up_toward w a b ≡ true → (l : LinkConf) → IsQuietLink w l → ((l.a ≡ a) × (l.b ≡ b)) ⊎ ((l.a ≡ b) × (l.b ≡ a)) → control_view d ≡ control_view c
  across a b c d h k up l q ends =
      let kinds : d.conf.kinds ≡ c.conf.kinds = (alike (domain_now w) truth.now c.conf d.conf h.control.among k.control.among).kinds in
      same_topology d c k.control.kept.sound h.control.kept.sound (asc b d k) (asc a c h) k.own h.own kinds (same ends)
    where
      same : ((l.a ≡ a) × (l.b ≡ b)) ⊎ ((l.a ≡ b) × (l.b ≡ a)) → said_in d.entries ≡ said_in c.entries
      same (inl e) =
          let toward : is_up_toward w l.a l.b ≡ true = ap (λ (n : ℕ). is_up_toward w n l.b) e.0 ∙ ap (is_up_toward w a) e.1 ∙ up in
          let left : lsdb_at w l.a ≡ c.entries = ap (lsdb_at w) e.0 ∙ lsdb_is a c h.at in
          let right : lsdb_at w l.b ≡ d.entries = ap (lsdb_at w) e.1 ∙ lsdb_is b d k.at in
          sym (same_said c.entries d.entries (asc a c h) (asc b d k) (same_lists left right (q.same toward)))
      same (inr e) =
          let back : is_up_toward w l.b l.a ≡ true = ap (λ (n : ℕ). is_up_toward w n l.a) e.1 ∙ ap (is_up_toward w a) e.0 ∙ up in
          let left : lsdb_at w l.a ≡ d.entries = ap (lsdb_at w) e.0 ∙ lsdb_is b d k.at in
          let right : lsdb_at w l.b ≡ c.entries = ap (lsdb_at w) e.1 ∙ lsdb_is a c h.at in
          same_said d.entries c.entries (asc b d k) (asc a c h) (same_lists left right (q.same (q.whole ∙ back)))

  -- one edge of the topology
  record IsNextView (g : List ViewNode) (y : ℕ) : Type 0 where
    place : ℕ
    control : Control
    at : slice_get w.routers place ≡ Some control
    node : node_place g control.conf.system ≡ y
    view : control_view control ≡ g

  -- the router that has a configuration of now
  router_of : (place : ℕ) (r : RouterConf) → slice_get (confs_now w) place ≡ Some r → (d : Control) × (slice_get w.routers place ≡ Some d) × (d.conf ≡ r)
  router_of place r at = by (slice_get w.routers place) refl (sym (slice_get-map (λ (x : Control). x.conf) w.routers place) ∙ at)
    where
      by : (o : Option Control) → slice_get w.routers place ≡ o → option_map (λ (x : Control). x.conf) o ≡ Some r → (d : Control) × (slice_get w.routers place ≡ Some d) × (d.conf ≡ r)
      by None q e = cc
      by (Some d) q e = (d, q, same_Some d.conf r e)

  own_edge : (a : ℕ) (c : Control) → slice_get w.routers a ≡ Some c → (e : ViewEdge) → Contains (edges_of (control_view c) (node_place (control_view c) c.conf.system)) e → IsNextView (control_view c) e.to
  own_edge a c at e has =
      let h = here a c at in
      let k = known_of (domain_now w) truth.now c h.control in
      let g = control_view c in
      let within = (edge-within g k.graph (node_place g c.conf.system) e has).names in
      let r = router_at (domain_now w) truth.now g k.graph k.nodes e.to within in
      let n = node_some g (node_place g c.conf.system) k.own in
      let there : Contains n.0.edges e = subst (λ (o : Option ViewNode). Contains (edges_at o) e) n.1 has in
      let sound = h.control.kept.sound in
      let links = own_links_are c.conf c.flood.up c.entries sound (asc a c h) h.own in
      let listed = leaves c.conf.kinds c.entries (filter is_first c.entries) c.conf.system (map end_link (picked c.flood.up c.conf.ends)) links g (view_by a c h) n.0 n.1 e there r.node r.there in
      let up = some_up c.flood.up c.conf.ends r.router.system (subst (λ (s : SystemId). is_some (metric_to (map end_link (picked c.flood.up c.conf.ends)) s) ≡ true) r.system listed) in
      let d = router_of r.place r.router r.at in
      let l = link_of w truth a r.place c r.router at h.conf r.at up (IsQuietLink w) quiet.links in
      let toward = is_toward w truth a r.place c r.router at h.conf r.at up in
      record {
        place = r.place;
        control = d.0;
        at = d.1;
        node = ap (λ (q : RouterConf). node_place g q.system) d.2 ∙ ap (node_place g) (sym r.system) ∙ place_is g k.graph e.to r.node r.there;
        view = across a r.place c d.0 h (here r.place d.0 d.1) toward l.link l.has l.ends;
      }

  one_edge : (g : List ViewNode) (a : ℕ) (c : Control) → slice_get w.routers a ≡ Some c → control_view c ≡ g → (e : ViewEdge) → Contains (edges_of g (node_place g c.conf.system)) e → IsNextView g e.to
  one_edge g a c at view = subst (λ (v : List ViewNode). (e : ViewEdge) → Contains (edges_of v (node_place v c.conf.system)) e → IsNextView v e.to) view (own_edge a c at)

  -- at one node of its topology there is one router
  one_router : (a b : ℕ) (c d : Control) → slice_get w.routers a ≡ Some c → slice_get w.routers b ≡ Some d → node_place (control_view c) c.conf.system ≡ node_place (control_view c) d.conf.system → control_view d ≡ control_view c
  one_router a b c d at there same =
      let h = here a c at in
      let k = here b d there in
      let g = control_view c in
      let n = node_some g (node_place g c.conf.system) (known_of (domain_now w) truth.now c h.control).own in
      let mine : n.0.system ≡ c.conf.system = place_has c.conf.system g n.0 n.1 in
      let its : n.0.system ≡ d.conf.system = place_has d.conf.system g n.0 (ap (slice_get g) (sym same) ∙ n.1) in
      let place : b ≡ a = system_place (domain_now w) truth.now b a d.conf c.conf k.conf h.conf (sym its ∙ mine) in
      ap control_view (same_Some d c (sym there ∙ ap (slice_get w.routers) place ∙ at))

  along : (g : List ViewNode) (a : ℕ) (c : Control) → slice_get w.routers a ≡ Some c → control_view c ≡ g → (es : List ViewEdge) (b : ℕ) (d : Control) → slice_get w.routers b ≡ Some d → Leads g (node_place g c.conf.system) (node_place g d.conf.system) es → control_view d ≡ g
  along g a c at view [] b d there leads =
      one_router a b c d at there (subst (λ (v : List ViewNode). node_place v c.conf.system ≡ node_place v d.conf.system) (sym view) leads) ∙ view
  along g a c at view (e ∷ es) b d there leads =
      let next = one_edge g a c at view e leads.0 in
      along g next.place next.control next.at next.view es b d there (subst (λ (x : ℕ). Leads g x (node_place g d.conf.system) es) (sym next.node) leads.2)

  pub agreed : (a : ℕ) (c : Control) → slice_get w.routers a ≡ Some c → Agreed w (control_view c) (own_node c)
  unfolding dist
  agreed a c at = λ b n d there path.
      let r = best-route (control_view c) (node_place (control_view c) d.conf.system) (length (control_view c) - 1) (own_node c) n path in
      along (control_view c) a c at refl r.edges b d there r.leads
