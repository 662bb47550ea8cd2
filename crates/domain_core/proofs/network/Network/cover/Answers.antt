use Rattle.std.proofs.Common.{◌≡◌, ◌%◌, ℕ, List, length, map, None, Ok, sym, ap, subst, ◌∙◌, arith}
use Rattle.wire_base.specs.declared.conf.RouterConf.{RouterConf}
use Rattle.wire_base.specs.declared.view.ViewNode.{ViewNode}
use Rattle.wire_base.specs.model.Ingress.{edge_fault}
use Rattle.wire_base.specs.model.OnFrame.{node_place}
use Rattle.wire_base.specs.model.View.{control_view}
use Rattle.bfr_edge.specs.Entry.{Refuses, positions_in}
use Rattle.bfr_edge.proofs.GroupLaws.{allowed}
use Rattle.laws_router.specs.State.{RouterState}
use Rattle.laws_course.specs.Course.{own_node}
use Rattle.domain_model.proofs.QueueLaws.{get_mapped}
use Rattle.domain_core.specs.Cover.{EntryPoint, entry_at, reached_by}
use Rattle.domain_core.specs.Held.{world_in}
use Rattle.domain_core.proofs.CoverLaws.{cover_found, cover_refused, each_fits, own_there, packets_reach}
use Rattle.domain_core.proofs.TurnLaws.{router_there}
use Rattle.domain_core.proofs.network.Network.cover.Goals as goal

pub returns-in-Err : goal.returns-in-Err
returns-in-Err c =
    let r = c.index-at.result.now in
    let there = get_mapped (λ (x : RouterState). x.control) c.args.self.now.routers.items c.args.router r (router_there c.args.self.now.routers.items c.from.result c.args.router r c.from.ensures c.requires.place c.index-at.ensures) in
    cover_refused (world_in c.args.self.now) c.args.router r.control there c.args.sd c.args.bsl c.args.ids.now c.args.ttl c.args.entropy c.in-Err.fault
    (subst (λ (q : RouterConf). Refuses (edge_fault q c.args.sd c.args.bsl c.args.ids.now) c.in-Err.fault) c.conf-conf.ensures.conf c.in-Err.ensures.refused)

pub unreachable-requires : goal.unreachable-requires
unreachable-requires c =
    let r = c.index-at.result.now in
    let there = get_mapped (λ (x : RouterState). x.control) c.args.self.now.routers.items c.args.router r (router_there c.args.self.now.routers.items c.from.result c.args.router r c.from.ensures c.requires.place c.index-at.ensures) in
    let seen : c.as_slice.result.now ≡ control_view r.control = c.as_slice.ensures.nodes ∙ c.in_ok-view.ensures in
    let same : node_place c.as_slice.result.now c.conf-conf.result.now.system ≡ own_node r.control = λ i. node_place (seen i) (c.conf-conf.ensures.conf i).system in
    let many : length c.as_slice.result.now ≡ length (control_view r.control) = ap (λ (g : List ViewNode). length g) seen in
    let own = own_there (world_in c.args.self.now) c.requires.truth.truth c.args.router r.control there in
    let past : node_place c.as_slice.result.now c.conf-conf.result.now.system ≡ length c.as_slice.result.now = c.in_default.ensures in
    omega (arith, own, same, many, past)

pub returns : goal.returns
returns c =
    let r = c.index-at.result.now in
    let there = get_mapped (λ (x : RouterState). x.control) c.args.self.now.routers.items c.args.router r (router_there c.args.self.now.routers.items c.from.result c.args.router r c.from.ensures c.requires.place c.index-at.ensures) in
    let conf : c.conf-conf.result.now ≡ r.control.conf = c.conf-conf.ensures.conf in
    let nodes : c.in_ok-view.view.nodes ≡ control_view r.control = c.in_ok-view.ensures in
    let seen : c.as_slice.result.now ≡ control_view r.control = c.as_slice.ensures.nodes ∙ nodes in
    let own : c.in-Some.own ≡ own_node r.control = sym c.in-Some.ensures.0 ∙ (λ i. node_place (seen i) (conf i).system) in
    let none : edge_fault r.control.conf c.args.sd c.args.bsl c.args.ids.now ≡ None = subst (λ (q : RouterConf). edge_fault q c.args.sd c.args.bsl c.args.ids.now ≡ None) conf c.in-Ok.ensures.refused in
    let here : EntryPoint = record { conf = c.conf-conf.result.now; nodes = c.in_ok-view.view.nodes; own = c.in-Some.own; ttl = c.args.ttl; class = c.args.entropy % 16 } in
    let entry : here ≡ entry_at r.control c.args.ttl c.args.entropy = λ i. record { conf = conf i; nodes = nodes i; own = own i; ttl = c.args.ttl; class = c.args.entropy % 16 } in
    let reach = packets_reach r.control c.args.sd c.args.bsl c.args.ids.now c.args.ttl c.args.entropy (allowed r.control.conf c.args.sd c.args.bsl c.args.ids.now none).0 (each_fits c.args.ids.now c.type_inv.ids) in
    let all : c.in_ok-reached.field-0 ≡ reached_by here (map positions_in c.as_slice-2.result.now) = c.in_ok-reached.ensures in
    cover_found (world_in c.args.self.now) c.args.router r.control there c.args.sd c.args.bsl c.args.ids.now c.args.ttl c.args.entropy none
    ∙ ap (λ (ks : List ℕ). Ok ks) (sym (all ∙ (λ i. reached_by (entry i) (map positions_in (c.as_slice-2.ensures i))) ∙ ap (reached_by (entry_at r.control c.args.ttl c.args.entropy)) c.in-Ok.ensures.packets ∙ reach))
