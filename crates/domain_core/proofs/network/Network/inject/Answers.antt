use Rattle.std.proofs.Common.{◌≡◌, ◌∙◌, ◌+◌, ℕ, List, [], slice_set, Option, Some, option_map, sym, ap, subst}
use Rattle.wire_base.specs.declared.conf.RouterConf.{RouterConf}
use Rattle.wire_base.specs.declared.faults.EdgeFault.{EdgeFault}
use Rattle.wire_base.specs.model.Configuration.{DomainConf}
use Rattle.wire_base.specs.model.Control.{Control}
use Rattle.domain_model.specs.declared.fault.EventFault.TheVariants as faults
use Rattle.frames_in_flight.specs.Told.{told, told_of}
use Rattle.domain_model.specs.Faults.{entry_fault}
use Rattle.frames_in_flight.specs.Flights.{items_seen, push_all_sent}
use Rattle.domain_core.specs.Held.{state_of}
use Rattle.domain_core.specs.Network.{confs_of, confs_in, AreFramesOver}
use Rattle.laws_router.specs.State.{RouterState}
use Rattle.domain_model.specs.Step.{Happened}
use Rattle.domain_core.proofs.CarryLaws.{set_same, inject_is, inject_carried, inject_world}
use Rattle.domain_core.proofs.TransitLaws.{same_frames}
use Rattle.domain_core.proofs.TurnLaws.{router_there, control_at}
use Rattle.domain_core.proofs.network.Network.inject.Goals as goal

pub returns-clause-refused : goal.returns-clause-refused
returns-clause-refused c =
    let n = state_of c.args.self.now in
    let r = c.index_mut-router.result.now in
    let there = router_there n.routers c.from.result c.args.at r c.from.ensures c.requires.place c.index_mut-router.ensures.value in
    ap (λ (o : Option Control). entry_fault o c.args.sd c.args.bsl c.args.ids.now) (control_at n c.args.at r there)
    ∙ ap (λ (o : Option EdgeFault). option_map faults.Edge o) c.in-Ok.ensures.refused

pub returns-clause-done : goal.returns-clause-done
returns-clause-done c =
    let n = state_of c.args.self.now in
    let r = c.index_mut-router.result.now in
    let there = router_there n.routers c.from.result c.args.at r c.from.ensures c.requires.place c.index_mut-router.ensures.value in
    let k = inject_carried n c.requires.truth c.args.at r there c.args.sd c.args.bsl c.args.ids.now c.args.ttl c.args.entropy c.args.payload.now c.requires.fits c.in-Ok.ensures.refused c.in-Ok.effects c.in-Ok.ensures.effects in
    let happened = inject_is n c.requires.truth c.args.at r there c.args.sd c.args.bsl c.args.ids.now c.args.ttl c.args.entropy c.args.payload.now in
    let sent : c.queue_sent.new.flights ≡ push_all_sent n.domain.routers c.args.at (Some (n.injections + 1)) n.flights c.in-Ok.effects.sent =
    c.in_ok-out.ensures.ok ∙ ap (λ (cs : List RouterConf). push_all_sent cs c.args.at (Some (n.injections + 1)) n.flights c.in-Ok.effects.sent) (c.confs_of-confs.ensures.confs ∙ ap (λ (d : DomainConf). d.routers) c.conf.ensures) in
    let routers : slice_set n.routers c.from.result c.inject-entered.new.self ≡ n.routers =
    ap (slice_set n.routers c.from.result) c.in-Ok.ensures.state ∙ ap (λ (i : ℕ). slice_set n.routers i r) c.from.ensures ∙ set_same n.routers c.args.at r there in
    record {
      world = inject_world n c.requires.truth c.args.at r there c.args.sd c.args.bsl c.args.ids.now c.args.ttl c.args.entropy c.args.payload.now _ c.queue_sent.new.flights _ _ routers (ap (items_seen (confs_in n)) sent ∙ k.seen) happened;
      frames = subst (λ (rs : List RouterState). AreFramesOver n.domain.routers (confs_of rs) c.queue_sent.new.flights) (sym routers) (same_frames n.domain.routers (confs_in n) c.queue_sent.new.flights _ sent k.frames);
      answer = c.in_ok-out.ensures.out ∙ ap (λ (cs : List RouterConf). told_of cs c.args.at (Some (n.injections + 1)) [] c.in-Ok.effects) (c.confs_of-confs.ensures.confs ∙ ap (λ (d : DomainConf). d.routers) c.conf.ensures)
          ∙ k.out ∙ sym (ap (λ (h : Happened). told n.domain.routers h.made) happened);
    }
