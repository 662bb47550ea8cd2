use Rattle.std.proofs.Common.{◌≡◌, ◌∙◌, slice_get, Some, ap}
use Rattle.wire_base.specs.model.Membership.{CanRelabel, relabelled}
use Rattle.wire_base.specs.model.Control.{Control}
use Rattle.wire_base.specs.model.Flooding.{relabel}
use Rattle.laws_router.proofs.ChangeLaws.{relabel_later}
use Rattle.domain_core.specs.Held.{state_of, world_in}
use Rattle.domain_model.specs.Step.{Happened}
use Rattle.domain_model.proofs.DomainLaws.{keeps_of}
use Rattle.domain_model.specs.Truth.{domain_now}
use Rattle.domain_core.proofs.ConfLaws.{relabel_conf}
use Rattle.domain_core.proofs.FramedWorld.{control_there}
use Rattle.domain_core.proofs.RefusalLaws.{can_relabel}
use Rattle.domain_core.proofs.TurnLaws.{router_there, nothing_told, control_at, changed_stay, change_is, turn_done, same_heard}
use Rattle.domain_core.proofs.network.Network.relabel.Goals as goal

here : (c : goal.After-index_mut-router) → slice_get c.args.self.now.routers.items c.args.at ≡ Some c.index_mut-router.result.now
here c = router_there c.args.self.now.routers.items c.from.result c.args.at c.index_mut-router.result.now c.from.ensures c.requires.place c.index_mut-router.ensures.value

pub relabel-requires : goal.relabel-requires
relabel-requires c = can_relabel (world_in c.args.self.now) c.args.at c.index_mut-router.result.now.control (control_at (state_of c.args.self.now) c.args.at c.index_mut-router.result.now (here c)) c.args.sd c.args.bsl c.args.label c.requires.fits.first c.requires.allowed

there : (c : goal.After-nothing) → slice_get c.args.self.now.routers.items c.args.at ≡ Some c.index_mut-router.result.now
there c = router_there c.args.self.now.routers.items c.from.result c.args.at c.index_mut-router.result.now c.from.ensures c.requires.place c.index_mut-router.ensures.value

pub returns-clause-done : goal.returns-clause-done
returns-clause-done c =
    let n = state_of c.args.self.now in
    let w = world_in c.args.self.now in
    let t = c.requires.truth.truth in
    let r = c.index_mut-router.result.now in
    let happened = change_is n c.args.at r (there c) (λ k. relabel k c.args.sd c.args.bsl c.args.label) in
    let can : CanRelabel r.control.conf c.args.sd c.args.bsl c.args.label = can_relabel (world_in c.args.self.now) c.args.at r.control (control_at n c.args.at r (there c)) c.args.sd c.args.bsl c.args.label c.requires.fits.first c.requires.allowed in
    let state = control_there w t c.args.at r.control (control_at n c.args.at r (there c)) in
    let later = relabel_later r.control.conf c.args.sd c.args.bsl c.args.label state.kept.sound (keeps_of (domain_now w) t.now r.control.conf state.among) can in
    let is = ap (λ (x : Control). x.conf) c.in_ok-relabel.ensures.control ∙ relabel_conf r.control c.args.sd c.args.bsl c.args.label in
    let stay = changed_stay n c.args.at r (there c) t c.from.result c.relabel.new.self (relabelled r.control.conf c.args.sd c.args.bsl c.args.label) c.from.ensures is later in
    let k = turn_done n c.args.at r (there c) c.requires.truth.frames c.from.result c.relabel.new.self _ (relabel r.control c.args.sd c.args.bsl c.args.label) c.from.ensures c.in_ok-relabel.ensures.control stay happened in
    record { world = k.world; frames = k.frames; answer = nothing_told n.domain.routers c.nothing.result _ c.nothing.ensures (ap (λ (x : Happened). x.made) happened) }

pub returns-clause-heard : goal.returns-clause-heard
returns-clause-heard c = same_heard (state_of c.args.self.now) c.args.at c.index_mut-router.result.now (there c) c.from.result c.relabel.new.self c.from.ensures c.relabel.ensures.heard
