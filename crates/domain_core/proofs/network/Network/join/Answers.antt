use Rattle.std.proofs.Common.{◌≡◌, ◌∙◌, slice_get, is_some, true, Some, ap}
use Rattle.wire_base.specs.model.Membership.{rejoined}
use Rattle.wire_base.specs.model.Place.{sub_in}
use Rattle.wire_base.specs.model.Control.{Control}
use Rattle.wire_base.specs.model.Flooding.{join}
use Rattle.laws_router.proofs.ChangeLaws.{join_later}
use Rattle.domain_core.specs.Held.{state_of, world_in}
use Rattle.domain_model.specs.Step.{Happened}
use Rattle.domain_model.proofs.DomainLaws.{keeps_of}
use Rattle.domain_model.specs.Truth.{domain_now}
use Rattle.domain_core.proofs.ConfLaws.{join_conf}
use Rattle.domain_core.proofs.FramedWorld.{control_there}
use Rattle.domain_core.proofs.RefusalLaws.{can_join}
use Rattle.domain_core.proofs.TurnLaws.{router_there, nothing_told, control_at, changed_stay, change_is, turn_done, same_heard}
use Rattle.domain_core.proofs.network.Network.join.Goals as goal

here : (c : goal.After-index_mut-router) → slice_get c.args.self.now.routers.items c.args.at ≡ Some c.index_mut-router.result.now
here c = router_there c.args.self.now.routers.items c.from.result c.args.at c.index_mut-router.result.now c.from.ensures c.requires.place c.index_mut-router.ensures.value

pub join-requires : goal.join-requires
join-requires c = can_join (world_in c.args.self.now) c.args.at c.index_mut-router.result.now.control (control_at (state_of c.args.self.now) c.args.at c.index_mut-router.result.now (here c)) c.args.sd c.requires.allowed

there : (c : goal.After-nothing) → slice_get c.args.self.now.routers.items c.args.at ≡ Some c.index_mut-router.result.now
there c = router_there c.args.self.now.routers.items c.from.result c.args.at c.index_mut-router.result.now c.from.ensures c.requires.place c.index_mut-router.ensures.value

pub returns-clause-done : goal.returns-clause-done
returns-clause-done c =
    let n = state_of c.args.self.now in
    let w = world_in c.args.self.now in
    let t = c.requires.truth.truth in
    let r = c.index_mut-router.result.now in
    let happened = change_is n c.args.at r (there c) (λ k. join k c.args.sd) in
    let can : is_some (sub_in r.control.conf.away c.args.sd) ≡ true = can_join (world_in c.args.self.now) c.args.at r.control (control_at n c.args.at r (there c)) c.args.sd c.requires.allowed in
    let state = control_there w t c.args.at r.control (control_at n c.args.at r (there c)) in
    let later = join_later r.control.conf c.args.sd state.kept.sound (keeps_of (domain_now w) t.now r.control.conf state.among) can in
    let is = ap (λ (x : Control). x.conf) c.in_ok-join.ensures.control ∙ join_conf r.control c.args.sd in
    let stay = changed_stay n c.args.at r (there c) t c.from.result c.join.new.self (rejoined r.control.conf c.args.sd) c.from.ensures is later in
    let k = turn_done n c.args.at r (there c) c.requires.truth.frames c.from.result c.join.new.self _ (join r.control c.args.sd) c.from.ensures c.in_ok-join.ensures.control stay happened in
    record { world = k.world; frames = k.frames; answer = nothing_told n.domain.routers c.nothing.result _ c.nothing.ensures (ap (λ (x : Happened). x.made) happened) }

pub returns-clause-heard : goal.returns-clause-heard
returns-clause-heard c = same_heard (state_of c.args.self.now) c.args.at c.index_mut-router.result.now (there c) c.from.result c.join.new.self c.from.ensures c.join.ensures.heard
