use Rattle.std.proofs.Common.{◌≡◌, ◌∙◌, slice_get, Some, sym, ap}
use Rattle.wire_base.specs.model.Control.{Control}
use Rattle.wire_base.specs.model.Flooding.{end_up}
use Rattle.domain_core.specs.Held.{state_of, world_in}
use Rattle.domain_model.specs.Step.{Happened}
use Rattle.domain_model.specs.World.{link_between}
use Rattle.domain_core.proofs.ConfLaws.{up_conf}
use Rattle.domain_core.proofs.RefusalLaws.{down_at_up, link_within}
use Rattle.domain_core.proofs.TurnLaws.{router_there, nothing_told, control_at, kept_stay, end_change_is, turn_done, same_heard}
use Rattle.domain_core.proofs.network.Network.up.Goals as goal

here : (c : goal.After-index_mut-router) → slice_get c.args.self.now.routers.items c.args.from ≡ Some c.index_mut-router.result.now
here c = router_there c.args.self.now.routers.items c.from.result c.args.from c.index_mut-router.result.now c.from.ensures c.requires.place c.index_mut-router.ensures.value

pub end_up-requires-clause-link : goal.end_up-requires-clause-link
end_up-requires-clause-link c =
    link_within (world_in c.args.self.now) c.args.from c.args.to c.in-Some.link c.index_mut-router.result.now.control (control_at (state_of c.args.self.now) c.args.from c.index_mut-router.result.now (here c)) (sym c.in-Some.ensures) c.requires.truth.truth

pub end_up-requires-clause-down : goal.end_up-requires-clause-down
end_up-requires-clause-down c =
    down_at_up (world_in c.args.self.now) c.args.from c.args.to c.in-Some.link c.index_mut-router.result.now.control (control_at (state_of c.args.self.now) c.args.from c.index_mut-router.result.now (here c)) (sym c.in-Some.ensures) c.requires.allowed

there : (c : goal.After-nothing-2) → slice_get c.args.self.now.routers.items c.args.from ≡ Some c.index_mut-router.result.now
there c = router_there c.args.self.now.routers.items c.from.result c.args.from c.index_mut-router.result.now c.from.ensures c.requires.place c.index_mut-router.ensures.value

pub returns-clause-done : goal.returns-clause-done
returns-clause-done c =
    let n = state_of c.args.self.now in
    let r = c.index_mut-router.result.now in
    let happened = end_change_is n c.args.from r (there c) end_up c.in-Some.link (link_between n.domain.routers c.args.from c.args.to) (sym c.in-Some.ensures) in
    let kept : c.end_up.new.self.control.conf ≡ r.control.conf = ap (λ (x : Control). x.conf) c.in_ok-end_up.ensures.control ∙ up_conf r.control c.in-Some.link in
    let k = turn_done n c.args.from r (there c) c.requires.truth.frames c.from.result c.end_up.new.self _ (end_up r.control c.in-Some.link) c.from.ensures c.in_ok-end_up.ensures.control (kept_stay n c.args.from r (there c) c.from.result c.end_up.new.self c.from.ensures kept) happened in
    record { world = k.world; frames = k.frames; answer = nothing_told n.domain.routers c.nothing-2.result _ c.nothing-2.ensures (ap (λ (x : Happened). x.made) happened) }

pub returns-clause-heard : goal.returns-clause-heard
returns-clause-heard c = same_heard (state_of c.args.self.now) c.args.from c.index_mut-router.result.now (there c) c.from.result c.end_up.new.self c.from.ensures c.end_up.ensures.heard
