use Rattle.std.proofs.Common.{◌≡◌, ◌∙◌, slice_get, Some, ap}
use Rattle.wire_base.specs.model.Control.{Control}
use Rattle.wire_base.specs.model.Flooding.{tick}
use Rattle.domain_core.specs.Held.{state_of, world_in}
use Rattle.domain_model.specs.Step.{Happened}
use Rattle.domain_core.proofs.ConfLaws.{tick_conf}
use Rattle.domain_core.proofs.TurnLaws.{router_there, nothing_told, control_at, kept_stay, change_is, turn_done, same_heard}
use Rattle.domain_core.proofs.network.Network.tick.Goals as goal

there : (c : goal.After-nothing) → slice_get c.args.self.now.routers.items c.args.at ≡ Some c.index_mut-router.result.now
there c = router_there c.args.self.now.routers.items c.from.result c.args.at c.index_mut-router.result.now c.from.ensures c.requires.place c.index_mut-router.ensures.value

pub returns-clause-done : goal.returns-clause-done
returns-clause-done c =
    let n = state_of c.args.self.now in
    let r = c.index_mut-router.result.now in
    let happened = change_is n c.args.at r (there c) tick in
    let kept : c.tick.new.self.control.conf ≡ r.control.conf = ap (λ (x : Control). x.conf) c.in_ok-tick.ensures.control ∙ tick_conf (world_in c.args.self.now) c.requires.truth.truth c.args.at r.control (control_at n c.args.at r (there c)) in
    let k = turn_done n c.args.at r (there c) c.requires.truth.frames c.from.result c.tick.new.self _ (tick r.control) c.from.ensures c.in_ok-tick.ensures.control (kept_stay n c.args.at r (there c) c.from.result c.tick.new.self c.from.ensures kept) happened in
    record { world = k.world; frames = k.frames; answer = nothing_told n.domain.routers c.nothing.result _ c.nothing.ensures (ap (λ (x : Happened). x.made) happened) }

pub returns-clause-heard : goal.returns-clause-heard
returns-clause-heard c = same_heard (state_of c.args.self.now) c.args.at c.index_mut-router.result.now (there c) c.from.result c.tick.new.self c.from.ensures c.tick.ensures.heard
