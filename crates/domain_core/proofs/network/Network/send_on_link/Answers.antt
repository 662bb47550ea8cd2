use Rattle.std.proofs.Common.{◌≡◌, ◌∙◌, List, None, true, map, refl, sym, ap, subst}
use Rattle.std.specs.List.{AllByRecursion}
use Rattle.wire_base.specs.model.Control.{Control}
use Rattle.wire_base.specs.model.Flooding.{send}
use Rattle.wire_base.specs.model.OnFrame.{Effects, nothing}
use Rattle.domain_model.specs.declared.step_out.WireFrame.{WireFrame}
use Rattle.frames_in_flight.specs.Told.{told}
use Rattle.frames_in_flight.specs.Flights.{IsOver, items_seen, push_all_sent}
use Rattle.frames_in_flight.specs.Framed.{wire_from}
use Rattle.frames_in_flight.proofs.SentLaws.{wires_over}
use Rattle.domain_core.specs.Answers.{sent_outcome}
use Rattle.domain_core.specs.Held.{state_of, world_in}
use Rattle.domain_core.specs.Network.{confs_in}
use Rattle.domain_model.specs.Moves.{replied}
use Rattle.domain_model.specs.Step.{Happened}
use Rattle.domain_core.proofs.CarryLaws.{carried_world, same_over, same_next, send_is, send_control, send_conf, send_carried, send_over}
use Rattle.domain_core.proofs.RefusalLaws.{up_at_send, link_within, leads_to}
use Rattle.domain_core.proofs.TransitLaws.{same_frames}
use Rattle.domain_core.proofs.TurnLaws.{router_there, control_at, same_heard}
use Rattle.domain_core.proofs.network.Network.send_on_link.Goals as goal

pub due_in-requires : goal.due_in-requires
due_in-requires c =
    let n = state_of c.args.self.now in
    let r = c.index_mut-router.result.now in
    let there = router_there n.routers c.from.result c.args.from r c.from.ensures c.requires.place c.index_mut-router.ensures.value in
    up_at_send (world_in c.args.self.now) c.args.from c.args.to c.args.link r.control (control_at n c.args.from r there) c.requires.joined c.requires.allowed

pub queue_on_link-requires : goal.queue_on_link-requires
queue_on_link-requires c = send_over c.args.link c.index_mut-router.result.now.control c.in_ok-frames.frames c.in_ok-frames.ensures.due

pub sent-requires : goal.sent-requires
sent-requires c =
    let n = state_of c.args.self.now in
    let r = c.index_mut-router.result.now in
    let there = router_there n.routers c.from.result c.args.from r c.from.ensures c.requires.place c.index_mut-router.ensures.value in
    up_at_send (world_in c.args.self.now) c.args.from c.args.to c.args.link r.control (control_at n c.args.from r there) c.requires.joined c.requires.allowed

pub returns-clause-done : goal.returns-clause-done
returns-clause-done c =
    let n = state_of c.args.self.now in
    let r = c.index_mut-router.result.now in
    let e : Effects = record nothing { sent = c.in_ok-frames.frames } in
    let there = router_there n.routers c.from.result c.args.from r c.from.ensures c.requires.place c.index_mut-router.ensures.value in
    let within = link_within (world_in c.args.self.now) c.args.from c.args.to c.args.link r.control (control_at n c.args.from r there) c.requires.joined c.requires.truth.truth in
    let next = same_next c.args.link (send r.control c.args.link) c.sent.new.self.control e c.sent.ensures.control c.in_ok-frames.ensures.due in
    let k = send_carried n c.requires.truth c.args.from c.args.to c.args.link r there within c.sent.new.self.control e next in
    let turned = send_control n c.requires.truth c.args.from c.args.to c.args.link r there within c.sent.new.self.control e next in
    let happened = send_is n c.requires.truth c.args.from c.args.to c.args.link r there c.requires.joined in
    let queued : c.queue_on_link.new.flights ≡ push_all_sent n.domain.routers c.args.from None n.flights c.in_ok-frames.frames = c.in_ok-queue_on_link.ensures.ok n.domain.routers in
    let kept : c.sent.new.self.control.conf ≡ r.control.conf = ap (λ (x : Control). x.conf) turned ∙ send_conf n c.requires.truth c.args.from c.args.to c.args.link r there in
    let leads = leads_to (world_in c.args.self.now) c.args.from c.args.to c.args.link c.requires.truth.truth c.requires.joined n.domain.routers refl in
    let over = send_over c.args.link r.control c.in_ok-frames.frames c.in_ok-frames.ensures.due in
    let wires : c.sent_to.result ≡ map (wire_from n.domain.routers c.args.from) c.in_ok-frames.frames =
    c.sent_to.ensures ∙ wires_over n.domain.routers c.args.from c.args.to c.args.link c.into_frames.result leads (subst (AllByRecursion (IsOver c.args.link)) (sym c.into_frames.ensures) over)
    ∙ ap (map (wire_from n.domain.routers c.args.from)) c.into_frames.ensures in
    record {
      world = carried_world n c.args.from r there c.from.result c.from.ensures c.sent.new.self kept c.queue_on_link.new.flights (send r.control c.args.link).control (replied n.domain.routers c.args.from c.args.link (send r.control c.args.link)) _ turned (ap (items_seen (confs_in n)) queued ∙ k.seen) happened;
      frames = same_over n c.args.from r there c.from.result c.from.ensures c.sent.new.self kept c.queue_on_link.new.flights (same_frames n.domain.routers (confs_in n) c.queue_on_link.new.flights _ queued k.frames);
      answer = ap (λ (ws : List WireFrame). sent_outcome true ws) wires ∙ k.out ∙ sym (ap (λ (h : Happened). told n.domain.routers h.made) happened);
    }

pub returns-clause-heard : goal.returns-clause-heard
returns-clause-heard c =
    let n = state_of c.args.self.now in
    let r = c.index_mut-router.result.now in
    same_heard n c.args.from r (router_there n.routers c.from.result c.args.from r c.from.ensures c.requires.place c.index_mut-router.ensures.value) c.from.result c.sent.new.self c.from.ensures c.sent.ensures.heard
