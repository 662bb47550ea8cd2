use Rattle.std.proofs.Common.{refl, sym, ap, subst, ◌∙◌}
use Rattle.std.proofs.lemmas.Result.{on_ok_weaker}
use Rattle.wire_base.specs.model.BitSet.{IsWithin}
use Rattle.wire_base.specs.model.OnFrame.{Packet}
use Rattle.bier_forward.specs.Hops.{after}
use Rattle.bier_forward.proofs.CopyLaws.{way-none, way-some}
use Rattle.bier_forward.proofs.outcome.send_copy.Goals as goal

pub returns-in-None-clause-given : goal.returns-in-None-clause-given
returns-in-None-clause-given g c =
    let same = ap (λ (q : Packet). q.triple) c.packet.view_is in
    let is = way-none c.args.conf.now c.args.view.now.nodes c.args.packet.now c.args.to c.args.set.now c.args.ttl c.packet.inside.triple same c.requires.next (subst (λ n. IsWithin 0 n c.args.set.now) (sym c.requires.bits) c.width-width.ensures.ordered)
    (sym c.in-None.is ∙ c.in_ok-way_to.ensures.value) in
    on_ok_weaker c.drop_set.result (λ e. e ∙ ap (after c.args.effects.now) is) c.drop_set.ensures.dropped

pub returns-in-Some-clause-given : goal.returns-in-Some-clause-given
returns-in-Some-clause-given g c =
    let same = ap (λ (q : Packet). q.triple) c.packet.view_is in
    let is = way-some c.args.conf.now c.args.view.now.nodes c.args.packet.now c.args.to c.args.set.now c.args.ttl c.packet.inside.triple c.in-Some.way _ same c.requires.next (subst (λ n. IsWithin 0 n c.args.set.now) (sym c.requires.bits) c.width-width.ensures.ordered)
    (sym c.in-Some.is ∙ c.in_ok-way_to.ensures.value) refl in
    on_ok_weaker c.send_frame.result (λ e. e ∙ ap (after c.args.effects.now) is) c.send_frame.ensures
