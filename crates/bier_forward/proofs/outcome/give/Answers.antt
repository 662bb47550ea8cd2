use Rattle.std.proofs.Common.{refl, ap, ◌∙◌}
use Rattle.std.proofs.lemmas.Result.{on_ok_weaker}
use Rattle.wire_base.specs.model.OnFrame.{Packet}
use Rattle.bier_hop.specs.Outcomes.{out_of}
use Rattle.bier_forward.specs.Hops.{after, place_of}
use Rattle.bier_forward.proofs.CopyLaws.{drop-is}
use Rattle.bier_forward.proofs.outcome.give.Goals as goal

pub returns-in-Dropped-clause-given : goal.returns-in-Dropped-clause-given
returns-in-Dropped-clause-given g c =
    let is = drop-is c.args.conf.now c.args.view.now.nodes c.args.packet.now (place_of c.args.view.now.nodes) (out_of c.args.set.now c.args.action) c.args.set.now c.args.set.now c.in-Dropped.why c.packet.inside.triple c.cause_of.result
    (ap (out_of c.args.set.now) c.in-Dropped.is) (ap (λ (q : Packet). q.triple) c.packet.view_is) refl c.drop_set.ensures.ordered c.cause_of.ensures in
    on_ok_weaker c.drop_set.result (λ e. e ∙ ap (after c.args.effects.now) is) c.drop_set.ensures.dropped
