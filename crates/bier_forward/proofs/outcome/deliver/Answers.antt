use Rattle.std.proofs.Common.{[], ◌∷◌, ap, ◌∙◌}
use Rattle.std.proofs.lemmas.Result.{on_ok_weaker}
use Rattle.wire_base.specs.declared.effects.Got.{Got}
use Rattle.wire_base.specs.model.OnFrame.{nothing}
use Rattle.wire_base.specs.model.BitSet.{set_of}
use Rattle.bier_head.specs.Views.{fields_with}
use Rattle.bier_forward.specs.Hops.{after}
use Rattle.bier_forward.proofs.CopyLaws.{got-is}
use Rattle.bier_forward.proofs.JoinLaws.{delivers}
use Rattle.bier_forward.proofs.outcome.deliver.Goals as goal

pub returns : goal.returns
returns c =
    let got = got-is c.args.packet.now c.packet.inside.triple c.packet.inside.kind (fields_with c.packet.inside.header (set_of c.packet.inside.set.now)) c.packet.inside.payload.now c.args.bp c.id_at.result c.in_ok-payload.payload c.packet.view_is c.id_at.ensures c.in_ok-payload.ensures in
    on_ok_weaker c.deliver.result (λ e. e ∙ delivers _ _ ∙ ap (λ (g : Got). after c.args.effects.now (record nothing { got = g ∷ [] })) got) c.deliver.ensures.ok
