use Rattle.std.proofs.Common.{ap, ◌∙◌}
use Rattle.std.proofs.lemmas.Result.{on_ok_weaker}
use Rattle.wire_base.specs.model.OnFrame.{Effects}
use Rattle.bier_forward.specs.Hops.{after}
use Rattle.bier_forward.specs.Packets.{hopped}
use Rattle.bier_forward.proofs.HopLaws.{after-nothing-hopped}
use Rattle.bier_forward.proofs.forward.hop_packet.Goals as goal

pub returns-clause-alone : goal.returns-clause-alone
returns-clause-alone c =
    on_ok_weaker c.hop_counted.result
    (λ e nothing. e ∙ ap (λ (before : Effects). after before (hopped c.args.conf.now c.args.view.now.nodes c.args.packet.now c.args.ttl)) nothing ∙ after-nothing-hopped c.args.conf.now c.args.view.now.nodes c.args.packet.now c.args.ttl)
    c.hop_counted.ensures.effects
