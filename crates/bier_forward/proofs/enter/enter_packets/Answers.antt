use Rattle.bier_forward.proofs.EnterLaws.{all-entered, injected}
use Rattle.bier_forward.proofs.enter.enter_packets.Goals as goal

pub returns-clause-exact : goal.returns-clause-exact
returns-clause-exact c = all-entered c.args.conf.now c.args.view.now.nodes c.args.ttl c.args.entropy c.args.payload.now c.args.packets.now c.loop-packet.packet-index c.loop-packet.effects c.loop-packet-test.false c.loop-packet.invariant.whole

pub returns-clause-injected : goal.returns-clause-injected
returns-clause-injected c =
    injected c.args.conf.now c.args.view.now.nodes c.args.ttl c.args.entropy c.args.payload.now c.args.packets.now c.loop-packet.effects
    (all-entered c.args.conf.now c.args.view.now.nodes c.args.ttl c.args.entropy c.args.payload.now c.args.packets.now c.loop-packet.packet-index c.loop-packet.effects c.loop-packet-test.false c.loop-packet.invariant.whole)
