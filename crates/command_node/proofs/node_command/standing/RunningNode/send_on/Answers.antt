use Rattle.std.proofs.Common.{sym, ap, ◌∙◌}
use Rattle.wire_base.specs.model.OnFrame.{Effects, Next}
use Rattle.command_node.specs.NodeRun.{Node, sends_on}
use Rattle.command_node.proofs.NodeSteps.{sent_on}
use Rattle.command_node.proofs.node_command.standing.RunningNode.send_on.Goals as goal

pub returns : goal.returns
returns c =
    let now : Node = record { control = c.self.inside.router.control; clock = c.self.inside.clock; ticks = c.self.inside.ticks; tally = c.self.inside.tally; frames = c.self.inside.frames; report = c.self.inside.report } in
    let next : Next = record { control = c.send.new.self.control; effects = c.in_ok-effects.effects } in
    c.in_ok-go_out.ensures
    ∙ sent_on c.args.sec now c.args.link next _ (sym c.is_up.ensures ∙ c.if-not-is_up.false) c.in_ok-effects.ensures.next (ap (λ (e : Effects). e.sent) c.effects.view_is)
    ∙ ap (λ (n : Node). sends_on c.args.sec n c.args.link) c.self.view_is
