use Rattle.std.proofs.Common.{◌+◌, ◌-◌, ap, sym, ◌∙◌}
use Rattle.command_node.specs.NodeRun.{Node, seconds_pass}
use Rattle.command_node.proofs.NodeSteps.{seconds_more, seconds_end}
use Rattle.command_node.proofs.node_command.standing.RunningNode.pass_seconds.Goals as goal

pub seconds-preserved : goal.seconds-preserved
seconds-preserved c =
    ap (λ (n : Node). seconds_pass (c.args.to - (c.seconds.sec + 1)) (c.seconds.sec + 1) n) c.in_ok-pass_second.ensures
    ∙ sym (seconds_more c.args.to c.seconds.sec c.seconds.self c.seconds-test.true) ∙ c.seconds.invariant

pub returns : goal.returns
returns c = sym (seconds_end c.args.to c.seconds.sec c.seconds.self c.seconds-test.false) ∙ c.seconds.invariant
