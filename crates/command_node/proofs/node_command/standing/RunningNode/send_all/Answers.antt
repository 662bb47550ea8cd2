use Rattle.std.proofs.Common.{◌≡◌, ℕ, length, ap, ◌∙◌, arith}
use Rattle.std.specs.List.{fold, range_with_len}
use Rattle.wire_base.specs.declared.conf.RouterConf.{RouterConf}
use Rattle.command_node.specs.NodeRun.{Node, sends_on, sends_all}
use Rattle.command_node.proofs.NodeSteps.{links_more}
use Rattle.command_node.proofs.node_command.standing.RunningNode.send_all.Goals as goal

pub loop-link-preserved : goal.loop-link-preserved
loop-link-preserved c = c.in_ok-send_on.ensures ∙ links_more c.args.sec c.args.self.now c.loop-link.self c.loop-link.link c.loop-link.invariant

pub returns : goal.returns
unfolding sends_all
returns c =
    let size : c.len-ends.result ≡ length c.args.self.now.control.conf.ends =
    c.len-ends.ensures ∙ ap (λ (r : RouterConf). length r.ends) c.conf.ensures.conf ∙ ap (λ (n : Node). length n.control.conf.ends) c.self.view_is in
    let last : c.loop-link.link ≡ length c.args.self.now.control.conf.ends = omega (arith, size, c.loop-link-test.false, c.loop-link.auto.link-end) in
    c.loop-link.invariant ∙ ap (λ (k : ℕ). fold (sends_on c.args.sec) c.args.self.now (range_with_len 0 k)) last
