use Rattle.std.proofs.Common.{None, List, length, slice_index_or, ◌<◌, subst}
use Rattle.wire_base.specs.declared.view.ViewNode.{ViewNode}
use Rattle.bier_tunnel.specs.Ways.{AreWays}
use Rattle.bier_tunnel.proofs.WayLemmas.{built}
use Rattle.bier_tunnel.proofs.fib.Fib.build.Goals as goal

pub returns : goal.returns
returns c =
    let g = c.as_slice-nodes.result.now in
    let kept = rw c.as_slice-3.ensures.value at c.in_ok-ways.ensures in
    let node : c.args.u < length g = rw c.as_slice-nodes.ensures.nodes c.requires.node in
    subst (λ (l : List ViewNode). AreWays c.args.conf.now l c.args.u c.in_ok-ways.ways) c.as_slice-nodes.ensures.nodes
    (built c.args.conf.now g c.args.u c.as_slice-2.result.now (λ x. slice_index_or c.in_ok-steps.steps.items x None) c.in_ok-ways.ways c.as_slice-nodes.ensures.graph node c.as_slice-2.ensures
    c.in_ok-steps.ensures.each kept)
