use Rattle.std.proofs.Common.{sym, ◌∙◌}
use Rattle.view_graph.proofs.NodeClaimLaws.{read_get}
use Rattle.view_graph.proofs.rebuilt.node_now.Goals as goal

pub returns-clause-made : goal.returns-clause-made
returns-clause-made c = record {
  before = c.in-Some.before.now;
  claim = c.in-Some-2.claim;
  at_place = read_get c.args.nodes.now c.args.place c.in-Some.before.now c.in-Some.ensures.lookup.3.0 c.in-Some.ensures.lookup.1;
  says = sym c.in_ok-claim.ensures ∙ c.in-Some-2.is;
  made = c.in_ok-node.ensures;
}
