use Rattle.std.proofs.Common.{◌-◌, ◌≤◌, length}
use Rattle.view_graph.specs.Edges.{place_in}
use Rattle.view_graph.specs.Renewal.{node_claims}
use Rattle.view_graph.proofs.node_index.index_of.Given as goal

-- the place lies between both ends
abbrev pub invariant-halves : goal.invariant-halves
invariant-halves l = record {
  low : l.low ≤ place_in l.system (node_claims l.nodes);
  high : place_in l.system (node_claims l.nodes) ≤ l.high;
  within : l.high ≤ length l.nodes;
}

abbrev pub decreases-halves : goal.decreases-halves
decreases-halves l = l.high - l.low
