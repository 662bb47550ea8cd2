use Rattle.std.proofs.Common.{◌-◌, ◌≤◌, length}
use Rattle.wire_base.specs.declared.addresses.SystemId.{SystemId}
use Rattle.view_graph.specs.Edges.{IsKey, place_in}
use Rattle.view_graph.proofs.edges.place_in.Given as goal

-- the place lies between both ends
abbrev pub invariant-halves : goal.invariant-halves
invariant-halves l = record {
  low : (s : SystemId) → IsKey l.key s → l.low ≤ place_in s l.claims;
  high : (s : SystemId) → IsKey l.key s → place_in s l.claims ≤ l.high;
  within : l.high ≤ length l.claims;
}

abbrev pub decreases-halves : goal.decreases-halves
decreases-halves l = l.high - l.low
