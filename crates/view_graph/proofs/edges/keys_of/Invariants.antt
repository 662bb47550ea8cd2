use Rattle.std.proofs.Common.{take}
use Rattle.view_graph.specs.Edges.{AreKeys}
use Rattle.view_graph.proofs.edges.keys_of.Given as goal

abbrev pub invariant-claims : goal.invariant-claims
invariant-claims l = AreKeys l.keys.items (take l.claim-index l.claims)
