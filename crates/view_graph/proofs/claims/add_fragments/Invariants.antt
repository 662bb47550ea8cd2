use Rattle.std.proofs.Common.{drop}
use Rattle.wire_base.specs.model.View.{tlvs_of}
use Rattle.view_graph.specs.Places.{IsAdding}
use Rattle.view_graph.proofs.claims.add_fragments.Given as goal

abbrev pub invariant-fragments : goal.invariant-fragments
invariant-fragments l = IsAdding (tlvs_of (drop l.place l.store.entries) l.fn.claim.system) (tlvs_of (drop l.first l.store.entries) l.fn.claim.system) l.fn.claim l.claim
