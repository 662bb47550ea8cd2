use Rattle.std.proofs.Common.{◌≡◌, take, filter}
use Rattle.view_graph.specs.Renewal.{lists_at, said_now}
use Rattle.view_graph.proofs.rebuilt.both_ways.Given as goal

abbrev pub invariant-edges : goal.invariant-edges
invariant-edges l = l.edges ≡ filter (λ e. lists_at (said_now l.conf l.up l.store.entries) l.nodes e.to l.system) (take l.edge-index l.halves)
