use Rattle.std.proofs.Common.{◌≡◌, ◌<◌, length}
use Rattle.wire_base.specs.model.Graph.{has_id_at}
use Rattle.quiet_domain.specs.Paths.{next_in, way_in}
use Rattle.quiet_domain.specs.Way.{links_over}
use Rattle.quiet_domain.proofs.PathLaws.{led}
use Rattle.quiet_domain.proofs.ways.Paths.way.Given as goal

-- the path is the hops so far and the path from the node that was reached
abbrev pub invariant-path : goal.invariant-path
invariant-path l = record {
  same : l.self ≡ l.fn.self;
  within : l.node < length l.fn.self.nodes;
  is : way_in l.fn.self l.fn.u l.k ≡ led (λ x. next_in l.fn.self x l.k) (has_id_at l.fn.self.nodes l.fn.self.triple.sd l.k) (links_over l.fn.self.nodes) (length l.fn.self.nodes) l.hops l.longest l.node;
}
