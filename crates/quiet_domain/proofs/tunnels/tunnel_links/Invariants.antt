use Rattle.std.proofs.Common.{◌≡◌, ◌<◌, ◌==◌, length}
use Rattle.wire_base.specs.model.HopCount.{tunnel_links}
use Rattle.wire_base.specs.model.Tight.{next_step}
use Rattle.quiet_domain.proofs.PathLaws.{linked}
use Rattle.quiet_domain.proofs.tunnels.tunnel_links.Given as goal

-- the links are those so far and those from the node that was reached
abbrev pub invariant-steps : goal.invariant-steps
invariant-steps l = record {
  within : l.node < length l.v.nodes;
  is : tunnel_links l.v.nodes l.x l.fn.u ≡ linked (next_step l.v.nodes l.x) (λ z. z == l.x) (length l.v.nodes) l.links l.node;
}
