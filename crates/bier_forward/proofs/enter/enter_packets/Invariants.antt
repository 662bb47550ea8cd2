use Rattle.std.proofs.Common.{◌≡◌, ◌+◌, drop, map}
use Rattle.std.specs.List.{AllByRecursion}
use Rattle.wire_base.specs.model.OnFrame.{joined}
use Rattle.bfr_edge.specs.Entry.{positions_in}
use Rattle.bier_forward.specs.Hops.{after}
use Rattle.bier_forward.specs.Kept.{AreRoutes}
use Rattle.bier_forward.specs.Packets.{entering_with, hopped}
use Rattle.bier_forward.specs.Sets.{HasLength}
use Rattle.bier_forward.proofs.enter.enter_packets.Given as goal

abbrev pub invariant-loop-packet : goal.invariant-loop-packet
invariant-loop-packet l = record {
  kept : AreRoutes l.conf l.view.nodes l.routes;
  lengths : AllByRecursion HasLength (drop l.packet-index l.packets);
  whole : after l.effects (joined (map (λ p. hopped l.conf l.view.nodes (entering_with l.conf l.ttl l.entropy l.payload (positions_in p)) (l.ttl + 1)) (drop l.packet-index l.packets)))
      ≡ joined (map (λ p. hopped l.conf l.view.nodes (entering_with l.conf l.ttl l.entropy l.payload (positions_in p)) (l.ttl + 1)) l.packets);
}
