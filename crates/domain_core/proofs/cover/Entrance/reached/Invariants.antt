use Rattle.std.proofs.Common.{◌≡◌, map, take}
use Rattle.bfr_edge.specs.Entry.{positions_in}
use Rattle.domain_core.specs.Cover.{reached_by}
use Rattle.domain_core.proofs.cover.Entrance.reached.Given as goal

abbrev pub invariant-loop-packet : goal.invariant-loop-packet
invariant-loop-packet l = l.ids ≡ reached_by l.self (map positions_in (take l.packet-index l.packets))
