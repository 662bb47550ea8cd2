use Rattle.std.proofs.Common.{◌≡◌, ◌++◌, filter}
use Rattle.wire_base.specs.model.BitSet.{has_member, up_to}
use Rattle.bier_bits.specs.Any.{positions_of}
use Rattle.domain_core.specs.Cover.{paths_from, reached_at}
use Rattle.domain_core.proofs.cover.Entrance.push_reached.Given as goal

abbrev pub invariant-loop-position : goal.invariant-loop-position
invariant-loop-position l = record {
  ids : l.ids ≡ l.fn.ids ++ reached_at l.self l.triple (filter (λ p. has_member p (positions_of l.bits)) (up_to l.position));
  paths : l.paths ≡ paths_from l.self l.triple;
}
