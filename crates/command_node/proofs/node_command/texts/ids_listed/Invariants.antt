use Rattle.std.proofs.Common.{◌≡◌}
use Rattle.bier_bits.specs.Any.{positions_of}
use Rattle.domain_model.proofs.IdLaws.{ids_up_to}
use Rattle.command_node.proofs.node_command.texts.ids_listed.Given as goal

abbrev pub invariant-loop-position : goal.invariant-loop-position
invariant-loop-position l = l.ids ≡ ids_up_to l.fn.triple (positions_of l.bits) l.position
