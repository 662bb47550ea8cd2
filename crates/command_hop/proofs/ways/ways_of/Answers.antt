use Rattle.std.proofs.Common.{sym, ap, ◌∙◌}
use Rattle.wire_base.specs.model.Place.{bits_of}
use Rattle.command_hop.proofs.WayLaws.{ways_made}
use Rattle.command_hop.proofs.ways.ways_of.Goals as goal

pub returns-clause-ways : goal.returns-clause-ways
returns-clause-ways c =
    ways_made c.args.rows.now c.lists_of.new.names c.in_ok-lists.lists.bits c.in_ok-table.table c.bits.result c.in_ok-lists.ensures.length c.in_ok-lists.ensures.listed c.in_ok-table.ensures.table (ap bits_of c.in_ok-table.ensures.bsl ∙ sym c.bits.ensures)
