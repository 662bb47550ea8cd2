use Rattle.bier_bits.specs.Any.{positions_of, bsl_of}
use Rattle.bift_table.specs.Any as tables
use Rattle.command_hop.proofs.HopWays.{is_numbering, texts_pushed}
use Rattle.command_hop.proofs.forward.push_outcomes.Goals as goal

pub push_along-requires-clause-numbered : goal.push_along-requires-clause-numbered
push_along-requires-clause-numbered c = is_numbering (tables.positions_of c.args.ways.now.table) c.requires.ways.1.numbered

pub returns : goal.returns
returns c rows are =
    texts_pushed c.push_along.result rows c.args.ways.now (bsl_of c.args.bits.now) c.args.own c.args.line (positions_of c.args.bits.now) c.args.out.now c.push_along.new.out c.requires.length are c.bsl-bsl.ensures.ordered c.push_along.ensures
