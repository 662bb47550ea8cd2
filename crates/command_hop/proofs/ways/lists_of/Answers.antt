use Rattle.std.proofs.Common.{◌∷◌, [], length, ap, arith, length-append}
use Rattle.command_hop.proofs.WayLaws.{lists_pushed}
use Rattle.command_hop.proofs.ways.lists_of.Goals as goal

pub positions-preserved : goal.positions-preserved
positions-preserved c =
    let listed = c.in_ok-push_list.ensures.listed in
    record {
      few = omega (arith, c.in_ok-push_list.ensures.few, c.positions.invariant.few);
      count = omega (arith, ap length listed.1, length-append c.positions.lists (listed.0 ∷ []), c.positions.invariant.count);
      listed =
          lists_pushed c.args.rows.now c.positions.names c.push_list.new.names c.in_ok-push_list.ensures.names.0 c.positions.lists c.push_list.new.lists listed.0 c.positions.q
          c.in_ok-push_list.ensures.names.1 listed.1 c.positions.invariant.count c.positions.invariant.listed listed.2;
    }
