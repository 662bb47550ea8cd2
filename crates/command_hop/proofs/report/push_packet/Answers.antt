use Rattle.std.proofs.Common.{IfSome, Option, subst}
use Rattle.command_hop.specs.declared.ways.Ways.{Ways}
use Rattle.command_hop.specs.Ways.{AreWays}
use Rattle.command_hop.proofs.report.push_packet.Goals as goal

pub returns-clause-text : goal.returns-clause-text
returns-clause-text c =
    let all = rw c.as_slice.ensures at c.in_ok-make_ready.ensures.ways in
    let ways : AreWays c.args.state.now.rows c.in-Some.built = subst (λ (w : Option Ways). IfSome w (λ built. AreWays c.args.state.now.rows built)) c.in-Some.is all in
    rw (← c.unwrap_or-own.ensures) (c.push_outcomes.ensures c.args.state.now.rows ways)
