use Rattle.std.proofs.Common.{sym, ◌∙◌}
use Rattle.view_graph.proofs.EdgeLaws.{back_step}
use Rattle.view_graph.proofs.edges.all_lead_back.Goals as goal

pub systems-preserved : goal.systems-preserved
systems-preserved c = back_step c.args.halves.now c.systems.place c.systems.invariant (sym c.lead_back.ensures ∙ c.if-not-lead_back.false)
