use Rattle.std.proofs.Common.{is_some, ap, ◌∙◌}
use Rattle.wire_base.specs.model.View.{Claim, metric_to}
use Rattle.view_graph.proofs.AnewLaws.{lists_any}
use Rattle.view_graph.proofs.rebuilt.lists.Goals as goal

pub returns : goal.returns
returns c = c.leads.ensures ∙ lists_any c.as_slice.result.now c.args.system.now ∙ ap (λ l. is_some (metric_to l c.args.system.now)) (c.as_slice.ensures ∙ ap (λ (x : Claim). x.links) c.claim.view_is)
