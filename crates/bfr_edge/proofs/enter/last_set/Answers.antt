use Rattle.wire_base.specs.model.Ingress.{is_large}
use Rattle.bfr_edge.proofs.GroupLaws.{find-none}
use Rattle.bfr_edge.proofs.enter.last_set.Goals as goal

pub returns-else-not-any_above-2 : goal.returns-else-not-any_above-2
returns-else-not-any_above-2 c = find-none (is_large c.args.bsl) c.args.ids.now c.requires
