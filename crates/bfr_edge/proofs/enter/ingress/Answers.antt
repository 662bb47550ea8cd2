use Rattle.std.proofs.Common.{sym, ◌∙◌}
use Rattle.bfr_edge.proofs.GroupLaws.{allowed}
use Rattle.bfr_edge.proofs.enter.ingress.Goals as goal

pub packets_of-requires-clause-zero : goal.packets_of-requires-clause-zero
packets_of-requires-clause-zero c = (allowed c.args.conf.now c.args.sd c.args.bsl c.args.ids.now (sym c.fault_of.ensures ∙ c.in_default.is)).0

pub packets_of-requires-clause-large : goal.packets_of-requires-clause-large
packets_of-requires-clause-large c = (allowed c.args.conf.now c.args.sd c.args.bsl c.args.ids.now (sym c.fault_of.ensures ∙ c.in_default.is)).1
