use Rattle.std.proofs.Common.{◌∙◌, sym}
use Rattle.wire_base.proofs.MeaningLemmas.{known_first, known_second}
use Rattle.wire_base.proofs.router_conf.is_known.Goals as goal

pub returns-then-is_in : goal.returns-then-is_in
returns-then-is_in c = c.is_in.ensures ∙ known_first c.args.subs.now c.args.away.now c.args.sd (sym c.is_in.ensures ∙ c.if-is_in.true)

pub returns-else-is_in : goal.returns-else-is_in
returns-else-is_in c = c.is_in-else-is_in.ensures ∙ known_second c.args.subs.now c.args.away.now c.args.sd (sym c.is_in.ensures ∙ c.if-is_in.false)
