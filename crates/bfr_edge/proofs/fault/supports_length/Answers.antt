use Rattle.std.proofs.Common.{sym, ◌∙◌}
use Rattle.bfr_edge.proofs.SupportLaws.{supports-is}
use Rattle.bfr_edge.proofs.fault.supports_length.Goals as goal

pub returns-clause-some : goal.returns-clause-some
returns-clause-some c =
    let is = supports-is c.args.conf.now c.args.sd c.args.bsl in
    (λ q. is.0 (sym c.has_length.ensures ∙ q), λ x. c.has_length.ensures ∙ is.1 x)
