use Rattle.std.proofs.Common.{sym, subst, ◌∙◌}
use Rattle.wire_base.specs.model.Configuration.{IsValid}
use Rattle.grown_domain.proofs.GrownDomain.{grown_valid, domain_made}
use Rattle.grown_domain.proofs.domain.grown.Goals as goal

pub invariant_of-result : goal.invariant_of-result
invariant_of-result c =
    subst IsValid
    (sym (domain_made c.args.n c.in_ok-routers.field-0 c.in_ok-pairs.field-0 c.as_slice.result.now c.as_slice-2.result.now (c.as_slice.ensures ∙ c.in_ok-links.ensures) (c.as_slice-2.ensures ∙ c.in_ok-links.ensures) c.in_ok-routers.ensures c.in_ok-pairs.ensures))
    (grown_valid c.args.n c.requires.some c.requires.few)

pub returns : goal.returns
returns c =
    domain_made c.args.n c.in_ok-routers.field-0 c.in_ok-pairs.field-0 c.as_slice.result.now c.as_slice-2.result.now (c.as_slice.ensures ∙ c.in_ok-links.ensures) (c.as_slice-2.ensures ∙ c.in_ok-links.ensures) c.in_ok-routers.ensures c.in_ok-pairs.ensures
