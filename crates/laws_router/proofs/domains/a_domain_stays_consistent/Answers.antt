use Rattle.laws_router.proofs.DomainLaws.{consistent_kept}
use Rattle.laws_router.proofs.domains.a_domain_stays_consistent.Goals as goal

pub returns : goal.returns
returns c = consistent_kept
