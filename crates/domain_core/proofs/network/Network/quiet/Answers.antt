use Rattle.std.proofs.Common.{map, sym}
use Rattle.laws_router.specs.State.{RouterState}
use Rattle.domain_core.proofs.QuietLaws.{spent_not_yes}
use Rattle.domain_core.proofs.network.Network.quiet.Goals as goal

pub returns-in-Some-clause-issued : goal.returns-in-Some-clause-issued
returns-in-Some-clause-issued c = λ yes. absurd (spent_not_yes (map (λ (r : RouterState). r.control) c.args.self.now.routers.items) c.in-Some.answer (sym c.in-Some.ensures.value) yes)
