use Rattle.std.proofs.Common.{sym, ap, subst, ◌∙◌}
use Rattle.domain_model.specs.Truth.{IsTruthful}
use Rattle.laws_quiet.specs.Quiet.{AreIssuers}
use Rattle.laws_quiet.proofs.AgreeLaws.{agreed}
use Rattle.domain_core.specs.Network.{Seen}
use Rattle.domain_core.specs.Quiet.{quiet_of}
use Rattle.domain_core.proofs.QuietLaws.{quiet_is_yes, yes_is_quiet}
use Rattle.domain_core.proofs.world.World.quiet.Goals as goal

pub returns-clause-value : goal.returns-clause-value
returns-clause-value c = c.quiet.ensures.value ∙ ap (λ (s : Seen). quiet_of s.world) c.self.view_is

pub returns-clause-quiet : goal.returns-clause-quiet
returns-clause-quiet c =
    let w = c.args.self.now.world in
    let truth : IsTruthful w = subst (λ (s : Seen). IsTruthful s.world) c.self.view_is c.self.invariant.truth in
    let value = c.quiet.ensures.value ∙ ap (λ (s : Seen). quiet_of s.world) c.self.view_is in
    (λ yes. yes_is_quiet w truth (sym value ∙ yes), λ q. value ∙ quiet_is_yes w truth q)

pub returns-clause-agreed : goal.returns-clause-agreed
returns-clause-agreed c = λ a d yes at.
    let w = c.args.self.now.world in
    let truth : IsTruthful w = subst (λ (s : Seen). IsTruthful s.world) c.self.view_is c.self.invariant.truth in
    let value = c.quiet.ensures.value ∙ ap (λ (s : Seen). quiet_of s.world) c.self.view_is in
    let issuers : AreIssuers w.routers = subst (λ (s : Seen). AreIssuers s.world.routers) c.self.view_is (c.quiet.ensures.issued yes) in
    agreed w truth issuers (yes_is_quiet w truth (sym value ∙ yes)) a d at
