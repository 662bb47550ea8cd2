use Rattle.std.proofs.Common.{◌≡◌, ◌<◌, ℕ, None, Ok, MatchResult, length, sym, subst, ◌∙◌}
use Rattle.domain_model.specs.Truth.{IsTruthful}
use Rattle.laws_quiet.specs.Quiet.{AreIssuers}
use Rattle.domain_core.specs.Cover.{Rejects, cover_of}
use Rattle.domain_core.specs.Network.{Seen}
use Rattle.domain_core.specs.Quiet.{spent_from}
use Rattle.domain_core.proofs.CoverRuns.{are_delivered, none_dropped}
use Rattle.domain_core.proofs.EventLaws.{as_many}
use Rattle.domain_core.proofs.world.World.cover.Goals as goal

pub cover-requires-clause-place : goal.cover-requires-clause-place
cover-requires-clause-place c =
    let n = c.self.inside.network in
    subst (λ (m : ℕ). c.args.router < m) (sym (as_many n c.self.invariant)) (subst (λ (s : Seen). c.args.router < length s.world.domain.routers) (sym c.self.view_is) c.requires.place)

pub returns-clause-value : goal.returns-clause-value
returns-clause-value c =
    subst
    (λ (s : Seen). MatchResult c.cover.result (λ ks. cover_of s.world c.args.router c.args.sd c.args.bsl c.args.ids.now c.args.ttl c.args.entropy ≡ Ok ks) (Rejects (cover_of s.world c.args.router c.args.sd c.args.bsl c.args.ids.now c.args.ttl c.args.entropy)))
    c.self.view_is c.cover.ensures

pub returns-clause-dropped : goal.returns-clause-dropped
returns-clause-dropped c =
    let w = c.args.self.now.world in
    let truth : IsTruthful w = subst (λ (s : Seen). IsTruthful s.world) c.self.view_is c.self.invariant.truth in
    let issued : spent_from 0 w.routers ≡ None → AreIssuers w.routers = subst (λ (s : Seen). spent_from 0 s.world.routers ≡ None → AreIssuers s.world.routers) c.self.view_is (λ none. c.spent_answer-issued.ensures.issued (c.spent_answer-issued.ensures.value ∙ none)) in
    none_dropped w truth issued c.args.router c.args.sd c.args.bsl c.args.ids.now c.args.ttl c.args.entropy c.cover.result
    (subst
    (λ (s : Seen). MatchResult c.cover.result (λ ks. cover_of s.world c.args.router c.args.sd c.args.bsl c.args.ids.now c.args.ttl c.args.entropy ≡ Ok ks) (Rejects (cover_of s.world c.args.router c.args.sd c.args.bsl c.args.ids.now c.args.ttl c.args.entropy)))
    c.self.view_is c.cover.ensures)

pub returns-clause-delivered : goal.returns-clause-delivered
returns-clause-delivered c =
    let w = c.args.self.now.world in
    let truth : IsTruthful w = subst (λ (s : Seen). IsTruthful s.world) c.self.view_is c.self.invariant.truth in
    let issued : spent_from 0 w.routers ≡ None → AreIssuers w.routers = subst (λ (s : Seen). spent_from 0 s.world.routers ≡ None → AreIssuers s.world.routers) c.self.view_is (λ none. c.spent_answer-issued.ensures.issued (c.spent_answer-issued.ensures.value ∙ none)) in
    are_delivered w truth issued c.args.router c.args.sd c.args.bsl c.args.ids.now c.args.ttl c.args.entropy c.cover.result
    (subst
    (λ (s : Seen). MatchResult c.cover.result (λ ks. cover_of s.world c.args.router c.args.sd c.args.bsl c.args.ids.now c.args.ttl c.args.entropy ≡ Ok ks) (Rejects (cover_of s.world c.args.router c.args.sd c.args.bsl c.args.ids.now c.args.ttl c.args.entropy)))
    c.self.view_is c.cover.ensures)
