-- A domain after a run of gentle events: at rest, and after rounds.
use Rattle.std.proofs.Common.{◌≡◌, ◌⊎◌, inl, inr, ℕ, suc, ◌<◌, ◌≤◌, List, [], ◌∷◌, length, slice_get, Some, refl, sym, ap, subst, ◌∙◌, arith}
use Rattle.wire_base.specs.model.Configuration.{DomainConf}
use Rattle.wire_base.specs.model.Control.{Control}
use Rattle.wire_base.specs.model.View.{control_view}
use Rattle.replay_text.specs.declared.event.Event.{Event}
use Rattle.domain_model.specs.Run.{settle_events, world_after}
use Rattle.domain_model.specs.Step.{happens}
use Rattle.domain_model.specs.Truth.{IsTruthful}
use Rattle.domain_model.specs.World.{WorldState, first_world}
use Rattle.domain_model.proofs.WorldTruth.{first_true, happens_true}
use Rattle.laws_ledger.specs.Ledger.{Injection}
use Rattle.laws_ledger.specs.Runs.{AreAllowed}
use Rattle.laws_ledger.specs.Weights.{copies_in}
use Rattle.laws_course.specs.Course.{Agreed, own_node}
use Rattle.laws_quiet.specs.Quiet.{AreIssuers, IsQuiet}
use Rattle.laws_quiet.specs.Cover.{deliveries_by}
use Rattle.laws_quiet.proofs.AgreeLaws.{agreed}
use Rattle.laws_quiet.proofs.DeliverLaws.{covered_delivers}
use Rattle.laws_settle.proofs.IssuerLaws.{first_issuers, happens_issued}
use Rattle.laws_settle.specs.Idle.{IsIdle}
use Rattle.laws_settle.specs.Settled.{IsAtRest, IsGentleRun, IsInjectedAt, IsSettled, IsTrafficRun}
use Rattle.laws_settle.specs.Width.{HasWidth}
use Rattle.laws_settle.proofs.RestLaws.{rest_is_quiet}
use Rattle.laws_settle.proofs.QuietLaws.{idle_after, quiet_after, run_after}
use Rattle.laws_settle.proofs.RunLaws.{IsRun, run_first, run_on}

issuers_on : (es : List Event) (w : WorldState) → IsTruthful w → AreIssuers w.routers → AreAllowed w es → AreIssuers (world_after w es).routers
issuers_on [] w t all allowed = all
issuers_on (e ∷ es) w t all allowed = issuers_on es (happens w e).world (happens_true w e t allowed.0 allowed.1).truth (happens_issued w t all e) allowed.2

domain_on : (es : List Event) (w : WorldState) → IsTruthful w → AreAllowed w es → (world_after w es).domain ≡ w.domain
domain_on [] w t allowed = refl
domain_on (e ∷ es) w t allowed =
    let next = happens_true w e t allowed.0 allowed.1 in
    domain_on es (happens w e).world next.truth allowed.2 ∙ next.domain

first_domain : (d : DomainConf) → (first_world d).domain ≡ d
unfolding first_world
first_domain d = refl

module _ (d : DomainConf) (es : List Event) (w : WorldState) (run : IsGentleRun d es w) where
  run_here : IsRun w
  run_here = subst IsRun (sym run.is) (run_on es (first_world d) (run_first d run.valid) run.allowed run.gentle)

  issuers_here : AreIssuers w.routers
  issuers_here = subst (λ (v : WorldState). AreIssuers v.routers) (sym run.is) (issuers_on es (first_world d) (first_true d run.valid) (first_issuers d) run.allowed)

  domain_here : w.domain ≡ d
  domain_here = ap (λ (v : WorldState). v.domain) run.is ∙ domain_on es (first_world d) (first_true d run.valid) run.allowed ∙ first_domain d

-- ---- at rest

module _ (d : DomainConf) (es : List Event) (w : WorldState) (rest : IsAtRest d es w) where
  pub run_rests : IsQuiet w
  run_rests = let here = run_here d es w rest.run in rest_is_quiet w here.truth here.fresh rest.idle rest.run.whole

  pub rest_agrees : (a : ℕ) (c : Control) → slice_get w.routers a ≡ Some c → Agreed w (control_view c) (own_node c)
  rest_agrees a c at = agreed w (run_here d es w rest.run).truth (issuers_here d es w rest.run) run_rests a c at

-- ---- after rounds

module _ (d : DomainConf) (es : List Event) (w : WorldState) (rounds : ℕ) (v : WorldState) (settled : IsSettled d es w rounds v) where
  enough : (length w.domain.routers ≤ suc rounds) ⊎ HasWidth w rounds
  enough = elim settled.enough [
    | inl many ↦ inl (let n = ap (λ (x : DomainConf). length x.routers) (domain_here d es w settled.run) in omega (arith, n, many))
    | inr width ↦ inr width
  ]

  pub rounds_idle : (u : WorldState) → 0 < rounds → AreAllowed v (settle_events v 3) → u ≡ world_after v (settle_events v 3) → IsIdle u
  rounds_idle u some more is =
      subst IsIdle (sym is)
      (subst (λ (x : WorldState). AreAllowed x (settle_events x 3) → IsIdle (world_after x (settle_events x 3))) (sym settled.is) (idle_after rounds w (run_here d es w settled.run) settled.run.whole enough settled.allowed some) more)

  module _ (fs : List Event) (u : WorldState) (later : IsTrafficRun v fs u) where
    there : IsRun u × IsQuiet u
    there =
        subst (λ (x : WorldState). IsRun x × IsQuiet x) (sym later.is)
        (subst (λ (x : WorldState). AreAllowed x fs → IsRun (world_after x fs) × IsQuiet (world_after x fs)) (sym settled.is) (quiet_after rounds w (run_here d es w settled.run) settled.run.whole enough settled.allowed fs later.traffic) later.allowed)

    issuers_there : AreIssuers u.routers
    issuers_there =
        subst (λ (x : WorldState). AreIssuers x.routers) (sym later.is)
        (issuers_on fs v (subst IsTruthful (sym settled.is) (run_after rounds w (run_here d es w settled.run) settled.run.whole enough settled.allowed).truth)
        (subst (λ (x : WorldState). AreIssuers x.routers) (sym settled.is) (issuers_on (settle_events w rounds) w (run_here d es w settled.run).truth (issuers_here d es w settled.run) settled.allowed)) later.allowed)

    pub traffic_quiet : IsQuiet u
    traffic_quiet = there.1

    pub traffic_agrees : (a : ℕ) (c : Control) → slice_get u.routers a ≡ Some c → Agreed u (control_view c) (own_node c)
    traffic_agrees a c at = agreed u there.0.truth issuers_there traffic_quiet a c at

    pub traffic_delivers : (e : Event) (gs : List Event) (c : Control) (n k : ℕ) (i : Injection) → IsInjectedAt u e gs c n k i → copies_in n (world_after u (e ∷ gs)).flights ≡ 0 → deliveries_by n k u (e ∷ gs) ≡ 1
    traffic_delivers e gs c n k i h gone =
        covered_delivers u e gs c n k i (record {
          truth = there.0.truth;
          issuers = issuers_there;
          quiet = traffic_quiet;
          allowed = h.allowed;
          enters = h.enters;
          names = h.names;
          ingress = h.ingress;
          covered = h.covered;
          takes = h.takes;
        }) gone
