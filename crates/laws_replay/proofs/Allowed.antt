-- A run of events, each of them allowed where it occurs, is one that keeps all that is promised.
use Rattle.std.proofs.Common.{◌≡◌, ℕ, List, [], ◌∷◌, ◌++◌, length, Option, Some, None, refl, sym, ap, subst, ◌∙◌}
use Rattle.std.specs.List.{AllByRecursion}
use Rattle.wire_base.specs.model.Configuration.{DomainConf, IsValid}
use Rattle.replay_text.specs.declared.event.Event.{Event}
use Rattle.replay_text.specs.declared.event.Line.{Line}
use Rattle.replay_text.specs.declared.event.Line.TheVariants.{Settle}
use Rattle.domain_model.specs.declared.fault.EventFault.{EventFault}
use Rattle.domain_model.specs.Faults.{event_fault}
use Rattle.domain_model.specs.Truth.{EventFits}
use Rattle.domain_model.specs.World.{WorldState, first_world}
use Rattle.domain_model.specs.Run.{first_run, run_of, on_line, line_events, settle_events, world_after}
use Rattle.domain_replay.specs.Parts.{if_allowed, allowed_first}
use Rattle.domain_replay.proofs.Stays.{happens_domain}
use Rattle.domain_model.specs.Step.{happens}
use Rattle.laws_ledger.specs.Runs.{AreAllowed, unlined}
use Rattle.laws_course.proofs.OnceLaws.{unlined-join, run_world}
use Rattle.laws_replay.specs.Promises.{KeepsPromises, LineFits}
use Rattle.laws_replay.proofs.Fitting.{events_fit}
use Rattle.laws_replay.proofs.Reached.{IsReached}
use Rattle.laws_replay.proofs.MomentLaws.{events_of}
use Rattle.laws_replay.proofs.Ending.{true_after}
use Rattle.laws_replay.proofs.Holding.{keeps_promises}

-- events change no domain
after_domain : (es : List Event) (w : WorldState) → (world_after w es).domain ≡ w.domain
after_domain [] w = refl
after_domain (e ∷ es) w = after_domain es (happens w e).world ∙ happens_domain w e

module _ (d : DomainConf) (es : List (ℕ × Event)) where
  pub run_domain : (run_of d es).world.domain ≡ d
  unfolding run_of first_run first_world
  run_domain = ap (λ (w : WorldState). w.domain) (run_world es (first_run d)) ∙ after_domain (unlined es) (first_world d)

  pub run_there : (run_of d es).world ≡ world_after (first_world d) (unlined es)
  unfolding run_of first_run
  run_there = run_world es (first_run d)

  pub events_reached : IsValid d → AreAllowed (first_world d) (unlined es) → IsReached d (run_of d es)
  events_reached valid all =
      let same = events_of d es in
      record {
        whole = ap (run_of d) same;
        allowed = subst (λ (l : List (ℕ × Event)). AreAllowed (first_world d) (unlined l)) (sym same) all;
        domain = run_domain;
        truth = true_after d valid es all;
      }

  pub events_promised : IsValid d → AreAllowed (first_world d) (unlined es) → KeepsPromises d (run_of d es)
  events_promised valid all = keeps_promises d valid (run_of d es) (events_reached valid all)

-- ---- a line more

-- what is allowed after what was
allowed_joined : (xs ys : List Event) (w : WorldState) → AreAllowed w xs → AreAllowed (world_after w xs) ys → AreAllowed w (xs ++ ys)
allowed_joined [] ys w first second = second
allowed_joined (x ∷ xs) ys w first second = (first.0, first.1, allowed_joined xs ys (happens w x).world first.2 second)

pub unlined_on : (line : ℕ) (es : List Event) → unlined (on_line line es) ≡ es
unlined_on line [] = refl
unlined_on line (e ∷ es) = ap (λ (l : List Event). e ∷ l) (unlined_on line es)

-- the events that are executed, of some that fit
done_allowed : (count : ℕ) (es : List Event) (w : WorldState) → length w.domain.routers ≡ count → AllByRecursion (EventFits count) es → AreAllowed w (allowed_first w es)
unfolding allowed_first
done_allowed count [] w same fits = tt
done_allowed count (e ∷ es) w same fits = by (event_fault w e) refl (done_allowed count es (happens w e).world (ap (λ (x : DomainConf). length x.routers) (happens_domain w e) ∙ same) fits.1)
  where
    by : (o : Option EventFault) → event_fault w e ≡ o → AreAllowed (happens w e).world (allowed_first (happens w e).world es) → AreAllowed w (if_allowed e (allowed_first (happens w e).world es) o)
    by None ok rest = (subst (λ (n : ℕ). EventFits n e) (sym same) fits.0, ok, rest)
    by (Some why) refused rest = tt

-- those of rounds
pub settle_allowed : (d : DomainConf) → IsValid d → (w : WorldState) (rounds : ℕ) → w.domain ≡ d → AreAllowed w (allowed_first w (settle_events w rounds))
settle_allowed d valid w rounds domain = done_allowed (length d.routers) (settle_events w rounds) w (ap (λ (x : DomainConf). length x.routers) domain) (events_fit d valid w domain (Settle rounds) tt)

-- the events of a line that are executed after others
pub line_allowed : (d : DomainConf) → IsValid d → (line : ℕ) (said : Line) (es : List (ℕ × Event)) (w : WorldState) → LineFits (length d.routers) said → w ≡ (run_of d es).world → AreAllowed (first_world d) (unlined es)
    → AreAllowed (first_world d) (unlined (es ++ on_line line (allowed_first w (line_events w said))))
line_allowed d valid line said es w fits is all =
    let at : w ≡ world_after (first_world d) (unlined es) = is ∙ run_there d es in
    let domain : w.domain ≡ d = ap (λ (x : WorldState). x.domain) is ∙ run_domain d es in
    let done = allowed_first w (line_events w said) in
    let here : AreAllowed w done = done_allowed (length d.routers) (line_events w said) w (ap (λ (x : DomainConf). length x.routers) domain) (events_fit d valid w domain said fits) in
    let join : unlined (es ++ on_line line done) ≡ unlined es ++ done = unlined-join es (on_line line done) ∙ ap (λ (l : List Event). unlined es ++ l) (unlined_on line done) in
    subst (AreAllowed (first_world d)) (sym join) (allowed_joined (unlined es) done (first_world d) all (subst (λ (x : WorldState). AreAllowed x done) at here))
