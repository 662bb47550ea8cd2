-- What holds at the moments of a run that its events lead to: worlds are truthful, and takes end an injection's copies.
use Rattle.std.proofs.Common.{◌≡◌, ℕ, ◌≤◌, List, [], ◌∷◌, ◌++◌, take, Some, refl, sym, ap, subst, ◌∙◌}
use Rattle.std.proofs.lemmas.List.Sums.{fold-append}
use Rattle.wire_base.specs.model.Configuration.{DomainConf, IsValid}
use Rattle.replay_text.specs.declared.event.Event.{Event}
use Rattle.domain_model.specs.World.{WorldState, first_world}
use Rattle.domain_model.specs.Step.{happens}
use Rattle.domain_model.specs.Run.{Run, first_run, goes_on, run_of, world_after}
use Rattle.domain_model.specs.Truth.{IsTruthful}
use Rattle.domain_model.proofs.WorldTruth.{first_true}
use Rattle.laws_ledger.specs.Ledger.{Injection, entered}
use Rattle.laws_ledger.specs.Runs.{AreAllowed, unlined}
use Rattle.laws_ledger.specs.Weights.{first_weight, copies_in, takes_in}
use Rattle.laws_ledger.proofs.FallLaws.{takes_end}
use Rattle.laws_course.proofs.OnceLaws.{allowed_parts, unlined-join, run_world, truth_on, world_next}
use Rattle.laws_replay.specs.Promises.{TakesEnd}
use Rattle.laws_replay.proofs.Reached.{IsReached}
use Rattle.laws_replay.proofs.MomentLaws.{first_allowed}

start_world : (d : DomainConf) → (first_run d).world ≡ first_world d
unfolding first_run
start_world d = refl

module _ (d : DomainConf) (valid : IsValid d) where
  -- after events that were allowed the world is truthful
  pub true_after : (es : List (ℕ × Event)) → AreAllowed (first_world d) (unlined es) → IsTruthful (run_of d es).world
  unfolding run_of
  true_after es all =
      let start : IsTruthful (first_run d).world = subst IsTruthful (sym (start_world d)) (first_true d valid) in
      truth_on es (first_run d) start (subst (λ (w : WorldState). AreAllowed w (unlined es)) (sym (start_world d)) all)

  after_world : (es : List (ℕ × Event)) → (run_of d es).world ≡ world_after (first_world d) (unlined es)
  unfolding run_of
  after_world es = run_world es (first_run d) ∙ ap (λ (w : WorldState). world_after w (unlined es)) (start_world d)

  one_more : (es : List (ℕ × Event)) (e : ℕ × Event) → (run_of d (es ++ e ∷ [])).world ≡ (happens (run_of d es).world e.1).world
  unfolding run_of
  one_more es e = ap (λ (r : Run). r.world) (fold-append goes_on (first_run d) es (e ∷ [])) ∙ world_next (run_of d es) e

  and_more : (es : List (ℕ × Event)) (e : ℕ × Event) (fs : List (ℕ × Event)) → (run_of d (es ++ e ∷ fs)).world ≡ world_after (happens (run_of d es).world e.1).world (unlined fs)
  unfolding run_of
  and_more es e fs =
      ap (λ (r : Run). r.world) (fold-append goes_on (first_run d) es (e ∷ fs)) ∙ run_world fs (goes_on (run_of d es) e)
      ∙ ap (λ (w : WorldState). world_after w (unlined fs)) (world_next (run_of d es) e)

  none_left : (before : List (ℕ × Event)) (e : ℕ × Event) (after : List (ℕ × Event)) (n : ℕ) (i : Injection) → AreAllowed (first_world d) (unlined (before ++ e ∷ after))
      → entered (run_of d before).world.injections e.1 n ≡ Some i → first_weight i ≤ takes_in n (run_of d (before ++ e ∷ [])).world (unlined after)
      → copies_in n (run_of d (before ++ e ∷ after)).world.flights ≡ 0
  none_left before e after n i all enters enough =
      let parts = allowed_parts (unlined before) (unlined (e ∷ after)) (first_world d) (subst (AreAllowed (first_world d)) (unlined-join before (e ∷ after)) all) in
      let here : AreAllowed (run_of d before).world (e.1 ∷ unlined after) = subst (λ (w : WorldState). AreAllowed w (e.1 ∷ unlined after)) (sym (after_world before)) parts.1 in
      ap (λ (w : WorldState). copies_in n w.flights) (and_more before e after)
      ∙ takes_end n (run_of d before).world e.1 i (unlined after) (true_after before parts.0) here.0 here.1 enters here.2
      (subst (λ (w : WorldState). first_weight i ≤ takes_in n w (unlined after)) (one_more before e) enough)

  pub takes_end_copies : (r : Run) → IsReached d r → TakesEnd d r
  takes_end_copies r is j before e after n i split enters enough =
      let all : AreAllowed (first_world d) (unlined (take j r.events)) = first_allowed d j r.events is.allowed in
      subst (λ (es : List (ℕ × Event)). copies_in n (run_of d es).world.flights ≡ 0) (sym split)
      (none_left before e after n i (subst (λ (es : List (ℕ × Event)). AreAllowed (first_world d) (unlined es)) split all) enters enough)
