-- The ledger of a run is right at each of its moments.
use Rattle.std.proofs.Common.{◌≡◌, ℕ, List, [], ◌∷◌, ◌++◌, length, take, drop, fold, refl, sym, ap, subst, ◌∙◌, arith, append_assoc, append-nil}
use Rattle.std.specs.List.{AllByRecursion}
use Rattle.std.proofs.lemmas.List.{take-append-drop, take_all}
use Rattle.wire_base.specs.model.Configuration.{DomainConf, IsValid}
use Rattle.wire_base.specs.model.Hop.{one_if}
use Rattle.replay_text.specs.declared.event.Event.{Event}
use Rattle.domain_model.specs.declared.lines.DropLine.{DropLine}
use Rattle.domain_model.specs.World.{first_world}
use Rattle.domain_model.specs.Step.{happens}
use Rattle.domain_model.specs.Run.{Run, first_run, on_line, goes_on, run_of}
use Rattle.domain_model.specs.Truth.{IsTruthful, IsWorldCause}
use Rattle.domain_model.proofs.EachLaws.{each_joined, each_mapped}
use Rattle.domain_model.proofs.WorldTruth.{KeepsTruth, happens_true, first_true}
use Rattle.laws_ledger.specs.Ledger.{names, numbered, injections_in, ledger}
use Rattle.laws_ledger.specs.Runs.{AreAllowed, unlined, IsAccounted}
use Rattle.laws_ledger.proofs.RunLaws.{run_accounted, next_truth, next_allowed}
use Rattle.laws_course.proofs.OnceLaws.{allowed_parts, unlined-join}
use Rattle.laws_replay.specs.Moments.{moment, is_named, HasLedger, HasLedgerThroughout}
use Rattle.laws_replay.proofs.Reached.{IsReached}

-- ---- events

events_next : (r : Run) (e : ℕ × Event) → (goes_on r e).events ≡ r.events ++ e ∷ []
unfolding goes_on
events_next r e = refl

-- the events of a run are those that it did
events_on : (es : List (ℕ × Event)) (r : Run) → (fold goes_on r es).events ≡ r.events ++ es
events_on [] r = sym (append-nil r.events)
events_on (e ∷ es) r = events_on es (goes_on r e) ∙ ap (λ (l : List (ℕ × Event)). l ++ es) (events_next r e) ∙ append_assoc r.events (e ∷ []) es

pub events_of : (d : DomainConf) (es : List (ℕ × Event)) → (run_of d es).events ≡ es
unfolding run_of first_run
events_of d es = events_on es (first_run d)

-- the first of them were allowed
pub first_allowed : (d : DomainConf) (j : ℕ) (es : List (ℕ × Event)) → AreAllowed (first_world d) (unlined es) → AreAllowed (first_world d) (unlined (take j es))
first_allowed d j es all =
    let parts : unlined es ≡ unlined (take j es) ++ unlined (drop j es) = ap unlined (sym (take-append-drop j es)) ∙ unlined-join (take j es) (drop j es) in
    (allowed_parts (unlined (take j es)) (unlined (drop j es)) (first_world d) (subst (AreAllowed (first_world d)) parts all)).0

-- ---- drops

abbrev HasCauses : Run → Type 0
HasCauses r = AllByRecursion (λ (x : ℕ × DropLine). IsWorldCause x.1.cause) r.drops

causes_next : (r : Run) (e : ℕ × Event) → KeepsTruth r.world.domain (happens r.world e.1) → HasCauses r → HasCauses (goes_on r e)
unfolding goes_on
causes_next r e kept old =
    let P : ℕ × DropLine → Type 0 = λ x. IsWorldCause x.1.cause in
    let made = kept.made in
    each_joined P r.drops (on_line e.0 (happens r.world e.1).made.drops) old (each_mapped P (λ (x : DropLine). (e.0, x)) (happens r.world e.1).made.drops made.drops)

causes_on : (es : List (ℕ × Event)) (r : Run) → IsTruthful r.world → AreAllowed r.world (unlined es) → HasCauses r → HasCauses (fold goes_on r es)
causes_on [] r truth all old = old
causes_on (e ∷ es) r truth all old = causes_on es (goes_on r e) (next_truth r e truth all.0 all.1) (next_allowed r e (unlined es) all.2) (causes_next r e (happens_true r.world e.1 truth all.0 all.1) old)

causes_of : (d : DomainConf) (es : List (ℕ × Event)) → IsValid d → AreAllowed (first_world d) (unlined es) → HasCauses (run_of d es)
unfolding run_of first_run
causes_of d es valid all = causes_on es (first_run d) (first_true d valid) all tt

-- ---- moments

module _ (d : DomainConf) (valid : IsValid d) (r : Run) (is : IsReached d r) where
  pub accounted_at : (j : ℕ) → IsAccounted (moment d r j)
  accounted_at j = run_accounted d (take j r.events) valid (first_allowed d j r.events is.allowed)

  balanced_at : (j n k : ℕ) → ledger n k (moment d r j) ≡ one_if (is_named r j n k)
  balanced_at j n k =
      let accounts = accounted_at j in
      accounts.balanced n k ∙ ap (λ (es : List (ℕ × Event)). one_if (names (numbered (injections_in es) n) k)) (events_of d (take j r.events))

  moment_kept : (j : ℕ) → HasLedger d r j
  moment_kept j =
      let accounts = accounted_at j in
      record {
        named = λ n k h. balanced_at j n k ∙ ap one_if h;
        others = λ n k h. balanced_at j n k ∙ ap one_if h;
        owned = accounts.delivered;
        causes = causes_of d (take j r.events) valid (first_allowed d j r.events is.allowed);
      }

  pub last_moment : moment d r (length r.events) ≡ r
  last_moment = ap (run_of d) (take_all (length r.events) r.events (omega arith)) ∙ is.whole

  pub ledger_throughout : HasLedgerThroughout d r
  ledger_throughout = record { allowed = is.allowed; moments = moment_kept; last = last_moment }

  -- the run itself is accounted for
  pub run_is_accounted : IsAccounted r
  run_is_accounted = subst IsAccounted last_moment (accounted_at (length r.events))
