-- What a cover promises of the runs of its injection.
use Rattle.std.proofs.Common.{◌≡◌, ℕ, ◌+◌, true, List, [], ◌∷◌, slice_get, Option, Some, None, Result, Ok, Err, IfOk, MatchResult, refl, sym, subst, ◌∙◌}
use mathlib.Core.Bool.{false≢true}
use Rattle.std.proofs.lemmas.Bool.{eq-eqb}
use Rattle.wire_base.specs.declared.bsl.Bsl.{Bsl}
use Rattle.wire_base.specs.declared.faults.EdgeFault.{EdgeFault}
use Rattle.wire_base.specs.model.Control.{Control}
use Rattle.wire_base.specs.model.Hop.{has}
use Rattle.replay_text.specs.declared.event.Event.{Event}
use Rattle.replay_text.specs.declared.event.Event.TheVariants.{Inject}
use Rattle.domain_model.specs.Run.{world_after}
use Rattle.domain_model.specs.Truth.{IsTruthful}
use Rattle.domain_model.specs.World.{WorldState}
use Rattle.laws_ledger.specs.Ledger.{Injection}
use Rattle.laws_ledger.specs.Weights.{copies_in}
use Rattle.laws_quiet.specs.Cover.{IsCoveredAt, deliveries_by, drops_by}
use Rattle.laws_quiet.specs.Quiet.{AreIssuers}
use Rattle.laws_quiet.proofs.DeliverLaws.{covered_delivers, covered_drops}
use Rattle.domain_core.specs.Cover.{IsReceived, Rejects, cover_of, covered_ids, unless_refused}
use Rattle.domain_core.specs.Quiet.{spent_from}
use Rattle.domain_core.proofs.CoverLaws.{cover_is, covered_named}
use Rattle.domain_core.proofs.QuietLaws.{yes_is_quiet, yes_unspent}

ok_is : (o : Option EdgeFault) (xs ks : List ℕ) → unless_refused o xs ≡ Ok ks → ks ≡ xs
ok_is None xs ks h = cc
ok_is (Some e) xs ks h = cc

module _ (w : WorldState) (truth : IsTruthful w) (issued : spent_from 0 w.routers ≡ None → AreIssuers w.routers) (a sd : ℕ) (bsl : Bsl) (ids : List ℕ) (ttl entropy : ℕ) where
  abbrev pub event : List ℕ → Event
  event payload = Inject a sd bsl ids ttl entropy payload

  abbrev injection : List ℕ → Injection
  injection payload = record { router = a; sd = sd; bsl = bsl; ids = ids; ttl = ttl; entropy = entropy; payload = payload }

  -- the run is that of an injection that is covered
  record IsCoverRun (k : ℕ) (payload : List ℕ) (es : List Event) : Type 0 where
    control : Control
    covered : IsCoveredAt w (event payload) es control (w.injections + 1) k (injection payload)

  no_router : slice_get w.routers a ≡ None → cover_of w a sd bsl ids ttl entropy ≡ Ok []
  unfolding cover_of
  no_router none = rw none refl

  nothing_is : (ks : List ℕ) → let none : Result (List ℕ) EdgeFault = Ok [] in none ≡ Ok ks → ks ≡ []
  nothing_is ks h = cc

  cover_run : (ks : List ℕ) → cover_of w a sd bsl ids ttl entropy ≡ Ok ks → (k : ℕ) → has ks k ≡ true → (payload : List ℕ) (es : List Event) → IsReceived w (event payload) es → IsCoverRun k payload es
  cover_run ks found k there payload es h = by (slice_get w.routers a) refl
    where
      by : (o : Option Control) → slice_get w.routers a ≡ o → IsCoverRun k payload es
      by None at = absurd (false≢true (subst (λ (l : List ℕ). has l k ≡ true) (nothing_is ks (sym (no_router at) ∙ found)) there))
      by (Some c) at =
          let which : ks ≡ covered_ids c sd bsl ids ttl entropy = ok_is _ _ _ (sym (cover_is w a c at sd bsl ids ttl entropy) ∙ found) in
          let named = covered_named c sd bsl ids ttl entropy k (subst (λ (l : List ℕ). has l k ≡ true) which there) in
          record {
            control = c;
            covered = record {
              truth = truth;
              issuers = issued (yes_unspent w h.quiet);
              quiet = yes_is_quiet w truth h.quiet;
              allowed = h.allowed;
              enters = rw (eq-eqb (w.injections + 1) (w.injections + 1) refl) refl;
              names = named.0;
              ingress = at;
              covered = named.1;
              takes = h.takes;
            };
          }

  abbrev NoneDropped : List ℕ → Type 0
  NoneDropped ks = (k : ℕ) (payload : List ℕ) (es : List Event) → has ks k ≡ true → IsReceived w (event payload) es → drops_by (w.injections + 1) k w (event payload ∷ es) ≡ 0

  abbrev AreDelivered : List ℕ → Type 0
  AreDelivered ks =
      (k : ℕ) (payload : List ℕ) (es : List Event) → has ks k ≡ true → IsReceived w (event payload) es → copies_in (w.injections + 1) (world_after w (event payload ∷ es)).flights ≡ 0
      → deliveries_by (w.injections + 1) k w (event payload ∷ es) ≡ 1

  -- an answer keeps its promise
  pub none_dropped : (r : Result (List ℕ) EdgeFault) → MatchResult r (λ ks. cover_of w a sd bsl ids ttl entropy ≡ Ok ks) (Rejects (cover_of w a sd bsl ids ttl entropy)) → IfOk r NoneDropped
  none_dropped (Ok ks) found = λ k payload es there h. let run = cover_run ks found k there payload es h in covered_drops w (event payload) es run.control (w.injections + 1) k (injection payload) run.covered
  none_dropped (Err e) found = tt

  pub are_delivered : (r : Result (List ℕ) EdgeFault) → MatchResult r (λ ks. cover_of w a sd bsl ids ttl entropy ≡ Ok ks) (Rejects (cover_of w a sd bsl ids ttl entropy)) → IfOk r AreDelivered
  are_delivered (Ok ks) found = λ k payload es there h gone. let run = cover_run ks found k there payload es h in covered_delivers w (event payload) es run.control (w.injections + 1) k (injection payload) run.covered gone
  are_delivered (Err e) found = tt
