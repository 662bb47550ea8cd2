-- The runs of the pair, by computation.
use Rattle.std.proofs.Common.{◌≡◌, ◌∙◌, ◌⊎◌, ◌+◌, ◌≤◌, inl, inr, ℕ, zero, suc, Bool, true, false, List, [], ◌∷◌, length, slice_get, slice_index_or, Some, None, refl, sym, subst, arith}
use Rattle.wire_base.specs.declared.addresses.LspId.{LspId}
use Rattle.wire_base.specs.declared.bsl.Bsl.TheVariants.{B64}
use Rattle.wire_base.specs.model.Configuration.{IsValid}
use Rattle.wire_base.specs.model.Control.{Control}
use Rattle.replay_text.specs.declared.event.Event.{Event}
use Rattle.domain_model.specs.Faults.{event_fault, is_up_toward}
use Rattle.domain_model.specs.Step.{happens}
use Rattle.domain_model.specs.Truth.{EventFits}
use Rattle.quiet_domain.specs.Way.{links_over, way_to}
use Rattle.laws_ledger.specs.Ledger.{entered}
use Rattle.laws_ledger.specs.Weights.{copies_in}
use Rattle.laws_quiet.specs.Cover.{AreTakes, covers_id}
use Rattle.examples_model.specs.Domains.{lsp, pair, pair_a}
use Rattle.examples_model.specs.Frames.{settled}
use Rattle.quiet_domain.specs.Live.{is_same_at}
use Rattle.domain_model.specs.Run.{settle_events, world_after}
use Rattle.domain_model.specs.World.{WorldState, first_world}
use Rattle.laws_quiet.specs.Quiet.{lsdb_at}
use Rattle.laws_settle.specs.Fresh.{HasWholeLinks}
use Rattle.laws_settle.specs.Gentle.{AreGentle}
use Rattle.laws_settle.specs.Settled.{IsAtRest, IsGentleRun, IsInjectedAt, IsSettled, IsTrafficRun}
use Rattle.laws_settle.specs.Width.{AreJoined, HasWidth}
use Rattle.examples_settle.specs.Runs.{IsStuck, after, disturbed, ended, enters, four_rounds, half, ingress, restarted, taken, the_injection, with_rounds}
use Rattle.examples_settle.proofs.AllowedLaws.{all_allowed, all_calm, all_idle, allowed_is, calm_is, fits, idle_is, is_calm}
use Rattle.examples_settle.proofs.OnLiterals.{floods_on_literals, hops_on_literals, runs_on_literals}

disturbed_allowed : all_allowed (first_world pair) disturbed ≡ true
unfolding floods_on_literals runs_on_literals fits
disturbed_allowed = refl

disturbed_gentle : AreGentle (first_world pair) disturbed
unfolding floods_on_literals runs_on_literals
disturbed_gentle = (tt, (tt, (tt, ((λ h. omega (arith, h), tt), (tt, (tt, (tt, (tt, (tt, tt)))))))))

-- the link of the pair
joins : ℕ → ℕ → Bool
joins zero (suc zero) = true
joins (suc zero) zero = true
joins a b = false

disturbed_up : (a b : ℕ) → is_up_toward (after disturbed) a b ≡ joins a b
unfolding floods_on_literals runs_on_literals joins
disturbed_up zero (suc zero) = refl
disturbed_up (suc zero) (suc zero) = refl
disturbed_up (suc (suc a)) (suc zero) = refl
disturbed_up a b = refl

joins_back : (a b : ℕ) → joins a b ≡ joins b a
unfolding joins
joins_back zero (suc zero) = refl
joins_back (suc zero) (suc zero) = refl
joins_back (suc (suc a)) (suc zero) = refl
joins_back a b = refl

disturbed_whole : HasWholeLinks (after disturbed)
disturbed_whole a b = disturbed_up a b ∙ joins_back a b ∙ sym (disturbed_up b a)

-- a step and another lead back
joins_twice : (a b c : ℕ) → joins a b ≡ true → joins b c ≡ true → a ≡ c
unfolding joins
joins_twice zero (suc zero) zero one two = refl
joins_twice (suc zero) zero (suc zero) one two = refl
joins_twice a b c one two = absurd cc

-- one link leads from each router to each other
disturbed_wide : HasWidth (after disturbed) 1
disturbed_wide zero a b same = inl same
disturbed_wide (suc links) a b (inl same) = inl same
disturbed_wide (suc links) a b (inr (c, up, more)) = by (disturbed_wide links c b more)
  where
    by : AreJoined (after disturbed) 1 c b → AreJoined (after disturbed) 1 a b
    by (inl same) = inr (c, up, same)
    by (inr (e, over, same)) = inl (joins_twice a c e (sym (disturbed_up a c) ∙ up) (sym (disturbed_up c e) ∙ over) ∙ same)

run : IsValid pair → IsGentleRun pair disturbed (after disturbed)
run valid = record { valid = valid; allowed = allowed_is disturbed (first_world pair) disturbed_allowed; gentle = disturbed_gentle; is = refl; whole = disturbed_whole }

module _ (valid : IsValid pair) where
  settled_in : (rounds : ℕ) → (length pair.routers ≤ rounds + 1) ⊎ HasWidth (after disturbed) rounds → all_allowed (after disturbed) (settle_events (after disturbed) rounds) ≡ true → IsSettled pair disturbed (after disturbed) rounds (with_rounds (after disturbed) rounds)
  settled_in rounds enough allowed = record { run = run valid; enough = enough; allowed = allowed_is (settle_events (after disturbed) rounds) (after disturbed) allowed; is = refl }

  pub settles : IsSettled pair disturbed (after disturbed) 2 (with_rounds (after disturbed) 2)
  unfolding floods_on_literals runs_on_literals fits
  settles = settled_in 2 (inl (omega arith)) refl

  pub settles_by_width : IsSettled pair disturbed (after disturbed) 1 (with_rounds (after disturbed) 1)
  unfolding floods_on_literals runs_on_literals fits
  settles_by_width = settled_in 1 (inr disturbed_wide) refl

-- no traffic
pub none_yet : (w : WorldState) → IsTrafficRun w [] w
none_yet w = record { traffic = tt; allowed = tt; is = refl }

-- ---- a packet

two_routers : length (with_rounds (after disturbed) 2).domain.routers ≡ 2
unfolding floods_on_literals runs_on_literals
two_routers = refl

fits_two : EventFits 2 enters
fits_two = record { place = omega arith; sd_fits = omega arith; bfr_ids = (omega arith, tt); lives = omega arith; ttl_fits = omega arith; entropy_fits = omega arith; short = omega arith }

enters_allowed : event_fault (with_rounds (after disturbed) 2) enters ≡ None
unfolding floods_on_literals runs_on_literals hops_on_literals
enters_allowed = refl

taking_allowed : all_allowed (happens (with_rounds (after disturbed) 2) enters).world taken ≡ true
unfolding floods_on_literals runs_on_literals hops_on_literals fits
taking_allowed = refl

enters_is : entered (with_rounds (after disturbed) 2).injections enters 1 ≡ Some the_injection
unfolding floods_on_literals runs_on_literals
enters_is = refl

two_controls : length (with_rounds (after disturbed) 2).routers ≡ 2
unfolding floods_on_literals runs_on_literals
two_controls = refl

first_got : (cs : List Control) (n : ℕ) → length cs ≡ suc n → (c : Control) → slice_get cs 0 ≡ Some (slice_index_or cs 0 c)
first_got [] n h c = absurd (omega (arith, h))
first_got (x ∷ cs) n h c = refl

ingress_is : slice_get (with_rounds (after disturbed) 2).routers 0 ≡ Some ingress
ingress_is = first_got (with_rounds (after disturbed) 2).routers 1 two_controls (settled pair_a [])

covered : covers_id ingress 0 B64 8 0 2 ≡ true
unfolding floods_on_literals runs_on_literals hops_on_literals way_to links_over
covered = refl

takes : AreTakes 1 (happens (with_rounds (after disturbed) 2) enters).world taken
unfolding floods_on_literals runs_on_literals hops_on_literals
takes = (refl, tt)

pub injected : IsInjectedAt (with_rounds (after disturbed) 2) enters taken ingress 1 2 the_injection
injected = record {
  allowed = (subst (λ (n : ℕ). EventFits n enters) (sym two_routers) fits_two, enters_allowed, allowed_is taken (happens (with_rounds (after disturbed) 2) enters).world taking_allowed);
  enters = enters_is;
  names = refl;
  ingress = ingress_is;
  covered = covered;
  takes = takes;
}

pub all_received : copies_in 1 (world_after (with_rounds (after disturbed) 2) (enters ∷ taken)).flights ≡ 0
unfolding floods_on_literals runs_on_literals hops_on_literals
all_received = refl

-- ---- at rest

four_whole : HasWholeLinks (after four_rounds)
unfolding floods_on_literals runs_on_literals
four_whole zero (suc zero) = refl
four_whole (suc zero) (suc zero) = refl
four_whole (suc (suc a)) (suc zero) = refl
four_whole a b = refl

rests_if : IsValid pair → all_allowed (first_world pair) four_rounds ≡ true → all_calm four_rounds ≡ true → all_idle (after four_rounds).routers ≡ true → IsAtRest pair four_rounds (after four_rounds)
rests_if valid allowed calm idle = record {
  run = record { valid = valid; allowed = allowed_is four_rounds (first_world pair) allowed; gentle = calm_is four_rounds (first_world pair) calm; is = refl; whole = four_whole };
  idle = λ a link c id at up. idle_is (after four_rounds).routers idle a c at id link;
}

pub rests : IsValid pair → IsAtRest pair four_rounds (after four_rounds)
unfolding floods_on_literals runs_on_literals fits is_calm
rests valid = rests_if valid refl refl refl

-- ---- without a premise

stuck : (es : List Event) (id : LspId) → all_allowed (first_world pair) es ≡ true → all_allowed (after es) (settle_events (after es) 3) ≡ true → is_same_at (lsdb_at (with_rounds (after es) 3) 0) (lsdb_at (with_rounds (after es) 3) 1) id ≡ false → IsStuck es id
stuck es id allowed rounds differs = record { allowed = allowed_is es (first_world pair) allowed; rounds = allowed_is (settle_events (after es) 3) (after es) rounds; differs = differs }

pub half_stuck : IsStuck half (lsp 1)
unfolding floods_on_literals runs_on_literals fits
half_stuck = stuck half (lsp 1) refl refl refl

pub restarted_whole : HasWholeLinks (after restarted)
unfolding floods_on_literals runs_on_literals
restarted_whole zero (suc zero) = refl
restarted_whole (suc zero) (suc zero) = refl
restarted_whole (suc (suc a)) (suc zero) = refl
restarted_whole a b = refl

pub restarted_stuck : IsStuck restarted (lsp 1)
unfolding floods_on_literals runs_on_literals fits
restarted_stuck = stuck restarted (lsp 1) refl refl refl

pub ended_whole : HasWholeLinks (after ended)
unfolding floods_on_literals runs_on_literals
ended_whole zero (suc zero) = refl
ended_whole (suc zero) (suc zero) = refl
ended_whole (suc (suc a)) (suc zero) = refl
ended_whole a b = refl

pub ended_stuck : IsStuck ended (lsp 2)
unfolding floods_on_literals runs_on_literals fits
ended_stuck = stuck ended (lsp 2) refl refl refl

pub first_differs : is_same_at (lsdb_at (first_world pair) 0) (lsdb_at (first_world pair) 1) (lsp 1) ≡ false
unfolding floods_on_literals runs_on_literals
first_differs = refl
