-- Where a call stops within events, part by part.
use Rattle.std.proofs.Common.{◌≡◌, ◌⊎◌, inl, inr, ℕ, suc, ◌+◌, ◌-◌, ◌<◌, replicate, append_assoc, arith, List, [], ◌∷◌, ◌++◌, None, Result, Ok, Err, OnErr, refl, sym, ap, ap₂, subst, ◌∙◌}
use Rattle.replay_text.specs.declared.event.Event.{Event}
use Rattle.domain_model.specs.declared.fault.EventFault.{EventFault}
use Rattle.domain_model.specs.World.{WorldState}
use Rattle.domain_model.specs.Step.{happens}
use Rattle.domain_model.specs.Faults.{event_fault}
use Rattle.domain_model.specs.Run.{Direction, directions, round_sends, round_takes, round_events, settle_events, world_after}
use Rattle.run_texts.specs.declared.texts.Texts.{Texts}
use Rattle.domain_replay.specs.Telling.{Telling, Told, told, reports_on, tells_all, ReplayState, with_texts}
use Rattle.domain_replay.specs.Replaying.{NextUntold, StopsIn}
use Rattle.domain_replay.proofs.TellsLaws.{all_joined, world_told}

-- the world alone went on
abbrev pub in_world : ReplayState → WorldState → ReplayState
in_world s w = record { world = w; counts = s.counts; recording = s.recording }

-- nothing was done
pub stops_before : (line : ℕ) (t now : Telling) (es : List Event) → now ≡ t → StopsIn line t es now
unfolding tells_all
stops_before line t now es same = record { done = []; left = es; all = refl; so_far = t; tells = refl; stands = inl same }

-- one event was done, and not told
pub stops_untold : (line : ℕ) (t now : Telling) (e : Event) → event_fault t.world e ≡ None → now ≡ record t { world = (happens t.world e).world } → StopsIn line t (e ∷ []) now
unfolding tells_all
stops_untold line t now e allowed is = record { done = []; left = e ∷ []; all = refl; so_far = t; tells = refl; stands = inr (allowed, is) }

-- the step of an event was refused
pub step_stops : (line : ℕ) (s old : ReplayState) (w : WorldState) (texts : Texts) (e : Event) → old ≡ s → w ≡ old.world → StopsIn line (with_texts s texts) (e ∷ []) (with_texts (in_world old w) texts)
step_stops line s old w texts e view same =
    stops_before line (with_texts s texts) (with_texts (in_world old w) texts) (e ∷ [])
    (ap (λ (x : WorldState). with_texts (in_world old x) texts) same ∙ ap (λ (x : ReplayState). with_texts x texts) view)

-- the event was done, and memory ran out as it was reported
pub tell_stops : (line : ℕ) (s old new : ReplayState) (w : WorldState) (texts texts_now : Texts) (e : Event) → old ≡ s → event_fault old.world e ≡ None → w ≡ (happens old.world e).world →
    (new ≡ in_world old w) × (texts_now ≡ texts) → StopsIn line (with_texts s texts) (e ∷ []) (with_texts new texts_now)
tell_stops line s old new w texts texts_now e view allowed is same =
    subst (λ (x : ReplayState). StopsIn line (with_texts x texts) (e ∷ []) (with_texts new texts_now)) view
    (stops_untold line (with_texts old texts) (with_texts new texts_now) e allowed
    (ap₂ with_texts same.0 same.1 ∙ ap (λ (x : WorldState). with_texts (in_world old x) texts) is))

-- more events are left behind those
still_stands : (so_far now : Telling) (left more : List Event) → (now ≡ so_far) ⊎ NextUntold so_far left now → (now ≡ so_far) ⊎ NextUntold so_far (left ++ more) now
still_stands so_far now left more (inl same) = inl same
still_stands so_far now [] more (inr next) = absurd next
still_stands so_far now (e ∷ es) more (inr next) = inr next

-- within the first part
pub stops_first : (line : ℕ) (t now : Telling) (xs ys : List Event) → StopsIn line t xs now → StopsIn line t (xs ++ ys) now
stops_first line t now xs ys s = record {
  done = s.done;
  left = s.left ++ ys;
  all = ap (λ (es : List Event). es ++ ys) s.all ∙ append_assoc s.done s.left ys;
  so_far = s.so_far;
  tells = s.tells;
  stands = still_stands s.so_far now s.left ys s.stands;
}

-- within the part behind what was reported
pub stops_behind : (line : ℕ) (t mid now : Telling) (xs ys : List Event) → tells_all line (told t) xs ≡ told mid → StopsIn line mid ys now → StopsIn line t (xs ++ ys) now
stops_behind line t mid now xs ys h s = record {
  done = xs ++ s.done;
  left = s.left;
  all = ap (λ (es : List Event). xs ++ es) s.all ∙ sym (append_assoc xs s.done s.left);
  so_far = s.so_far;
  tells = all_joined line (told t) xs s.done ∙ ap (λ (u : Told). tells_all line u s.done) h ∙ s.tells;
  stands = s.stands;
}

-- the same, where what is left depends on the world
pub stops_on : (line : ℕ) (t mid now : Telling) (xs : List Event) (rest : WorldState → List Event) → tells_all line (told t) xs ≡ told mid → StopsIn line mid (rest mid.world) now →
    StopsIn line t (xs ++ rest (world_after t.world xs)) now
stops_on line t mid now xs rest h s = stops_behind line t mid now xs (rest (world_after t.world xs)) h (subst (λ (w : WorldState). StopsIn line mid (rest w) now) (world_told line xs t mid h) s)

-- ---- events alike

alike_split : (e : Event) (n i : ℕ) → i < n → replicate (n - i) e ≡ e ∷ replicate (n - (i + 1)) e
alike_split e n i within = let k : n - i ≡ suc (n - (i + 1)) = omega arith in ap (λ (m : ℕ). replicate m e) k

pub alike_first : (line : ℕ) (t now : Telling) (e : Event) (n i : ℕ) → i < n → StopsIn line t (e ∷ []) now → StopsIn line t (replicate (n - i) e) now
alike_first line t now e n i within s = subst (λ (l : List Event). StopsIn line t l now) (sym (alike_split e n i within)) (stops_first line t now (e ∷ []) (replicate (n - (i + 1)) e) s)

pub alike_behind : (line : ℕ) (t mid now : Telling) (e : Event) (n i : ℕ) → i < n → reports_on line (told t) e ≡ told mid → StopsIn line mid (replicate (n - (i + 1)) e) now → StopsIn line t (replicate (n - i) e) now
unfolding tells_all
alike_behind line t mid now e n i within h s = subst (λ (l : List Event). StopsIn line t l now) (sym (alike_split e n i within)) (stops_behind line t mid now (e ∷ []) (replicate (n - (i + 1)) e) h s)

-- ---- a round, and the rounds that are left

pub round_first : (line : ℕ) (t now : Telling) → StopsIn line t (round_sends t.world) now → StopsIn line t (round_events t.world) now
unfolding round_events
round_first line t now s = stops_first line t now (round_sends t.world) (round_takes (world_after t.world (round_sends t.world)) (directions t.world.domain.routers)) s

pub round_behind : (line : ℕ) (t mid now : Telling) → tells_all line (told t) (round_sends t.world) ≡ told mid → StopsIn line mid (round_takes mid.world (directions t.world.domain.routers)) now → StopsIn line t (round_events t.world) now
unfolding round_events
round_behind line t mid now h s = stops_on line t mid now (round_sends t.world) (λ (w : WorldState). round_takes w (directions t.world.domain.routers)) h s

-- a round whose sends were done, as its takes answer
pub round_answer : (line : ℕ) (t mid now : Telling) (all : List Direction) (result : Result (Unit {0}) EventFault) → all ≡ directions t.world.domain.routers → tells_all line (told t) (round_sends t.world) ≡ told mid →
    OnErr result (StopsIn line mid (round_takes mid.world all) now) → OnErr result (StopsIn line t (round_events t.world) now)
round_answer line t mid now all (Ok u) is h s = tt
round_answer line t mid now all (Err why) is h s = round_behind line t mid now h (subst (λ (ds : List Direction). StopsIn line mid (round_takes mid.world ds) now) is s)

rounds_split : (w : WorldState) (n i : ℕ) → i < n → settle_events w (n - i) ≡ round_events w ++ settle_events (world_after w (round_events w)) (n - (i + 1))
unfolding settle_events
rounds_split w n i within = let k : n - i ≡ suc (n - (i + 1)) = omega arith in ap (settle_events w) k

pub rounds_first : (line : ℕ) (t now : Telling) (n i : ℕ) → i < n → StopsIn line t (round_events t.world) now → StopsIn line t (settle_events t.world (n - i)) now
rounds_first line t now n i within s =
    subst (λ (l : List Event). StopsIn line t l now) (sym (rounds_split t.world n i within))
    (stops_first line t now (round_events t.world) (settle_events (world_after t.world (round_events t.world)) (n - (i + 1))) s)

pub rounds_behind : (line : ℕ) (t mid now : Telling) (n i : ℕ) → i < n → tells_all line (told t) (round_events t.world) ≡ told mid → StopsIn line mid (settle_events mid.world (n - (i + 1))) now → StopsIn line t (settle_events t.world (n - i)) now
rounds_behind line t mid now n i within h s =
    subst (λ (l : List Event). StopsIn line t l now) (sym (rounds_split t.world n i within))
    (stops_on line t mid now (round_events t.world) (λ (w : WorldState). settle_events w (n - (i + 1))) h s)
