-- Events told one after the other.
use Rattle.std.proofs.Common.{◌≡◌, ℕ, suc, ◌+◌, ◌-◌, ◌<◌, ◌≤◌, replicate, length, arith, List, [], ◌∷◌, ◌++◌, Option, Some, None, Err, refl, sym, ap, ◌∙◌}
use Rattle.std.specs.List.{fold}
use Rattle.std.proofs.lemmas.Grind.{fold-append}
use Rattle.replay_text.specs.declared.event.Event.{Event}
use Rattle.replay_text.specs.declared.event.Event.TheVariants.{Take}
use Rattle.domain_model.specs.declared.fault.EventFault.{EventFault}
use Rattle.domain_model.specs.declared.fault.EventFault.TheVariants as faults
use Rattle.domain_model.specs.World.{WorldState, frames_between}
use Rattle.domain_model.specs.Step.{happens}
use Rattle.domain_model.specs.Faults.{event_fault}
use Rattle.domain_model.specs.Run.{Direction, taken_now, directions, round_sends, round_takes, round_events, settle_events, world_after}
use Rattle.domain_replay.specs.Telling.{Telling, Told, told, tells, tells_or, reports_on, tells_all}
use Rattle.domain_replay.specs.Replaying.{ends_with, Tells}

pub all_joined : (line : ℕ) (t : Told) (xs ys : List Event) → tells_all line t (xs ++ ys) ≡ tells_all line (tells_all line t xs) ys
unfolding tells_all
all_joined line t xs ys = fold-append (reports_on line) t xs ys

-- after a refusal nothing is done

pub all_ended : (line : ℕ) (t : Telling) (why : EventFault) (es : List Event) → tells_all line (ends_with t why) es ≡ ends_with t why
unfolding tells_all reports_on
all_ended line t why [] = refl
all_ended line t why (e ∷ es) = all_ended line t why es

-- where a part of it ended for a reason, all of it did
pub err_at : (line : ℕ) (whole part : Told) (rest : List Event) (now : Telling) (why : EventFault) → whole ≡ tells_all line part rest → Tells part now (Err why) → Tells whole now (Err why)
err_at line whole part rest now why is h = by why h
  where
    ends : (why : EventFault) → part ≡ ends_with now why → whole ≡ ends_with now why
    ends why k = is ∙ ap (λ (u : Told). tells_all line u rest) k ∙ all_ended line now why rest

    by : (why : EventFault) → Tells part now (Err why) → Tells whole now (Err why)
    by faults.Events k = ends faults.Events k
    by faults.NoLink k = ends faults.NoLink k
    by faults.EndState k = ends faults.EndState k
    by faults.InFlight k = ends faults.InFlight k
    by (faults.NoFrame i n) k = ends (faults.NoFrame i n) k
    by faults.NotControl k = ends faults.NotControl k
    by (faults.Edge edge) k = ends (faults.Edge edge) k
    by faults.NoSub k = ends faults.NoSub k
    by faults.SubState k = ends faults.SubState k
    by faults.LabelHigh k = ends faults.LabelHigh k
    by (faults.LabelUsed label) k = ends (faults.LabelUsed label) k
    by faults.Relabels k = ends faults.Relabels k
    by faults.Memory k = tt

pub all_first : (line : ℕ) (t : Told) (e : Event) (es : List Event) → tells_all line t (e ∷ es) ≡ tells_all line (reports_on line t e) es
unfolding tells_all
all_first line t e es = refl

pub times_first : (line : ℕ) (t : Told) (e : Event) (n i : ℕ) → i < n → tells_all line t (replicate (n - i) e) ≡ tells_all line (reports_on line t e) (replicate (n - (i + 1)) e)
times_first line t e n i within = let k : n - i ≡ suc (n - (i + 1)) = omega arith in ap (λ (m : ℕ). tells_all line t (replicate m e)) k ∙ all_first line t e (replicate (n - (i + 1)) e)

pub times_none : (line : ℕ) (t : Told) (e : Event) (n i : ℕ) → n ≤ i → tells_all line t (replicate (n - i) e) ≡ t
unfolding tells_all
times_none line t e n i past = let k : n - i ≡ 0 = omega arith in ap (λ (m : ℕ). tells_all line t (replicate m e)) k

-- ---- as many frames as are in flight in a direction

pub as_waiting : (w : WorldState) (d : Direction) (n : ℕ) → n ≡ length (frames_between w d.from d.to) → replicate n (Take d.from d.to 0) ≡ taken_now w d
as_waiting w d n is = ap (λ (m : ℕ). replicate m (Take d.from d.to 0)) is

pub none_waiting : (line : ℕ) (t : Telling) (d : Direction) (n : ℕ) → n ≡ length (frames_between t.world d.from d.to) → n ≡ 0 → tells_all line (told t) (taken_now t.world d) ≡ told t
unfolding tells_all
none_waiting line t d n is none = ap (λ (m : ℕ). tells_all line (told t) (replicate m (Take d.from d.to 0))) (sym is ∙ none)

-- what was reported to its end leads to the world after it

one_told : (line : ℕ) (t now : Telling) (e : Event) → reports_on line (told t) e ≡ told now → now.world ≡ (happens t.world e).world
unfolding tells reports_on
one_told line t now e = by (event_fault t.world e)
  where
    by : (o : Option EventFault) → tells_or line t e o ≡ told now → now.world ≡ (happens t.world e).world
    by None h = sym (ap (λ (u : Told). u.telling.world) h)
    by (Some why) h = absurd (some_none (ap (λ (u : Told). u.refused) h))
      where
        some_none : Some why ≡ None → ⊥
        some_none k = cc

pub world_told : (line : ℕ) (es : List Event) (t now : Telling) → tells_all line (told t) es ≡ told now → now.world ≡ world_after t.world es
unfolding tells_all
world_told line [] t now h = sym (ap (λ (u : Told). u.telling.world) h)
world_told line (e ∷ es) t now h = by (reports_on line (told t) e) refl (reports_on line (told t) e).refused refl (λ next k. world_told line es next now k)
  where
    some_none : (why : EventFault) → Some why ≡ None → ⊥
    some_none why k = cc

    by : (u : Told) → reports_on line (told t) e ≡ u → (o : Option EventFault) → u.refused ≡ o → ((next : Telling) → tells_all line (told next) es ≡ told now → now.world ≡ world_after next.world es) → now.world ≡ world_after (happens t.world e).world es
    by u is None none more =
        let first : reports_on line (told t) e ≡ told u.telling = is ∙ ap (λ (q : Option EventFault). record { telling = u.telling; refused = q }) none in
        more u.telling (ap (λ (x : Told). fold (reports_on line) x es) (sym first) ∙ h) ∙ ap (λ (w : WorldState). world_after w es) (one_told line t u.telling e first)
    by u is (Some why) some more =
        let first : reports_on line (told t) e ≡ ends_with u.telling why = is ∙ ap (λ (q : Option EventFault). record { telling = u.telling; refused = q }) some in
        absurd (some_none why (ap (λ (x : Told). x.refused) (sym (all_ended line u.telling why es) ∙ ap (λ (x : Told). fold (reports_on line) x es) (sym first) ∙ h)))

-- ---- rounds

-- a round after its sends
pub round_left : (line : ℕ) (t now : Telling) → tells_all line (told t) (round_sends t.world) ≡ told now →
    tells_all line (told t) (round_events t.world) ≡ tells_all line (told now) (round_takes now.world (directions t.world.domain.routers))
unfolding round_events
round_left line t now h =
    all_joined line (told t) (round_sends t.world) (round_takes (world_after t.world (round_sends t.world)) (directions t.world.domain.routers))
    ∙ ap (λ (u : Told). tells_all line u (round_takes (world_after t.world (round_sends t.world)) (directions t.world.domain.routers))) h
    ∙ ap (λ (w : WorldState). tells_all line (told now) (round_takes w (directions t.world.domain.routers))) (sym (world_told line (round_sends t.world) t now h))

-- the rounds that are left
pub rounds_left : (line : ℕ) (t now : Telling) (n : ℕ) → tells_all line (told t) (round_events t.world) ≡ told now →
    tells_all line (told t) (settle_events t.world (suc n)) ≡ tells_all line (told now) (settle_events now.world n)
unfolding settle_events
rounds_left line t now n h =
    all_joined line (told t) (round_events t.world) (settle_events (world_after t.world (round_events t.world)) n)
    ∙ ap (λ (u : Told). tells_all line u (settle_events (world_after t.world (round_events t.world)) n)) h
    ∙ ap (λ (w : WorldState). tells_all line (told now) (settle_events w n)) (sym (world_told line (round_events t.world) t now h))

pub round_split : (line : ℕ) (t : Telling) → tells_all line (told t) (round_events t.world) ≡ tells_all line (tells_all line (told t) (round_sends t.world)) (round_takes (world_after t.world (round_sends t.world)) (directions t.world.domain.routers))
unfolding round_events
round_split line t = all_joined line (told t) (round_sends t.world) (round_takes (world_after t.world (round_sends t.world)) (directions t.world.domain.routers))

pub rounds_split : (line : ℕ) (t : Telling) (n i : ℕ) → i < n → tells_all line (told t) (settle_events t.world (n - i)) ≡ tells_all line (tells_all line (told t) (round_events t.world)) (settle_events (world_after t.world (round_events t.world)) (n - (i + 1)))
unfolding settle_events
rounds_split line t n i within =
    let k : n - i ≡ suc (n - (i + 1)) = omega arith in
    ap (λ (m : ℕ). tells_all line (told t) (settle_events t.world m)) k ∙ all_joined line (told t) (round_events t.world) (settle_events (world_after t.world (round_events t.world)) (n - (i + 1)))

pub rounds_at : (line : ℕ) (t now : Telling) (n i : ℕ) → i < n → tells_all line (told t) (round_events t.world) ≡ told now →
    tells_all line (told t) (settle_events t.world (n - i)) ≡ tells_all line (told now) (settle_events now.world (n - (i + 1)))
rounds_at line t now n i within h =
    let k : n - i ≡ suc (n - (i + 1)) = omega arith in
    ap (λ (m : ℕ). tells_all line (told t) (settle_events t.world m)) k ∙ rounds_left line t now (n - (i + 1)) h

pub rounds_none : (line : ℕ) (t : Telling) (n i : ℕ) → n ≤ i → tells_all line (told t) (settle_events t.world (n - i)) ≡ told t
unfolding settle_events tells_all
rounds_none line t n i past = let k : n - i ≡ 0 = omega arith in ap (λ (m : ℕ). tells_all line (told t) (settle_events t.world m)) k
