-- A line `settle` with enough rounds makes a domain quiet.
use Rattle.std.proofs.Common.{◌≡◌, ℕ, ◌+◌, zero, suc, List, [], ◌∷◌, ◌++◌, length, Option, Some, None, Ok, refl, sym, ap, subst, ◌∙◌, append_assoc, arith}
use Rattle.std.proofs.lemmas.List.Sums.{fold-append}
use Rattle.wire_base.specs.model.Configuration.{DomainConf, IsValid}
use Rattle.replay_text.specs.declared.event.Event.{Event}
use Rattle.replay_text.specs.declared.event.Line.TheVariants.{Settle}
use Rattle.replay_text.specs.Schedule.{schedule_line}
use Rattle.domain_model.specs.declared.fault.EventFault.{EventFault}
use Rattle.domain_model.specs.Step.{happens}
use Rattle.domain_model.specs.World.{WorldState, first_world}
use Rattle.domain_model.specs.Run.{Run, Progress, first_run, run_of, on_line, line_done, round_events, settle_events, world_after}
use Rattle.laws_ledger.specs.Runs.{AreAllowed, unlined}
use Rattle.laws_course.proofs.OnceLaws.{allowed_parts, unlined-join}
use Rattle.laws_settle.specs.Fresh.{HasWholeLinks}
use Rattle.laws_settle.specs.Gentle.{AreGentle}
use Rattle.laws_settle.specs.Idle.{IsIdle}
use Rattle.laws_settle.specs.Settled.{IsGentleRun, IsSettled, IsTrafficRun}
use Rattle.laws_settle.proofs.SettleLaws.{rounds_idle, traffic_quiet, traffic_agrees}
use Rattle.domain_replay.specs.Parts.{allowed_first}
use Rattle.domain_replay.specs.Texts.{Refusal, Reached, reached_so, reached_by, and_further, goes_further, line_reaches, lines_reach, names_of, schedule_reaches}
use Rattle.domain_replay.proofs.PartLaws.{line_run, all_allowed}
use Rattle.laws_replay.specs.Settling.{AreEnough, HasMore, IsSettling, HasSettled}
use Rattle.laws_replay.proofs.Allowed.{run_there, run_domain, unlined_on, settle_allowed}
use Rattle.laws_replay.proofs.Reached.{IsReached, schedule_reached}

-- ---- the rounds of a line, from the run of events

-- some rounds and then others
rounds_both : (m k : ℕ) (w : WorldState) → settle_events w (m + k) ≡ settle_events w m ++ settle_events (world_after w (settle_events w m)) k
unfolding settle_events
rounds_both zero k w = let none : 0 + k ≡ k = omega arith in ap (settle_events w) none
rounds_both (suc m) k w =
    let next = world_after w (round_events w) in
    let more : suc m + k ≡ suc (m + k) = omega arith in
    ap (settle_events w) more
    ∙ ap (λ (l : List Event). round_events w ++ l) (rounds_both m k next)
    ∙ sym (append_assoc (round_events w) (settle_events next m) (settle_events (world_after next (settle_events next m)) k))
    ∙ ap (λ (v : WorldState). (round_events w ++ settle_events next m) ++ settle_events v k) (sym (fold-append (λ (v : WorldState) (e : Event). (happens v e).world) w (round_events w) (settle_events next m)))

module _ (d : DomainConf) (valid : IsValid d) (es : List (ℕ × Event)) (allowed : AreAllowed (first_world d) (unlined es)) (gentle : AreGentle (first_world d) (unlined es))
    (whole : HasWholeLinks (run_of d es).world) (line rounds : ℕ) where
  abbrev w : WorldState
  w = (run_of d es).world

  gentle_run : IsGentleRun d (unlined es) w
  gentle_run = record { valid = valid; allowed = allowed; gentle = gentle; is = run_there d es; whole = whole }

  -- all of them are executed
  module _ (all : allowed_first w (settle_events w rounds) ≡ settle_events w rounds) where
    abbrev done : List (ℕ × Event)
    done = on_line line (allowed_first w (settle_events w rounds))

    abbrev v : WorldState
    v = (run_of d (es ++ done)).world

    there : v ≡ world_after w (settle_events w rounds)
    there =
        run_there d (es ++ done)
        ∙ ap (world_after (first_world d)) (unlined-join es done ∙ ap (λ (l : List Event). unlined es ++ l) (unlined_on line (allowed_first w (settle_events w rounds)) ∙ all))
        ∙ fold-append (λ (x : WorldState) (e : Event). (happens x e).world) (first_world d) (unlined es) (settle_events w rounds)
        ∙ ap (λ (x : WorldState). world_after x (settle_events w rounds)) (sym (run_there d es))

    all_rounds : AreAllowed w (settle_events w rounds)
    all_rounds = subst (AreAllowed w) all (settle_allowed d valid w rounds (run_domain d es))

    idle : IsTrafficRun v [] v
    idle = record { traffic = tt; allowed = tt; is = refl }

    pub rounds_end : AreEnough d w rounds → HasSettled v
    rounds_end enough =
        let settled : IsSettled d (unlined es) w rounds v = record { run = gentle_run; enough = enough; allowed = all_rounds; is = there } in
        record { quiet = traffic_quiet d (unlined es) w rounds v settled [] v idle; agreed = λ a c at. traffic_agrees d (unlined es) w rounds v settled [] v idle a c at }

    pub rounds_rest : HasMore d w rounds → IsIdle v
    rounds_rest more =
        let m = more.first in
        let between = world_after w (settle_events w m) in
        let both : settle_events w rounds ≡ settle_events w m ++ settle_events between 3 = ap (settle_events w) more.is ∙ rounds_both m 3 w in
        let parts = allowed_parts (settle_events w m) (settle_events between 3) w (subst (AreAllowed w) both all_rounds) in
        let settled : IsSettled d (unlined es) w m between = record { run = gentle_run; enough = more.enough; allowed = parts.0; is = refl } in
        let last : v ≡ world_after between (settle_events between 3) =
        there ∙ ap (world_after w) both ∙ fold-append (λ (x : WorldState) (e : Event). (happens x e).world) w (settle_events w m) (settle_events between 3) in
        rounds_idle d (unlined es) w m between settled v more.some parts.1 last

-- ---- lines, and one more

once_more : (rest : Run → Reached) (o : Reached) → ((next : Run) → rest next ≡ record { run = next; refused = None }) → and_further o rest ≡ o
once_more rest o same = by o.refused refl
  where
    by : (q : Option (ℕ × Refusal)) → o.refused ≡ q → goes_further rest o.run q ≡ o
    by None is = same o.run ∙ (λ i. record { run = o.run; refused = sym is i })
    by (Some why) is = λ i. record { run = o.run; refused = sym is i }

last_reaches : (names : List (List ℕ)) (line : ℕ) (r : Run) (text : List ℕ) → lines_reach names line r (text ∷ []) ≡ line_reaches line r (schedule_line text names)
unfolding lines_reach
last_reaches names line r text = once_more (λ (next : Run). lines_reach names (line + 1) next []) (line_reaches line r (schedule_line text names)) (λ next. refl)

more_reaches : (names : List (List ℕ)) (xs : List (List ℕ)) (line : ℕ) (r : Run) (text : List ℕ) → (lines_reach names line r xs).refused ≡ None
    → lines_reach names line r (xs ++ text ∷ []) ≡ line_reaches (line + length xs) (lines_reach names line r xs).run (schedule_line text names)
unfolding lines_reach
more_reaches names [] line r text runs =
    let count : line ≡ line + 0 = omega arith in
    last_reaches names line r text ∙ ap (λ (n : ℕ). line_reaches n r (schedule_line text names)) count
more_reaches names (x ∷ xs) line r text runs = by (line_reaches line r (schedule_line x names)).refused runs (λ next h. more_reaches names xs (line + 1) next text h)
  where
    o : Reached
    o = line_reaches line r (schedule_line x names)

    by : (q : Option (ℕ × Refusal)) → (goes_further (λ (next : Run). lines_reach names (line + 1) next xs) (line_reaches line r (schedule_line x names)).run q).refused ≡ None
        → ((next : Run) → (lines_reach names (line + 1) next xs).refused ≡ None
        → lines_reach names (line + 1) next (xs ++ text ∷ []) ≡ line_reaches (line + 1 + length xs) (lines_reach names (line + 1) next xs).run (schedule_line text names))
        → goes_further (λ (next : Run). lines_reach names (line + 1) next (xs ++ text ∷ [])) (line_reaches line r (schedule_line x names)).run q
        ≡ line_reaches (line + suc (length xs)) (goes_further (λ (next : Run). lines_reach names (line + 1) next xs) (line_reaches line r (schedule_line x names)).run q).run (schedule_line text names)
    by None none rest =
        let count : line + 1 + length xs ≡ line + suc (length xs) = omega arith in
        rest o.run none ∙ ap (λ (n : ℕ). line_reaches n (lines_reach names (line + 1) o.run xs).run (schedule_line text names)) count
    by (Some why) none rest = absurd (some_none none)
      where
        some_none : ◌≡◌ {A = Option (ℕ × Refusal)} (Some why) None → ⊥
        some_none e = cc

-- what is not rejected was not rejected before it was said so
none_refused : (p : Progress) → (reached_by p).refused ≡ None → p.refused ≡ None
none_refused p = by p.refused
  where
    by : (o : Option (ℕ × EventFault)) → (reached_so p.run o).refused ≡ None → o ≡ None
    by None h = refl
    by (Some why) h = absurd cc

same_run : (p : Progress) → (reached_by p).run ≡ p.run
same_run p = by p.refused
  where
    by : (o : Option (ℕ × EventFault)) → (reached_so p.run o).run ≡ p.run
    by None = refl
    by (Some why) = refl

-- ---- a schedule

module _ (d : DomainConf) (valid : IsValid d) (before : List (List ℕ)) (text : List ℕ) (rounds : ℕ) (reads : schedule_line text (names_of d) ≡ Ok (Settle rounds))
    (settling : IsSettling d (schedule_reaches d) before text rounds) where
  abbrev r : Run
  r = (schedule_reaches d before).run

  abbrev line : ℕ
  line = 1 + length before

  -- the line's events, after the run of those before it
  abbrev after : Run → Progress
  after q = line_done line (record { run = q; refused = None }) (Settle rounds)

  reaches : schedule_reaches d (before ++ text ∷ []) ≡ reached_by (after r)
  unfolding schedule_reaches
  reaches = more_reaches (names_of d) before 1 (first_run d) text settling.runs ∙ ap (line_reaches line (lines_reach (names_of d) 1 (first_run d) before).run) reads

  is : IsReached d r
  is = schedule_reached d valid before

  none : (after (run_of d r.events)).refused ≡ None
  none = ap (λ (q : Run). (after q).refused) is.whole ∙ none_refused (after r) (ap (λ (x : Reached). x.refused) (sym reaches) ∙ settling.done)

  all : let w = (run_of d r.events).world in allowed_first w (settle_events w rounds) ≡ settle_events w rounds
  unfolding line_done
  all = let w = (run_of d r.events).world in all_allowed line (settle_events w rounds) (run_of d r.events) none

  same : let w = (run_of d r.events).world in (schedule_reaches d (before ++ text ∷ [])).run ≡ run_of d (r.events ++ on_line line (allowed_first w (settle_events w rounds)))
  same = ap (λ (x : Reached). x.run) reaches ∙ same_run (after r) ∙ ap (λ (q : Run). (after q).run) (sym is.whole) ∙ line_run d line r.events (Settle rounds)

  whole_there : HasWholeLinks (run_of d r.events).world
  whole_there = subst (λ (q : Run). HasWholeLinks q.world) (sym is.whole) settling.whole

  pub line_settles : HasSettled (schedule_reaches d (before ++ text ∷ [])).run.world
  line_settles =
      let enough : AreEnough d (run_of d r.events).world rounds = subst (λ (q : Run). AreEnough d q.world rounds) (sym is.whole) settling.enough in
      subst (λ (q : Run). HasSettled q.world) (sym same) (rounds_end d valid r.events is.allowed settling.gentle whole_there line rounds all enough)

  pub line_idles : HasMore d r.world rounds → IsIdle (schedule_reaches d (before ++ text ∷ [])).run.world
  line_idles more =
      let there : HasMore d (run_of d r.events).world rounds = subst (λ (q : Run). HasMore d q.world rounds) (sym is.whole) more in
      subst (λ (q : Run). IsIdle q.world) (sym same) (rounds_rest d valid r.events is.allowed settling.gentle whole_there line rounds all there)
