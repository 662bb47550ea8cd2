-- The run that the lines of a schedule reach is the run of its events, each of which was allowed.
use Rattle.std.proofs.Common.{◌≡◌, ℕ, ◌+◌, List, [], ◌∷◌, ◌++◌, length, fold, Option, Some, None, Result, Ok, Err, refl, sym, ap, subst, ◌∙◌}
use Rattle.std.specs.List.{AllByRecursion}
use Rattle.std.proofs.lemmas.List.{length-map}
use Rattle.std.proofs.lemmas.List.Sums.{fold-append}
use Rattle.wire_base.specs.declared.conf.RouterConf.{RouterConf}
use Rattle.wire_base.specs.model.Configuration.{DomainConf, IsValid}
use Rattle.replay_text.specs.declared.fault.TextFault.{TextFault}
use Rattle.replay_text.specs.declared.event.Event.{Event}
use Rattle.replay_text.specs.declared.event.Line.{Line}
use Rattle.replay_text.specs.Schedule.{schedule_line}
use Rattle.domain_model.specs.declared.fault.EventFault.{EventFault}
use Rattle.domain_model.specs.World.{WorldState, first_world}
use Rattle.domain_model.specs.Step.{happens}
use Rattle.domain_model.specs.Faults.{event_fault}
use Rattle.domain_model.specs.Run.{Run, Progress, first_run, goes_on, run_of, tries, goes_unless, does, line_done, lines_done, schedule_done, line_events, world_after}
use Rattle.domain_model.specs.Truth.{IsTruthful, EventFits}
use Rattle.domain_model.proofs.WorldTruth.{happens_true, first_true}
use Rattle.laws_ledger.specs.Runs.{AreAllowed, unlined}
use Rattle.laws_course.proofs.OnceLaws.{unlined-join, run_world}
use Rattle.domain_replay.specs.Texts.{Refusal, Reached, reached_so, reached_by, and_further, line_reaches, goes_further, lines_reach, names_of, schedule_reaches}
use Rattle.laws_replay.specs.Promises.{LineFits}
use Rattle.laws_replay.proofs.Fitting.{line_fits, events_fit}

-- A run from the start of a domain over its events, each of them allowed.
pub record IsReached (d : DomainConf) (r : Run) : Type 0 where
  pub whole : run_of d r.events ≡ r
  pub allowed : AreAllowed (first_world d) (unlined r.events)
  pub domain : r.world.domain ≡ d
  pub truth : IsTruthful r.world

-- what is allowed after what was
allowed_joined : (xs : List Event) (w : WorldState) (e : Event) → AreAllowed w xs → EventFits (length (world_after w xs).domain.routers) e → event_fault (world_after w xs) e ≡ None → AreAllowed w (xs ++ e ∷ [])
allowed_joined [] w e all fits ok = (fits, ok, tt)
allowed_joined (x ∷ xs) w e all fits ok = (all.0, all.1, allowed_joined xs (happens w x).world e all.2 fits ok)

-- the world of a run is where its events lead
reached_world : (d : DomainConf) (r : Run) → run_of d r.events ≡ r → r.world ≡ world_after (first_world d) (unlined r.events)
unfolding run_of first_run
reached_world d r whole = ap (λ (q : Run). q.world) (sym whole) ∙ run_world r.events (first_run d)

-- with one event more a run is the run of its events
whole_next : (d : DomainConf) (r : Run) (e : ℕ × Event) → run_of d r.events ≡ r → run_of d (r.events ++ e ∷ []) ≡ goes_on r e
unfolding run_of
whole_next d r e whole = fold-append goes_on (first_run d) r.events (e ∷ []) ∙ ap (λ (q : Run). goes_on q e) whole

allowed_next : (d : DomainConf) (r : Run) (e : ℕ × Event) → IsReached d r → EventFits (length r.world.domain.routers) e.1 → event_fault r.world e.1 ≡ None → AreAllowed (first_world d) (unlined (r.events ++ e ∷ []))
allowed_next d r e is fits ok =
    let at : r.world ≡ world_after (first_world d) (unlined r.events) = reached_world d r is.whole in
    subst (AreAllowed (first_world d)) (sym (unlined-join r.events (e ∷ [])))
    (allowed_joined (unlined r.events) (first_world d) e.1 is.allowed (subst (λ (w : WorldState). EventFits (length w.domain.routers) e.1) at fits) (subst (λ (w : WorldState). event_fault w e.1 ≡ None) at ok))

module _ (d : DomainConf) (valid : IsValid d) where
  abbrev count : ℕ
  count = length d.routers

  -- nothing was done
  start_reached : IsReached d (first_run d)
  unfolding run_of first_run first_world
  start_reached = record { whole = refl; allowed = tt; domain = refl; truth = first_true d valid }

  -- one event more
  next_reached : (r : Run) (e : ℕ × Event) → IsReached d r → EventFits count e.1 → event_fault r.world e.1 ≡ None → IsReached d (goes_on r e)
  unfolding goes_on
  next_reached r e is fits ok =
      let here : EventFits (length r.world.domain.routers) e.1 = subst (λ (x : DomainConf). EventFits (length x.routers) e.1) (sym is.domain) fits in
      let kept = happens_true r.world e.1 is.truth here ok in
      record { whole = whole_next d r e is.whole; allowed = allowed_next d r e is here ok; domain = kept.domain ∙ is.domain; truth = kept.truth }

  -- an event of a line, where none was refused so far
  tries_reached : (line : ℕ) (r : Run) (e : Event) → IsReached d r → EventFits count e → (o : Option EventFault) → event_fault r.world e ≡ o → IsReached d (tries r line e o).run
  tries_reached line r e is fits None ok = next_reached r (line, e) is fits ok
  tries_reached line r e is fits (Some why) refused = is

  does_reached : (line : ℕ) (p : Progress) (e : Event) → IsReached d p.run → EventFits count e → IsReached d (does line p e).run
  unfolding does
  does_reached line p e is fits = by p.refused
    where
      by : (o : Option (ℕ × EventFault)) → IsReached d (goes_unless p line e o).run
      by None = tries_reached line p.run e is fits (event_fault p.run.world e) refl
      by (Some refused) = is

  all_reached : (line : ℕ) (es : List Event) (p : Progress) → IsReached d p.run → AllByRecursion (EventFits count) es → IsReached d (fold (does line) p es).run
  all_reached line [] p is fits = is
  all_reached line (e ∷ es) p is fits = all_reached line es (does line p e) (does_reached line p e is fits.0) fits.1

  line_reached : (line : ℕ) (r : Run) (said : Line) → IsReached d r → LineFits count said → IsReached d (line_done line (record { run = r; refused = None }) said).run
  unfolding line_done
  line_reached line r said is fits = all_reached line (line_events r.world said) (record { run = r; refused = None }) is (events_fit d valid r.world is.domain said fits)

  -- a line, and the lines after it
  read_reached : (line : ℕ) (r : Run) (text : List ℕ) → IsReached d r → IsReached d (line_reaches line r (schedule_line text (names_of d))).run
  read_reached line r text is = by (schedule_line text (names_of d)) refl
    where
      done : (p : Progress) → IsReached d p.run → IsReached d (reached_by p).run
      done p h = so p.refused
        where
          so : (o : Option (ℕ × EventFault)) → IsReached d (reached_so p.run o).run
          so None = h
          so (Some refused) = h

      by : (read : Result Line TextFault) → schedule_line text (names_of d) ≡ read → IsReached d (line_reaches line r read).run
      by (Err why) reads = is
      by (Ok said) reads =
          let names : length (names_of d) ≡ count = length-map d.routers (λ (c : RouterConf). c.name) in
          done (line_done line (record { run = r; refused = None }) said) (line_reached line r said is (subst (λ (n : ℕ). LineFits n said) names (line_fits (names_of d) text said reads)))

  lines_reached : (texts : List (List ℕ)) (line : ℕ) (r : Run) → IsReached d r → IsReached d (lines_reach (names_of d) line r texts).run
  unfolding lines_reach
  lines_reached [] line r is = is
  lines_reached (text ∷ texts) line r is =
      by (line_reaches line r (schedule_line text (names_of d))) (read_reached line r text is) (λ next h. lines_reached texts (line + 1) next h)
    where
      so : (next : Run) → IsReached d next → IsReached d (lines_reach (names_of d) (line + 1) next texts).run → (o : Option (ℕ × Refusal))
          → IsReached d (goes_further (λ (next : Run). lines_reach (names_of d) (line + 1) next texts) next o).run
      so next h rest None = rest
      so next h rest (Some refused) = h

      by : (first : Reached) → IsReached d first.run → ((next : Run) → IsReached d next → IsReached d (lines_reach (names_of d) (line + 1) next texts).run)
          → IsReached d (and_further first (λ (next : Run). lines_reach (names_of d) (line + 1) next texts)).run
      by first h rest = so first.run h (rest first.run h) first.refused

  pub schedule_reached : (lines : List (List ℕ)) → IsReached d (schedule_reaches d lines).run
  unfolding schedule_reaches
  schedule_reached lines = lines_reached lines 1 (first_run d) start_reached

  -- lines that are made, and not read
  made_reached : (lines : List Line) (line : ℕ) (p : Progress) → IsReached d p.run → AllByRecursion (LineFits count) lines → IsReached d (lines_done line p lines).run
  unfolding lines_done line_done
  made_reached [] line p is fits = is
  made_reached (said ∷ more) line p is fits =
      made_reached more (line + 1) (line_done line p said) (all_reached line (line_events p.run.world said) p is (events_fit d valid p.run.world is.domain said fits.0)) fits.1

  pub schedule_made : (lines : List Line) → AllByRecursion (LineFits count) lines → IsReached d (schedule_done d lines).run
  unfolding schedule_done
  schedule_made lines fits = made_reached lines 1 (record { run = first_run d; refused = None }) start_reached fits
