-- A line of a schedule as a part of a run between whose events more is reported and recorded.
use Rattle.std.proofs.Common.{◌≡◌, ℕ, List, [], ◌∷◌, ◌++◌, length, fold, Option, Some, None, refl, sym, ap, ap₂, subst, ◌∙◌, append-nil, append_assoc}
use Rattle.std.specs.List.{flat_map}
use Rattle.std.proofs.lemmas.List.Concat.{flat_map-append}
use Rattle.std.proofs.lemmas.List.Sums.{fold-append}
use Rattle.wire_base.specs.model.Configuration.{DomainConf}
use Rattle.replay_text.specs.declared.event.Event.{Event}
use Rattle.replay_text.specs.declared.event.Line.{Line}
use Rattle.domain_model.specs.declared.fault.EventFault.{EventFault}
use Rattle.domain_model.specs.Faults.{event_fault}
use Rattle.domain_model.specs.Step.{happens}
use Rattle.domain_model.specs.World.{WorldState, first_world}
use Rattle.domain_model.specs.Run.{Run, first_run, goes_on, run_of, on_line, does, tries, line_done, line_events}
use Rattle.domain_model.proofs.EachLaws.{each_joined}
use Rattle.replay_report.specs.declared.recording.Recording.{Recording}
use Rattle.replay_report.specs.Captures.{capture_front}
use Rattle.replay_report.specs.Counting.{counts_of}
use Rattle.domain_replay.specs.Courses.{Course, IsAt}
use Rattle.domain_replay.specs.Parts.{unsaid, state_of, if_allowed, allowed_first, Past, past_and, line_part, events_records, parts_report, parts_records, IsWoven}
use Rattle.domain_replay.specs.Telling.{Telling, Told, ReplayState, first_state, told, sent_records, tells, tells_or, reports_on, tells_all, tells_line, IsRunOf, LineEnters}
use Rattle.domain_replay.specs.Texts.{world_after_all, made_text, events_text, capture_text, run_text}
use Rattle.domain_replay.proofs.CourseLaws.{at_run}
use Rattle.domain_replay.proofs.TellingLaws.{start_runs, start_told}

-- ---- the events of a line

-- after one that is rejected nothing is executed
stays_ended : (line : ℕ) (es : List Event) (r : Run) (why : ℕ × EventFault) → (fold (does line) (record { run = r; refused = Some why }) es).run ≡ r
unfolding does
stays_ended line [] r why = refl
stays_ended line (e ∷ es) r why = stays_ended line es r why

next_world : (r : Run) (e : ℕ × Event) → (goes_on r e).world ≡ (happens r.world e.1).world
unfolding goes_on
next_world r e = refl

all_done : (line : ℕ) (es : List Event) (r : Run) → (fold (does line) (record { run = r; refused = None }) es).run ≡ fold goes_on r (on_line line (allowed_first r.world es))
unfolding does allowed_first
all_done line [] r = refl
all_done line (e ∷ es) r = by (event_fault r.world e) (λ q. all_done line es q)
  where
    by : (o : Option EventFault) → ((q : Run) → (fold (does line) (record { run = q; refused = None }) es).run ≡ fold goes_on q (on_line line (allowed_first q.world es)))
        → (fold (does line) (tries r line e o) es).run ≡ fold goes_on r (on_line line (if_allowed e (allowed_first (happens r.world e).world es) o))
    by None rest = rest (goes_on r (line, e)) ∙ ap (λ (w : WorldState). fold goes_on (goes_on r (line, e)) (on_line line (allowed_first w es))) (next_world r (line, e))
    by (Some why) rest = stays_ended line es r (line, why)

pub line_run : (d : DomainConf) (line : ℕ) (es : List (ℕ × Event)) (said : Line)
    → (line_done line (record { run = run_of d es; refused = None }) said).run ≡ run_of d (es ++ on_line line (allowed_first (run_of d es).world (line_events (run_of d es).world said)))
unfolding line_done run_of
line_run d line es said =
    let r = run_of d es in
    all_done line (line_events r.world said) r ∙ sym (fold-append goes_on (first_run d) es (on_line line (allowed_first r.world (line_events r.world said))))

-- where none is rejected, all of them are executed
ended_by : (line : ℕ) (es : List Event) (r : Run) (why : ℕ × EventFault) → (fold (does line) (record { run = r; refused = Some why }) es).refused ≡ Some why
unfolding does
ended_by line [] r why = refl
ended_by line (e ∷ es) r why = ended_by line es r why

pub all_allowed : (line : ℕ) (es : List Event) (r : Run) → (fold (does line) (record { run = r; refused = None }) es).refused ≡ None → allowed_first r.world es ≡ es
unfolding does allowed_first
all_allowed line [] r none = refl
all_allowed line (e ∷ es) r none = by (event_fault r.world e) none (λ q h. all_allowed line es q h)
  where
    by : (o : Option EventFault) → (fold (does line) (tries r line e o) es).refused ≡ None → ((q : Run) → (fold (does line) (record { run = q; refused = None }) es).refused ≡ None → allowed_first q.world es ≡ es)
        → if_allowed e (allowed_first (happens r.world e).world es) o ≡ e ∷ es
    by None here rest = ap (λ (l : List Event). e ∷ l) (ap (λ (w : WorldState). allowed_first w es) (sym (next_world r (line, e))) ∙ rest (goes_on r (line, e)) here)
    by (Some why) here rest = absurd (some_none (sym (ended_by line es r (line, why)) ∙ here))
      where
        some_none : ◌≡◌ {A = Option (ℕ × EventFault)} (Some (line, why)) None → ⊥
        some_none e = cc

run_world_all : (es : List (ℕ × Event)) (r : Run) → (fold goes_on r es).world ≡ world_after_all r.world es
run_world_all [] r = refl
run_world_all (e ∷ es) r = run_world_all es (goes_on r e) ∙ ap (λ (w : WorldState). world_after_all w es) (next_world r e)

-- ---- what they report and record

-- What was told of events that were executed: the report gained their lines, and the capture their records.
record HasTold (line : ℕ) (t : Telling) (done : List Event) (now : Telling) : Type 0 where
  report : now.report ≡ t.report ++ events_text t.world (on_line line done)
  frames : now.frames ≡ t.frames ++ events_records t.recording t.world (on_line line done)
  recording : now.recording ≡ t.recording

none_told : (line : ℕ) (es : List Event) (t : Telling) (why : EventFault) → fold (reports_on line) (record { telling = t; refused = Some why }) es ≡ record { telling = t; refused = Some why }
unfolding reports_on
none_told line [] t why = refl
none_told line (e ∷ es) t why = none_told line es t why

all_told : (line : ℕ) (es : List Event) (t : Telling) → HasTold line t (allowed_first t.world es) (fold (reports_on line) (told t) es).telling
unfolding reports_on tells allowed_first events_text events_records
all_told line [] t = record { report = sym (append-nil t.report); frames = sym (append-nil t.frames); recording = refl }
all_told line (e ∷ es) t = by (event_fault t.world e) (all_told line es (tells line t e))
  where
    later : List Event
    later = allowed_first (happens t.world e).world es

    by : (o : Option EventFault) → HasTold line (tells line t e) later (fold (reports_on line) (told (tells line t e)) es).telling
        → HasTold line t (if_allowed e later o) (fold (reports_on line) (tells_or line t e o) es).telling
    by None rest =
        let made = (happens t.world e).made in
        let w = (happens t.world e).world in
        record {
          report = rest.report ∙ append_assoc t.report (made_text t.world.domain.routers line made) (events_text w (on_line line later));
          frames = rest.frames ∙ append_assoc t.frames (sent_records t.recording t.world.domain.routers line made.sent) (events_records t.recording w (on_line line later));
          recording = rest.recording;
        }
    by (Some why) rest =
        let is = none_told line es t why in
        record {
          report = ap (λ (x : Told). x.telling.report) is ∙ sym (append-nil t.report);
          frames = ap (λ (x : Told). x.telling.frames) is ∙ sym (append-nil t.frames);
          recording = ap (λ (x : Told). x.telling.recording) is;
        }

-- where none is rejected, all of them are told
pub all_tellable : (line : ℕ) (es : List Event) (t : Telling) → (fold (reports_on line) (told t) es).refused ≡ None → allowed_first t.world es ≡ es
unfolding reports_on tells allowed_first
all_tellable line [] t none = refl
all_tellable line (e ∷ es) t none = by (event_fault t.world e) none (λ u h. all_tellable line es u h)
  where
    by : (o : Option EventFault) → (fold (reports_on line) (tells_or line t e o) es).refused ≡ None → ((u : Telling) → (fold (reports_on line) (told u) es).refused ≡ None → allowed_first u.world es ≡ es)
        → if_allowed e (allowed_first (happens t.world e).world es) o ≡ e ∷ es
    by None here rest = ap (λ (l : List Event). e ∷ l) (rest (tells line t e) here)
    by (Some why) here rest = absurd (some_none (ap (λ (x : Told). x.refused) (sym (none_told line es t why)) ∙ here))
      where
        some_none : ◌≡◌ {A = Option EventFault} (Some why) None → ⊥
        some_none e = cc

line_told_of : (line : ℕ) (s : ReplayState) (said : Line) → HasTold line (unsaid s) (allowed_first s.world (line_events s.world said)) (tells_line line (unsaid s) said).telling
unfolding tells_line tells_all
line_told_of line s said = all_told line (line_events s.world said) (unsaid s)

-- ---- one more part

one_report : (ps : List Past) (w : WorldState) (q : Past) → parts_report w (ps ++ q ∷ []) ≡ parts_report w ps ++ (events_text (world_after_all w (flat_map (λ (p : Past). p.events) ps)) q.events ++ q.report)
unfolding parts_report
one_report [] w q = append-nil (events_text w q.events ++ q.report)
one_report (p ∷ ps) w q =
    let rest = flat_map (λ (x : Past). x.events) ps in
    let here = events_text w p.events ++ p.report in
    let v = world_after_all w p.events in
    ap (λ (l : List ℕ). here ++ l) (one_report ps v q)
    ∙ sym (append_assoc here (parts_report v ps) (events_text (world_after_all v rest) q.events ++ q.report))
    ∙ ap (λ (x : WorldState). (here ++ parts_report v ps) ++ (events_text x q.events ++ q.report)) (sym (fold-append (λ (x : WorldState) (e : ℕ × Event). (happens x e.1).world) w p.events rest))

one_records : (recording : Recording) (ps : List Past) (w : WorldState) (q : Past)
    → parts_records recording w (ps ++ q ∷ []) ≡ parts_records recording w ps ++ (events_records recording (world_after_all w (flat_map (λ (p : Past). p.events) ps)) q.events ++ q.frames)
unfolding parts_records
one_records recording [] w q = append-nil (events_records recording w q.events ++ q.frames)
one_records recording (p ∷ ps) w q =
    let rest = flat_map (λ (x : Past). x.events) ps in
    let here = events_records recording w p.events ++ p.frames in
    let v = world_after_all w p.events in
    ap (λ (l : List ℕ). here ++ l) (one_records recording ps v q)
    ∙ sym (append_assoc here (parts_records recording v ps) (events_records recording (world_after_all v rest) q.events ++ q.frames))
    ∙ ap (λ (x : WorldState). (here ++ parts_records recording v ps) ++ (events_records recording x q.events ++ q.frames)) (sym (fold-append (λ (x : WorldState) (e : ℕ × Event). (happens x e.1).world) w p.events rest))

-- ---- a run as parts

-- A state is that of the run of the events so far, with their lines and their records and more between them.
pub record IsPart (recording : Recording) (d : DomainConf) (IsBetween : (report frames : List ℕ) → Type 0) (past : Past) (s : ReplayState) : Type 0 where
  pub run : IsRunOf d (run_of d past.events)
  pub world : s.world ≡ (run_of d past.events).world
  pub counts : s.counts ≡ counts_of (run_of d past.events)
  pub recorded : s.recording ≡ recording
  pub woven : IsWoven recording d past IsBetween

module _ (recording : Recording) (d : DomainConf) (IsBetween : (report frames : List ℕ) → Type 0) where
  pub starts : IsPart recording d IsBetween (record { report = []; frames = capture_front recording d.routers; events = [] }) (first_state recording d)
  unfolding run_of parts_report parts_records
  starts = record {
    run = start_runs d;
    world = ap (λ (t : Telling). t.world) (start_told recording d);
    counts = ap (λ (t : Telling). t.counts) (start_told recording d);
    recorded = refl;
    woven = record { parts = []; events_are = refl; report_is = refl; frames_are = sym (append-nil (capture_front recording d.routers)); between = tt };
  }

  -- some events, and what is reported and recorded after them besides
  module _ (past : Past) (woven : IsWoven recording d past IsBetween) (q : Past) (kind : IsBetween q.report q.frames) where
    abbrev world_there : WorldState
    world_there = world_after_all (first_world d) past.events

    after_parts : world_after_all (first_world d) (flat_map (λ (p : Past). p.events) woven.parts) ≡ world_there
    after_parts = ap (world_after_all (first_world d)) (sym woven.events_are)

    one_more : IsWoven recording d (past_and past (record { report = events_text world_there q.events ++ q.report; frames = events_records recording world_there q.events ++ q.frames; events = q.events })) IsBetween
    one_more =
        let front = capture_front recording d.routers in
        let report_is : past.report ++ (events_text world_there q.events ++ q.report) ≡ parts_report (first_world d) (woven.parts ++ q ∷ []) =
        ap (λ (l : List ℕ). l ++ (events_text world_there q.events ++ q.report)) woven.report_is
        ∙ ap (λ (w : WorldState). parts_report (first_world d) woven.parts ++ (events_text w q.events ++ q.report)) (sym after_parts)
        ∙ sym (one_report woven.parts (first_world d) q) in
        let frames_are : past.frames ++ (events_records recording world_there q.events ++ q.frames) ≡ front ++ parts_records recording (first_world d) (woven.parts ++ q ∷ []) =
        ap (λ (l : List ℕ). l ++ (events_records recording world_there q.events ++ q.frames)) woven.frames_are
        ∙ append_assoc front (parts_records recording (first_world d) woven.parts) (events_records recording world_there q.events ++ q.frames)
        ∙ ap (λ (l : List ℕ). front ++ l)
        (ap (λ (w : WorldState). parts_records recording (first_world d) woven.parts ++ (events_records recording w q.events ++ q.frames)) (sym after_parts)
        ∙ sym (one_records recording woven.parts (first_world d) q)) in
        record {
          parts = woven.parts ++ q ∷ [];
          events_are =
              ap (λ (l : List (ℕ × Event)). l ++ q.events) woven.events_are
              ∙ sym (flat_map-append (λ (p : Past). p.events) woven.parts (q ∷ []) ∙ ap (λ (l : List (ℕ × Event)). flat_map (λ (p : Past). p.events) woven.parts ++ l) (append-nil q.events));
          report_is = report_is;
          frames_are = frames_are;
          between = each_joined (λ (p : Past). IsBetween p.report p.frames) woven.parts (q ∷ []) woven.between (kind, tt);
        }

  module _ (past : Past) (s : ReplayState) (is : IsPart recording d IsBetween past s) where
    -- nothing is executed
    pub text_after : (report frames : List ℕ) → IsBetween report frames → IsPart recording d IsBetween (past_and past (record { report = report; frames = frames; events = [] })) s
    unfolding events_text events_records
    text_after report frames kind =
        let here = sym (append-nil past.events) in
        record {
          run = subst (λ (l : List (ℕ × Event)). IsRunOf d (run_of d l)) here is.run;
          world = is.world ∙ ap (λ (l : List (ℕ × Event)). (run_of d l).world) here;
          counts = is.counts ∙ ap (λ (l : List (ℕ × Event)). counts_of (run_of d l)) here;
          recorded = is.recorded;
          woven = one_more past is.woven (record { report = report; frames = frames; events = [] }) kind;
        }

    -- with all its texts before it
    course_at : Course
    course_at = let r = run_of d past.events in record { recording = s.recording; domain = d; run = r; frames = capture_text s.recording d r; report = run_text d r }

    stands_at : IsAt course_at (unsaid s)
    unfolding course_at
    stands_at =
        let r = run_of d past.events in
        let frames = sym (append-nil (capture_text s.recording d r)) in
        let report = sym (append-nil (run_text d r)) in
        record {
          run = is.run;
          telling = λ i. record { world = sym is.world i; counts = sym is.counts i; frames = frames i; report = report i; recording = s.recording };
        }

    stands_there : s.world ≡ world_after_all (first_world d) past.events
    unfolding run_of first_run
    stands_there = is.world ∙ run_world_all past.events (first_run d)

    module _ (line : ℕ) (said : Line) (enters : LineEnters (length d.routers) said) (none : IsBetween [] []) where
      abbrev t : Told
      t = tells_line line (unsaid s) said

      abbrev part : Past
      part = line_part line said s t

      runs_on : IsRunOf d (run_of d (past.events ++ part.events)) × (t.telling.world ≡ (run_of d (past.events ++ part.events)).world) × (t.telling.counts ≡ counts_of (run_of d (past.events ++ part.events)))
      unfolding course_at
      runs_on =
          let next = line_done line (record { run = run_of d past.events; refused = None }) said in
          let at : IsAt (record course_at { run = next.run }) t.telling = at_run course_at line said (unsaid s) t.telling t.refused stands_at enters refl in
          let same : next.run ≡ run_of d (past.events ++ part.events) =
          line_run d line past.events said ∙ ap (λ (w : WorldState). run_of d (past.events ++ on_line line (allowed_first w (line_events w said)))) (sym is.world) in
          subst (λ (q : Run). IsRunOf d q × (t.telling.world ≡ q.world) × (t.telling.counts ≡ counts_of q)) same
          (at.run, sym (ap (λ (u : Telling). u.world) at.telling), sym (ap (λ (u : Telling). u.counts) at.telling))

      abbrev there : WorldState
      there = world_after_all (first_world d) past.events

      woven_on : IsWoven recording d (past_and past part) IsBetween
      woven_on =
          let told = line_told_of line s said in
          let report : events_text there part.events ++ [] ≡ t.telling.report = append-nil (events_text there part.events) ∙ ap (λ (w : WorldState). events_text w part.events) (sym stands_there) ∙ sym told.report in
          let frames : events_records recording there part.events ++ [] ≡ t.telling.frames =
          append-nil (events_records recording there part.events) ∙ ap₂ (λ (r : Recording) (w : WorldState). events_records r w part.events) (sym is.recorded) (sym stands_there) ∙ sym told.frames in
          subst (λ (p : Past). IsWoven recording d (past_and past p) IsBetween) (λ i. record { report = report i; frames = frames i; events = part.events })
          (one_more past is.woven (record { report = []; frames = []; events = part.events }) none)

      pub line_after : IsPart recording d IsBetween (past_and past part) (state_of t.telling)
      line_after = record {
        run = runs_on.0;
        world = runs_on.1;
        counts = runs_on.2;
        recorded = let told = line_told_of line s said in told.recording ∙ is.recorded;
        woven = woven_on;
      }
