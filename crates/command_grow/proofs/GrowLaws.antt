-- What `grow` owes from its start on is its answer.
use Rattle.std.proofs.Common.{◌≡◌, ℕ, zero, suc, ◌+◌, ◌-◌, ◌<◌, ◌≤◌, ◌==◌, not, List, [], ◌∷◌, ◌++◌, length, drop, map, filter, codes, Option, Some, None, refl, sym, ap, subst, ◌∙◌, append-nil, append_assoc, arith}
use Rattle.std.specs.Fmt.{decimal}
use Rattle.std.specs.List.{fold, range_with_len}
use Rattle.std.proofs.lemmas.Bool.{ne_eqb}
use Rattle.std.proofs.lemmas.Fmt.{decimal_digit, decimal_step}
use Rattle.std.proofs.lemmas.List.FromFn.{length-map-range_with_len}
use Rattle.wire_base.specs.model.Configuration.{DomainConf}
use Rattle.wire_base.specs.model.Hop.{distinct}
use Rattle.replay_text.specs.declared.event.Event.{Event}
use Rattle.replay_text.specs.declared.event.Line.{Line}
use Rattle.replay_text.specs.Report.{line_of}
use Rattle.grown_domain.specs.declared.schedule.GrownLine.{GrownLine}
use Rattle.grown_domain.specs.declared.schedule.GrownLine.TheVariants as grown
use Rattle.grown_domain.specs.Links.{grown_links}
use Rattle.grown_domain.specs.Routers.{router}
use Rattle.grown_domain.specs.Domain.{grown_domain, grown_routers}
use Rattle.grown_domain.specs.Schedule.{line_at}
use Rattle.grown_domain.specs.Schedule as schedule
use Rattle.grown_domain.proofs.ScheduleLines.{lines_are}
use Rattle.domain_model.specs.declared.fault.EventFault.{EventFault}
use Rattle.domain_model.specs.World.{first_world}
use Rattle.domain_model.specs.Run.{Run, Progress, first_run, goes_unless, does, line_events, line_done, lines_done, schedule_done}
use Rattle.replay_report.specs.declared.counts.Counts.{Counts}
use Rattle.replay_report.specs.declared.recording.Recording.TheVariants.{Discarded}
use Rattle.domain_replay.specs.Counting.{counts_of}
use Rattle.domain_replay.specs.Lines.{done_text}
use Rattle.domain_replay.specs.Telling as telling
use Rattle.domain_replay.specs.Telling.{Telling, ReplayState, first_state, tells_line, telling_of, IsRunOf, at_line, LineEnters, LineNamesOnce, IsToldSo}
use Rattle.domain_replay.specs.Texts.{run_text}
use Rattle.domain_replay.specs.Courses.{past}
use Rattle.domain_replay.proofs.TellingLaws.{line_told, start_runs, start_told, none_captured}
use Rattle.domain_replay.proofs.CourseLaws.{past_told, line_past}
use Rattle.command_drive.specs.declared.items.Close.TheVariants as close
use Rattle.command_drive.specs.Answer.{Verdict}
use Rattle.command_drive.specs.Reading.{Behind, Closed, Reads, first}
use Rattle.command_drive.specs.Doing.{told}
use Rattle.command_drive.specs.Reporting.{alone}
use Rattle.domain_replay.specs.Parts.{unsaid, state_of}
use Rattle.command_replay.specs.Owed.{unless_refused}
use Rattle.command_grow.specs.Grow.{summary, ends_by, grow_answer}
use Rattle.command_grow.specs.Counted.{lines_from, counted_then, lines_owe}

-- ---- the lines that are made

pub lines_more : (index : ℕ) (behind : Behind) → index < 18 → ◌≡◌ {A = Reads GrownLine} (record { items = lines_from index (18 - index); behind = behind }) (first (line_at index) (record { items = lines_from (index + 1) (18 - (index + 1)); behind = behind }))
lines_more index behind within =
    let count : 18 - index ≡ suc (18 - (index + 1)) = omega arith in
    ap (λ (n : ℕ). record { items = lines_from index n; behind = behind }) count

-- numbers in their order are named once
kept_whole : (a low n : ℕ) → a < low → filter (λ y. not (y == a)) (range_with_len low n) ≡ range_with_len low n
kept_whole a low zero less = refl
kept_whole a low (suc n) less = rw (ne_eqb low a (omega arith)) (ap (λ (l : List ℕ). low ∷ l) (kept_whole a (low + 1) n (omega arith)))

range_once : (a n : ℕ) → distinct (range_with_len a n) ≡ range_with_len a n
range_once a zero = refl
range_once a (suc n) = ap (λ (l : List ℕ). a ∷ l) (ap (filter (λ y. not (y == a))) (range_once (a + 1) n) ∙ kept_whole a (a + 1) n (omega arith))

pub named_once : (n : ℕ) (line : GrownLine) (said : Line) → said ≡ schedule.line_of n line → LineNamesOnce said
named_once n line said is = subst LineNamesOnce (sym is) (by line)
  where
    by : (l : GrownLine) → LineNamesOnce (schedule.line_of n l)
    by grown.Settle = tt
    by (grown.Send entropy) = range_once 1 n

enters : (n count : ℕ) (line : GrownLine) → 0 < count → LineEnters count (schedule.line_of n line)
enters n count grown.Settle some = tt
enters n count (grown.Send entropy) some = some

-- ---- a run that is counted and not told

-- a domain at work that stands at a run
abbrev state_at : Run → ReplayState
state_at r = record { world = r.world; counts = counts_of r; recording = Discarded }

abbrev going : Run → Progress
going r = record { run = r; refused = None }

module _ (d : DomainConf) (r : Run) (line : ℕ) (said : Line) (is : IsRunOf d r) (there : LineEnters (length d.routers) said) where
  abbrev t : telling.Told
  t = tells_line line (unsaid (state_at r)) said

  abbrev whole : telling.Told
  whole = tells_line line (telling_of Discarded d r) said

  abbrev q : Progress
  q = line_done line (going r) said

  so : IsToldSo Discarded d line q whole
  so = line_told Discarded d line r said is there

  padded : past [] (run_text d r) (unsaid (state_at r)) ≡ telling_of Discarded d r
  padded =
      let report = append-nil (run_text d r) in
      let frames = sym (none_captured d r) in
      λ i. record { world = r.world; counts = counts_of r; frames = frames i; report = report i; recording = Discarded }

  same : past_told [] (run_text d r) t ≡ whole
  same = sym (line_past line [] (run_text d r) (unsaid (state_at r)) said) ∙ ap (λ (u : Telling). tells_line line u said) padded

  counted_run : IsRunOf d q.run
  counted_run = so.run

  counted_refused : q.refused ≡ at_line line t.refused
  counted_refused = so.refused ∙ ap (λ (u : telling.Told). at_line line u.refused) (sym same)

  counted_state : state_of t.telling ≡ state_at q.run
  counted_state = ap (λ (u : telling.Told). state_of u.telling) same ∙ ap state_of so.telling

-- nothing is done after a line that was refused
do_nothing : (line : ℕ) (p : Progress) (refused : ℕ × EventFault) → p.refused ≡ Some refused → (es : List Event) → fold (does line) p es ≡ p
unfolding does
do_nothing line p refused is [] = refl
do_nothing line p refused is (e ∷ es) = ap (λ (x : Progress). fold (does line) x es) (ap (goes_unless p line e) is) ∙ do_nothing line p refused is es

lines_stay : (k : ℕ) (p : Progress) (refused : ℕ × EventFault) → p.refused ≡ Some refused → (lines : List Line) → lines_done k p lines ≡ p
unfolding lines_done line_done
lines_stay k p refused is [] = refl
lines_stay k p refused is (l ∷ lines) = ap (λ (x : Progress). lines_done (k + 1) x lines) (do_nothing k p refused is (line_events p.run.world l)) ∙ lines_stay (k + 1) p refused is lines

-- what a run ended with
abbrev ended : ℕ → Progress → Verdict
ended n p = alone (ends_by n p.run p.refused)

module _ (n : ℕ) (d : DomainConf) (some : 0 < length d.routers) where
  lines_met : (lines : List GrownLine) (k : ℕ) (r : Run) → IsRunOf d r → lines_owe n k lines (Closed close.Ended) (state_at r) ≡ ended n (lines_done (k + 1) (going r) (map (schedule.line_of n) lines))
  unfolding lines_done
  lines_met [] k r is = refl
  lines_met (l ∷ more) k r is = by (t d r (k + 1) said is there).refused refl (λ next at. lines_met more (k + 1) next at)
    where
      said : Line
      said = schedule.line_of n l

      there : LineEnters (length d.routers) said
      there = enters n (length d.routers) l some

      by : (o : Option EventFault) → (t d r (k + 1) said is there).refused ≡ o
          → ((next : Run) → IsRunOf d next → lines_owe n (k + 1) more (Closed close.Ended) (state_at next) ≡ ended n (lines_done (k + 1 + 1) (going next) (map (schedule.line_of n) more)))
          → counted_then (k + 1) (t d r (k + 1) said is there) (lines_owe n (k + 1) more (Closed close.Ended)) ≡ ended n (lines_done (k + 1 + 1) (line_done (k + 1) (going r) said) (map (schedule.line_of n) more))
      by None none each =
          let p = line_done (k + 1) (going r) said in
          let goes : going p.run ≡ p = (let refused = counted_refused d r (k + 1) said is there ∙ ap (at_line (k + 1)) none in sym (λ i. record { run = p.run; refused = refused i })) in
          ap (λ (o : Option EventFault). unless_refused (k + 1) o (lines_owe n (k + 1) more (Closed close.Ended) (state_of (t d r (k + 1) said is there).telling))) none
          ∙ ap (lines_owe n (k + 1) more (Closed close.Ended)) (counted_state d r (k + 1) said is there)
          ∙ each p.run (counted_run d r (k + 1) said is there)
          ∙ ap (λ (x : Progress). ended n (lines_done (k + 1 + 1) x (map (schedule.line_of n) more))) goes
      by (Some why) refuses each =
          let p = line_done (k + 1) (going r) said in
          let refused = counted_refused d r (k + 1) said is there ∙ ap (at_line (k + 1)) refuses in
          ap (λ (o : Option EventFault). unless_refused (k + 1) o (lines_owe n (k + 1) more (Closed close.Ended) (state_of (t d r (k + 1) said is there).telling))) refuses
          ∙ sym (ap (λ (o : Option (ℕ × EventFault)). alone (ends_by n p.run o)) refused)
          ∙ sym (ap (ended n) (lines_stay (k + 1 + 1) p (k + 1, why) refused (map (schedule.line_of n) more)))

-- ---- the schedule

pub routers_count : (n : ℕ) → length (grown_domain n).routers ≡ n
unfolding grown_domain grown_routers
routers_count n = length-map-range_with_len (router (grown_links n) n) 0 n

pub start_count : (n : ℕ) (s : ReplayState) → s ≡ first_state Discarded (grown_domain n) → length s.world.domain.routers ≡ n
unfolding first_world
start_count n s is = ap (λ (x : ReplayState). length x.world.domain.routers) is ∙ routers_count n

pub answer_met : (n m line given : ℕ) (s : ReplayState) (report frames : List ℕ) → 3 ≤ n → report ≡ [] → frames ≡ [] → m ≡ n → line ≡ 0 → given ≡ 0 → s ≡ first_state Discarded (grown_domain n)
    → told report frames (lines_owe m line (lines_from given (18 - given)) (Closed close.Ended) s) ≡ alone (grow_answer n)
unfolding grow_answer schedule_done first_run
answer_met n m line given s report frames some no_report no_frames same_n first_line fresh starts =
    let routers : 0 < length (grown_domain n).routers = omega (arith, some, routers_count n) in
    let start : ReplayState = first_state Discarded (grown_domain n) in
    (λ i. told (no_report i) (no_frames i) (lines_owe (same_n i) (first_line i) (lines_from (fresh i) (18 - fresh i)) (Closed close.Ended) (starts i)))
    ∙ ap (λ (x : ReplayState). lines_owe n 0 (lines_from 0 18) (Closed close.Ended) x) (state_first (grown_domain n))
    ∙ lines_met n (grown_domain n) routers (lines_from 0 18) 0 (first_run (grown_domain n)) (start_runs (grown_domain n))
    ∙ ap (λ (ls : List Line). ended n (lines_done (0 + 1) (going (first_run (grown_domain n))) ls)) (lines_are n)
  where
    state_first : (d : DomainConf) → first_state Discarded d ≡ state_at (first_run d)
    state_first d = ap state_of (start_told Discarded d)

-- ---- the report

-- its numbers
abbrev numbers : Counts → (flight : ℕ) → List ℕ
numbers counts flight =
    32 ∷ line_of (codes "injected" ∷ decimal counts.injected ∷ codes "named" ∷ decimal counts.named ∷ codes "got" ∷ decimal counts.got
    ∷ codes "dropped" ∷ decimal counts.dropped ∷ codes "flight" ∷ decimal flight ∷ [])

eighteen : decimal 18 ≡ codes "18"
eighteen = decimal_step 18 (omega arith) (omega arith) ∙ ap (λ (l : List ℕ). l ++ 56 ∷ []) (decimal_digit 1 (omega arith))

front_is : (counts : Counts) (flight : ℕ) → done_text 18 counts flight ≡ codes "done lines 18" ++ numbers counts flight
front_is counts flight = ap (λ (l : List ℕ). codes "done lines " ++ (l ++ numbers counts flight)) eighteen

-- the numbers behind other words
pub summary_is : (n : ℕ) (counts : Counts) (flight : ℕ) (done old new : List ℕ) → done ≡ done_text 18 counts flight → new ≡ ((old ++ codes "grow ") ++ decimal n) ++ drop 13 done → new ≡ old ++ summary n counts flight
summary_is n counts flight done old new is made =
    made ∙ ap (λ (l : List ℕ). ((old ++ codes "grow ") ++ decimal n) ++ drop 13 l) (is ∙ front_is counts flight)
    ∙ append_assoc (old ++ codes "grow ") (decimal n) (numbers counts flight) ∙ append_assoc old (codes "grow ") (decimal n ++ numbers counts flight)
