-- What the report on a run says.
use Rattle.std.proofs.Common.{◌≡◌, ℕ, ◌+◌, List, [], ◌∷◌, ◌++◌, map, fold, sum_by, append_assoc, append-nil, refl, sym, ap, ◌∙◌, arith}
use Rattle.std.specs.Prelude.{flat_map}
use Rattle.std.specs.List.{filter_map}
use Rattle.std.proofs.lemmas.Grind.{flat_map-append}
use Rattle.std.proofs.lemmas.List.Elements.{filter_map-append}
use Rattle.std.proofs.lemmas.List.Sums.{sum_by-cons}
use Rattle.wire_base.specs.declared.conf.RouterConf.{RouterConf}
use Rattle.wire_base.specs.model.Configuration.{DomainConf, IsValid}
use Rattle.replay_text.specs.declared.event.Event.{Event}
use Rattle.replay_text.specs.declared.event.Event.TheVariants as event
use Rattle.domain_model.specs.declared.lines.GotLine.{GotLine}
use Rattle.domain_model.specs.declared.lines.DropLine.{DropLine}
use Rattle.domain_model.specs.World.{WorldState, first_world, ids_in_flight}
use Rattle.domain_model.specs.Moves.{Made}
use Rattle.domain_model.specs.Step.{happens}
use Rattle.domain_model.specs.Run.{Run, first_run, on_line, goes_on, run_of}
use Rattle.domain_model.specs.Truth.{IsTruthful}
use Rattle.domain_model.proofs.WorldTruth.{happens_true, first_true}
use Rattle.laws_ledger.specs.Ledger.{injection_of}
use Rattle.laws_ledger.specs.Runs.{AreAllowed, unlined, named_in, IsAccounted}
use Rattle.domain_replay.specs.Lines.{got_text, drop_text}
use Rattle.domain_replay.specs.Counting.{named_by, counts_of}
use Rattle.domain_replay.specs.Texts.{made_text, events_text, run_text}
use Rattle.laws_replay.specs.Reports.{ReportLine, Got, Dropped, line_text, got_on, drop_on, IsReported}
use Rattle.laws_replay.proofs.Reached.{IsReached}
use Rattle.laws_replay.proofs.MomentLaws.{run_is_accounted}
use Rattle.laws_course.proofs.OnceLaws.{world_next}

-- ---- lines

-- the lines of an event, and of events from a world on
abbrev made_lines : ℕ → Made → List ReportLine
made_lines line m = map (Got line) m.got ++ map (Dropped line) m.drops

abbrev lines_from : WorldState → List (ℕ × Event) → List ReportLine
lines_from w [] = []
lines_from w (e ∷ es) = made_lines e.0 (happens w e.1).made ++ lines_from (happens w e.1).world es

gots_texts : (rs : List RouterConf) (line : ℕ) (gots : List GotLine) → flat_map (got_text rs line) gots ≡ flat_map (line_text rs) (map (Got line) gots)
gots_texts rs line [] = refl
gots_texts rs line (g ∷ gots) = ap (λ (l : List ℕ). got_text rs line g ++ l) (gots_texts rs line gots)

drops_texts : (rs : List RouterConf) (line : ℕ) (drops : List DropLine) → flat_map (drop_text rs line) drops ≡ flat_map (line_text rs) (map (Dropped line) drops)
drops_texts rs line [] = refl
drops_texts rs line (x ∷ drops) = ap (λ (l : List ℕ). drop_text rs line x ++ l) (drops_texts rs line drops)

made_texts : (rs : List RouterConf) (line : ℕ) (m : Made) → made_text rs line m ≡ flat_map (line_text rs) (made_lines line m)
made_texts rs line m =
    ap (λ (l : List ℕ). l ++ flat_map (drop_text rs line) m.drops) (gots_texts rs line m.got)
    ∙ ap (λ (l : List ℕ). flat_map (line_text rs) (map (Got line) m.got) ++ l) (drops_texts rs line m.drops)
    ∙ sym (flat_map-append (line_text rs) (map (Got line) m.got) (map (Dropped line) m.drops))

-- events that are allowed change no router's name
texts_from : (es : List (ℕ × Event)) (w : WorldState) (rs : List RouterConf) → IsTruthful w → AreAllowed w (unlined es) → w.domain.routers ≡ rs → events_text w es ≡ flat_map (line_text rs) (lines_from w es)
unfolding events_text
texts_from [] w rs truth all same = refl
texts_from (e ∷ es) w rs truth all same =
    let kept = happens_true w e.1 truth all.0 all.1 in
    let n = happens w e.1 in
    ap (λ (qs : List RouterConf). made_text qs e.0 n.made ++ events_text n.world es) same
    ∙ ap (λ (l : List ℕ). l ++ events_text n.world es) (made_texts rs e.0 n.made)
    ∙ ap (λ (l : List ℕ). flat_map (line_text rs) (made_lines e.0 n.made) ++ l) (texts_from es n.world rs kept.truth all.2 (ap (λ (x : DomainConf). x.routers) kept.domain ∙ same))
    ∙ sym (flat_map-append (line_text rs) (made_lines e.0 n.made) (lines_from n.world es))

-- ---- the deliveries and drops on them

gots_of_gots : (line : ℕ) (gots : List GotLine) → filter_map got_on (map (Got line) gots) ≡ on_line line gots
gots_of_gots line [] = refl
gots_of_gots line (g ∷ gots) = ap (λ (l : List (ℕ × GotLine)). (line, g) ∷ l) (gots_of_gots line gots)

gots_of_drops : (line : ℕ) (drops : List DropLine) → filter_map got_on (map (Dropped line) drops) ≡ []
gots_of_drops line [] = refl
gots_of_drops line (x ∷ drops) = gots_of_drops line drops

drops_of_gots : (line : ℕ) (gots : List GotLine) → filter_map drop_on (map (Got line) gots) ≡ []
drops_of_gots line [] = refl
drops_of_gots line (g ∷ gots) = drops_of_gots line gots

drops_of_drops : (line : ℕ) (drops : List DropLine) → filter_map drop_on (map (Dropped line) drops) ≡ on_line line drops
drops_of_drops line [] = refl
drops_of_drops line (x ∷ drops) = ap (λ (l : List (ℕ × DropLine)). (line, x) ∷ l) (drops_of_drops line drops)

made_gots : (line : ℕ) (m : Made) → filter_map got_on (made_lines line m) ≡ on_line line m.got
made_gots line m =
    filter_map-append got_on (map (Got line) m.got) (map (Dropped line) m.drops)
    ∙ ap (λ (l : List (ℕ × GotLine)). filter_map got_on (map (Got line) m.got) ++ l) (gots_of_drops line m.drops)
    ∙ append-nil (filter_map got_on (map (Got line) m.got)) ∙ gots_of_gots line m.got

made_drops : (line : ℕ) (m : Made) → filter_map drop_on (made_lines line m) ≡ on_line line m.drops
made_drops line m =
    filter_map-append drop_on (map (Got line) m.got) (map (Dropped line) m.drops)
    ∙ ap (λ (l : List (ℕ × DropLine)). l ++ filter_map drop_on (map (Dropped line) m.drops)) (drops_of_gots line m.got) ∙ drops_of_drops line m.drops

got_next : (r : Run) (e : ℕ × Event) → (goes_on r e).got ≡ r.got ++ on_line e.0 (happens r.world e.1).made.got
unfolding goes_on
got_next r e = refl

drops_next : (r : Run) (e : ℕ × Event) → (goes_on r e).drops ≡ r.drops ++ on_line e.0 (happens r.world e.1).made.drops
unfolding goes_on
drops_next r e = refl

gots_from : (es : List (ℕ × Event)) (r : Run) → (fold goes_on r es).got ≡ r.got ++ filter_map got_on (lines_from r.world es)
gots_from [] r = sym (append-nil r.got)
gots_from (e ∷ es) r =
    let n = happens r.world e.1 in
    gots_from es (goes_on r e)
    ∙ ap (λ (l : List (ℕ × GotLine)). l ++ filter_map got_on (lines_from (goes_on r e).world es)) (got_next r e)
    ∙ ap (λ (w : WorldState). (r.got ++ on_line e.0 n.made.got) ++ filter_map got_on (lines_from w es)) (world_next r e)
    ∙ append_assoc r.got (on_line e.0 n.made.got) (filter_map got_on (lines_from n.world es))
    ∙ ap (λ (l : List (ℕ × GotLine)). r.got ++ (l ++ filter_map got_on (lines_from n.world es))) (sym (made_gots e.0 n.made))
    ∙ ap (λ (l : List (ℕ × GotLine)). r.got ++ l) (sym (filter_map-append got_on (made_lines e.0 n.made) (lines_from n.world es)))

drops_from : (es : List (ℕ × Event)) (r : Run) → (fold goes_on r es).drops ≡ r.drops ++ filter_map drop_on (lines_from r.world es)
drops_from [] r = sym (append-nil r.drops)
drops_from (e ∷ es) r =
    let n = happens r.world e.1 in
    drops_from es (goes_on r e)
    ∙ ap (λ (l : List (ℕ × DropLine)). l ++ filter_map drop_on (lines_from (goes_on r e).world es)) (drops_next r e)
    ∙ ap (λ (w : WorldState). (r.drops ++ on_line e.0 n.made.drops) ++ filter_map drop_on (lines_from w es)) (world_next r e)
    ∙ append_assoc r.drops (on_line e.0 n.made.drops) (filter_map drop_on (lines_from n.world es))
    ∙ ap (λ (l : List (ℕ × DropLine)). r.drops ++ (l ++ filter_map drop_on (lines_from n.world es))) (sym (made_drops e.0 n.made))
    ∙ ap (λ (l : List (ℕ × DropLine)). r.drops ++ l) (sym (filter_map-append drop_on (made_lines e.0 n.made) (lines_from n.world es)))

-- ---- the numbers of the last line

named_same : (e : Event) → named_in (injection_of e) ≡ named_by e
named_same (event.Inject router sd bsl ids ttl entropy payload) = refl
named_same other = refl

named_all : (es : List (ℕ × Event)) → sum_by (λ (e : ℕ × Event). named_in (injection_of e.1)) es ≡ sum_by (λ (e : ℕ × Event). named_by e.1) es
named_all [] = refl
named_all (e ∷ es) =
    omega (arith, sum_by-cons (λ (x : ℕ × Event). named_in (injection_of x.1)) e es, sum_by-cons (λ (x : ℕ × Event). named_by x.1) e es, named_same e.1, named_all es)

sums_of : (r : Run) → IsAccounted r → (counts_of r).named ≡ (counts_of r).got + ((counts_of r).dropped + ids_in_flight r.world.flights)
sums_of r accounts = sym (named_all r.events) ∙ accounts.total

-- ---- the report

module _ (d : DomainConf) (valid : IsValid d) (r : Run) (is : IsReached d r) where
  abbrev lines : List ReportLine
  lines = lines_from (first_world d) r.events

  text_of : run_text d r ≡ flat_map (line_text d.routers) lines
  unfolding run_text first_world
  text_of = texts_from r.events (first_world d) d.routers (first_true d valid) is.allowed refl

  gots_of : filter_map got_on lines ≡ r.got
  unfolding run_of first_run
  gots_of = sym (gots_from r.events (first_run d)) ∙ ap (λ (q : Run). q.got) is.whole

  drops_of : filter_map drop_on lines ≡ r.drops
  unfolding run_of first_run
  drops_of = sym (drops_from r.events (first_run d)) ∙ ap (λ (q : Run). q.drops) is.whole

  pub run_is_reported : IsReported d r
  run_is_reported =
      let accounts = run_is_accounted d valid r is in
      record { lines = lines; text = text_of; gots = gots_of; drops = drops_of; owned = accounts.delivered; sums = sums_of r accounts }
