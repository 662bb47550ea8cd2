-- What is reported of a run is reported event by event.
use Rattle.std.proofs.Common.{◌≡◌, ℕ, zero, suc, ◌+◌, filter, List, [], ◌∷◌, ◌++◌, length, Option, Some, None, refl, sym, ap, subst, ◌∙◌, append_assoc, append-nil, length-append, arith}
use Rattle.std.proofs.lemmas.List.{length-map}
use Rattle.std.specs.Prelude.{flat_map, sum_by}
use Rattle.std.specs.List.{fold, AllByRecursion}
use Rattle.std.proofs.lemmas.Grind.{fold-append, flat_map-append}
use Rattle.std.proofs.lemmas.List.Concat.{flat_map-cons}
use Rattle.std.proofs.lemmas.List.Sums.{sum_by-append, sum_by-cons}
use Rattle.wire_base.specs.declared.conf.RouterConf.{RouterConf}
use Rattle.wire_base.specs.model.Configuration.{DomainConf}
use Rattle.wire_base.specs.model.Flooding.{first_control}
use Rattle.replay_text.specs.declared.event.Event.{Event}
use Rattle.replay_text.specs.declared.event.Event.TheVariants.{Send, Take}
use Rattle.replay_text.specs.declared.event.Line.{Line}
use Rattle.replay_text.specs.declared.event.Line.TheVariants.{Empty, One, Settle}
use Rattle.domain_model.specs.declared.fault.EventFault.{EventFault}
use Rattle.domain_model.specs.declared.lines.DropLine.{DropLine}
use Rattle.domain_model.specs.World.{WorldState, first_world, frames_between}
use Rattle.domain_model.specs.Moves.{Sending}
use Rattle.domain_model.specs.Step.{happens}
use Rattle.domain_model.specs.Faults.{event_fault}
use Rattle.domain_model.specs.Run.{Run, Progress, first_run, goes_on, on_line, Direction, directions, may_send, round_sends, taken_now, round_takes, world_after, round_events, settle_events, does, line_done, line_events, goes_unless, tries}
use Rattle.domain_model.proofs.EachLaws.{each_from, each_joined, each_mapped, each_repeated}
use Rattle.replay_report.specs.declared.counts.Counts.{Counts}
use Rattle.replay_report.specs.declared.recording.Recording.{Recording}
use Rattle.replay_report.specs.declared.recording.Recording.TheVariants.{Discarded}
use Rattle.replay_report.specs.Captures.{frame_record, sending_record, capture_front}
use Rattle.replay_report.specs.Counting.{injected_by, named_by, dropped_ids, counted, counts_of}
use Rattle.domain_replay.specs.Texts.{world_after_all, made_text, events_text, capture_text, run_text}
use Rattle.domain_replay.specs.Telling.{Telling, first_telling, sent_records, tells, Told, told, reports_on, tells_all, tells_line, telling_of, IsRunOf, IsEntered, LineEnters, tells_or, tells_unless, at_line, IsToldSo}
use Rattle.domain_replay.proofs.Stays.{Stays, happens_stays}

-- ---- one event more

text_more : (w : WorldState) (es : List (ℕ × Event)) (e : ℕ × Event) →
    events_text w (es ++ e ∷ []) ≡ events_text w es ++ made_text (world_after_all w es).domain.routers e.0 (happens (world_after_all w es) e.1).made
unfolding events_text
text_more w [] e = append-nil _
text_more w (x ∷ es) e =
    ap (λ (l : List ℕ). made_text w.domain.routers x.0 (happens w x.1).made ++ l) (text_more (happens w x.1).world es e)
    ∙ sym (append_assoc (made_text w.domain.routers x.0 (happens w x.1).made) (events_text (happens w x.1).world es) _)

sum_lined : {X : Type 0} (f : X → ℕ) (line : ℕ) (xs : List X) → sum_by (λ (x : ℕ × X). f x.1) (on_line line xs) ≡ sum_by f xs
sum_lined f line [] = refl
sum_lined {X} f line (x ∷ xs) =
    sum_by-cons (λ (y : ℕ × X). f y.1) (line, x) (on_line line xs) ∙ ap (λ (n : ℕ). f x + n) (sum_lined f line xs) ∙ sym (sum_by-cons f x xs)

same_counts : (a b c e m n p q : ℕ) → a ≡ m → b ≡ n → c ≡ p → e ≡ q →
    ◌≡◌ {A = Counts} (record { injected = a; named = b; got = c; dropped = e }) (record { injected = m; named = n; got = p; dropped = q })
same_counts a b c e m n p q h i j k = rw (h, i, j, k) refl

pub same_telling : (w : WorldState) (c k : Counts) (f g r s : List ℕ) (a b : Recording) → c ≡ k → f ≡ g → r ≡ s → a ≡ b →
    ◌≡◌ {A = Telling} (record { world = w; counts = c; frames = f; report = r; recording = a }) (record { world = w; counts = k; frames = g; report = s; recording = b })
same_telling w c k f g r s a b h i j e = rw (h, i, j, e) refl

counts_more : (r : Run) (line : ℕ) (e : Event) → (happens r.world e).world.injections ≡ r.world.injections + injected_by e →
    counted (counts_of r) e (happens r.world e).made.got (happens r.world e).made.drops ≡ counts_of (goes_on r (line, e))
unfolding goes_on
counts_more r line e grown =
    same_counts _ _ _ _ _ _ _ _
    (sym grown)
    (let k : sum_by (λ (x : ℕ × Event). named_by x.1) ((line, e) ∷ []) ≡ named_by e = sum_lined named_by line (e ∷ []) ∙ one in
    sym (sum_by-append (λ (x : ℕ × Event). named_by x.1) r.events ((line, e) ∷ []) ∙ ap (λ (n : ℕ). sum_by (λ (x : ℕ × Event). named_by x.1) r.events + n) k))
    (sym (length-append r.got (on_line line (happens r.world e).made.got) ∙ ap (λ (n : ℕ). length r.got + n) (length-map (happens r.world e).made.got _)))
    (sym (sum_by-append (λ (x : ℕ × DropLine). dropped_ids x.1) r.drops (on_line line (happens r.world e).made.drops)
    ∙ ap (λ (n : ℕ). sum_by (λ (x : ℕ × DropLine). dropped_ids x.1) r.drops + n) (sum_lined dropped_ids line (happens r.world e).made.drops)))
  where
    one : sum_by named_by (e ∷ []) ≡ named_by e
    one = sum_by-cons named_by e [] ∙ last (named_by e)
      where
        last : (n : ℕ) → n + sum_by named_by [] ≡ n
        last n = omega arith

told_more : (b : Recording) (d : DomainConf) (r : Run) (line : ℕ) (e : Event) → IsRunOf d r → IsEntered (length d.routers) e →
    tells line (telling_of b d r) e ≡ telling_of b d (goes_on r (line, e))
unfolding goes_on tells capture_text run_text
told_more b d r line e is there =
    let s : Stays (injected_by e) r.world (happens r.world e) = happens_stays r.world e (subst (λ (n : ℕ). IsEntered n e) (sym is.routers) there) in
    let same : r.world.domain.routers ≡ d.routers = ap (λ (x : DomainConf). x.routers) is.domain in
    same_telling (happens r.world e).world _ _ _ _ _ _ _ _ (counts_more r line e s.injections)
    (append_assoc (capture_front b d.routers) (flat_map (sending_record b d.routers) r.sent) (sent_records b r.world.domain.routers line (happens r.world e).made.sent)
    ∙ ap (λ (l : List ℕ). capture_front b d.routers ++ l)
    (ap (λ (rs : List RouterConf). flat_map (sending_record b d.routers) r.sent ++ flat_map (sending_record b rs) (on_line line (happens r.world e).made.sent)) same
    ∙ sym (flat_map-append (sending_record b d.routers) r.sent (on_line line (happens r.world e).made.sent))))
    (ap (λ (w : WorldState). events_text (first_world d) r.events ++ made_text w.domain.routers line (happens w e).made) is.world
    ∙ sym (text_more (first_world d) r.events (line, e)))
    refl

goes_further : (d : DomainConf) (r : Run) (line : ℕ) (e : Event) → IsRunOf d r → IsEntered (length d.routers) e → IsRunOf d (goes_on r (line, e))
unfolding goes_on
goes_further d r line e is there =
    let s : Stays (injected_by e) r.world (happens r.world e) = happens_stays r.world e (subst (λ (n : ℕ). IsEntered n e) (sym is.routers) there) in
    record {
      world = ap (λ (w : WorldState). (happens w e).world) is.world ∙ sym (fold-append (λ (v : WorldState) (x : ℕ × Event). (happens v x.1).world) (first_world d) r.events ((line, e) ∷ []));
      domain = s.domain ∙ is.domain;
      routers = s.routers ∙ is.routers;
    }

-- ---- lines

tries_so : (b : Recording) (d : DomainConf) (line : ℕ) (r : Run) (e : Event) → IsRunOf d r → IsEntered (length d.routers) e → (o : Option EventFault) →
    IsToldSo b d line (tries r line e o) (tells_or line (telling_of b d r) e o)
tries_so b d line r e is there None = record { run = goes_further d r line e is there; telling = told_more b d r line e is there; refused = refl }
tries_so b d line r e is there (Some why) = record { run = is; telling = refl; refused = refl }

told_on : (b : Recording) (d : DomainConf) (line : ℕ) (e : Event) → IsEntered (length d.routers) e → (p : Progress) (t : Told) → IsToldSo b d line p t → IsToldSo b d line (does line p e) (reports_on line t e)
unfolding does reports_on
told_on b d line e there p t so = by p.refused t.refused so.refused
  where
    by : (o : Option (ℕ × EventFault)) (q : Option EventFault) → o ≡ at_line line q → IsToldSo b d line (goes_unless p line e o) (tells_unless line t e q)
    by None None h =
        subst (λ (x : Telling). IsToldSo b d line (tries p.run line e (event_fault p.run.world e)) (tells_or line x e (event_fault x.world e))) (sym so.telling)
        (tries_so b d line p.run e so.run there (event_fault p.run.world e))
    by None (Some why) h = absurd cc
    by (Some refused) None h = absurd cc
    by (Some refused) (Some why) h = so

told_all : (b : Recording) (d : DomainConf) (line : ℕ) (es : List Event) → AllByRecursion (IsEntered (length d.routers)) es → (p : Progress) (t : Told) → IsToldSo b d line p t → IsToldSo b d line (fold (does line) p es) (tells_all line t es)
unfolding tells_all
told_all b d line [] each p t so = so
told_all b d line (e ∷ es) each p t so = told_all b d line es each.1 (does line p e) (reports_on line t e) (told_on b d line e each.0 p t so)

-- what rounds are enters nowhere

takes_enter : (n : ℕ) (w : WorldState) (ds : List Direction) → AllByRecursion (IsEntered n) (round_takes w ds)
takes_enter n w [] = tt
takes_enter n w (d ∷ ds) =
    each_joined (IsEntered n) (taken_now w d) (round_takes (world_after w (taken_now w d)) ds)
    (each_repeated (IsEntered n) (length (frames_between w d.from d.to)) (Take d.from d.to 0) tt)
    (takes_enter n (world_after w (taken_now w d)) ds)

round_enters : (n : ℕ) (w : WorldState) → AllByRecursion (IsEntered n) (round_events w)
unfolding round_events directions
round_enters n w =
    each_joined (IsEntered n) (round_sends w) (round_takes (world_after w (round_sends w)) (directions w.domain.routers))
    (each_mapped (IsEntered n) (λ (d : Direction). Send d.from d.to) (filter (may_send w) (directions w.domain.routers)) (each_from (λ (d : Direction). Unit {0}) (λ d. tt) (filter (may_send w) (directions w.domain.routers))))
    (takes_enter n (world_after w (round_sends w)) (directions w.domain.routers))

settle_enters : (n : ℕ) (w : WorldState) (rounds : ℕ) → AllByRecursion (IsEntered n) (settle_events w rounds)
unfolding settle_events
settle_enters n w zero = tt
settle_enters n w (suc rounds) =
    each_joined (IsEntered n) (round_events w) (settle_events (world_after w (round_events w)) rounds) (round_enters n w) (settle_enters n (world_after w (round_events w)) rounds)

line_enters : (n : ℕ) (w : WorldState) (l : Line) → LineEnters n l → AllByRecursion (IsEntered n) (line_events w l)
line_enters n w Empty there = tt
line_enters n w (One e) there = (there, tt)
line_enters n w (Settle rounds) there = settle_enters n w rounds

pub line_told : (b : Recording) (d : DomainConf) (line : ℕ) (r : Run) (l : Line) → IsRunOf d r → LineEnters (length d.routers) l →
    IsToldSo b d line (line_done line (record { run = r; refused = None }) l) (tells_line line (telling_of b d r) l)
unfolding line_done tells_line tells_all
line_told b d line r l is there =
    told_all b d line (line_events r.world l) (line_enters (length d.routers) r.world l there) (record { run = r; refused = None }) (told (telling_of b d r))
    (record { run = is; telling = refl; refused = refl })

pub start_runs : (d : DomainConf) → IsRunOf d (first_run d)
unfolding first_run first_world
start_runs d = record { world = refl; domain = refl; routers = length-map d.routers first_control }

pub start_told : (b : Recording) (d : DomainConf) → first_telling b d ≡ telling_of b d (first_run d)
unfolding first_run first_world capture_text run_text events_text
start_told b d = same_telling (first_world d) _ _ _ _ _ _ _ _ refl (sym (append-nil (capture_front b d.routers))) refl refl

-- ---- no capture

none_recorded : (routers : List RouterConf) (sent : List (ℕ × Sending)) → flat_map (sending_record Discarded routers) sent ≡ []
unfolding frame_record
none_recorded routers [] = refl
none_recorded routers (s ∷ sent) = flat_map-cons (sending_record Discarded routers) s sent ∙ none_recorded routers sent

pub none_captured : (d : DomainConf) (r : Run) → capture_text Discarded d r ≡ []
unfolding capture_text capture_front
none_captured d r = none_recorded d.routers r.sent
