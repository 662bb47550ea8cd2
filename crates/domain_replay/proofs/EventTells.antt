-- One event that a domain does, or refuses, as it is reported.
use Rattle.std.proofs.Common.{◌≡◌, ℕ, ◌+◌, true, List, [], ◌∷◌, ◌++◌, map, Some, None, Err, refl, sym, ap, subst, ◌∙◌, append-nil}
use Rattle.std.proofs.Math.Nat.{add-zero}
use Rattle.wire_base.specs.declared.conf.RouterConf.{RouterConf}
use Rattle.wire_base.specs.model.Configuration.{DomainConf}
use Rattle.replay_text.specs.declared.event.Event.{Event}
use Rattle.replay_text.specs.declared.event.Event.TheVariants.{Send, Take}
use Rattle.domain_model.specs.declared.fault.EventFault.{EventFault}
use Rattle.domain_model.specs.declared.fault.EventFault.TheVariants as faults
use Rattle.domain_model.specs.declared.step_out.StepOut.{StepOut}
use Rattle.domain_model.specs.declared.step_out.WireFrame.{WireFrame}
use Rattle.frames_in_flight.specs.Told as answer
use Rattle.domain_core.specs.Answers.{outcome, sent_outcome, Refuses, Stays}
use Rattle.domain_model.specs.Faults.{event_fault}
use Rattle.frames_in_flight.specs.Framed.{wire_of}
use Rattle.domain_model.specs.Moves.{Sending}
use Rattle.domain_core.specs.Network.{Seen}
use Rattle.domain_model.specs.Step.{happens}
use Rattle.domain_model.specs.World.{WorldState}
use Rattle.run_texts.specs.declared.texts.Texts.{Texts}
use Rattle.replay_report.specs.declared.counts.Counts.{Counts}
use Rattle.replay_report.specs.declared.recording.Recording.{Recording}
use Rattle.replay_report.specs.Captures.{wire_record, wire_records}
use Rattle.replay_report.specs.Counting.{counted}
use Rattle.replay_report.specs.Lines.{event_text}
use Rattle.domain_replay.specs.Telling.{Telling, told, tells, tells_or, reports_on, sent_records, ReplayState, with_texts}
use Rattle.domain_replay.specs.Replaying.{Tells, ends_with}
use Rattle.domain_replay.proofs.Stays.{happens_domain}
use Rattle.domain_replay.proofs.TellingLaws.{same_telling}

records_same : (recording : Recording) (routers : List RouterConf) (line : ℕ) (sent : List Sending) → wire_records recording routers line (map (wire_of routers) sent) ≡ sent_records recording routers line sent
records_same recording routers line [] = refl
records_same recording routers line (s ∷ sent) = ap (λ (l : List ℕ). wire_record recording routers line (wire_of routers s) ++ l) (records_same recording routers line sent)

-- it was done
pub event_told : (line : ℕ) (t : Telling) (e : Event) (w : WorldState) (c : Counts) (f r : List ℕ) (made : StepOut) → event_fault t.world e ≡ None → w ≡ (happens t.world e).world →
    made ≡ answer.told t.world.domain.routers (happens t.world e).made → c ≡ counted t.counts e made.got made.drops →
    (routers : List RouterConf) → routers ≡ t.world.domain.routers → f ≡ t.frames ++ wire_records t.recording routers line made.sent → r ≡ t.report ++ event_text routers line made.got made.drops →
    (b : Recording) → b ≡ t.recording → reports_on line (told t) e ≡ told (record { world = w; counts = c; frames = f; report = r; recording = b })
unfolding reports_on tells
event_told line t e w c f r made allowed world is counts routers same frames report b recorded =
    let n = happens t.world e in
    let out = answer.told t.world.domain.routers n.made in
    ap (tells_or line t e) allowed
    ∙ ap told (same_telling n.world _ c _ f _ r t.recording b
    (ap (λ (m : StepOut). counted t.counts e m.got m.drops) (sym is) ∙ sym counts)
    (ap (λ (l : List ℕ). t.frames ++ l) (sym (records_same t.recording t.world.domain.routers line n.made.sent) ∙ ap (λ (m : StepOut). wire_records t.recording t.world.domain.routers line m.sent) (sym is))
    ∙ ap (λ (rs : List RouterConf). t.frames ++ wire_records t.recording rs line made.sent) (sym same) ∙ sym frames)
    (ap (λ (m : StepOut). t.report ++ event_text t.world.domain.routers line m.got m.drops) (sym is) ∙ ap (λ (rs : List RouterConf). t.report ++ event_text rs line made.got made.drops) (sym same) ∙ sym report)
    (sym recorded))
    ∙ ap (λ (v : WorldState). told (record { world = v; counts = c; frames = f; report = r; recording = b })) (sym world)

-- the same of what a domain at work tells
pub event_reported : (line : ℕ) (s old new : ReplayState) (texts texts_now : Texts) (e : Event) (w : WorldState) (made : StepOut) → old ≡ s → event_fault old.world e ≡ None → w ≡ (happens old.world e).world →
    made ≡ answer.told old.world.domain.routers (happens old.world e).made → new ≡ record { world = w; counts = counted old.counts e made.got made.drops; recording = old.recording } →
    texts_now.frames ≡ texts.frames ++ wire_records old.recording w.domain.routers line made.sent → texts_now.report ≡ texts.report ++ event_text w.domain.routers line made.got made.drops →
    reports_on line (told (with_texts s texts)) e ≡ told (with_texts new texts_now)
event_reported line s old new texts texts_now e w made view allowed world is state frames report =
    ap (λ (x : ReplayState). reports_on line (told (with_texts x texts)) e) (sym view)
    ∙ event_told line (with_texts old texts) e w (counted old.counts e made.got made.drops) texts_now.frames texts_now.report made allowed world is refl w.domain.routers
    (ap (λ (x : WorldState). x.domain.routers) world ∙ ap (λ (d : DomainConf). d.routers) (happens_domain old.world e)) frames report old.recording refl
    ∙ ap (λ (x : ReplayState). told (with_texts x texts_now)) (sym state)

abbrev of : Counts → List ℕ → List ℕ → Recording → Seen → Telling
of c f r b s = record { world = s.world; counts = c; frames = f; report = r; recording = b }

-- it was refused
pub event_refused : (line : ℕ) (t : Telling) (old new : Seen) (c : Counts) (f r : List ℕ) (b : Recording) (e : Event) (why : EventFault) → of c f r b old ≡ t → Refuses (event_fault old.world e) why → Stays (new ≡ old) why →
    Tells (reports_on line (told t) e) (of c f r b new) (Err why)
unfolding reports_on
event_refused line t old new c f r b e why view refuses stays = subst (λ (u : Telling). Tells (reports_on line (told u) e) (of c f r b new) (Err why)) view (by why refuses stays)
  where
    because : (why : EventFault) → event_fault old.world e ≡ Some why → new ≡ old → reports_on line (told (of c f r b old)) e ≡ ends_with (of c f r b new) why
    because why is same = ap (tells_or line (of c f r b old) e) is ∙ ap (λ (s : Seen). ends_with (of c f r b s) why) (sym same)

    by : (why : EventFault) → Refuses (event_fault old.world e) why → Stays (new ≡ old) why → Tells (reports_on line (told (of c f r b old)) e) (of c f r b new) (Err why)
    by faults.Events r s = because faults.Events r s
    by faults.NoLink r s = because faults.NoLink r s
    by faults.EndState r s = because faults.EndState r s
    by faults.InFlight r s = because faults.InFlight r s
    by (faults.NoFrame i n) r s = because (faults.NoFrame i n) r s
    by faults.NotControl r s = because faults.NotControl r s
    by (faults.Edge why) r s = because (faults.Edge why) r s
    by faults.NoSub r s = because faults.NoSub r s
    by faults.SubState r s = because faults.SubState r s
    by faults.LabelHigh r s = because faults.LabelHigh r s
    by (faults.LabelUsed label) r s = because (faults.LabelUsed label) r s
    by faults.Relabels r s = because faults.Relabels r s
    by faults.Memory r s = tt

-- the same of an event that is reported in other words
pub refused_so : (line : ℕ) (t : Telling) (old new : Seen) (c : Counts) (f r : List ℕ) (b : Recording) (e g : Event) (why : EventFault) → e ≡ g → of c f r b old ≡ t → Refuses (event_fault old.world e) why → Stays (new ≡ old) why →
    Tells (reports_on line (told t) g) (of c f r b new) (Err why)
refused_so line t old new c f r b e g why same view refuses stays = subst (λ (x : Event). Tells (reports_on line (told t) x) (of c f r b new) (Err why)) same (event_refused line t old new c f r b e why view refuses stays)

-- what is unchanged is so after any refusal
pub stays_so : (same : Type 0) (why : EventFault) → same → Stays same why
stays_so same faults.Events s = s
stays_so same faults.NoLink s = s
stays_so same faults.EndState s = s
stays_so same faults.InFlight s = s
stays_so same (faults.NoFrame i n) s = s
stays_so same faults.NotControl s = s
stays_so same (faults.Edge why) s = s
stays_so same faults.NoSub s = s
stays_so same faults.SubState s = s
stays_so same faults.LabelHigh s = s
stays_so same (faults.LabelUsed label) s = s
stays_so same faults.Relabels s = s
stays_so same faults.Memory s = tt

-- it was done, and nothing is reported of it

same_counts : (c : Counts) → c ≡ record { injected = c.injected + 0; named = c.named + 0; got = c.got + 0; dropped = c.dropped + 0 }
same_counts c =
    ap (λ (n : ℕ). record { injected = n; named = c.named; got = c.got; dropped = c.dropped }) (sym (add-zero c.injected))
    ∙ ap (λ (n : ℕ). record { injected = c.injected + 0; named = n; got = c.got; dropped = c.dropped }) (sym (add-zero c.named))
    ∙ ap (λ (n : ℕ). record { injected = c.injected + 0; named = c.named + 0; got = n; dropped = c.dropped }) (sym (add-zero c.got))
    ∙ ap (λ (n : ℕ). record { injected = c.injected + 0; named = c.named + 0; got = c.got + 0; dropped = n }) (sym (add-zero c.dropped))

-- neither is an injection, and neither names a BFR-id

pub send_untold : (line : ℕ) (t : Telling) (a b : ℕ) (w : WorldState) → event_fault t.world (Send a b) ≡ None → w ≡ (happens t.world (Send a b)).world →
    outcome None ≡ answer.told t.world.domain.routers (happens t.world (Send a b)).made → reports_on line (told t) (Send a b) ≡ told (record t { world = w })
send_untold line t a b w allowed world silent =
    event_told line t (Send a b) w t.counts t.frames t.report (outcome None) allowed world silent (same_counts t.counts) t.world.domain.routers refl (sym (append-nil t.frames)) (sym (append-nil t.report)) t.recording refl

-- of a send that is due, what was sent is recorded
pub send_recorded : (line : ℕ) (t : Telling) (a b : ℕ) (w : WorldState) (f : List ℕ) (sent : List WireFrame) → event_fault t.world (Send a b) ≡ None → w ≡ (happens t.world (Send a b)).world →
    sent_outcome true sent ≡ answer.told t.world.domain.routers (happens t.world (Send a b)).made → (routers : List RouterConf) → routers ≡ t.world.domain.routers → f ≡ t.frames ++ wire_records t.recording routers line sent →
    reports_on line (told t) (Send a b) ≡ told (record t { world = w; frames = f })
send_recorded line t a b w f sent allowed world is routers same frames =
    event_told line t (Send a b) w t.counts f t.report (sent_outcome true sent) allowed world is (same_counts t.counts) routers same frames (sym (append-nil t.report)) t.recording refl

pub take_untold : (line : ℕ) (t : Telling) (a b i : ℕ) (w : WorldState) → event_fault t.world (Take a b i) ≡ None → w ≡ (happens t.world (Take a b i)).world →
    outcome None ≡ answer.told t.world.domain.routers (happens t.world (Take a b i)).made → reports_on line (told t) (Take a b i) ≡ told (record t { world = w })
take_untold line t a b i w allowed world silent =
    event_told line t (Take a b i) w t.counts t.frames t.report (outcome None) allowed world silent (same_counts t.counts) t.world.domain.routers refl (sym (append-nil t.frames)) (sym (append-nil t.report)) t.recording refl
