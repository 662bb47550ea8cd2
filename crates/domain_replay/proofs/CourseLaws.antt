-- Runs in progress, as they are reported.
use Rattle.std.proofs.Common.{◌≡◌, ℕ, List, [], ◌∷◌, ◌++◌, length, Option, Some, None, refl, sym, ap, ◌∙◌, append_assoc}
use Rattle.std.specs.List.{fold}
use Rattle.replay_text.specs.declared.event.Event.{Event}
use Rattle.replay_text.specs.declared.event.Line.{Line}
use Rattle.domain_model.specs.declared.fault.EventFault.{EventFault}
use Rattle.domain_model.specs.Faults.{event_fault}
use Rattle.domain_model.specs.Step.{happens}
use Rattle.domain_model.specs.Run.{Progress, line_done, line_events}
use Rattle.domain_replay.specs.Courses.{Course, past, IsAt}
use Rattle.domain_replay.specs.Telling.{Telling, Told, told, sent_records, tells, tells_or, tells_unless, reports_on, tells_all, tells_line, telling_of, at_line, LineEnters, IsToldSo}
use Rattle.domain_replay.specs.Texts.{made_text}
use Rattle.domain_replay.proofs.TellingLaws.{line_told}

-- ---- what is reported doesn't hang on what stands before both texts

abbrev pub past_told : (frames report : List ℕ) → Told → Told
past_told frames report t = record { telling = past frames report t.telling; refused = t.refused }

tells_past : (line : ℕ) (f g : List ℕ) (t : Telling) (e : Event) → tells line (past f g t) e ≡ past f g (tells line t e)
unfolding tells
tells_past line f g t e =
    let n = happens t.world e in
    let frames = append_assoc f t.frames (sent_records t.recording t.world.domain.routers line n.made.sent) in
    let report = append_assoc g t.report (made_text t.world.domain.routers line n.made) in
    λ i. record { world = (tells line t e).world; counts = (tells line t e).counts; frames = frames i; report = report i; recording = t.recording }

or_past : (line : ℕ) (f g : List ℕ) (t : Telling) (e : Event) (o : Option EventFault) → tells_or line (past f g t) e o ≡ past_told f g (tells_or line t e o)
or_past line f g t e None = ap told (tells_past line f g t e)
or_past line f g t e (Some why) = refl

on_past : (line : ℕ) (f g : List ℕ) (t : Told) (e : Event) → reports_on line (past_told f g t) e ≡ past_told f g (reports_on line t e)
unfolding reports_on
on_past line f g t e = by t.refused
  where
    by : (o : Option EventFault) → tells_unless line (past_told f g t) e o ≡ past_told f g (tells_unless line t e o)
    by None = or_past line f g t.telling e (event_fault t.telling.world e)
    by (Some why) = refl

all_past : (line : ℕ) (f g : List ℕ) (t : Told) (es : List Event) → tells_all line (past_told f g t) es ≡ past_told f g (tells_all line t es)
unfolding tells_all
all_past line f g t [] = refl
all_past line f g t (e ∷ es) = ap (λ (x : Told). fold (reports_on line) x es) (on_past line f g t e) ∙ all_past line f g (reports_on line t e) es

pub line_past : (line : ℕ) (f g : List ℕ) (t : Telling) (said : Line) → tells_line line (past f g t) said ≡ past_told f g (tells_line line t said)
unfolding tells_line
line_past line f g t said = all_past line f g (told t) (line_events t.world said)

-- ---- fronts and what stands behind them

pub past_past : (f r g s : List ℕ) (t : Telling) → past f r (past g s t) ≡ past (f ++ g) (r ++ s) t
past_past f r g s t =
    let frames = sym (append_assoc f g t.frames) in
    let report = sym (append_assoc r s t.report) in
    λ i. record { world = t.world; counts = t.counts; frames = frames i; report = report i; recording = t.recording }

-- a replay behind fronts that were written out stands at the run
pub written_at : (course : Course) (now later : Telling) (frames report : List ℕ) → IsAt course now → now ≡ past frames report later
    → IsAt (record course { frames = course.frames ++ frames; report = course.report ++ report }) later
written_at course now later frames report at is =
    record { run = at.run; telling = at.telling ∙ ap (past course.frames course.report) is ∙ past_past course.frames course.report frames report later }

-- ---- a line

abbrev pub after : Course → (line : ℕ) → Line → Progress
after course line said = line_done line (record { run = course.run; refused = None }) said

module _ (course : Course) (line : ℕ) (said : Line) (old now : Telling) (why : Option EventFault) (at : IsAt course old) (enters : LineEnters (length course.domain.routers) said)
    (tells : tells_line line old said ≡ record { telling = now; refused = why }) where
  so : IsToldSo course.recording course.domain line (after course line said) (tells_line line (telling_of course.recording course.domain course.run) said)
  so = line_told course.recording course.domain line course.run said at.run enters

  told_as : tells_line line (telling_of course.recording course.domain course.run) said ≡ record { telling = past course.frames course.report now; refused = why }
  told_as = ap (λ (t : Telling). tells_line line t said) at.telling ∙ line_past line course.frames course.report old said ∙ ap (past_told course.frames course.report) tells

  pub refused_as : (after course line said).refused ≡ at_line line why
  refused_as = so.refused ∙ ap (λ (t : Told). at_line line t.refused) told_as

  pub at_run : IsAt (record course { run = (after course line said).run }) now
  at_run = record { run = so.run; telling = sym so.telling ∙ ap (λ (t : Told). t.telling) told_as }
