-- What a command and its input mean, in other words.
use Rattle.std.proofs.Common.{◌≡◌, ℕ, List, [], refl, sym, subst, ap₂, ◌∙◌, append-nil}
use Rattle.wire_base.specs.declared.outside.Source as source
use Rattle.wire_base.specs.declared.outside.Sink as sink
use Rattle.wire_base.specs.declared.status.Status.{Status}
use Rattle.wire_base.specs.declared.status.Status.TheVariants.{ReadFault}
use Rattle.run_texts.specs.declared.texts.Texts.{Texts}
use Rattle.command_drive.specs.Answer.{Verdict}
use Rattle.command_drive.specs.Outside.{Meets, AppendsFronts}
use Rattle.command_drive.specs.Reading.{End, Ends, Fails, Reads}
use Rattle.command_drive.specs.Doing.{Owed, Told, told}
use Rattle.command_drive.specs.Driving.{Meaning, meaning, Drives}

-- nothing was reported
pub told_none : {T : Type 0} (owed : Owed T) (texts : Texts) → Told owed owed texts texts
told_none owed texts = record {
  report = [];
  frames = [];
  report_is = sym (append-nil texts.report);
  frames_is = sym (append-nil texts.frames);
  owed = λ items behind. refl;
}

-- with no output before it
pub told_empty : (report frames : List ℕ) (v : Verdict) → report ≡ [] → frames ≡ [] → told report frames v ≡ v
told_empty report frames v r f = ap₂ (λ (a b : List ℕ). told a b v) r f

-- before the first item
pub means_first : {T : Type 0} (reads fresh : End → List ℕ → Reads T) (owes first : Owed T) (texts : Texts) → texts.report ≡ [] → texts.frames ≡ [] → ((end : End) (octets : List ℕ) → reads end octets ≡ fresh end octets) → owes ≡ first
    → (end : End) (octets : List ℕ) → meaning reads owes texts end octets ≡ first (fresh end octets).items (fresh end octets).behind
means_first {T} reads fresh owes first texts report frames same is end octets =
    told_empty texts.report texts.frames (owes (reads end octets).items (reads end octets).behind) report frames
    ∙ ap₂ (λ (o : Owed T) (r : Reads T). o r.items r.behind) is (same end octets)

-- A run's facts in other words that mean the same. Behind a read error they need to do so only where that is what ends the run.
pub drives_as : {S C R : Type 0} (s : source.Ghosts S) (c : sink.Ghosts C) (r : sink.Ghosts R) (refusal : Status) (means other : Meaning) (ended : Status) (i0 i1 : S) (f0 f1 : C) (r0 r1 : R)
    → ((octets : List ℕ) → means Ends octets ≡ other Ends octets) → ((octets : List ℕ) → (means Fails octets).status ≡ ReadFault → means Fails octets ≡ other Fails octets)
    → Drives s c r refusal means ended i0 i1 f0 f1 r0 r1 → Drives s c r refusal other ended i0 i1 f0 f1 r0 r1
drives_as s c r refusal means other ended i0 i1 f0 f1 r0 r1 same cut d = record {
  answer = λ decided.
      let a = d.answer decided in
      (a.0, a.1, subst (λ (v : Verdict). Meets v ended (r.written r0) (r.written r1) (c.written f0) (c.written f1)) (same a.0) a.2);
  statuses = d.statuses;
  done_whole = d.done_whole;
  read = d.read;
  write = d.write;
  input_quiet = d.input_quiet;
  sinks_quiet = d.sinks_quiet;
  frames_finished = d.frames_finished;
  report_finished = d.report_finished;
  stopped = λ is.
      let a = d.stopped is in
      (a.0, a.1, subst (λ (v : Verdict). Meets v ended (r.written r0) (r.written r1) (c.written f0) (c.written f1)) (cut a.0 (sym a.2.status ∙ is)) a.2);
  front = λ is.
      let a = d.front is in
      (a.0, a.1, subst (λ (v : Verdict). AppendsFronts v (r.written r0) (r.written r1) (c.written f0) (c.written f1)) (same a.0) a.2);
}
