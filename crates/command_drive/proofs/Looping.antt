-- The loop over the items of an input.
use Rattle.std.proofs.Common.{Result, Ok, Err, ◌≡◌, ◌≢◌, ℕ, ◌<◌, List, [], ◌∷◌, ◌++◌, refl, sym, ap, ap₂, subst, ◌∙◌, arith, inl, inr, append-nil, append_assoc}
use Rattle.std.specs.Prelude.{◌⊎◌, false, OnErr, OnOk, IfOk, IfErr}
use Rattle.std.specs.Io.KnownBytes.{Appends, Consumes}
use Rattle.std.proofs.KnownBytes.{Appends-nil, Appends-trans, Consumes-nil, Consumes-trans}
use Rattle.command_drive.specs.Answer.{Verdict, IsDecided}
use Rattle.command_drive.specs.Outside.{Held, Meets, AppendsFront, AppendsFronts}
use Rattle.wire_base.specs.declared.outside.Source as source
use Rattle.wire_base.specs.declared.outside.Sink as sink
use Rattle.wire_base.specs.declared.status.Status.{Status}
use Rattle.wire_base.specs.declared.status.Status.TheVariants.{Done, ReadFault, WriteFault, Memory}
use Rattle.run_texts.specs.declared.texts.Texts.{Texts}
use Rattle.command_drive.specs.declared.items.Close.{Close}
use Rattle.command_drive.specs.declared.items.Close.TheVariants as close
use Rattle.command_drive.specs.declared.items.Found.TheVariants as found
use Rattle.command_drive.specs.Reading.{End, Ends, Fails, Behind, Closed, Cut, Reads, IsWhole, Finds}
use Rattle.command_drive.specs.Doing.{Owed, Concludes, told, nothing_more}
use Rattle.command_drive.specs.Driving.{Meaning, meaning, SinksQuiet, OneRose, Fronted, total, Moves, Owing, Begun, Fronts, StopsFor, Drives, EndsDecided, EndsCut, Stops}
use Rattle.command_drive.proofs.Along.{told-told, held_past, front_past, front_more, moves_end, quiet_none, quiet_on}

-- The items of what was taken were done, and prefixes of both outputs were written: whatever follows, what it means is those and what is still owed.
pub record OnWay {T S C R : Type 0} (s : source.Ghosts S) (c : sink.Ghosts C) (r : sink.Ghosts R) (means : Meaning) (reads : End → List ℕ → Reads T) (owed : Owed T)
    (input_old input_new : S) (frames_old frames_new : C) (report_old report_new : R) : Type 0 where
  pub taken : List ℕ
  pub consumed : Consumes (s.left input_old) (s.left input_new) taken
  pub report_part : List ℕ
  pub frames_part : List ℕ
  pub report_written : Appends (r.written report_old) (r.written report_new) report_part
  pub frames_written : Appends (c.written frames_old) (c.written frames_new) frames_part
  pub is : (end : End) (more : List ℕ) → means end (taken ++ more) ≡ told report_part frames_part (owed (reads end more).items (reads end more).behind)
  pub input_quiet : s.faults input_new ≡ s.faults input_old
  pub sinks_quiet : SinksQuiet c r frames_old frames_new report_old report_new

module _ {C R : Type 0} (c : sink.Ghosts C) (r : sink.Ghosts R) where
  pub rose_past : (f0 f1 f2 : C) (r0 r1 r2 : R) → SinksQuiet c r f0 f1 r0 r1 → OneRose c r f1 f2 r1 r2 → OneRose c r f0 f2 r0 r2
  rose_past f0 f1 f2 r0 r1 r2 q (inl a) = inl (omega (arith, a, q.frames_faults))
  rose_past f0 f1 f2 r0 r1 r2 q (inr (inl a)) = inr (inl (omega (arith, a, q.frames_zeros)))
  rose_past f0 f1 f2 r0 r1 r2 q (inr (inr (inl a))) = inr (inr (inl (omega (arith, a, q.report_faults))))
  rose_past f0 f1 f2 r0 r1 r2 q (inr (inr (inr a))) = inr (inr (inr (omega (arith, a, q.report_zeros))))

  pub cause_past : (f0 f1 f2 : C) (r0 r1 r2 : R) (why : Status) → SinksQuiet c r f0 f1 r0 r1 → StopsFor why c r f1 f2 r1 r2 → StopsFor why c r f0 f2 r0 r2
  cause_past f0 f1 f2 r0 r1 r2 why q (inl (is, a)) = inl (is, rose_past f0 f1 f2 r0 r1 r2 q a)
  cause_past f0 f1 f2 r0 r1 r2 why q (inr (is, a)) = inr (is, quiet_on c r f0 f1 f2 r0 r1 r2 q a)

module _ {T S C R : Type 0} (s : source.Ghosts S) (c : sink.Ghosts C) (r : sink.Ghosts R) where
  pub way_first : (reads : End → List ℕ → Reads T) (owed : Owed T) (texts : Texts) (input : S) (frames : C) (report : R) → OnWay s c r (meaning reads owed texts) reads (total texts owed) input input frames frames report report
  way_first reads owed texts input frames report =
      record {
        taken = [];
        consumed = Consumes-nil (s.left input);
        report_part = [];
        frames_part = [];
        report_written = Appends-nil (r.written report);
        frames_written = Appends-nil (c.written frames);
        is = λ end more. refl;
        input_quiet = refl;
        sinks_quiet = quiet_none c r frames report;
      }

  -- a further item was found
  pub way_found : (means : Meaning) (reads reads_now : End → List ℕ → Reads T) (owed : Owed T) (item : T) (i0 i1 i2 : S) (f0 f1 : C) (r0 r1 : R) → OnWay s c r means reads owed i0 i1 f0 f1 r0 r1 → Finds found.Item reads reads_now item (s.left i1) (s.left i2)
      → s.faults i2 ≡ s.faults i1 → OnWay s c r means reads_now (λ items behind. owed (item ∷ items) behind) i0 i2 f0 f1 r0 r1
  way_found means reads reads_now owed item i0 i1 i2 f0 f1 r0 r1 w finds quiet =
      record {
        taken = w.taken ++ finds.0;
        consumed = Consumes-trans (s.left i0) (s.left i1) (s.left i2) w.taken finds.0 w.consumed finds.1;
        report_part = w.report_part;
        frames_part = w.frames_part;
        report_written = w.report_written;
        frames_written = w.frames_written;
        is = λ end more.
            ap (means end) (append_assoc w.taken finds.0 more) ∙ w.is end (finds.0 ++ more)
            ∙ ap (λ (x : Reads T). told w.report_part w.frames_part (owed x.items x.behind)) (finds.2 end more);
        input_quiet = quiet ∙ w.input_quiet;
        sinks_quiet = w.sinks_quiet;
      }

  -- the source gave no whole item yet
  pub way_waits : (means : Meaning) (reads reads_now : End → List ℕ → Reads T) (owed : Owed T) (item : T) (i0 i1 i2 : S) (f0 f1 : C) (r0 r1 : R) → OnWay s c r means reads owed i0 i1 f0 f1 r0 r1 → Finds found.Waits reads reads_now item (s.left i1) (s.left i2)
      → s.faults i2 ≡ s.faults i1 → OnWay s c r means reads_now owed i0 i2 f0 f1 r0 r1
  way_waits means reads reads_now owed item i0 i1 i2 f0 f1 r0 r1 w finds quiet =
      record {
        taken = w.taken ++ finds.0;
        consumed = Consumes-trans (s.left i0) (s.left i1) (s.left i2) w.taken finds.0 w.consumed finds.1;
        report_part = w.report_part;
        frames_part = w.frames_part;
        report_written = w.report_written;
        frames_written = w.frames_written;
        is = λ end more.
            ap (means end) (append_assoc w.taken finds.0 more) ∙ w.is end (finds.0 ++ more)
            ∙ ap (λ (x : Reads T). told w.report_part w.frames_part (owed x.items x.behind)) (finds.2 end more);
        input_quiet = quiet ∙ w.input_quiet;
        sinks_quiet = w.sinks_quiet;
      }

  -- something was done and written
  pub way_moved : (means : Meaning) (reads : End → List ℕ → Reads T) (old new : Owed T) (i0 i1 : S) (f0 f1 f2 : C) (r0 r1 r2 : R) → OnWay s c r means reads old i0 i1 f0 f1 r0 r1 → Moves c r old new f1 f2 r1 r2
      → SinksQuiet c r f1 f2 r1 r2 → OnWay s c r means reads new i0 i1 f0 f2 r0 r2
  way_moved means reads old new i0 i1 f0 f1 f2 r0 r1 r2 w m quiet =
      record {
        taken = w.taken;
        consumed = w.consumed;
        report_part = w.report_part ++ m.report_part;
        frames_part = w.frames_part ++ m.frames_part;
        report_written = Appends-trans (r.written r0) (r.written r1) (r.written r2) w.report_part m.report_part w.report_written m.report_written;
        frames_written = Appends-trans (c.written f0) (c.written f1) (c.written f2) w.frames_part m.frames_part w.frames_written m.frames_written;
        is = λ end more.
            w.is end more ∙ ap (told w.report_part w.frames_part) (m.owed (reads end more).items (reads end more).behind)
            ∙ told-told w.report_part w.frames_part m.report_part m.frames_part (new (reads end more).items (reads end more).behind);
        input_quiet = w.input_quiet;
        sinks_quiet = quiet_on c r f0 f1 f2 r0 r1 r2 w.sinks_quiet quiet;
      }

  -- a front of what is owed was written, and no more
  pub way_front : (means : Meaning) (reads : End → List ℕ → Reads T) (owed : Owed T) (i0 i1 : S) (f0 f1 f2 : C) (r0 r1 r2 : R) → OnWay s c r means reads owed i0 i1 f0 f1 r0 r1 → Fronts c r owed f1 f2 r1 r2
      → (octets : List ℕ) × Held (s.left i0) octets × AppendsFronts (means Ends octets) (r.written r0) (r.written r2) (c.written f0) (c.written f2)
  way_front means reads owed i0 i1 f0 f1 f2 r0 r1 r2 w front =
      let held = held_past (s.left i0) (s.left i1) w.taken w.consumed in
      let left = reads Ends held.0 in
      let after = front left.items left.behind in (
        w.taken ++ held.0,
        held.2,
        (
          subst (λ (v : Verdict). AppendsFront (r.written r0) (r.written r2) v.report) (sym (w.is Ends held.0)) (front_past (r.written r0) (r.written r1) (r.written r2) w.report_part (owed left.items left.behind).report w.report_written after.0),
          subst (λ (v : Verdict). AppendsFront (c.written f0) (c.written f2) v.frames) (sym (w.is Ends held.0)) (front_past (c.written f0) (c.written f1) (c.written f2) w.frames_part (owed left.items left.behind).frames w.frames_written after.1),
        ),
      )

  pub way_stops : (means : Meaning) (reads : End → List ℕ → Reads T) (owed : Owed T) (i0 i1 i2 : S) (f0 f1 f2 : C) (r0 r1 r2 : R) (why : Status) → OnWay s c r means reads owed i0 i1 f0 f1 r0 r1 → s.faults i2 ≡ s.faults i1
      → StopsFor why c r f1 f2 r1 r2 → Fronts c r owed f1 f2 r1 r2 → Stops s c r means why i0 i2 f0 f2 r0 r2
  way_stops means reads owed i0 i1 i2 f0 f1 f2 r0 r1 r2 why w quiet cause front =
      record {
        cause = cause_past c r f0 f1 f2 r0 r1 r2 why w.sinks_quiet cause;
        input_quiet = quiet ∙ w.input_quiet;
        front = way_front means reads owed i0 i1 f0 f1 f2 r0 r1 r2 w front;
      }

  -- an item was refused
  pub way_refused : (means : Meaning) (reads : End → List ℕ → Reads T) (owed : Owed T) (refusal ended : Status) (texts_now : Texts) (i0 i1 : S) (f0 f1 f2 : C) (r0 r1 r2 : R) → OnWay s c r means reads owed i0 i1 f0 f1 r0 r1
      → IsDecided refusal → refusal ≢ Done → ended ≡ refusal → ((items : List T) (behind : Behind) → Owing c r (owed items behind) ended texts_now f1 f2 r1 r2) → SinksQuiet c r f1 f2 r1 r2
      → EndsDecided s c r refusal means ended texts_now i0 i1 f0 f2 r0 r2
  way_refused means reads owed refusal ended texts_now i0 i1 f0 f1 f2 r0 r1 r2 w decided refuses is owing quiet =
      let held = held_past (s.left i0) (s.left i1) w.taken w.consumed in
      let left = reads Ends held.0 in
      let o = owing left.items left.behind in
      record {
        octets = w.taken ++ held.0;
        held = held.2;
        owing = record {
          report_part = w.report_part ++ o.report_part;
          frames_part = w.frames_part ++ o.frames_part;
          report_written = Appends-trans (r.written r0) (r.written r1) (r.written r2) w.report_part o.report_part w.report_written o.report_written;
          frames_written = Appends-trans (c.written f0) (c.written f1) (c.written f2) w.frames_part o.frames_part w.frames_written o.frames_written;
          is = w.is Ends held.0 ∙ ap (told w.report_part w.frames_part) o.is
              ∙ told-told w.report_part w.frames_part o.report_part o.frames_part (record { status = ended; report = texts_now.report; frames = texts_now.frames });
        };
        statuses = inr is;
        done_whole = λ done. absurd (refuses (sym is ∙ done));
        input_quiet = w.input_quiet;
        sinks_quiet = quiet_on c r f0 f1 f2 r0 r1 r2 w.sinks_quiet quiet;
      }

  -- no further item was found
  pub way_closed : (means : Meaning) (reads reads_now : End → List ℕ → Reads T) (owes : Owed T) (item : T) (how : Close) (refusal ended : Status) (texts texts_now : Texts) (i0 i1 i2 : S) (f0 f1 : C) (r0 r1 : R)
      → OnWay s c r means reads (total texts owes) i0 i1 f0 f1 r0 r1 → Finds (found.Closed how) reads reads_now item (s.left i1) (s.left i2) → s.faults i2 ≡ s.faults i1 → Concludes ended (owes [] (Closed how)) texts texts_now
      → (ended ≡ Done → how ≡ close.Ended) → (ended ≡ Done) ⊎ (ended ≡ refusal) → EndsDecided s c r refusal means ended texts_now i0 i2 f0 f1 r0 r1
  way_closed means reads reads_now owes item how refusal ended texts texts_now i0 i1 i2 f0 f1 r0 r1 w finds quiet concludes done statuses =
      let taken = w.taken ++ finds.0 in
      let consumed = Consumes-trans (s.left i0) (s.left i1) (s.left i2) w.taken finds.0 w.consumed finds.1 in
      let held = held_past (s.left i0) (s.left i2) taken consumed in
      let is : means Ends (taken ++ held.0) ≡ told w.report_part w.frames_part (told texts.report texts.frames (owes [] (Closed how))) =
      ap (means Ends) (append_assoc w.taken finds.0 held.0) ∙ w.is Ends (finds.0 ++ held.0)
      ∙ ap (λ (x : Reads T). told w.report_part w.frames_part (total texts owes x.items x.behind)) (finds.2 held.0 held.1) in
      record {
        octets = taken ++ held.0;
        held = held.2;
        owing = ends_so (means Ends (taken ++ held.0)) is;
        statuses = statuses;
        done_whole = λ d. subst (λ (h : Close). IsWhole h (s.left i2)) (done d) finds.3;
        input_quiet = quiet ∙ w.input_quiet;
        sinks_quiet = w.sinks_quiet;
      }
    where
      ends_so : (v : Verdict) → v ≡ told w.report_part w.frames_part (told texts.report texts.frames (owes [] (Closed how))) → Owing c r v ended texts_now f0 f1 r0 r1
      ends_so v is = moves_end {T = T} c r (λ items behind. v) (owes [] (Closed how)) texts texts_now [] Cut w.report_part w.frames_part ended f0 f1 r0 r1 w.report_written w.frames_written is concludes

  -- the last item was done, and the texts end
  pub way_last : (means : Meaning) (reads reads_now : End → List ℕ → Reads T) (owed : Owed T) (item : T) (refusal ended : Status) (texts_now : Texts) (i0 i1 i2 : S) (f0 f1 f2 : C) (r0 r1 r2 : R)
      → OnWay s c r means reads owed i0 i1 f0 f1 r0 r1 → Finds found.Last reads reads_now item (s.left i1) (s.left i2) → s.faults i2 ≡ s.faults i1 → Owing c r (owed (item ∷ []) (Closed close.Ended)) ended texts_now f1 f2 r1 r2
      → (ended ≡ Done) ⊎ (ended ≡ refusal) → SinksQuiet c r f1 f2 r1 r2 → EndsDecided s c r refusal means ended texts_now i0 i2 f0 f2 r0 r2
  way_last means reads reads_now owed item refusal ended texts_now i0 i1 i2 f0 f1 f2 r0 r1 r2 w finds quiet o statuses sinks =
      let taken = w.taken ++ finds.0 in
      let consumed = Consumes-trans (s.left i0) (s.left i1) (s.left i2) w.taken finds.0 w.consumed finds.1 in
      let held = held_past (s.left i0) (s.left i2) taken consumed in
      record {
        octets = taken ++ held.0;
        held = held.2;
        owing = record {
          report_part = w.report_part ++ o.report_part;
          frames_part = w.frames_part ++ o.frames_part;
          report_written = Appends-trans (r.written r0) (r.written r1) (r.written r2) w.report_part o.report_part w.report_written o.report_written;
          frames_written = Appends-trans (c.written f0) (c.written f1) (c.written f2) w.frames_part o.frames_part w.frames_written o.frames_written;
          is = ap (means Ends) (append_assoc w.taken finds.0 held.0) ∙ w.is Ends (finds.0 ++ held.0) ∙ ap (λ (x : Reads T). told w.report_part w.frames_part (owed x.items x.behind)) (finds.2 held.0 held.1)
              ∙ ap (told w.report_part w.frames_part) o.is ∙ told-told w.report_part w.frames_part o.report_part o.frames_part (record { status = ended; report = texts_now.report; frames = texts_now.frames });
        };
        statuses = statuses;
        done_whole = λ done. finds.3;
        input_quiet = quiet ∙ w.input_quiet;
        sinks_quiet = quiet_on c r f0 f1 f2 r0 r1 r2 w.sinks_quiet sinks;
      }

  -- it was not done to its end
  pub way_last_stops : (means : Meaning) (reads reads_now : End → List ℕ → Reads T) (owed : Owed T) (item : T) (why : Status) (i0 i1 i2 : S) (f0 f1 f2 : C) (r0 r1 r2 : R)
      → OnWay s c r means reads owed i0 i1 f0 f1 r0 r1 → Finds found.Last reads reads_now item (s.left i1) (s.left i2) → s.faults i2 ≡ s.faults i1 → StopsFor why c r f1 f2 r1 r2
      → AppendsFronts (owed (item ∷ []) (Closed close.Ended)) (r.written r1) (r.written r2) (c.written f1) (c.written f2) → Stops s c r means why i0 i2 f0 f2 r0 r2
  way_last_stops means reads reads_now owed item why i0 i1 i2 f0 f1 f2 r0 r1 r2 w finds quiet cause front =
      let taken = w.taken ++ finds.0 in
      let consumed = Consumes-trans (s.left i0) (s.left i1) (s.left i2) w.taken finds.0 w.consumed finds.1 in
      let held = held_past (s.left i0) (s.left i2) taken consumed in
      let end = owed (item ∷ []) (Closed close.Ended) in
      let is : means Ends (taken ++ held.0) ≡ told w.report_part w.frames_part end =
      ap (means Ends) (append_assoc w.taken finds.0 held.0) ∙ w.is Ends (finds.0 ++ held.0) ∙ ap (λ (x : Reads T). told w.report_part w.frames_part (owed x.items x.behind)) (finds.2 held.0 held.1) in
      record {
        cause = cause_past c r f0 f1 f2 r0 r1 r2 why w.sinks_quiet cause;
        input_quiet = quiet ∙ w.input_quiet;
        front = (
          taken ++ held.0,
          held.2,
          (
            subst (λ (v : Verdict). AppendsFront (r.written r0) (r.written r2) v.report) (sym is) (front_past (r.written r0) (r.written r1) (r.written r2) w.report_part end.report w.report_written front.0),
            subst (λ (v : Verdict). AppendsFront (c.written f0) (c.written f2) v.frames) (sym is) (front_past (c.written f0) (c.written f1) (c.written f2) w.frames_part end.frames w.frames_written front.1),
          ),
        );
      }

  -- either way, by the answer of the call that did it
  pub last_ends : (means : Meaning) (reads reads_now : End → List ℕ → Reads T) (owed : Owed T) (item : T) (refusal : Status) (result : Result Status Status) (texts_now : Texts) (i0 i1 i2 : S) (f0 f1 f2 : C) (r0 r1 r2 : R)
      → OnWay s c r means reads owed i0 i1 f0 f1 r0 r1 → Finds found.Last reads reads_now item (s.left i1) (s.left i2) → s.faults i2 ≡ s.faults i1
      → IfOk result (λ ended. Owing c r (owed (item ∷ []) (Closed close.Ended)) ended texts_now f1 f2 r1 r2) → IfOk result (λ ended. (ended ≡ Done) ⊎ (ended ≡ refusal)) → OnOk result (SinksQuiet c r f1 f2 r1 r2)
      → IfOk result (λ ended. EndsDecided s c r refusal means ended texts_now i0 i2 f0 f2 r0 r2 ⊎ EndsCut s c r means ended texts_now i0 i2 f0 f2 r0 r2)
  last_ends means reads reads_now owed item refusal (Ok ended) texts_now i0 i1 i2 f0 f1 f2 r0 r1 r2 w finds quiet owing statuses sinks =
      inl (way_last means reads reads_now owed item refusal ended texts_now i0 i1 i2 f0 f1 f2 r0 r1 r2 w finds quiet owing statuses sinks)
  last_ends means reads reads_now owed item refusal (Err why) texts_now i0 i1 i2 f0 f1 f2 r0 r1 r2 w finds quiet owing statuses sinks = tt

  pub last_stops : (means : Meaning) (reads reads_now : End → List ℕ → Reads T) (owed : Owed T) (item : T) (result : Result Status Status) (i0 i1 i2 : S) (f0 f1 f2 : C) (r0 r1 r2 : R)
      → OnWay s c r means reads owed i0 i1 f0 f1 r0 r1 → Finds found.Last reads reads_now item (s.left i1) (s.left i2) → s.faults i2 ≡ s.faults i1 → IfErr result (λ why. StopsFor why c r f1 f2 r1 r2)
      → OnErr result (AppendsFronts (owed (item ∷ []) (Closed close.Ended)) (r.written r1) (r.written r2) (c.written f1) (c.written f2)) → IfErr result (λ why. Stops s c r means why i0 i2 f0 f2 r0 r2)
  last_stops means reads reads_now owed item (Ok ended) i0 i1 i2 f0 f1 f2 r0 r1 r2 w finds quiet cause front = tt
  last_stops means reads reads_now owed item (Err why) i0 i1 i2 f0 f1 f2 r0 r1 r2 w finds quiet cause front =
      way_last_stops means reads reads_now owed item why i0 i1 i2 f0 f1 f2 r0 r1 r2 w finds quiet cause front

  -- the source failed
  pub way_cut : (means : Meaning) (reads reads_now : End → List ℕ → Reads T) (owes : Owed T) (item : T) (texts : Texts) (i0 i1 i2 : S) (f0 f1 : C) (r0 r1 : R) → OnWay s c r means reads (total texts owes) i0 i1 f0 f1 r0 r1
      → Finds found.Failed reads reads_now item (s.left i1) (s.left i2) → s.faults i1 < s.faults i2 → owes [] Cut ≡ nothing_more → EndsCut s c r means ReadFault texts i0 i2 f0 f1 r0 r1
  way_cut means reads reads_now owes item texts i0 i1 i2 f0 f1 r0 r1 w finds rose cut =
      let taken = w.taken ++ finds.0 in
      let consumed = Consumes-trans (s.left i0) (s.left i1) (s.left i2) w.taken finds.0 w.consumed finds.1 in
      let held = held_past (s.left i0) (s.left i2) taken consumed in
      let left = reads Ends (finds.0 ++ held.0) in
      record {
        status = refl;
        octets = taken;
        consumed = consumed;
        owing = record {
          report_part = w.report_part;
          frames_part = w.frames_part;
          report_written = w.report_written;
          frames_written = w.frames_written;
          is = w.is Fails finds.0 ∙ ap (λ (x : Reads T). told w.report_part w.frames_part (total texts owes x.items x.behind)) finds.2
              ∙ ap (λ (v : Verdict). told w.report_part w.frames_part (told texts.report texts.frames v)) cut
              ∙ ap₂ (λ (a b : List ℕ). told w.report_part w.frames_part (record { status = ReadFault; report = a; frames = b })) (append-nil texts.report) (append-nil texts.frames);
        };
        all_octets = taken ++ held.0;
        held = held.2;
        begun = record {
          report_part = w.report_part;
          frames_part = w.frames_part;
          report_written = w.report_written;
          frames_written = w.frames_written;
          rest = owes left.items left.behind;
          is = ap (means Ends) (append_assoc w.taken finds.0 held.0) ∙ w.is Ends (finds.0 ++ held.0);
        };
        input_rose = omega (arith, rose, w.input_quiet);
        sinks_quiet = w.sinks_quiet;
      }

-- ---- the run as a whole

module _ {S C R : Type 0} (s : source.Ghosts S) (c : sink.Ghosts C) (r : sink.Ghosts R) where
  apart : (ended : Status) (P : Type 0) → (ended ≡ ReadFault) → IsDecided ended → P
  apart ended P is decided = absurd (subst IsDecided is decided)

  decided_of : (refusal ended : Status) → IsDecided refusal → (ended ≡ Done) ⊎ (ended ≡ refusal) → IsDecided ended
  decided_of refusal ended decided (inl done) = subst IsDecided (sym done) tt
  decided_of refusal ended decided (inr is) = subst IsDecided (sym is) decided

  met : (owed : Verdict) (ended : Status) (texts : Texts) (f0 f1 f2 : C) (r0 r1 r2 : R) → Owing c r owed ended texts f0 f1 r0 r1 → Appends (r.written r1) (r.written r2) texts.report → Appends (c.written f1) (c.written f2) texts.frames
      → Meets owed ended (r.written r0) (r.written r2) (c.written f0) (c.written f2)
  met owed ended texts f0 f1 f2 r0 r1 r2 o report frames =
      record {
        status = sym (ap (λ (v : Verdict). v.status) o.is);
        report = subst (λ (v : Verdict). Appends (r.written r0) (r.written r2) v.report) (sym o.is) (Appends-trans (r.written r0) (r.written r1) (r.written r2) o.report_part texts.report o.report_written report);
        frames = subst (λ (v : Verdict). Appends (c.written f0) (c.written f2) v.frames) (sym o.is) (Appends-trans (c.written f0) (c.written f1) (c.written f2) o.frames_part texts.frames o.frames_written frames);
      }

  -- both texts were written to their ends
  pub drives_decided : (refusal : Status) (means : Meaning) (ended : Status) (texts : Texts) (i0 i1 : S) (f0 f1 f2 : C) (r0 r1 r2 : R) → IsDecided refusal → EndsDecided s c r refusal means ended texts i0 i1 f0 f1 r0 r1
      → Appends (r.written r1) (r.written r2) texts.report → Appends (c.written f1) (c.written f2) texts.frames → r.unfinished r2 ≡ false → c.unfinished f2 ≡ false → SinksQuiet c r f1 f2 r1 r2
      → Drives s c r refusal means ended i0 i1 f0 f2 r0 r2
  drives_decided refusal means ended texts i0 i1 f0 f1 f2 r0 r1 r2 decides e report frames report_done frames_done quiet =
      record {
        answer = λ decided. (e.octets, e.held, met (means Ends e.octets) ended texts f0 f1 f2 r0 r1 r2 e.owing report frames);
        statuses = λ decided. e.statuses;
        done_whole = e.done_whole;
        read = λ is. apart ended _ is decided;
        write = λ is. absurd (subst IsDecided is decided);
        input_quiet = λ a b. e.input_quiet;
        sinks_quiet = λ a. quiet_on c r f0 f1 f2 r0 r1 r2 e.sinks_quiet quiet;
        frames_finished = λ a b. frames_done;
        report_finished = λ a b. report_done;
        stopped = λ is. apart ended _ is decided;
        front = λ is. absurd (neither is);
      }
    where
      decided : IsDecided ended
      decided = decided_of refusal ended decides e.statuses

      neither : (ended ≡ WriteFault) ⊎ (ended ≡ Memory) → ⊥
      neither (inl is) = subst IsDecided is decided
      neither (inr is) = subst IsDecided is decided

  pub drives_cut : (refusal : Status) (means : Meaning) (ended : Status) (texts : Texts) (i0 i1 : S) (f0 f1 f2 : C) (r0 r1 r2 : R) → EndsCut s c r means ended texts i0 i1 f0 f1 r0 r1
      → Appends (r.written r1) (r.written r2) texts.report → Appends (c.written f1) (c.written f2) texts.frames → r.unfinished r2 ≡ false → c.unfinished f2 ≡ false → SinksQuiet c r f1 f2 r1 r2
      → Drives s c r refusal means ended i0 i1 f0 f2 r0 r2
  drives_cut refusal means ended texts i0 i1 f0 f1 f2 r0 r1 r2 e report frames report_done frames_done quiet =
      record {
        answer = λ decided. apart ended _ e.status decided;
        statuses = λ decided. apart ended _ e.status decided;
        done_whole = λ done. absurd (no_done (sym done ∙ e.status));
        read = λ is. e.input_rose;
        write = λ is. absurd (no_write (sym is ∙ e.status));
        input_quiet = λ a b. absurd (a e.status);
        sinks_quiet = λ a. quiet_on c r f0 f1 f2 r0 r1 r2 e.sinks_quiet quiet;
        frames_finished = λ a b. frames_done;
        report_finished = λ a b. report_done;
        stopped = λ is. (e.octets, e.consumed, met (means Fails e.octets) ended texts f0 f1 f2 r0 r1 r2 e.owing report frames);
        front = λ is. absurd (neither is);
      }
    where
      no_done : Done ≡ ReadFault → ⊥
      no_done e = cc

      no_write : WriteFault ≡ ReadFault → ⊥
      no_write e = cc

      no_memory : Memory ≡ ReadFault → ⊥
      no_memory e = cc

      neither : (ended ≡ WriteFault) ⊎ (ended ≡ Memory) → ⊥
      neither (inl is) = no_write (sym is ∙ e.status)
      neither (inr is) = no_memory (sym is ∙ e.status)

  -- the run stopped before its end
  pub drives_stopped : (refusal : Status) (means : Meaning) (why : Status) (i0 i1 : S) (f0 f1 : C) (r0 r1 : R) → Stops s c r means why i0 i1 f0 f1 r0 r1 → Drives s c r refusal means why i0 i1 f0 f1 r0 r1
  drives_stopped refusal means why i0 i1 f0 f1 r0 r1 e =
      record {
        answer = λ decided. absurd (undecided e.cause decided);
        statuses = λ decided. absurd (undecided e.cause decided);
        done_whole = λ done. absurd (undecided e.cause (subst IsDecided (sym done) tt));
        read = λ is. absurd (no_read e.cause is);
        write = rose e.cause;
        input_quiet = λ a b. e.input_quiet;
        sinks_quiet = quiet e.cause;
        frames_finished = λ a b. absurd (other e.cause a b);
        report_finished = λ a b. absurd (other e.cause a b);
        stopped = λ is. absurd (no_read e.cause is);
        front = λ is. e.front;
      }
    where
      undecided : StopsFor why c r f0 f1 r0 r1 → IsDecided why → ⊥
      undecided (inl (is, a)) decided = subst IsDecided is decided
      undecided (inr (is, a)) decided = subst IsDecided is decided

      write_read : WriteFault ≡ ReadFault → ⊥
      write_read e = cc

      memory_read : Memory ≡ ReadFault → ⊥
      memory_read e = cc

      memory_write : Memory ≡ WriteFault → ⊥
      memory_write e = cc

      no_read : StopsFor why c r f0 f1 r0 r1 → why ≡ ReadFault → ⊥
      no_read (inl (is, a)) read = write_read (sym is ∙ read)
      no_read (inr (is, a)) read = memory_read (sym is ∙ read)

      rose : StopsFor why c r f0 f1 r0 r1 → why ≡ WriteFault → OneRose c r f0 f1 r0 r1
      rose (inl (is, a)) write = a
      rose (inr (is, a)) write = absurd (memory_write (sym is ∙ write))

      quiet : StopsFor why c r f0 f1 r0 r1 → why ≢ WriteFault → SinksQuiet c r f0 f1 r0 r1
      quiet (inl (is, a)) other = absurd (other is)
      quiet (inr (is, a)) other = a

      other : StopsFor why c r f0 f1 r0 r1 → why ≢ WriteFault → why ≢ Memory → ⊥
      other (inl (is, a)) write memory = write is
      other (inr (is, a)) write memory = memory is

  fronts_after : (owed : Verdict) (texts : Texts) (f0 f1 f2 : C) (r0 r1 r2 : R) → Begun c r owed texts f0 f1 r0 r1 → Fronted c r texts f1 f2 r1 r2 → AppendsFronts owed (r.written r0) (r.written r2) (c.written f0) (c.written f2)
  fronts_after owed texts f0 f1 f2 r0 r1 r2 b f = (
    subst (λ (v : Verdict). AppendsFront (r.written r0) (r.written r2) v.report) (sym b.is)
        (front_past (r.written r0) (r.written r1) (r.written r2) b.report_part (texts.report ++ b.rest.report) b.report_written (front_more (r.written r1) (r.written r2) texts.report b.rest.report f.report_front)),
    subst (λ (v : Verdict). AppendsFront (c.written f0) (c.written f2) v.frames) (sym b.is)
        (front_past (c.written f0) (c.written f1) (c.written f2) b.frames_part (texts.frames ++ b.rest.frames) b.frames_written (front_more (c.written f1) (c.written f2) texts.frames b.rest.frames f.frames_front)),
  )

  begun_by : (owed : Verdict) (ended : Status) (texts : Texts) (f0 f1 : C) (r0 r1 : R) → Owing c r owed ended texts f0 f1 r0 r1 → Begun c r owed texts f0 f1 r0 r1
  begun_by owed ended texts f0 f1 r0 r1 o =
      record {
        report_part = o.report_part;
        frames_part = o.frames_part;
        report_written = o.report_written;
        frames_written = o.frames_written;
        rest = record { status = ended; report = []; frames = [] };
        is = o.is
            ∙ ap₂ (λ (a b : List ℕ). told o.report_part o.frames_part (record { status = ended; report = a; frames = b })) (sym (append-nil texts.report)) (sym (append-nil texts.frames));
      }

  -- at the last write a sink failed
  pub drives_unwritten : (refusal : Status) (means : Meaning) (ended : Status) (texts : Texts) (i0 i1 : S) (f0 f1 f2 : C) (r0 r1 r2 : R)
      → EndsDecided s c r refusal means ended texts i0 i1 f0 f1 r0 r1 ⊎ EndsCut s c r means ended texts i0 i1 f0 f1 r0 r1 → Fronted c r texts f1 f2 r1 r2 → OneRose c r f1 f2 r1 r2 → Drives s c r refusal means WriteFault i0 i1 f0 f2 r0 r2
  drives_unwritten refusal means ended texts i0 i1 f0 f1 f2 r0 r1 r2 ends fronted rose =
      record {
        answer = λ decided. absurd decided;
        statuses = λ decided. absurd decided;
        done_whole = λ done. absurd (no_done done);
        read = λ is. absurd (no_read is);
        write = λ is. by ends;
        input_quiet = λ a b. absurd (b refl);
        sinks_quiet = λ a. absurd (a refl);
        frames_finished = λ a b. absurd (a refl);
        report_finished = λ a b. absurd (a refl);
        stopped = λ is. absurd (no_read is);
        front = λ is. front ends;
      }
    where
      no_done : WriteFault ≡ Done → ⊥
      no_done e = cc

      no_read : WriteFault ≡ ReadFault → ⊥
      no_read e = cc

      by : EndsDecided s c r refusal means ended texts i0 i1 f0 f1 r0 r1 ⊎ EndsCut s c r means ended texts i0 i1 f0 f1 r0 r1 → OneRose c r f0 f2 r0 r2
      by (inl e) = rose_past c r f0 f1 f2 r0 r1 r2 e.sinks_quiet rose
      by (inr e) = rose_past c r f0 f1 f2 r0 r1 r2 e.sinks_quiet rose

      front : EndsDecided s c r refusal means ended texts i0 i1 f0 f1 r0 r1 ⊎ EndsCut s c r means ended texts i0 i1 f0 f1 r0 r1
          → (octets : List ℕ) × Held (s.left i0) octets × AppendsFronts (means Ends octets) (r.written r0) (r.written r2) (c.written f0) (c.written f2)
      front (inl e) = (e.octets, e.held, fronts_after (means Ends e.octets) texts f0 f1 f2 r0 r1 r2 (begun_by (means Ends e.octets) ended texts f0 f1 r0 r1 e.owing) fronted)
      front (inr e) = (e.all_octets, e.held, fronts_after (means Ends e.all_octets) texts f0 f1 f2 r0 r1 r2 e.begun fronted)

module _ {S C R : Type 0} (s : source.Ghosts S) (c : sink.Ghosts C) (r : sink.Ghosts R) where
  pub drives_ended : (refusal : Status) (means : Meaning) (ended : Status) (texts : Texts) (i0 i1 : S) (f0 f1 f2 : C) (r0 r1 r2 : R) → IsDecided refusal
      → EndsDecided s c r refusal means ended texts i0 i1 f0 f1 r0 r1 ⊎ EndsCut s c r means ended texts i0 i1 f0 f1 r0 r1
      → Appends (r.written r1) (r.written r2) texts.report → Appends (c.written f1) (c.written f2) texts.frames → r.unfinished r2 ≡ false → c.unfinished f2 ≡ false → SinksQuiet c r f1 f2 r1 r2
      → Drives s c r refusal means ended i0 i1 f0 f2 r0 r2
  drives_ended refusal means ended texts i0 i1 f0 f1 f2 r0 r1 r2 decides (inl e) report frames report_done frames_done quiet =
      drives_decided s c r refusal means ended texts i0 i1 f0 f1 f2 r0 r1 r2 decides e report frames report_done frames_done quiet
  drives_ended refusal means ended texts i0 i1 f0 f1 f2 r0 r1 r2 decides (inr e) report frames report_done frames_done quiet =
      drives_cut s c r refusal means ended texts i0 i1 f0 f1 f2 r0 r1 r2 e report frames report_done frames_done quiet
