-- An input that is taken and done item by item is done as a whole, whatever the items and whatever is done with them.
use Rattle.std.proofs.Common.{◌≡◌, ◌≢◌, ℕ, ◌+◌, Bool, List, [], ◌++◌, length, take, Option, Some, None, Result, Ok, Err, refl, sym, ap, ap₂, subst, ◌∙◌, arith, inl, inr, append-nil, append_assoc}
use Rattle.std.specs.Prelude.{OnErr, IfErr}
use Rattle.std.specs.Result.{IsErrAnd}
use Rattle.std.specs.Io.KnownBytes.{Appends, Consumes}
use Rattle.std.proofs.KnownBytes.{Appends-nil, Appends-trans}
use Rattle.std.proofs.lemmas.Bool.{cases_lt}
use Rattle.std.proofs.lemmas.List.{take-append-le, take_all}
use Rattle.std.proofs.Math.Seq.{take-append-add, take-append_seam}
use Rattle.command_drive.specs.Answer.{Verdict}
use Rattle.command_drive.specs.Outside.{Held, AppendsFront}
use Rattle.wire_base.specs.declared.outside.Sink as sink
use Rattle.wire_base.specs.declared.status.Status.{Status}
use Rattle.command_drive.specs.declared.command.Flow.{Flow}
use Rattle.command_drive.specs.declared.command.Flow.TheVariants as flow
use Rattle.run_texts.specs.declared.texts.Texts.{Texts}
use Rattle.command_drive.specs.declared.items.Close.{Close}
use Rattle.command_drive.specs.declared.items.Found.{Found}
use Rattle.command_drive.specs.declared.items.Found.TheVariants as found
use Rattle.command_drive.specs.Reading.{End, Behind, Reads, Left, Finds, GoesOn, IsWaiting}
use Rattle.command_drive.specs.Doing.{Owed, Told, Concludes, Did, told}
use Rattle.command_drive.specs.Driving.{SinksQuiet, Wrote, Fronted, total, Moves, Owing, Went, Fronts}

-- ---- texts

pub told-told : (a b c d : List ℕ) (v : Verdict) → told a b (told c d v) ≡ told (a ++ c) (b ++ d) v
told-told a b c d v =
    ap (λ (l : List ℕ). record { status = v.status; report = l; frames = b ++ (d ++ v.frames) }) (sym (append_assoc a c v.report))
    ∙ ap (λ (l : List ℕ). record { status = v.status; report = (a ++ c) ++ v.report; frames = l }) (sym (append_assoc b d v.frames))

pub err_and : {X E : Type 0} (result : Result X E) (A B : Type 0) → OnErr result A → (A → B) → OnErr result B
err_and (Ok x) A B holds then = tt
err_and (Err e) A B holds then = then holds

pub nothing_front : (known : Option (List ℕ)) (text : List ℕ) → AppendsFront known known text
nothing_front None text = (0, tt)
nothing_front (Some xs) text = (0, sym (append-nil xs))

-- a front of a text is one of what begins with it
pub front_more : (a b : Option (List ℕ)) (text rest : List ℕ) → AppendsFront a b text → AppendsFront a b (text ++ rest)
front_more a b text rest front = elim (cases_lt (length text) front.0) [
  | inl over ↦ (length text, subst (Appends a b) (take_all front.0 text (omega (arith, over)) ∙ sym (take-append_seam text rest)) front.1)
  | inr fits ↦ (front.0, subst (Appends a b) (sym (take-append-le front.0 text rest fits)) front.1)
]

-- something was written, and then a front of a text
pub front_past : (a b c : Option (List ℕ)) (part text : List ℕ) → Appends a b part → AppendsFront b c text → AppendsFront a c (part ++ text)
front_past a b c part text wrote front =
    (length part + front.0, subst (Appends a c) (sym (take-append-add part text front.0)) (Appends-trans a b c part (take front.0 text) wrote front.1))

-- ---- what a source held of which a front was taken

pub held_past : (left left_now : Option (List ℕ)) (taken : List ℕ) → Consumes left left_now taken → (more : List ℕ) × Left left_now more × Held left (taken ++ more)
held_past None None taken consumed = ([], refl, tt)
held_past None (Some rest) taken consumed = (rest, refl, tt)
held_past (Some held) None taken consumed = absurd consumed
held_past (Some held) (Some rest) taken consumed = (rest, refl, consumed)

concludes_is : (ended : Status) (owed : Verdict) (texts texts_now : Texts) → Concludes ended owed texts texts_now
    → told texts.report texts.frames owed ≡ record { status = ended; report = texts_now.report; frames = texts_now.frames }
concludes_is ended owed texts texts_now e = sym (λ i. record { status = e.status i; report = e.report i; frames = e.frames i })

-- ---- steps of what is owed

module _ {T C R : Type 0} (c : sink.Ghosts C) (r : sink.Ghosts R) where
  pub moves_none : (owed : Owed T) (frames : C) (report : R) → Moves c r owed owed frames frames report report
  moves_none owed frames report =
      record {
        report_part = [];
        frames_part = [];
        report_written = Appends-nil (r.written report);
        frames_written = Appends-nil (c.written frames);
        owed = λ items behind. refl;
      }

  pub moves_on : (one two three : Owed T) (f0 f1 f2 : C) (r0 r1 r2 : R) → Moves c r one two f0 f1 r0 r1 → Moves c r two three f1 f2 r1 r2 → Moves c r one three f0 f2 r0 r2
  moves_on one two three f0 f1 f2 r0 r1 r2 m n =
      record {
        report_part = m.report_part ++ n.report_part;
        frames_part = m.frames_part ++ n.frames_part;
        report_written = Appends-trans (r.written r0) (r.written r1) (r.written r2) m.report_part n.report_part m.report_written n.report_written;
        frames_written = Appends-trans (c.written f0) (c.written f1) (c.written f2) m.frames_part n.frames_part m.frames_written n.frames_written;
        owed = λ items behind. m.owed items behind ∙ ap (told m.report_part m.frames_part) (n.owed items behind) ∙ told-told m.report_part m.frames_part n.report_part n.frames_part (three items behind);
      }

  -- something was reported
  pub moves_told : (old new : Owed T) (texts texts_now : Texts) (frames : C) (report : R) → Told old new texts texts_now → Moves c r (total texts old) (total texts_now new) frames frames report report
  moves_told old new texts texts_now frames report t =
      record {
        report_part = [];
        frames_part = [];
        report_written = Appends-nil (r.written report);
        frames_written = Appends-nil (c.written frames);
        owed = λ items behind.
            ap (told texts.report texts.frames) (t.owed items behind)
            ∙ told-told texts.report texts.frames t.report t.frames (new items behind)
            ∙ ap₂ (λ (a b : List ℕ). told a b (new items behind)) (sym t.report_is) (sym t.frames_is);
      }

  -- something was written out
  pub moves_wrote : (owed : Owed T) (texts texts_now : Texts) (f0 f1 : C) (r0 r1 : R) → Wrote c r texts texts_now f0 f1 r0 r1 → Moves c r (total texts owed) (total texts_now owed) f0 f1 r0 r1
  moves_wrote owed texts texts_now f0 f1 r0 r1 w =
      record {
        report_part = w.report_part;
        frames_part = w.frames_part;
        report_written = w.report_written;
        frames_written = w.frames_written;
        owed = λ items behind.
            ap₂ (λ (a b : List ℕ). told a b (owed items behind)) w.report_is w.frames_is
            ∙ sym (told-told w.report_part w.frames_part texts_now.report texts_now.frames (owed items behind));
      }

  -- the texts end
  pub moves_end : (start : Owed T) (now : Verdict) (texts texts_now : Texts) (items : List T) (behind : Behind) (report_part frames_part : List ℕ) (ended : Status) (f0 f1 : C) (r0 r1 : R)
      → Appends (r.written r0) (r.written r1) report_part → Appends (c.written f0) (c.written f1) frames_part → start items behind ≡ told report_part frames_part (told texts.report texts.frames now)
      → Concludes ended now texts texts_now → Owing c r (start items behind) ended texts_now f0 f1 r0 r1
  moves_end start now texts texts_now items behind report_part frames_part ended f0 f1 r0 r1 report_written frames_written is e =
      record {
        report_part = report_part;
        frames_part = frames_part;
        report_written = report_written;
        frames_written = frames_written;
        is = is ∙ ap (told report_part frames_part) (concludes_is ended now texts texts_now e);
      }

  pub fronts_none : (owed : Owed T) (frames : C) (report : R) → Fronts c r owed frames frames report report
  fronts_none owed frames report items behind = (nothing_front (r.written report) (owed items behind).report, nothing_front (c.written frames) (owed items behind).frames)

  pub fronts_texts : (owed : Owed T) (texts : Texts) (f0 f1 : C) (r0 r1 : R) → Fronted c r texts f0 f1 r0 r1 → Fronts c r (total texts owed) f0 f1 r0 r1
  fronts_texts owed texts f0 f1 r0 r1 f items behind = (
    front_more (r.written r0) (r.written r1) texts.report (owed items behind).report f.report_front,
    front_more (c.written f0) (c.written f1) texts.frames (owed items behind).frames f.frames_front,
  )

  pub fronts_past : (old new : Owed T) (f0 f1 f2 : C) (r0 r1 r2 : R) → Moves c r old new f0 f1 r0 r1 → Fronts c r new f1 f2 r1 r2 → Fronts c r old f0 f2 r0 r2
  fronts_past old new f0 f1 f2 r0 r1 r2 m f items behind =
      let is = m.owed items behind in
      let after = f items behind in (
        subst (λ (v : Verdict). AppendsFront (r.written r0) (r.written r2) v.report) (sym is) (front_past (r.written r0) (r.written r1) (r.written r2) m.report_part (new items behind).report m.report_written after.0),
        subst (λ (v : Verdict). AppendsFront (c.written f0) (c.written f2) v.frames) (sym is) (front_past (c.written f0) (c.written f1) (c.written f2) m.frames_part (new items behind).frames m.frames_written after.1),
      )

-- ---- the parts of an item

-- how an item goes on
abbrev pub Going : {T C R : Type 0} → sink.Ghosts C → sink.Ghosts R → Flow → (refusal : Status) → (old new : Owed T) → (texts_now : Texts) → (frames_old frames_new : C) → (report_old report_new : R) → Type 0
Going c r flow.On refusal old new texts_now f0 f1 r0 r1 = Moves c r old new f0 f1 r0 r1
Going c r flow.More refusal old new texts_now f0 f1 r0 r1 = Moves c r old new f0 f1 r0 r1
Going {T} c r (flow.Ends ended) refusal old new texts_now f0 f1 r0 r1 = (ended ≡ refusal) × ((items : List T) (behind : Behind) → Owing c r (old items behind) ended texts_now f0 f1 r0 r1)

abbrev pub rounds_left : Flow → ℕ → ℕ
rounds_left flow.On waits = 0
rounds_left flow.More waits = waits + 1
rounds_left (flow.Ends ended) waits = 0

module _ {T C R : Type 0} (c : sink.Ghosts C) (r : sink.Ghosts R) where
  pub going : (how : Flow) (refusal : Status) (start old new : Owed T) (texts texts_now : Texts) (f0 f1 : C) (r0 r1 : R) → Moves c r start (total texts old) f0 f1 r0 r1 → Did how refusal old new texts texts_now
      → Going c r how refusal start (total texts_now new) texts_now f0 f1 r0 r1
  going flow.On refusal start old new texts texts_now f0 f1 r0 r1 m did = moves_on c r start (total texts old) (total texts_now new) f0 f1 f1 r0 r1 r1 m (moves_told c r old new texts texts_now f1 r1 did)
  going flow.More refusal start old new texts texts_now f0 f1 r0 r1 m did = moves_on c r start (total texts old) (total texts_now new) f0 f1 f1 r0 r1 r1 m (moves_told c r old new texts texts_now f1 r1 did)
  going (flow.Ends ended) refusal start old new texts texts_now f0 f1 r0 r1 m did =
      (did.0, λ items behind. moves_end c r start (old items behind) texts texts_now items behind m.report_part m.frames_part ended f0 f1 r0 r1 m.report_written m.frames_written (m.owed items behind) (did.1 items behind))

module _ {T C R : Type 0} (c : sink.Ghosts C) (r : sink.Ghosts R) where
  pub going_more : (how : Flow) (refusal : Status) (old new : Owed T) (texts_now : Texts) (f0 f1 : C) (r0 r1 : R) → how ≡ flow.More → Going c r how refusal old new texts_now f0 f1 r0 r1 → Moves c r old new f0 f1 r0 r1
  going_more how refusal old new texts_now f0 f1 r0 r1 is goes = subst (λ (h : Flow). Going c r h refusal old new texts_now f0 f1 r0 r1) is goes

module _ {C R : Type 0} (c : sink.Ghosts C) (r : sink.Ghosts R) where
  pub quiet_none : (frames : C) (report : R) → SinksQuiet c r frames frames report report
  quiet_none frames report = record { frames_faults = refl; frames_zeros = refl; report_faults = refl; report_zeros = refl }

  pub quiet_on : (f0 f1 f2 : C) (r0 r1 r2 : R) → SinksQuiet c r f0 f1 r0 r1 → SinksQuiet c r f1 f2 r1 r2 → SinksQuiet c r f0 f2 r0 r2
  quiet_on f0 f1 f2 r0 r1 r2 q p =
      record {
        frames_faults = p.frames_faults ∙ q.frames_faults;
        frames_zeros = p.frames_zeros ∙ q.frames_zeros;
        report_faults = p.report_faults ∙ q.report_faults;
        report_zeros = p.report_zeros ∙ q.report_zeros;
      }

-- ---- what was found

pub finds_as : {T : Type 0} (what other : Found) (old new : End → List ℕ → Reads T) (item : T) (left left_now : Option (List ℕ)) → what ≡ other → Finds what old new item left left_now → Finds other old new item left left_now
finds_as what other old new item left left_now is finds = subst (λ (w : Found). Finds w old new item left left_now) is finds

-- it is no failed read
pub known : (what other : Found) (P : Type 0) → what ≡ other → (other ≡ found.Failed → ⊥) → (what ≢ found.Failed → P) → P
known what other P is apart quiet = quiet (λ failed. apart (sym is ∙ failed))

pub item_apart : found.Item ≡ found.Failed → ⊥
item_apart e = cc

pub last_apart : found.Last ≡ found.Failed → ⊥
last_apart e = cc

pub waits_apart : found.Waits ≡ found.Failed → ⊥
waits_apart e = cc

pub closed_apart : (how : Close) → found.Closed how ≡ found.Failed → ⊥
closed_apart how e = cc

-- there may be more to find
pub goes_on : (what other : Found) (P : Type 0) → what ≡ other → GoesOn other → (GoesOn what → P) → P
goes_on what other P is goes then = then (subst GoesOn (sym is) goes)

pub waiting_as : (what other : Found) (waits : Bool) → what ≡ other → IsWaiting what waits → IsWaiting other waits
waiting_as what other waits is waiting = subst (λ (w : Found). IsWaiting w waits) is waiting

pub finds_last : {T : Type 0} (old new : End → List ℕ → Reads T) (item other : T) (left left_now : Option (List ℕ)) → item ≡ other → Finds found.Last old new other left left_now → Finds found.Last old new item left left_now
finds_last {T} old new item other left left_now is finds = subst (λ (x : T). Finds found.Last old new x left left_now) (sym is) finds

pub finds_item : {T : Type 0} (old new : End → List ℕ → Reads T) (item other : T) (left left_now : Option (List ℕ)) → item ≡ other → Finds found.Item old new other left left_now → Finds found.Item old new item left left_now
finds_item {T} old new item other left left_now is finds = subst (λ (x : T). Finds found.Item old new x left left_now) (sym is) finds

-- an error that was passed on
pub err_as : {X : Type 0} (result : Result X Status) (Q P : Status → Type 0) → IsErrAnd result Q → ((why : Status) → Q why → P why) → IfErr result P
err_as (Ok x) Q P is then = tt
err_as (Err why) Q P is then = then why is

module _ {T C R : Type 0} (c : sink.Ghosts C) (r : sink.Ghosts R) where
  pub went_as : (ended other : Option Status) (refusal : Status) (old new : Owed T) (texts_now : Texts) (f0 f1 : C) (r0 r1 : R) → ended ≡ other → Went c r ended refusal old new texts_now f0 f1 r0 r1 → Went c r other refusal old new texts_now f0 f1 r0 r1
  went_as ended other refusal old new texts_now f0 f1 r0 r1 is went = subst (λ (o : Option Status). Went c r o refusal old new texts_now f0 f1 r0 r1) is went
