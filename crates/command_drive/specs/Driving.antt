-- What a run over an input does.
use Rattle.std.specs.Prelude.{ℕ, ◌≡◌, ◌≢◌, ◌⊎◌, ◌<◌, false, List, [], ◌++◌, Option, Some, None}
use Rattle.std.specs.Io.KnownBytes.{Appends, Consumes, IsAtEnd}
use Rattle.wire_base.specs.Causes.{last_count}
use Rattle.command_drive.specs.Answer.{Verdict, IsDecided}
use Rattle.command_drive.specs.Outside.{Held, Meets, AppendsFront, AppendsFronts}
use Rattle.wire_base.specs.declared.outside.Source as source
use Rattle.wire_base.specs.declared.outside.Sink as sink
use Rattle.wire_base.specs.declared.status.Status.{Status}
use Rattle.wire_base.specs.declared.status.Status.TheVariants.{Done, ReadFault, WriteFault, Memory}
use Rattle.run_texts.specs.declared.texts.Texts.{Texts}
use Rattle.command_drive.specs.Reading.{End, Ends, Fails, Behind, Reads}
use Rattle.command_drive.specs.Doing.{Owed, told}

-- the verdict on octets after which their source ends, or fails
abbrev pub Meaning : Type 0
Meaning = End → List ℕ → Verdict

-- a status with which an input is rejected
pub record IsRefusal (refusal : Status) : Type 0 where
  pub decided : IsDecided refusal
  pub other : refusal ≢ Done

-- the verdict of a command on the items that a reader finds in the octets, with pending output before it
abbrev pub meaning : {T : Type 0} → (reads : End → List ℕ → Reads T) → Owed T → Texts → Meaning
meaning reads owes texts end octets = told texts.report texts.frames (owes (reads end octets).items (reads end octets).behind)

-- each count may still rise
pub record SinksMayRise {C R : Type 0} (c : sink.Ghosts C) (r : sink.Ghosts R) (frames : C) (report : R) : Type 0 where
  pub frames_faults : c.faults frames < last_count
  pub frames_zeros : c.zeros frames < last_count
  pub report_faults : r.faults report < last_count
  pub report_zeros : r.zeros report < last_count

pub record MayRise {S C R : Type 0} (s : source.Ghosts S) (c : sink.Ghosts C) (r : sink.Ghosts R) (input : S) (frames : C) (report : R) : Type 0 where
  pub source : s.faults input < last_count
  pub sinks : SinksMayRise c r frames report

-- no count of a sink rose
pub record SinksQuiet {C R : Type 0} (c : sink.Ghosts C) (r : sink.Ghosts R) (frames_old frames_new : C) (report_old report_new : R) : Type 0 where
  pub frames_faults : c.faults frames_new ≡ c.faults frames_old
  pub frames_zeros : c.zeros frames_new ≡ c.zeros frames_old
  pub report_faults : r.faults report_new ≡ r.faults report_old
  pub report_zeros : r.zeros report_new ≡ r.zeros report_old

-- one of them rose
abbrev pub OneRose : {C R : Type 0} → sink.Ghosts C → sink.Ghosts R → (frames_old frames_new : C) (report_old report_new : R) → Type 0
OneRose c r frames_old frames_new report_old report_new =
    (c.faults frames_old < c.faults frames_new) ⊎ ((c.zeros frames_old < c.zeros frames_new) ⊎ ((r.faults report_old < r.faults report_new) ⊎ (r.zeros report_old < r.zeros report_new)))

-- ---- within a run

-- nothing remains to be written
pub record IsWritten (texts : Texts) : Type 0 where
  pub frames : texts.frames ≡ []
  pub report : texts.report ≡ []

-- A prefix of each output was written, and the rest remains.
pub record Wrote {C R : Type 0} (c : sink.Ghosts C) (r : sink.Ghosts R) (texts texts_now : Texts) (frames_old frames_new : C) (report_old report_new : R) : Type 0 where
  pub report_part : List ℕ
  pub frames_part : List ℕ
  pub report_written : Appends (r.written report_old) (r.written report_new) report_part
  pub frames_written : Appends (c.written frames_old) (c.written frames_new) frames_part
  pub report_is : texts.report ≡ report_part ++ texts_now.report
  pub frames_is : texts.frames ≡ frames_part ++ texts_now.frames

-- A prefix of each output was written, and the rest is discarded.
pub record Fronted {C R : Type 0} (c : sink.Ghosts C) (r : sink.Ghosts R) (texts : Texts) (frames_old frames_new : C) (report_old report_new : R) : Type 0 where
  pub report_front : AppendsFront (r.written report_old) (r.written report_new) texts.report
  pub frames_front : AppendsFront (c.written frames_old) (c.written frames_new) texts.frames

-- what remains to be produced, with the pending output before it
abbrev pub total : {T : Type 0} → Texts → Owed T → Owed T
total texts owed items behind = told texts.report texts.frames (owed items behind)

-- Something was written, and what remained before is that followed by what remains now.
pub record Moves {T C R : Type 0} (c : sink.Ghosts C) (r : sink.Ghosts R) (old new : Owed T) (frames_old frames_new : C) (report_old report_new : R) : Type 0 where
  pub report_part : List ℕ
  pub frames_part : List ℕ
  pub report_written : Appends (r.written report_old) (r.written report_new) report_part
  pub frames_written : Appends (c.written frames_old) (c.written frames_new) frames_part
  pub owed : (items : List T) (behind : Behind) → old items behind ≡ told report_part frames_part (new items behind)

-- The run ends, and together with the pending output both sinks gain what remains to be produced.
pub record Owing {C R : Type 0} (c : sink.Ghosts C) (r : sink.Ghosts R) (owed : Verdict) (ended : Status) (texts_now : Texts) (frames_old frames_new : C) (report_old report_new : R) : Type 0 where
  pub report_part : List ℕ
  pub frames_part : List ℕ
  pub report_written : Appends (r.written report_old) (r.written report_new) report_part
  pub frames_written : Appends (c.written frames_old) (c.written frames_new) frames_part
  pub is : owed ≡ record { status = ended; report = report_part ++ texts_now.report; frames = frames_part ++ texts_now.frames }

-- A prefix of what remains was written, and the pending output is a prefix of the rest.
pub record Begun {C R : Type 0} (c : sink.Ghosts C) (r : sink.Ghosts R) (owed : Verdict) (texts_now : Texts) (frames_old frames_new : C) (report_old report_new : R) : Type 0 where
  pub report_part : List ℕ
  pub frames_part : List ℕ
  pub report_written : Appends (r.written report_old) (r.written report_new) report_part
  pub frames_written : Appends (c.written frames_old) (c.written frames_new) frames_part
  pub rest : Verdict
  pub is : owed ≡ told report_part frames_part (told texts_now.report texts_now.frames rest)

-- the result of an item
abbrev pub Went : {T C R : Type 0} → sink.Ghosts C → sink.Ghosts R → Option Status → (refusal : Status) → (old new : Owed T) → (texts_now : Texts) → (frames_old frames_new : C) → (report_old report_new : R) → Type 0
Went c r None refusal old new texts_now frames_old frames_new report_old report_new = Moves c r old new frames_old frames_new report_old report_new
Went {T} c r (Some ended) refusal old new texts_now frames_old frames_new report_old report_new =
    (ended ≡ refusal) × ((items : List T) (behind : Behind) → Owing c r (old items behind) ended texts_now frames_old frames_new report_old report_new)

-- whatever follows, a prefix of what remains was written
abbrev pub Fronts : {T C R : Type 0} → sink.Ghosts C → sink.Ghosts R → Owed T → (frames_old frames_new : C) → (report_old report_new : R) → Type 0
Fronts {T} c r owed frames_old frames_new report_old report_new =
    (items : List T) (behind : Behind) → AppendsFronts (owed items behind) (r.written report_old) (r.written report_new) (c.written frames_old) (c.written frames_new)

-- A run stopped at a write error, or out of memory.
abbrev pub StopsFor : {C R : Type 0} → Status → sink.Ghosts C → sink.Ghosts R → (frames_old frames_new : C) → (report_old report_new : R) → Type 0
StopsFor why c r frames_old frames_new report_old report_new =
    ((why ≡ WriteFault) × OneRose c r frames_old frames_new report_old report_new) ⊎ ((why ≡ Memory) × SinksQuiet c r frames_old frames_new report_old report_new)

-- ---- a run

-- How a run ended.
pub record Drives {S C R : Type 0} (s : source.Ghosts S) (c : sink.Ghosts C) (r : sink.Ghosts R) (refusal : Status) (means : Meaning) (ended : Status)
    (input_old input_new : S) (frames_old frames_new : C) (report_old report_new : R) : Type 0 where
  -- The verdict on what the source holds, whether or not the source specifies it.
  pub answer : IsDecided ended → (octets : List ℕ) × Held (s.left input_old) octets
      × Meets (means Ends octets) ended (r.written report_old) (r.written report_new) (c.written frames_old) (c.written frames_new)
  pub statuses : IsDecided ended → (ended ≡ Done) ⊎ (ended ≡ refusal)
  pub done_whole : ended ≡ Done → IsAtEnd (s.left input_new)
  -- An I/O error is returned only if its count rose, and no count rises with any other result.
  pub read : ended ≡ ReadFault → s.faults input_old < s.faults input_new
  pub write : ended ≡ WriteFault → OneRose c r frames_old frames_new report_old report_new
  pub input_quiet : ended ≢ ReadFault → ended ≢ WriteFault → s.faults input_new ≡ s.faults input_old
  pub sinks_quiet : ended ≢ WriteFault → SinksQuiet c r frames_old frames_new report_old report_new
  -- Neither sink is left unfinished.
  pub frames_finished : ended ≢ WriteFault → ended ≢ Memory → c.unfinished frames_new ≡ false
  pub report_finished : ended ≢ WriteFault → ended ≢ Memory → r.unfinished report_new ≡ false
  -- After a read error, what is complete in the octets that were read is processed and reported.
  pub stopped : ended ≡ ReadFault → (octets : List ℕ) × Consumes (s.left input_old) (s.left input_new) octets
      × Meets (means Fails octets) ended (r.written report_old) (r.written report_new) (c.written frames_old) (c.written frames_new)
  -- After a write error, or out of memory, a prefix of each output is written.
  pub front : (ended ≡ WriteFault) ⊎ (ended ≡ Memory) → (octets : List ℕ) × Held (s.left input_old) octets
      × AppendsFronts (means Ends octets) (r.written report_old) (r.written report_new) (c.written frames_old) (c.written frames_new)

-- How the items ended, with output still to be written: on what the source held, or where it failed.
pub record EndsDecided {S C R : Type 0} (s : source.Ghosts S) (c : sink.Ghosts C) (r : sink.Ghosts R) (refusal : Status) (means : Meaning) (ended : Status) (texts_now : Texts)
    (input_old input_new : S) (frames_old frames_new : C) (report_old report_new : R) : Type 0 where
  pub octets : List ℕ
  pub held : Held (s.left input_old) octets
  pub owing : Owing c r (means Ends octets) ended texts_now frames_old frames_new report_old report_new
  pub statuses : (ended ≡ Done) ⊎ (ended ≡ refusal)
  pub done_whole : ended ≡ Done → IsAtEnd (s.left input_new)
  pub input_quiet : s.faults input_new ≡ s.faults input_old
  pub sinks_quiet : SinksQuiet c r frames_old frames_new report_old report_new

pub record EndsCut {S C R : Type 0} (s : source.Ghosts S) (c : sink.Ghosts C) (r : sink.Ghosts R) (means : Meaning) (ended : Status) (texts_now : Texts)
    (input_old input_new : S) (frames_old frames_new : C) (report_old report_new : R) : Type 0 where
  pub status : ended ≡ ReadFault
  pub octets : List ℕ
  pub consumed : Consumes (s.left input_old) (s.left input_new) octets
  pub owing : Owing c r (means Fails octets) ended texts_now frames_old frames_new report_old report_new
  pub all_octets : List ℕ
  pub held : Held (s.left input_old) all_octets
  pub begun : Begun c r (means Ends all_octets) texts_now frames_old frames_new report_old report_new
  pub input_rose : s.faults input_old < s.faults input_new
  pub sinks_quiet : SinksQuiet c r frames_old frames_new report_old report_new

pub record Stops {S C R : Type 0} (s : source.Ghosts S) (c : sink.Ghosts C) (r : sink.Ghosts R) (means : Meaning) (why : Status)
    (input_old input_new : S) (frames_old frames_new : C) (report_old report_new : R) : Type 0 where
  pub cause : StopsFor why c r frames_old frames_new report_old report_new
  pub input_quiet : s.faults input_new ≡ s.faults input_old
  pub front : (octets : List ℕ) × Held (s.left input_old) octets × AppendsFronts (means Ends octets) (r.written report_old) (r.written report_new) (c.written frames_old) (c.written frames_new)
