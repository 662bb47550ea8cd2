-- What a command does with an item.
use Rattle.std.specs.Prelude.{ℕ, ◌≡◌, List, [], ◌++◌}
use Rattle.command_drive.specs.Answer.{Verdict}
use Rattle.wire_base.specs.declared.status.Status.{Status}
use Rattle.wire_base.specs.declared.status.Status.TheVariants as status
use Rattle.command_drive.specs.declared.command.Flow.{Flow}
use Rattle.command_drive.specs.declared.command.Flow.TheVariants as flow
use Rattle.run_texts.specs.declared.texts.Texts.{Texts}
use Rattle.command_drive.specs.Reading.{Behind}

-- a verdict with a report and frames before its own
abbrev pub told : (report frames : List ℕ) → Verdict → Verdict
told report frames owed = record { status = owed.status; report = report ++ owed.report; frames = frames ++ owed.frames }

-- what remains to be reported after a read error
abbrev pub nothing_more : Verdict
nothing_more = record { status = status.ReadFault; report = []; frames = [] }

-- what remains to be produced for items and the end of the input after them
abbrev pub Owed : Type 0 → Type 0
Owed T = List T → Behind → Verdict

-- Something was reported, and what remained before is that followed by what remains now.
pub record Told {T : Type 0} (old new : Owed T) (texts texts_now : Texts) : Type 0 where
  pub report : List ℕ
  pub frames : List ℕ
  pub report_is : texts_now.report ≡ texts.report ++ report
  pub frames_is : texts_now.frames ≡ texts.frames ++ frames
  pub owed : (items : List T) (behind : Behind) → old items behind ≡ told report frames (new items behind)

-- The output ends, whatever was to follow.
pub record Concludes (ended : Status) (owed : Verdict) (texts texts_now : Texts) : Type 0 where
  pub status : ended ≡ owed.status
  pub report : texts_now.report ≡ texts.report ++ owed.report
  pub frames : texts_now.frames ≡ texts.frames ++ owed.frames

abbrev pub Did : {T : Type 0} → Flow → (refusal : Status) → (old new : Owed T) → (texts texts_now : Texts) → Type 0
Did flow.On refusal old new texts texts_now = Told old new texts texts_now
Did flow.More refusal old new texts texts_now = Told old new texts texts_now
Did {T} (flow.Ends ended) refusal old new texts texts_now = (ended ≡ refusal) × ((items : List T) (behind : Behind) → Concludes ended (old items behind) texts texts_now)
