-- Runs in progress.
use Rattle.std.specs.Prelude.{ℕ, ◌≡◌, List, ◌++◌}
use Rattle.wire_base.specs.model.Configuration.{DomainConf}
use Rattle.domain_model.specs.Run.{Run}
use Rattle.replay_report.specs.declared.recording.Recording.{Recording}
use Rattle.domain_replay.specs.Telling.{Telling, telling_of, IsRunOf}

-- A run in progress: the run of a domain so far, and the prefixes of its texts that were written.
pub record Course : Type 0 where
  pub recording : Recording
  pub domain : DomainConf
  pub run : Run
  pub frames : List ℕ
  pub report : List ℕ

-- what is reported, with those prefixes before both texts
abbrev pub past : (frames report : List ℕ) → Telling → Telling
past frames report t = record { world = t.world; counts = t.counts; frames = frames ++ t.frames; report = report ++ t.report; recording = t.recording }

-- A replay is at a run in progress: with the prefixes that were written its texts are the run's.
pub record IsAt (course : Course) (now : Telling) : Type 0 where
  pub run : IsRunOf course.domain course.run
  pub telling : telling_of course.recording course.domain course.run ≡ past course.frames course.report now
