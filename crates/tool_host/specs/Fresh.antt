-- Files on which no call was made.
use Rattle.std.specs.Prelude.{◌≡◌, None, false}
use Rattle.tool_host.specs.declared.files.StdoutSink.{StdoutSink}
use Rattle.tool_host.specs.declared.objects.Objects.{Objects}

-- none is open, and nothing was counted
pub record AreFresh {F D : Type 0} (objects : Objects F D) : Type 0 where
  pub conf_closed : objects.conf.file ≡ None
  pub input_closed : objects.input.file ≡ None
  pub frames_closed : objects.frames.file ≡ None
  pub conf : objects.conf.faults ≡ 0
  pub input : objects.input.faults ≡ 0
  pub frames : objects.frames.tally.faults ≡ 0
  pub taken : objects.frames.tally.zeros ≡ 0
  pub finished : objects.frames.tally.unfinished ≡ false

-- nothing was counted, and nothing remains to be finished
pub record IsFresh {W : Type 0} (report : StdoutSink W) : Type 0 where
  pub faults : report.tally.faults ≡ 0
  pub taken : report.tally.zeros ≡ 0
  pub finished : report.tally.unfinished ≡ false
