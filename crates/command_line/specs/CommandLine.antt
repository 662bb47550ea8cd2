-- Command lines: a command with its arguments, octet by octet.
use Rattle.std.specs.Prelude.{ℕ, List}
use Rattle.wire_base.specs.declared.addresses.SystemId.{SystemId}
use Rattle.wire_base.specs.declared.conf.Level.{Level}
use Rattle.command_line.specs.declared.arguments.ScheduleKind.{ScheduleKind}

pub data CommandLine : Type 0 where
  Replay : (kind : ScheduleKind) (conf schedule frames : List ℕ) → CommandLine
  Node : (conf router capture frames : List ℕ) → CommandLine
  Hop : (input : List ℕ) → CommandLine
  Headers : (capture : List ℕ) → CommandLine
  Grow : (routers : ℕ) → CommandLine
  Topo : (capture : List ℕ) (level : Level) (mt : ℕ) (from : SystemId) → CommandLine
  Unknown : CommandLine
