-- The kinds of command lines.
use Rattle.std.specs.Prelude.{ℕ}
use Rattle.wire_base.specs.declared.addresses.SystemId.{SystemId}
use Rattle.wire_base.specs.declared.conf.Level.{Level}
use Rattle.command_line.specs.declared.arguments.ScheduleKind.{ScheduleKind}

pub data Form : Type 0 where
  Replay : (kind : ScheduleKind) → Form
  Node : Form
  Hop : Form
  Headers : Form
  Grow : (routers : ℕ) → Form
  Topo : (level : Level) (mt : ℕ) (from : SystemId) → Form
  Unknown : Form
