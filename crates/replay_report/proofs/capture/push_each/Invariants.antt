use Rattle.std.proofs.Common.{◌≡◌, ◌++◌, take}
use Rattle.replay_report.specs.Captures.{wire_records}
use Rattle.replay_report.proofs.capture.push_each.Given as goal

abbrev pub invariant-loop-i : goal.invariant-loop-i
invariant-loop-i l = l.out ≡ l.fn.out ++ wire_records l.recording l.routers l.line (take l.i l.frames)
