use Rattle.std.proofs.Common.{◌≡◌, ◌++◌, take}
use Rattle.std.specs.Prelude.{flat_map}
use Rattle.replay_report.specs.Lines.{got_text}
use Rattle.replay_report.proofs.lines.push_gots.Given as goal

abbrev pub invariant-loop-got : goal.invariant-loop-got
invariant-loop-got l = l.out ≡ l.fn.out ++ flat_map (got_text l.routers l.line) (take l.got-index l.gots)
