use Rattle.std.proofs.Common.{◌≡◌, ◌++◌, take}
use Rattle.std.specs.Prelude.{flat_map}
use Rattle.replay_report.specs.Lines.{drop_text}
use Rattle.replay_report.proofs.lines.push_drops.Given as goal

abbrev pub invariant-loop-dropped : goal.invariant-loop-dropped
invariant-loop-dropped l = l.out ≡ l.fn.out ++ flat_map (drop_text l.routers l.line) (take l.dropped-index l.drops)
