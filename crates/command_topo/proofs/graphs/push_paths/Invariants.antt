use Rattle.std.proofs.Common.{◌≡◌, ◌++◌}
use Rattle.std.specs.Prelude.{flat_map}
use Rattle.std.specs.List.{range_with_len}
use Rattle.command_topo.specs.Lines.{path_at}
use Rattle.command_topo.proofs.graphs.push_paths.Given as goal

abbrev pub invariant-paths : goal.invariant-paths
invariant-paths l = l.out ≡ l.fn.out ++ flat_map (path_at l.nodes l.from) (range_with_len 0 l.place)
