use Rattle.std.proofs.Common.{◌≡◌, fold, take}
use Rattle.path_tree.specs.Ways.{put}
use Rattle.path_tree.proofs.ways.turn_round.Given as goal

abbrev pub invariant-loop-edge : goal.invariant-loop-edge
invariant-loop-edge l = l.ways.items ≡ fold (put l.from) l.initial.ways.items (take l.edge-index l.edges)
