use Rattle.std.proofs.Common.{◌≡◌, ◌++◌, take}
use Rattle.std.specs.Prelude.{flat_map}
use Rattle.command_topo.specs.Lines.{sub_text}
use Rattle.command_topo.proofs.graphs.push_node_subs.Given as goal

abbrev pub invariant-loop-sub : goal.invariant-loop-sub
invariant-loop-sub l = l.out ≡ l.fn.out ++ flat_map (sub_text l.node.system) (take l.sub-index l.subs)
