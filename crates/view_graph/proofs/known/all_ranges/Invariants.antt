use Rattle.std.proofs.Common.{◌≡◌, take}
use Rattle.wire_base.specs.model.View.{all_ranges}
use Rattle.view_graph.proofs.known.all_ranges.Given as goal

abbrev pub invariant-subs : goal.invariant-subs
invariant-subs l = l.ranges.items ≡ all_ranges (take l.sub-index l.subs)
