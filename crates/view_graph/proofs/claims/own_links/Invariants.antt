use Rattle.std.proofs.Common.{◌≡◌, map, take}
use Rattle.wire_base.specs.model.OwnLsp.{picked}
use Rattle.wire_base.specs.model.View.{end_link}
use Rattle.view_graph.proofs.claims.own_links.Given as goal

abbrev pub invariant-ends : goal.invariant-ends
invariant-ends l = l.links ≡ map end_link (picked (take l.place l.up) (take l.place l.ends))
