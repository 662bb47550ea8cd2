use Rattle.std.proofs.Common.{◌≡◌, map, filter, take}
use Rattle.topo_mt.specs.MultiTopology.{is_member, is_projected, projected_entry}
use Rattle.topo_mt.proofs.projected.projected.Given as goal

abbrev pub invariant-entries : goal.invariant-entries
invariant-entries l = record {
  made : l.made.entries ≡ map (projected_entry l.mt l.store.entries) (filter (is_projected l.mt l.store.entries) (take l.place l.store.entries));
  known : l.known.is_member ≡ is_member l.mt l.store.entries l.known.system;
}
