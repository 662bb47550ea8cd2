use Rattle.std.proofs.Common.{◌≡◌, false, take}
use Rattle.std.specs.List.{list_any}
use Rattle.topo_mt.specs.MultiTopology.{lists_part}
use Rattle.topo_mt.proofs.listings.is_member.Given as goal

-- none of the entries so far lists the topology
abbrev pub invariant-entries : goal.invariant-entries
invariant-entries l = list_any (lists_part l.mt l.system) (take l.place l.store.entries) ≡ false
