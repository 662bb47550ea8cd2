use Rattle.std.proofs.Common.{refl}
use Rattle.wire_base.specs.model.BierInfo.{any_overlap}
use Rattle.wire_base.specs.model.Tlv.{entries_of, entries_within, reach_at}
use Rattle.wire_base.specs.model.View.{claims_of, view_of}
use Rattle.wire_base.specs.model.Walk.{dist}
use Rattle.topo_mt.specs.MultiTopology.{is_member, is_overloaded_in, listing_in, projected, projected_content, projected_entries}
use Rattle.topo_mt.specs.Observer.{observer}
use Rattle.topo_mt.specs.Topology.{cost_from, nodes_without, place_of, topology_of, without_system}
use Rattle.topo_mt.proofs.examples.example_topologies.Goals as goal

pub returns-clause-listed : goal.returns-clause-listed
unfolding topology_of without_system place_of nodes_without view_of claims_of observer projected projected_entries projected_content is_member is_overloaded_in listing_in entries_of entries_within reach_at any_overlap
returns-clause-listed c = refl

pub returns-clause-unlisted : goal.returns-clause-unlisted
unfolding topology_of without_system place_of nodes_without view_of claims_of observer projected projected_entries projected_content is_member is_overloaded_in listing_in entries_of entries_within reach_at any_overlap
returns-clause-unlisted c = refl

pub returns-clause-standard : goal.returns-clause-standard
unfolding topology_of without_system place_of nodes_without view_of claims_of observer projected entries_of entries_within reach_at any_overlap
returns-clause-standard c = refl

pub returns-clause-cost : goal.returns-clause-cost
unfolding cost_from place_of dist
returns-clause-cost c = refl
