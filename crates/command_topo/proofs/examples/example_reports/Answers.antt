use Rattle.std.proofs.Common.{refl}
use Rattle.std.specs.Fmt.{digits}
use Rattle.wire_base.specs.model.BierInfo.{any_overlap, info_at, parts_within, take_part}
use Rattle.wire_base.specs.model.Tlv.{entries_of, entries_within, prefix_at, reach_at}
use Rattle.wire_base.specs.model.View.{claims_of, view_of}
use Rattle.wire_base.specs.model.Walk.{dist}
use Rattle.topo_mt.specs.MultiTopology.{is_member, is_overloaded_in, listing_in, projected, projected_content, projected_entries}
use Rattle.topo_mt.specs.Observer.{mpls_kinds, observer}
use Rattle.topo_mt.specs.Topology.{cost_from, nodes_without, place_of, topology_of, without_system}
use Rattle.command_topo.specs.Lines.{graph_text, paths_text, topology_text}
use Rattle.run_texts.specs.Addresses.{hex_pair, prefix_text, system_text}
use Rattle.command_topo.proofs.examples.example_reports.Goals as goal

pub returns-clause-standard : goal.returns-clause-standard
unfolding topology_text graph_text paths_text system_text hex_pair prefix_text topology_of without_system place_of nodes_without view_of claims_of observer mpls_kinds projected entries_of entries_within reach_at prefix_at info_at any_overlap parts_within take_part digits
returns-clause-standard c = refl

pub returns-clause-listed : goal.returns-clause-listed
unfolding topology_text graph_text paths_text system_text hex_pair topology_of without_system place_of nodes_without view_of claims_of observer projected projected_entries projected_content is_member is_overloaded_in listing_in entries_of entries_within reach_at cost_from dist any_overlap digits
returns-clause-listed c = refl

pub returns-clause-unlisted : goal.returns-clause-unlisted
unfolding topology_text graph_text paths_text topology_of without_system place_of nodes_without view_of claims_of observer projected projected_entries projected_content is_member is_overloaded_in listing_in entries_of entries_within reach_at any_overlap digits
returns-clause-unlisted c = refl
