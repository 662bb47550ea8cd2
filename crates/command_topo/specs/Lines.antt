-- The lines of a topology.
use Rattle.std.specs.Prelude.{ℕ, List, [], ◌∷◌, ◌++◌, length, slice_get, flat_map, Option, Some, None, codes, if◌then◌else◌}
use Rattle.std.specs.Fmt.{decimal}
use Rattle.std.specs.List.{range_with_len}
use Rattle.wire_base.specs.declared.addresses.SystemId.{SystemId}
use Rattle.wire_base.specs.declared.entry.Entry.{Entry}
use Rattle.wire_base.specs.declared.view.ViewEdge.{ViewEdge}
use Rattle.wire_base.specs.declared.view.ViewNode.{ViewNode}
use Rattle.wire_base.specs.declared.view.ViewSub.{ViewSub}
use Rattle.wire_base.specs.model.Control.{same_system}
use Rattle.topo_mt.specs.Topology.{cost_from, topology_of}
use Rattle.run_texts.specs.Addresses.{prefix_text, system_text}

-- a node: whether its overload bit is set
abbrev pub node_text : ViewNode → List ℕ
node_text n = codes "node " ++ system_text n.system ++ (if n.overload then codes " overload\n" else codes " transit\n")

abbrev pub system_of : Option ViewNode → List ℕ
system_of None = []
system_of (Some n) = system_text n.system

abbrev pub system_at : List ViewNode → ℕ → List ℕ
system_at g u = system_of (slice_get g u)

-- an edge: the systems at its ends, and its metric
abbrev pub edge_text : List ViewNode → SystemId → ViewEdge → List ℕ
edge_text g from e = codes "edge " ++ system_text from ++ 32 ∷ [] ++ system_at g e.to ++ 32 ∷ [] ++ decimal e.metric ++ 10 ∷ []

abbrev pub node_edges : List ViewNode → ViewNode → List ℕ
node_edges g n = flat_map (edge_text g n.system) n.edges

-- a membership: the sub-domain, the BFR-id and the BFR-prefix
abbrev pub sub_text : SystemId → ViewSub → List ℕ
sub_text system s = codes "bier " ++ system_text system ++ 32 ∷ [] ++ decimal s.sd ++ 32 ∷ [] ++ decimal s.id ++ 32 ∷ [] ++ prefix_text s.prefix ++ 10 ∷ []

abbrev pub node_subs : ViewNode → List ℕ
node_subs n = flat_map (sub_text n.system) n.subs

abbrev pub cost_text : Option ℕ → List ℕ
cost_text None = codes "none"
cost_text (Some n) = decimal n

-- a path: the system that it leads to, and its cost
abbrev pub path_text : SystemId → Option ℕ → List ℕ
path_text to cost = codes "path " ++ system_text to ++ 32 ∷ [] ++ cost_text cost ++ 10 ∷ []

abbrev pub path_to : List ViewNode → SystemId → ℕ → Option ViewNode → List ℕ
path_to g from d None = []
path_to g from d (Some n) = if same_system n.system from then [] else path_text n.system (cost_from g from d)

-- the path to the node at an index, unless it is where the paths begin
abbrev pub path_at : List ViewNode → SystemId → ℕ → List ℕ
path_at g from d = path_to g from d (slice_get g d)

unfoldable pub paths_text : List ViewNode → SystemId → List ℕ
paths_text g from = flat_map (path_at g from) (range_with_len 0 (length g))

unfoldable pub graph_text : List ViewNode → SystemId → List ℕ
graph_text g from = flat_map node_text g ++ flat_map (node_edges g) g ++ flat_map node_subs g ++ paths_text g from

abbrev pub done_text : (records lsps nodes : ℕ) → List ℕ
done_text records lsps nodes = codes "done records " ++ decimal records ++ codes " lsps " ++ decimal lsps ++ codes " nodes " ++ decimal nodes ++ 10 ∷ []

-- the report on one topology of an LSDB, after that many records
unfoldable pub topology_text : (mt : ℕ) → SystemId → (records : ℕ) → List Entry → List ℕ
topology_text mt from records entries = graph_text (topology_of mt entries) from ++ done_text records (length entries) (length (topology_of mt entries))
