-- Views of the small domains, and LSDBs on which single rules of the view are tested.
use Rattle.std.specs.Prelude.{ℕ, Bool, true, false, List, [], ◌∷◌}
use Rattle.std.specs.List.{flat_map}
use Rattle.wire_base.specs.declared.conf.LabelRange.{LabelRange}
use Rattle.wire_base.specs.declared.conf.RouterConf.{RouterConf}
use Rattle.wire_base.specs.declared.bsl.Bsl.TheVariants.{B64}
use Rattle.wire_base.specs.declared.entry.Entry.{Entry}
use Rattle.wire_base.specs.declared.view.ViewEdge.{ViewEdge}
use Rattle.wire_base.specs.declared.view.ViewNode.{ViewNode}
use Rattle.wire_base.specs.declared.view.ViewSub.{ViewSub}
use Rattle.wire_base.specs.model.Tlv.{Tlv, tlv, Reach, reach, Prefix, prefix}
use Rattle.wire_base.specs.model.BierInfo.{Info, info_tlv}
use Rattle.wire_base.specs.model.OwnLsp.{own_lsp}
use Rattle.wire_base.specs.model.View.{view_of}
use Rattle.examples_model.specs.Domains.{system, address, lsp, pair_a, ring_a, ring_b, ring_c, ring_d}

abbrev pub edge : ℕ → ViewEdge
edge to = record { to = to; metric = 10 }

abbrev pub sub : ℕ → ℕ → ViewSub
sub n label = record { sd = 0; id = n; prefix = address n; ranges = record { bsl = B64; max_si = 0; label = label } ∷ [] }

abbrev pub node : ℕ → Bool → List ViewEdge → List ViewSub → ViewNode
node n overload edges subs = record { system = system n; overload = overload; edges = edges; subs = subs }

abbrev pub all_up : List Bool
all_up = true ∷ true ∷ true ∷ []

-- an LSP of a router all of whose links are up
abbrev pub first_lsp : RouterConf → Entry
first_lsp r = own_lsp r all_up 1

abbrev pub ring_lsps : List Entry
ring_lsps = first_lsp ring_a ∷ first_lsp ring_b ∷ first_lsp ring_c ∷ first_lsp ring_d ∷ []

abbrev pub ring_view : List ViewNode
ring_view =
    node 1 false (edge 1 ∷ edge 3 ∷ []) (sub 1 100 ∷ [])
    ∷ node 2 false (edge 0 ∷ edge 2 ∷ []) (sub 2 200 ∷ [])
    ∷ node 3 false (edge 1 ∷ edge 3 ∷ []) (sub 3 300 ∷ [])
    ∷ node 4 false (edge 0 ∷ edge 2 ∷ []) (sub 4 400 ∷ [])
    ∷ []

abbrev pub line_view : List ViewNode
line_view =
    node 1 false (edge 1 ∷ []) (sub 1 100 ∷ [])
    ∷ node 2 true (edge 0 ∷ edge 2 ∷ []) (sub 2 200 ∷ [])
    ∷ node 3 false (edge 1 ∷ []) (sub 3 300 ∷ [])
    ∷ []

-- the view of router A of the pair where B's LSP has those TLVs
abbrev pub lsp_with : List Tlv → Entry
lsp_with tlvs = record { id = lsp 2; seq = 1; life = 9; hold = 0; sum = 1; flags = 3; content = flat_map tlv tlvs }

abbrev pub seen : List Tlv → List ViewNode
seen tlvs = view_of pair_a (true ∷ []) (lsp_with tlvs ∷ [])

-- a link to a router
abbrev pub reach_to : ℕ → ℕ → Reach
reach_to n metric = record { neighbour = system n; pseudonode = 0; metric = metric; subs = [] }

abbrev pub links : List Reach → Tlv
links rs = record { code = 22; value = flat_map reach rs }

-- a prefix with BIER Infos
abbrev pub prefix_with : ℕ → List Info → Prefix
prefix_with n infos = record { metric = 0; control = 96; octets = (address n).0; subs = flat_map (λ i. tlv (info_tlv i)) infos }

abbrev pub prefixes : List Prefix → Tlv
prefixes ps = record { code = 135; value = flat_map prefix ps }

abbrev pub info : ℕ → ℕ → List LabelRange → Info
info sd id ranges = record { sd = sd; id = id; ranges = ranges }

-- from a label on, with Max SI 1
abbrev pub two_labels : ℕ → LabelRange
two_labels label = record { bsl = B64; max_si = 1; label = label }

abbrev pub a_alone : ViewNode
a_alone = node 1 false [] (sub 1 100 ∷ [])
