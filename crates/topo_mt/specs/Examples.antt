-- The LSPs of two routers that take part in topology 2, encoded by hand, and that topology.
use Rattle.std.specs.Prelude.{ℕ, Bool, true, false, List, [], ◌∷◌}
use Rattle.wire_base.specs.declared.entry.Entry.{Entry}
use Rattle.wire_base.specs.declared.view.ViewEdge.{ViewEdge}
use Rattle.wire_base.specs.declared.view.ViewNode.{ViewNode}
use Rattle.laws_format.specs.Examples.{fragment_of, system_of}

-- a live fragment 0; its flags octet has no overload bit
abbrev pub lsp_of : ℕ → List ℕ → Entry
lsp_of n content = record { id = fragment_of n; seq = 1; life = 1200; hold = 0; sum = 1; flags = 3; content = content }

-- Router 1 lists topology 2, and in it a link to router 2. Router 2 does so in turn, with the O bit set.
abbrev pub two_routers : List Entry
two_routers =
    lsp_of 1 (229 ∷ 2 ∷ 0 ∷ 2 ∷ 222 ∷ 13 ∷ 0 ∷ 2 ∷ 0 ∷ 0 ∷ 0 ∷ 0 ∷ 0 ∷ 2 ∷ 0 ∷ 0 ∷ 0 ∷ 10 ∷ 0 ∷ [])
    ∷ lsp_of 2 (229 ∷ 2 ∷ 128 ∷ 2 ∷ 222 ∷ 13 ∷ 0 ∷ 2 ∷ 0 ∷ 0 ∷ 0 ∷ 0 ∷ 0 ∷ 1 ∷ 0 ∷ 0 ∷ 0 ∷ 20 ∷ 0 ∷ []) ∷ []

abbrev pub node_with : ℕ → Bool → List ViewEdge → ViewNode
node_with n overload edges = record { system = system_of n; overload = overload; edges = edges; subs = [] }

abbrev pub two_nodes : List ViewNode
two_nodes = node_with 1 false (record { to = 1; metric = 10 } ∷ []) ∷ node_with 2 true (record { to = 0; metric = 20 } ∷ []) ∷ []

-- topology 0 has the routers, and no link, since there is no TLV 22
abbrev pub two_alone : List ViewNode
two_alone = node_with 1 false [] ∷ node_with 2 false [] ∷ []
