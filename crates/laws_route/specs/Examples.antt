-- Small domains on which the definitions are tested. All have MPLS sub-domain 0, BitStrings of 64 bits, and metrics
-- of 10 unless stated otherwise; a node's index is one less than the last octet of its system ID.
use Rattle.std.specs.Prelude.{ℕ, ◌*◌, ◌==◌, Bool, true, false, List, [], ◌∷◌, Option, Some, None, if◌then◌else◌}
use Rattle.wire_base.specs.declared.bsl.Bsl.TheVariants.{B64}
use Rattle.wire_base.specs.declared.conf.Kind.TheVariants.{Mpls}
use Rattle.wire_base.specs.declared.conf.SubKind.{SubKind}
use Rattle.wire_base.specs.declared.triple.Triple.{Triple}
use Rattle.wire_base.specs.declared.view.ViewEdge.{ViewEdge}
use Rattle.wire_base.specs.declared.view.ViewNode.{ViewNode}
use Rattle.wire_base.specs.declared.view.ViewSub.{ViewSub}
use Rattle.wire_base.specs.model.Graph.{covers_at}

abbrev pub edge : ℕ → ℕ → ViewEdge
edge to metric = record { to = to; metric = metric }

-- a router's membership of sub-domain 0, with labels from a hundred times its BFR-id on
abbrev pub sub : ℕ → ViewSub
sub id = record {
  sd = 0;
  id = id;
  prefix = record { 0 = 10 ∷ 0 ∷ 0 ∷ id ∷ [] };
  ranges = record { bsl = B64; max_si = 0; label = 100 * id } ∷ [];
}

abbrev pub subs : ℕ → List ViewSub
subs id = sub id ∷ []

abbrev pub node : ℕ → Bool → List ViewEdge → List ViewSub → ViewNode
node n overload edges subs = record {
  system = record { 0 = 0 ∷ 0 ∷ 0 ∷ 0 ∷ 0 ∷ n ∷ [] };
  overload = overload;
  edges = edges;
  subs = subs;
}

abbrev pub kinds : List SubKind
kinds = record { sd = 0; kind = Mpls } ∷ []

abbrev pub triple : Triple
triple = record { sd = 0; bsl = B64; si = 0 }

-- which nodes support the triple
abbrev pub supports : List ViewNode → ℕ → Bool
supports g = covers_at kinds [] triple g

-- four routers in a ring, A, B, C and D
abbrev pub ring : List ViewNode
ring =
    node 1 false (edge 1 10 ∷ edge 3 10 ∷ []) (sub 1 ∷ [])
    ∷ node 2 false (edge 0 10 ∷ edge 2 10 ∷ []) (sub 2 ∷ [])
    ∷ node 3 false (edge 1 10 ∷ edge 3 10 ∷ []) (sub 3 ∷ [])
    ∷ node 4 false (edge 0 10 ∷ edge 2 10 ∷ []) (sub 4 ∷ [])
    ∷ []

-- A, beyond it a non-BFR P, and beyond that C and D
abbrev pub fork : List ViewNode
fork =
    node 1 false (edge 1 10 ∷ []) (sub 1 ∷ [])
    ∷ node 2 false (edge 0 10 ∷ edge 2 10 ∷ edge 3 10 ∷ []) []
    ∷ node 3 false (edge 1 10 ∷ []) (sub 3 ∷ [])
    ∷ node 4 false (edge 1 10 ∷ []) (sub 4 ∷ [])
    ∷ []

-- A, B with its overload bit set, and C
abbrev pub line : List ViewNode
line =
    node 1 false (edge 1 10 ∷ []) (sub 1 ∷ [])
    ∷ node 2 true (edge 0 10 ∷ edge 2 10 ∷ []) (sub 2 ∷ [])
    ∷ node 3 false (edge 1 10 ∷ []) (sub 3 ∷ [])
    ∷ []

-- from A to B an edge of metric 10, and via C two of metric 5; A has an edge to itself as well
abbrev pub tie : List ViewNode
tie =
    node 1 false (edge 0 1 ∷ edge 1 10 ∷ edge 2 5 ∷ []) (sub 1 ∷ [])
    ∷ node 2 false (edge 0 10 ∷ edge 2 5 ∷ []) (sub 2 ∷ [])
    ∷ node 3 false (edge 0 5 ∷ edge 1 5 ∷ []) (sub 3 ∷ [])
    ∷ []

-- only A lists the other, and both have the BFR-id 1
abbrev pub one_way : List ViewNode
one_way = node 1 false (edge 1 10 ∷ []) (sub 1 ∷ []) ∷ node 2 false [] (sub 1 ∷ []) ∷ []

-- 2 and 3 are sent to node 7, 4 to node 8, and no other id has a choice
abbrev pub to_two : ℕ → Option ℕ
to_two k = if k == 2 then Some 7 else if k == 3 then Some 7 else if k == 4 then Some 8 else None
