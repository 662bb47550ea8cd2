-- The routers that one router knows and the links between them, as a graph. A node is identified by its index in the list.
use Rattle.std.specs.Prelude.{◌≡◌, ℕ, ◌≤◌, ◌<◌, ◌^◌, ◌==◌, ◌&&◌, ◌||◌, nat_lt, Bool, true, false, List, [], ◌∷◌, length, slice_get, All, AllPairs, Option, Some, None, is_some, option_map, filter, if◌then◌else◌}
use Rattle.std.specs.List.{list_any, range_with_len}
use Rattle.wire_base.specs.declared.limits.TheConstants.{MOST_NODES}
use Rattle.wire_base.specs.declared.addresses.SystemId.{SystemId}
use Rattle.wire_base.specs.declared.conf.SubKind.{SubKind}
use Rattle.wire_base.specs.declared.conf.TableRow.{TableRow}
use Rattle.wire_base.specs.declared.triple.Triple.{Triple}
use Rattle.wire_base.specs.declared.view.ViewEdge.{ViewEdge}
use Rattle.wire_base.specs.declared.view.ViewNode.{ViewNode}
use Rattle.wire_base.specs.declared.view.ViewSub.{ViewSub}
use Rattle.wire_base.specs.model.Place.{bift_of}

-- a view, as contracts model it
pub record Graph : Type 0 where
  pub nodes : List ViewNode

-- the edges of a node, none where there is no such node
abbrev pub edges_at : Option ViewNode → List ViewEdge
edges_at None = []
edges_at (Some n) = n.edges

abbrev pub edges_of : List ViewNode → ℕ → List ViewEdge
edges_of g u = edges_at (slice_get g u)

-- whether a node has its overload bit set: walks may begin or end there, and none goes through it (ISO/IEC 10589, 7.2.8.1)
abbrev pub overload_at : Option ViewNode → Bool
overload_at None = false
overload_at (Some n) = n.overload

abbrev pub is_overloaded : List ViewNode → ℕ → Bool
is_overloaded g u = overload_at (slice_get g u)

-- the order of system IDs: the first octet that differs decides
abbrev pub octets_before : List ℕ → List ℕ → Bool
octets_before xs [] = false
octets_before [] (y ∷ ys) = true
octets_before (x ∷ xs) (y ∷ ys) = nat_lt x y || ((x == y) && octets_before xs ys)

abbrev pub IsBefore : SystemId → SystemId → Type 0
IsBefore a b = octets_before a.0 b.0 ≡ true

-- an edge leads to one of that many nodes, and its metric is a 32-bit number above 0
pub record IsEdge (count : ℕ) (e : ViewEdge) : Type 0 where
  pub names : e.to < count
  pub positive : 0 < e.metric
  pub small : e.metric < 2 ^ 32

-- the edges of a node are in the order of the nodes that they lead to, one for each
pub record IsNode (count : ℕ) (n : ViewNode) : Type 0 where
  pub edges : All (λ e. IsEdge count e) n.edges
  pub edges_in_order : AllPairs (λ a b. a.to < b.to) n.edges
  pub subs_differ : AllPairs (λ a b. a.sd ≡ b.sd → ⊥) n.subs
  pub ranges_differ : All (λ s. AllPairs (λ a b. a.bsl ≡ b.bsl → ⊥) s.ranges) n.subs

-- no BFR-prefix of one node is one of the other
abbrev pub ShareNoPrefix : ViewNode → ViewNode → Type 0
ShareNoPrefix a b = All (λ s. All (λ r. s.prefix ≡ r.prefix → ⊥) b.subs) a.subs

-- the invariant of every view: the nodes are in the order of their system IDs, each once
pub record IsGraph (g : List ViewNode) : Type 0 where
  pub few : length g ≤ MOST_NODES
  pub in_order : AllPairs (λ a b. IsBefore a.system b.system) g
  pub nodes : All (λ n. IsNode (length g) n) g
  pub prefixes_differ : AllPairs ShareNoPrefix g

-- what a node advertises for a sub-domain
abbrev pub place_in : List ViewSub → ℕ → Option ViewSub
place_in [] sd = None
place_in (s ∷ subs) sd = if s.sd == sd then Some s else place_in subs sd

-- the BIFT-id of a triple at a node (RFC 8279, 6.9; RFC 8401, 6.2)
unfoldable pub node_bift : List SubKind → List TableRow → Triple → ViewNode → Option ℕ
node_bift kinds table t n = bift_of kinds table (option_map (λ s. s.ranges) (place_in n.subs t.sd)) t

-- whether a node supports a triple
unfoldable pub covers : List SubKind → List TableRow → Triple → ViewNode → Bool
covers kinds table t n = is_some (bift_of kinds table (option_map (λ s. s.ranges) (place_in n.subs t.sd)) t)

abbrev pub node_covers : List SubKind → List TableRow → Triple → Option ViewNode → Bool
node_covers kinds table t None = false
node_covers kinds table t (Some n) = covers kinds table t n

-- the same for a node by its index
abbrev pub covers_at : List SubKind → List TableRow → Triple → List ViewNode → ℕ → Bool
covers_at kinds table t g u = node_covers kinds table t (slice_get g u)

-- whether a node has that BFR-id in that sub-domain
abbrev pub has_id : ℕ → ℕ → ViewNode → Bool
has_id sd k n = list_any (λ s. (s.sd == sd) && (s.id == k)) n.subs

abbrev pub node_has_id : ℕ → ℕ → Option ViewNode → Bool
node_has_id sd k None = false
node_has_id sd k (Some n) = has_id sd k n

abbrev pub has_id_at : List ViewNode → ℕ → ℕ → ℕ → Bool
has_id_at g sd k u = node_has_id sd k (slice_get g u)

-- the one element of a list, none where it has none or several
abbrev pub only : List ℕ → Option ℕ
only [] = None
only (x ∷ []) = Some x
only (x ∷ y ∷ ys) = None

-- the node that owns a BFR-id in a sub-domain: the only one that has it (RFC 8279, 5). 0 and numbers above 65,535 are no
-- BFR-ids.
unfoldable pub owner : List ViewNode → ℕ → ℕ → Option ℕ
owner g sd k = if (k == 0) || nat_lt 65535 k then None else only (filter (has_id_at g sd k) (range_with_len 0 (length g)))
