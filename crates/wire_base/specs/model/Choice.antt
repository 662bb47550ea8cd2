-- Where a router sends the bit of a BFR-id: to one of the BFR-NBRs toward the owner (RFC 8279, 6.7 and 6.9).
use Rattle.std.specs.Prelude.{ℕ, ◌+◌, ◌%◌, ◌||◌, ◌&&◌, ◌==◌, not, Bool, false, List, [], ◌∷◌, length, slice_get, Option, Some, None, option_and_then, option_map, if◌then◌else◌}
use Rattle.std.specs.List.{list_any, filter_map}
use Rattle.std.specs.Str.{bytes_eq}
use Rattle.wire_base.specs.declared.conf.End.{End}
use Rattle.wire_base.specs.declared.conf.SubKind.{SubKind}
use Rattle.wire_base.specs.declared.conf.TableRow.{TableRow}
use Rattle.wire_base.specs.declared.addresses.SystemId.{SystemId}
use Rattle.wire_base.specs.declared.triple.Triple.{Triple}
use Rattle.wire_base.specs.declared.view.First.{First}
use Rattle.wire_base.specs.declared.view.ViewNode.{ViewNode}
use Rattle.wire_base.specs.model.Graph.{edges_of, covers_at, owner}
use Rattle.wire_base.specs.model.Place.{id_at}
use Rattle.wire_base.specs.model.Walk.{dist}
use Rattle.wire_base.specs.model.Supporting.{firsts}

-- the nodes to which u may send a bit for d: none where d is u or does not support the triple
unfoldable pub candidates : List ViewNode → (ℕ → Bool) → ℕ → ℕ → List ℕ
candidates g c d u = if (u == d) || not (c d) then [] else firsts g c d u

-- the member at index `class` modulo the size
abbrev pub member : List ℕ → ℕ → Option ℕ
member [] class = None
member (x ∷ xs) class = slice_get (x ∷ xs) (class % length (x ∷ xs))

-- the node to which u sends a bit for d
unfoldable pub choice : List ViewNode → (ℕ → Bool) → ℕ → ℕ → ℕ → Option ℕ
choice g c d class u = member (candidates g c d u) class

-- whether x is reached from u directly: by an edge whose metric is x's distance from u. Otherwise a tunnel leads there.
abbrev pub is_length : Option ℕ → ℕ → Bool
is_length None m = false
is_length (Some n) m = n == m

unfoldable pub is_direct : List ViewNode → ℕ → ℕ → Bool
is_direct g u x = list_any (λ e. (e.to == x) && is_length (dist g u x) e.metric) (edges_of g u)

-- the node to which u sends the id k in packets of a triple: none where no node, or more than one, has k in the sub-domain
abbrev pub choose : List ViewNode → List SubKind → List TableRow → Triple → ℕ → ℕ → ℕ → Option ℕ
choose g kinds table t class u k = option_and_then (λ d. choice g (covers_at kinds table t g) d class u) (owner g t.sd k)

-- The candidates of each bit position, from which a BIFT is built.

-- the candidates of an owner
abbrev pub toward : List ViewNode → (ℕ → Bool) → ℕ → Option ℕ → List ℕ
toward g c u None = []
toward g c u (Some d) = candidates g c d u

abbrev pub is_system : SystemId → SystemId → Bool
is_system a b = bytes_eq a.0 b.0

-- the index of the first interface whose peer has that system ID
abbrev pub end_toward : List End → SystemId → Option ℕ
end_toward [] s = None
end_toward (e ∷ es) s = if is_system e.peer s then Some 0 else option_map (λ n. n + 1) (end_toward es s)

-- a candidate as a router represents it: its system ID, and the index of the interface where it is reached directly
abbrev pub first_at : List End → List ViewNode → ℕ → ℕ → Option First
first_at ends g u x = option_map (λ n. record { system = n.system; direct = if is_direct g u x then end_toward ends n.system else None }) (slice_get g x)

-- the candidates of the owner of a triple's bit position
abbrev pub row : List SubKind → List TableRow → List End → List ViewNode → Triple → ℕ → ℕ → List First
row kinds table ends g t u p = filter_map (first_at ends g u) (toward g (covers_at kinds table t g) u (owner g t.sd (id_at t p)))
