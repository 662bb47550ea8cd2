-- Nodes as claims without links.
use Rattle.std.proofs.Common.{◌≡◌, ℕ, zero, suc, ◌<◌, true, List, [], ◌∷◌, length, get_or, slice_get, Some, sym, ap, ◌∙◌, arith}
use Rattle.std.proofs.lemmas.List.{length-map}
use Rattle.wire_base.specs.declared.addresses.SystemId.{SystemId}
use Rattle.wire_base.specs.declared.view.ViewNode.{ViewNode}
use Rattle.view_graph.specs.Edges.{stands_at}
use Rattle.view_graph.specs.Renewal.{seat, node_claims}
use Rattle.view_graph.proofs.EdgeLaws.{stands_read, stands_within}
use Rattle.view_graph.proofs.FragmentLaws.{same_is}

pub seat_read : (nodes : List ViewNode) (i : ℕ) (n : ViewNode) → i < length nodes → n ≡ get_or nodes i n → seat n ≡ get_or (node_claims nodes) i (seat n)
seat_read [] i n lt at = absurd (omega (arith, lt))
seat_read (m ∷ ms) zero n lt at = ap seat at
seat_read (m ∷ ms) (suc i) n lt at = seat_read ms i n (omega (arith, lt)) at

pub seats_long : (nodes : List ViewNode) → length (node_claims nodes) ≡ length nodes
seats_long nodes = length-map nodes seat

pub read_get : {X : Type 0} (xs : List X) (i : ℕ) (x : X) → i < length xs → x ≡ get_or xs i x → slice_get xs i ≡ Some x
read_get [] i x lt at = absurd (omega (arith, lt))
read_get {X} (y ∷ ys) zero x lt at = ap (λ (z : X). Some z) (sym at)
read_get (y ∷ ys) (suc i) x lt at = read_get ys i x (omega (arith, lt)) at

-- the node that stands at a place
pub sits_within : (nodes : List ViewNode) (i : ℕ) (s : SystemId) → stands_at (node_claims nodes) i s ≡ true → i < length nodes
sits_within nodes i s h = let long = seats_long nodes in omega (arith, long, stands_within (node_claims nodes) i s h)

pub sits_there : (nodes : List ViewNode) (i : ℕ) (n : ViewNode) (s : SystemId) → n ≡ get_or nodes i n → stands_at (node_claims nodes) i s ≡ true → n.system ≡ s
sits_there nodes i n s at h = sym (same_is s n.system (sym (stands_read (node_claims nodes) i (seat n) s (stands_within (node_claims nodes) i s h) (seat_read nodes i n (sits_within nodes i s h) at)) ∙ h))
