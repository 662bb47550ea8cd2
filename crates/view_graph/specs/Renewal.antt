-- Which nodes change when a view is updated.
use Rattle.std.specs.Prelude.{◌≡◌, ◌<◌, ◌==◌, ℕ, Bool, true, false, List, [], ◌∷◌, map, filter, length, set, slice_get, Option, Some, None, if◌then◌else◌}
use Rattle.std.specs.List.{list_any, AllByRecursion}
use Rattle.wire_base.specs.declared.addresses.SystemId.{SystemId}
use Rattle.wire_base.specs.declared.conf.RouterConf.{RouterConf}
use Rattle.wire_base.specs.declared.entry.Entry.{Entry}
use Rattle.wire_base.specs.declared.view.ViewEdge.{ViewEdge}
use Rattle.wire_base.specs.declared.view.ViewNode.{ViewNode}
use Rattle.wire_base.specs.model.Control.{same_system}
use Rattle.wire_base.specs.model.View.{Claim, Link, lists, own_claim, with_known}
use Rattle.view_graph.specs.declared.patch.NewNode.{NewNode}
use Rattle.view_graph.specs.Edges.{half_edges, leads_to, metrics_to, place_in}
use Rattle.view_graph.specs.Keep.{is_named, said_in}

-- what a system advertises now: the router by its configuration and its interfaces that are up, another one in an LSDB
unfoldable pub said_now : RouterConf → List Bool → List Entry → SystemId → Option Claim
said_now r up entries s = if same_system s r.system then Some (with_known r.kinds (own_claim r up)) else said_in r.kinds entries s

-- a node as a claim without links
abbrev pub seat : ViewNode → Claim
seat n = record { system = n.system; overload = n.overload; links = []; subs = n.subs }

abbrev pub node_claims : List ViewNode → List Claim
node_claims nodes = map seat nodes

-- ---- the indices of the nodes that may change

abbrev pub has : List ℕ → ℕ → Bool
has places i = list_any (λ p. p == i) places

-- all that were there before are still there
abbrev pub Stays : List ℕ → List ℕ → Type 0
Stays before now = (i : ℕ) → has now i ≡ false → has before i ≡ false

-- one more index
pub record IsAdded (place : ℕ) (before now : List ℕ) : Type 0 where
  pub stays : Stays before now
  pub there : has now place ≡ true

-- the edges that a system lists itself
abbrev pub halves_now : List ViewNode → List Link → List ViewEdge
halves_now nodes links = half_edges 0 (metrics_to links (node_claims nodes))

-- a node has exactly the edges that its system lists, and the overload bit that its system advertises
pub record IsAsListed (nodes : List ViewNode) (n : ViewNode) (c : Claim) : Type 0 where
  pub overload : n.overload ≡ c.overload
  pub edges : n.edges ≡ halves_now nodes c.links

-- A system has a node, with the memberships that it advertises now. The list has the node's index, unless it is as the system
-- lists itself, and the indices of all systems to which one of its edges leads or its links now lead, but not both.
pub record IsNoted (said : SystemId → Option Claim) (nodes : List ViewNode) (places : List ℕ) (s : SystemId) : Type 0 where
  pub claim : Claim
  pub node : ViewNode
  pub says : said s ≡ Some claim
  pub at_place : slice_get nodes (place_in s (node_claims nodes)) ≡ Some node
  pub system : node.system ≡ s
  pub subs : node.subs ≡ claim.subs
  pub ends : (i : ℕ) → has places i ≡ false → leads_to i node.edges ≡ leads_to i (halves_now nodes claim.links)
  pub own : has places (place_in s (node_claims nodes)) ≡ false → IsAsListed nodes node claim

abbrev pub AreNoted : (SystemId → Option Claim) → List ViewNode → List SystemId → List ℕ → Type 0
AreNoted said nodes systems places = (s : SystemId) → is_named systems s ≡ true → IsNoted said nodes places s

-- ---- rebuilt nodes

abbrev pub is_listed_by : Option Claim → SystemId → Bool
is_listed_by None s = false
is_listed_by (Some c) s = lists c s

-- what the system of a node advertises
abbrev pub said_of : (SystemId → Option Claim) → Option ViewNode → Option Claim
said_of said None = None
said_of said (Some n) = said n.system

-- whether the system at an index lists a link to that one
abbrev pub lists_at : (SystemId → Option Claim) → List ViewNode → ℕ → SystemId → Bool
lists_at said nodes place s = is_listed_by (said_of said (slice_get nodes place)) s

-- the edges of a system with those links
abbrev pub edges_now : (SystemId → Option Claim) → List ViewNode → SystemId → List Link → List ViewEdge
edges_now said nodes s links = filter (λ e. lists_at said nodes e.to s) (halves_now nodes links)

-- a node built from the one at its index by what its system advertises, with the memberships of sub-domains as before
pub record IsMade (said : SystemId → Option Claim) (nodes : List ViewNode) (n : NewNode) : Type 0 where
  pub before : ViewNode
  pub claim : Claim
  pub at_place : slice_get nodes n.place ≡ Some before
  pub says : said before.system ≡ Some claim
  pub made : n.node ≡ record { system = before.system; overload = claim.overload; edges = edges_now said nodes before.system claim.links; subs = before.subs }

-- nodes rebuilt for all that those systems may have changed
pub record IsPatch (said : SystemId → Option Claim) (nodes : List ViewNode) (systems : List SystemId) (anew : List NewNode) : Type 0 where
  pub made : AllByRecursion (IsMade said nodes) anew
  pub noted : AreNoted said nodes systems (map (λ n. n.place) anew)

-- whether one of the rebuilt nodes has that index
abbrev pub is_made : List NewNode → ℕ → Bool
is_made anew place = list_any (λ n. n.place == place) anew

-- a rebuilt node equals the one at its index
abbrev pub IsAt : List ViewNode → NewNode → Type 0
IsAt nodes n = slice_get nodes n.place ≡ Some n.node

-- the nodes with those at their indices replaced
abbrev pub put_all : List NewNode → List ViewNode → List ViewNode
put_all [] nodes = nodes
put_all (n ∷ ns) nodes = put_all ns (set nodes n.place n.node)

-- rebuilt nodes that turn the nodes into the target
pub record AreTurning (nodes target : List ViewNode) (anew : List NewNode) : Type 0 where
  pub within : AllByRecursion (λ n. n.place < length nodes) anew
  pub right : AllByRecursion (IsAt target) anew
  pub turned : put_all anew nodes ≡ target
