-- What is kept beside a view, so that it can be updated from the systems that changed.
use Rattle.std.specs.Prelude.{◌≡◌, ◌≤◌, ◌==◌, ◌&&◌, nat_lt, not, Bool, true, false, List, [], ◌∷◌, length, map, filter, slice_get, Option, Some, None, if◌then◌else◌}
use Rattle.std.specs.List.{list_any}
use Rattle.wire_base.specs.declared.addresses.SystemId.{SystemId}
use Rattle.wire_base.specs.declared.conf.SubKind.{SubKind}
use Rattle.wire_base.specs.declared.entry.Entry.{Entry}
use Rattle.wire_base.specs.declared.view.ViewNode.{ViewNode}
use Rattle.wire_base.specs.model.Control.{same_system}
use Rattle.wire_base.specs.model.View.{Claim, claim_of, is_other, with_known, nodes_of}
use Rattle.view_graph.specs.Edges.{AreInOrder}

-- How contracts model a kept view: the view, its router's system ID and kinds of sub-domains, and each other system's claim.
pub record Keep : Type 0 where
  pub nodes : List ViewNode
  pub system : SystemId
  pub kinds : List SubKind
  pub others : List Claim

-- What the other systems with a live fragment 0 advertise in an LSDB, in the order of the systems: whether the overload bit
-- is set, their links before both sides are compared, and their memberships of sub-domains before prefixes of two systems are
-- compared.
unfoldable pub heard : SystemId → List SubKind → List Entry → List Claim
heard system kinds entries = map (with_known kinds) (map (claim_of entries) (filter (is_other system) entries))

-- what a system advertises, none where it advertises nothing
abbrev pub said_by : List Claim → SystemId → Option Claim
said_by [] s = None
said_by (c ∷ cs) s = if same_system c.system s then Some c else said_by cs s

-- a live fragment 0 of a system
abbrev pub is_first_of : SystemId → Entry → Bool
is_first_of s e = same_system e.id.system s && ((e.id.pseudonode == 0) && ((e.id.fragment == 0) && nat_lt 0 e.life))

-- what a system advertises in an LSDB
unfoldable pub said_in : List SubKind → List Entry → SystemId → Option Claim
said_in kinds entries s = slice_get (map (with_known kinds) (map (claim_of entries) (filter (is_first_of s) entries))) 0

abbrev pub is_named : List SystemId → SystemId → Bool
is_named systems s = list_any (λ x. same_system x s) systems

-- For each system that is neither the router's nor named, what is kept is what an LSDB advertises now.
abbrev pub IsUnchanged : Keep → List SystemId → List Entry → Type 0
IsUnchanged k changed entries = (s : SystemId) → same_system s k.system ≡ false → is_named changed s ≡ false → said_by k.others s ≡ said_by (heard k.system k.kinds entries) s

-- the claims of all systems but one
abbrev pub without_system : SystemId → List Claim → List Claim
without_system s claims = filter (λ c. not (same_system c.system s)) claims

-- Nodes are those that some claims make; where they are whole, no node lacks a membership of a sub-domain because another system
-- has its prefix.
pub record AreNodesOf (claims : List Claim) (nodes : List ViewNode) (is_whole : Bool) : Type 0 where
  pub made : nodes ≡ nodes_of claims
  pub whole : is_whole ≡ true → map (λ n. n.subs) nodes ≡ map (λ c. c.subs) claims

-- There are claims of all systems, in order, from which the view is made, and those of the others are what is kept; where the
-- view is whole, no node lacks a membership of a sub-domain because another system has its prefix.
pub record IsKept (system : SystemId) (others : List Claim) (is_whole : Bool) (nodes : List ViewNode) : Type 0 where
  pub claims : List Claim
  pub in_order : AreInOrder claims
  pub few : length claims ≤ 65536
  pub made : nodes ≡ nodes_of claims
  pub heard : without_system system claims ≡ others
  pub whole : is_whole ≡ true → map (λ n. n.subs) nodes ≡ map (λ c. c.subs) claims
