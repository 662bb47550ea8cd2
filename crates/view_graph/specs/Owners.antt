-- The owner of each prefix, where exactly one system has it.
use Rattle.std.specs.Prelude.{◌≡◌, ℕ, ◌+◌, ◌&&◌, nat_lt, max, not, Bool, true, false, List, [], ◌∷◌, map, filter, slice_get, Option, Some, None, if◌then◌else◌}
use Rattle.std.specs.Ordering.{nat_cmp}
use Rattle.std.specs.BTreeMap.{BTreeMap, get_by}
use Rattle.std.specs.Cmp.Lexicographic.{slice_cmp}
use Rattle.std.specs.Int.{from_be_bytes, w32}
use Rattle.std.specs.List.{flat_map, list_all, list_any}
use Rattle.std.specs.Str.{bytes_eq}
use Rattle.wire_base.specs.declared.addresses.Ipv4.{Ipv4}
use Rattle.wire_base.specs.declared.addresses.SystemId.{SystemId}
use Rattle.wire_base.specs.declared.view.ViewEdge.{ViewEdge}
use Rattle.wire_base.specs.declared.view.ViewNode.{ViewNode}
use Rattle.wire_base.specs.declared.view.ViewSub.{ViewSub}
use Rattle.wire_base.specs.model.Control.{same_system}
use Rattle.wire_base.specs.model.View.{Claim, own_subs}

-- a prefix of a membership, and the system whose membership it is
pub record Prefix : Type 0 where
  pub prefix : Ipv4
  pub system : SystemId

abbrev pub prefixes_at : SystemId → List ViewSub → List Prefix
prefixes_at system subs = map (λ s. record { prefix = s.prefix; system = system }) subs

abbrev pub prefixes_in : Claim → List Prefix
prefixes_in c = prefixes_at c.system c.subs

abbrev pub prefixes_of : List Claim → List Prefix
prefixes_of claims = flat_map prefixes_in claims

-- what a map has for a prefix: the one system that has it, none within where several have it
abbrev pub owner_at : BTreeMap Ipv4 (Option SystemId) → Ipv4 → Option (Option SystemId)
owner_at owners p = get_by (λ (q : Ipv4). slice_cmp nat_cmp p.0 q.0) owners

-- the same with one more system
abbrev pub owner_with : SystemId → Option (Option SystemId) → Option SystemId
owner_with s None = Some s
owner_with s (Some None) = None
owner_with s (Some (Some t)) = if same_system t s then Some t else None

abbrev pub is_several : Option (Option SystemId) → Bool
is_several None = false
is_several (Some None) = true
is_several (Some (Some s)) = false

abbrev pub is_there : List Prefix → Ipv4 → Bool
is_there xs p = list_any (λ x. bytes_eq x.prefix.0 p.0) xs

abbrev pub is_held : List Prefix → SystemId → Ipv4 → Bool
is_held xs s p = list_any (λ x. same_system x.system s && bytes_eq x.prefix.0 p.0) xs

abbrev pub is_shared_in : List Prefix → SystemId → Ipv4 → Bool
is_shared_in xs s p = list_any (λ x. not (same_system x.system s) && bytes_eq x.prefix.0 p.0) xs

-- it has nothing where no system has the prefix, the system that alone has it, or none within where several have it
abbrev pub IsOwner : List Prefix → Ipv4 → Option (Option SystemId) → Type 0
IsOwner xs p None = is_there xs p ≡ false
IsOwner xs p (Some (Some s)) = (is_held xs s p ≡ true) × (is_shared_in xs s p ≡ false)
IsOwner xs p (Some None) = (s : SystemId) → is_shared_in xs s p ≡ true

abbrev pub AreOwners : List Prefix → BTreeMap Ipv4 (Option SystemId) → Type 0
AreOwners xs owners = (p : Ipv4) → IsOwner xs p (owner_at owners p)

-- no prefix belongs to several systems
abbrev pub AreAlone : BTreeMap Ipv4 (Option SystemId) → Type 0
AreAlone owners = (p : Ipv4) → is_several (owner_at owners p) ≡ false

-- the memberships whose prefix does not belong to several systems there are those whose prefix no other system has
abbrev pub AreTold : List Claim → BTreeMap Ipv4 (Option SystemId) → Type 0
AreTold claims owners = (i : ℕ) (c : Claim) → slice_get claims i ≡ Some c → filter (λ s. not (is_several (owner_at owners s.prefix))) c.subs ≡ own_subs claims c

-- the node of a system with all memberships of sub-domains that it advertises
abbrev pub whole_node : List ViewEdge → Claim → ViewNode
whole_node edges c = record { system = c.system; overload = c.overload; edges = edges; subs = c.subs }

-- a node with only the memberships whose prefix does not belong to several systems there
abbrev pub alone_node : BTreeMap Ipv4 (Option SystemId) → ViewNode → ViewNode
alone_node owners n = record n { subs = filter (λ s. not (is_several (owner_at owners s.prefix))) n.subs }

-- ---- prefixes that ascend from system to system

-- the four octets of a prefix, as one number
unfoldable pub prefix_number : Ipv4 → ℕ
prefix_number p = from_be_bytes w32 p.0

-- whether no prefix is below that number
abbrev pub are_above : ℕ → List ViewSub → Bool
are_above low subs = list_all (λ s. not (nat_lt (prefix_number s.prefix) low)) subs

-- that number, or a greater one that is above all of the prefixes
abbrev pub top_of : ℕ → List ViewSub → ℕ
top_of low [] = low
top_of low (s ∷ subs) = top_of (max low (prefix_number s.prefix + 1)) subs

-- whether the prefixes of each system are above those of all before it, and none is below that number
abbrev pub do_ascend : ℕ → List Claim → Bool
do_ascend low [] = true
do_ascend low (c ∷ cs) = are_above low c.subs && do_ascend (top_of low c.subs) cs
