-- The topology of a router: the nodes and edges that follow from its configuration and its LSDB (ISO/IEC 10589, 7.2.5 and
-- 7.2.8; RFC 5305, 3 and 4; RFC 8401, 4 and 5).
--
-- First comes what each system advertises, then which of it counts, given what the others advertise.
use Rattle.std.specs.Prelude.{ℕ, ◌+◌, ◌/◌, ◌%◌, ◌==◌, ◌&&◌, not, nat_lt, min, max, Bool, List, [], ◌∷◌, ◌++◌, map, filter, is_some, option_map, option_to_list, Option, Some, None, Result, Ok, Err, if◌then◌else◌}
use Rattle.std.specs.List.{flat_map, filter_map, list_any}
use Rattle.std.specs.Ordering.{is_lt}
use Rattle.std.specs.Str.{bytes_eq}
use Rattle.wire_base.specs.declared.codepoints.TheConstants.{SUB_TLV_BIER_INFO, TLV_EXTENDED_IP_REACH, TLV_EXTENDED_IS_REACH}
use Rattle.wire_base.specs.declared.addresses.SystemId.{SystemId}
use Rattle.wire_base.specs.declared.addresses.Ipv4.{Ipv4}
use Rattle.wire_base.specs.declared.conf.End.{End}
use Rattle.wire_base.specs.declared.conf.LabelRange.{LabelRange}
use Rattle.wire_base.specs.declared.conf.SubKind.{SubKind}
use Rattle.wire_base.specs.declared.conf.RouterConf.{RouterConf}
use Rattle.wire_base.specs.declared.entry.Entry.{Entry}
use Rattle.wire_base.specs.declared.faults.InfoFault.{InfoFault}
use Rattle.wire_base.specs.declared.view.ViewEdge.{ViewEdge}
use Rattle.wire_base.specs.declared.view.ViewNode.{ViewNode}
use Rattle.wire_base.specs.declared.view.ViewSub.{ViewSub}
use Rattle.wire_base.specs.model.Place.{kind_of}
use Rattle.wire_base.specs.model.Tlv.{Tlv, Reach, reach_at, Prefix, prefix_at, prefix_bits, entries_of, tlvs_before}
use Rattle.wire_base.specs.model.BierInfo.{Info, info_at, any_overlap}
use Rattle.wire_base.specs.model.Control.{same_system, system_order, Control}
use Rattle.wire_base.specs.model.OwnLsp.{picked, info_of}

-- ---- what a system advertises

-- a link to a neighbor
pub record Link : Type 0 where
  pub neighbour : SystemId
  pub metric : ℕ

-- A system: whether it has its overload bit set, its links, and its memberships of sub-domains, in the order of its LSPs.
pub record Claim : Type 0 where
  pub system : SystemId
  pub overload : Bool
  pub links : List Link
  pub subs : List ViewSub

-- links of this metric are not used for paths (RFC 5305, 3)
abbrev pub greatest_metric : ℕ
greatest_metric = 16777215

-- A link to a router, not to a pseudonode; a metric of 0 counts as 1.
abbrev pub link_of : Reach → Option Link
link_of r =
    if (r.pseudonode == 0) && nat_lt r.metric greatest_metric
    then Some (record { neighbour = r.neighbour; metric = max r.metric 1 })
    else None

-- an invalid entry ends its TLV
abbrev pub links_in : Tlv → List Link
links_in t = if t.code == TLV_EXTENDED_IS_REACH then filter_map link_of (entries_of reach_at t.value) else []

abbrev pub sub_of : List ℕ → Info → ViewSub
sub_of prefix i = record { sd = i.sd; id = i.id; prefix = record { 0 = prefix }; ranges = i.ranges }

abbrev pub accepted : List ℕ → Result Info InfoFault → Option ViewSub
accepted prefix (Ok i) = Some (sub_of prefix i)
accepted prefix (Err fault) = None

-- a BIER Info, where it is valid
abbrev pub sub_at : List ℕ → Tlv → Option ViewSub
sub_at prefix t = if t.code == SUB_TLV_BIER_INFO then accepted prefix (info_at t.value) else None

-- those of a prefix of 32 bits; an overrun ends the sub-TLVs
abbrev pub subs_of : Prefix → List ViewSub
subs_of p = if prefix_bits p.control == 32 then filter_map (sub_at p.octets) (tlvs_before p.subs) else []

abbrev pub subs_in : Tlv → List ViewSub
subs_in t = if t.code == TLV_EXTENDED_IP_REACH then flat_map subs_of (entries_of prefix_at t.value) else []

-- a live entry of a router itself, not of one of its pseudonodes
abbrev pub is_part_of : SystemId → Entry → Bool
is_part_of s e = same_system e.id.system s && ((e.id.pseudonode == 0) && nat_lt 0 e.life)

-- the TLVs of a system, in the order of its fragments
abbrev pub tlvs_of : List Entry → SystemId → List Tlv
tlvs_of entries s = flat_map (λ e. tlvs_before e.content) (filter (is_part_of s) entries)

abbrev pub is_overload_flag : ℕ → Bool
is_overload_flag flags = flags / 4 % 2 == 1

-- what the system of a fragment 0 advertises; its overload bit is the one in that fragment
abbrev pub claim_of : List Entry → Entry → Claim
claim_of entries e =
    record {
      system = e.id.system;
      overload = is_overload_flag e.flags;
      links = flat_map links_in (tlvs_of entries e.id.system);
      subs = flat_map subs_in (tlvs_of entries e.id.system);
    }

-- a live fragment 0 of another system
abbrev pub is_other : SystemId → Entry → Bool
is_other own e = not (same_system e.id.system own) && ((e.id.pseudonode == 0) && ((e.id.fragment == 0) && nat_lt 0 e.life))

abbrev pub end_link : End → Link
end_link e = record { neighbour = e.peer; metric = e.metric }

-- what the router itself contributes, by its configuration and its interfaces that are up
abbrev pub own_claim : RouterConf → List Bool → Claim
own_claim r up =
    record {
      system = r.system;
      overload = r.overload;
      links = map end_link (picked up r.ends);
      subs = map (λ s. sub_of r.prefix.0 (info_of r.kinds s)) r.subs;
    }

-- in the order of the system IDs
abbrev pub put_claim : Claim → List Claim → List Claim
put_claim c [] = c ∷ []
put_claim c (x ∷ xs) = if is_lt (system_order c.system x.system) then c ∷ x ∷ xs else x ∷ put_claim c xs

unfoldable pub claims_of : RouterConf → List Bool → List Entry → List Claim
claims_of r up entries = put_claim (own_claim r up) (map (claim_of entries) (filter (is_other r.system) entries))

-- ---- which memberships of sub-domains count

abbrev pub all_ranges : List ViewSub → List LabelRange
all_ranges subs = flat_map (λ s. s.ranges) subs

-- where two label ranges of a system share a label, none of its memberships counts
abbrev pub unless_overlap : List ViewSub → List ViewSub
unless_overlap subs = if any_overlap (all_ranges subs) then [] else subs

-- the first membership of each sub-domain
abbrev pub first_each : List ViewSub → List ViewSub
first_each [] = []
first_each (s ∷ subs) = s ∷ filter (λ x. not (x.sd == s.sd)) (first_each subs)

-- those of the sub-domains that the router knows
abbrev pub known_subs : List SubKind → List ViewSub → List ViewSub
known_subs kinds subs = first_each (filter (λ s. is_some (kind_of kinds s.sd)) (unless_overlap subs))

abbrev pub with_known : List SubKind → Claim → Claim
with_known kinds c = record c { subs = known_subs kinds c.subs }

abbrev pub has_prefix : Ipv4 → List ViewSub → Bool
has_prefix prefix subs = list_any (λ s. bytes_eq s.prefix.0 prefix.0) subs

-- whether another system has a membership with that prefix
abbrev pub is_shared : List Claim → SystemId → Ipv4 → Bool
is_shared claims system prefix = list_any (λ c. not (same_system c.system system) && has_prefix prefix c.subs) claims

-- a prefix of two systems counts for neither
abbrev pub own_subs : List Claim → Claim → List ViewSub
own_subs claims c = filter (λ s. not (is_shared claims c.system s.prefix)) c.subs

-- ---- which links count

abbrev pub least_of : ℕ → Option ℕ → ℕ
least_of m None = m
least_of m (Some n) = min m n

-- the metric of a link to a system, the least of several
abbrev pub metric_to : List Link → SystemId → Option ℕ
metric_to [] s = None
metric_to (l ∷ links) s = if same_system l.neighbour s then Some (least_of l.metric (metric_to links s)) else metric_to links s

abbrev pub lists : Claim → SystemId → Bool
lists c s = is_some (metric_to c.links s)

-- A link counts if both systems list each other.
abbrev pub edge_to : Claim → ℕ → Claim → Option ViewEdge
edge_to c place d = if lists d c.system then option_map (λ m. record { to = place; metric = m }) (metric_to c.links d.system) else None

-- the edges to the systems from an index on
abbrev pub edges_from : Claim → ℕ → List Claim → List ViewEdge
edges_from c place [] = []
edges_from c place (d ∷ ds) = option_to_list (edge_to c place d) ++ edges_from c (place + 1) ds

-- ---- the view

abbrev pub node_of : List Claim → Claim → ViewNode
node_of claims c = record { system = c.system; overload = c.overload; edges = edges_from c 0 claims; subs = own_subs claims c }

abbrev pub nodes_of : List Claim → List ViewNode
nodes_of claims = map (node_of claims) claims

-- The view given by a configuration, the interfaces that are up, and an LSDB, in the order of the system IDs.
unfoldable pub view_of : RouterConf → List Bool → List Entry → List ViewNode
view_of r up entries = nodes_of (map (with_known r.kinds) (claims_of r up entries))

-- the view of a control state
abbrev pub control_view : Control → List ViewNode
control_view c = view_of c.conf c.flood.up c.entries
