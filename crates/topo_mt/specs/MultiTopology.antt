-- The topologies of multi-topology IS-IS, as the LSPs of an LSDB say them (RFC 5120, 3 and 7).
use Rattle.std.specs.Prelude.{ℕ, ◌+◌, ◌*◌, ◌/◌, ◌%◌, ◌==◌, ◌&&◌, nat_lt, Bool, false, List, [], ◌∷◌, map, filter, is_some, Option, Some, None, Result, Ok, Err, if◌then◌else◌}
use Rattle.std.specs.List.{flat_map, list_any}
use Rattle.wire_base.specs.declared.addresses.SystemId.{SystemId}
use Rattle.wire_base.specs.declared.codepoints.TheConstants.{TLV_EXTENDED_IP_REACH, TLV_EXTENDED_IS_REACH}
use Rattle.wire_base.specs.declared.entry.Entry.{Entry}
use Rattle.wire_base.specs.model.Control.{entry_in, fragment_0}
use Rattle.wire_base.specs.model.Fields.{◌>>=◌, number_at}
use Rattle.wire_base.specs.model.Lists.{or_else}
use Rattle.wire_base.specs.model.Tlv.{Tlv, tlv, tlvs_before}
use Rattle.wire_base.specs.model.View.{is_part_of}
use Rattle.topo_mt.specs.declared.parts.MtFault.{MtFault}
use Rattle.topo_mt.specs.declared.parts.MtFault.TheVariants.{Short}
use Rattle.topo_mt.specs.declared.parts.TheConstants.{TLV_MT_IP_REACH, TLV_MT_IS_REACH, TLV_MULTI_TOPOLOGY}

-- ---- the TLVs

-- the value of a TLV 222 or 235: the topology in the low 12 bits of two octets, and entries (RFC 5120, 7.2 and 7.3)
abbrev pub mt_part_at : List ℕ → Result (ℕ × List ℕ) MtFault
mt_part_at octets = do
  head ← number_at Short 2 octets
  Ok (head.0 % 4096, head.1)

-- A TLV 229 has entries of two octets: the O bit (overload), the A bit, two reserved bits, and a topology in 12 bits. This is the
-- O bit of the first whole entry of a topology (RFC 5120, 7.1).
abbrev pub member_in : ℕ → List ℕ → Option Bool
member_in mt [] = None
member_in mt (high ∷ []) = None
member_in mt (high ∷ low ∷ more) = if (high % 16 * 256 + low) == mt then Some (high / 128 == 1) else member_in mt more

abbrev pub listing_of : ℕ → Tlv → Option Bool
listing_of mt t = if t.code == TLV_MULTI_TOPOLOGY then member_in mt t.value else None

-- that bit in the first of the TLVs that lists the topology
abbrev pub first_listing : ℕ → List Tlv → Option Bool
first_listing mt [] = None
first_listing mt (t ∷ ts) = or_else (listing_of mt t) (first_listing mt ts)

unfoldable pub listing_in : ℕ → List ℕ → Option Bool
listing_in mt content = first_listing mt (tlvs_before content)

-- ---- who takes part

-- a live fragment of that system itself lists the topology
abbrev pub lists_part : ℕ → SystemId → Entry → Bool
lists_part mt s e = is_part_of s e && is_some (listing_in mt e.content)

unfoldable pub is_member : ℕ → List Entry → SystemId → Bool
is_member mt entries s = list_any (lists_part mt s) entries

abbrev pub is_set : Option Bool → Bool
is_set None = false
is_set (Some b) = b

abbrev pub says_overload : ℕ → Option Entry → Bool
says_overload mt None = false
says_overload mt (Some e) = is_set (listing_in mt e.content)

-- a system's overload bit in a topology: that of the first listing in its fragment 0
unfoldable pub is_overloaded_in : ℕ → List Entry → SystemId → Bool
is_overloaded_in mt entries s = says_overload mt (entry_in entries (fragment_0 s))

-- ---- what their LSPs say of the topology

-- a TLV 222 or 235 of the topology as a TLV with that code; one that is too short is skipped
abbrev pub part_of : ℕ → ℕ → Result (ℕ × List ℕ) MtFault → List Tlv
part_of mt code (Ok x) = if x.0 == mt then record { code = code; value = x.1 } ∷ [] else []
part_of mt code (Err fault) = []

-- TLVs 222 become TLVs 22, and TLVs 235 TLVs 135; no other TLV counts
abbrev pub projected_tlv : ℕ → Tlv → List Tlv
projected_tlv mt t =
    if t.code == TLV_MT_IS_REACH then part_of mt TLV_EXTENDED_IS_REACH (mt_part_at t.value)
    else if t.code == TLV_MT_IP_REACH then part_of mt TLV_EXTENDED_IP_REACH (mt_part_at t.value)
    else []

unfoldable pub projected_content : ℕ → List ℕ → List ℕ
projected_content mt content = flat_map tlv (flat_map (projected_tlv mt) (tlvs_before content))

abbrev pub overload_bit : Bool → ℕ
overload_bit b = if b then 4 else 0

-- a flags octet with that overload bit, 04 (ISO/IEC 10589, 9.8)
abbrev pub with_overload : Bool → ℕ → ℕ
with_overload b flags = flags / 8 * 8 + overload_bit b + flags % 4

abbrev pub projected_entry : ℕ → List Entry → Entry → Entry
projected_entry mt entries e =
    record e { flags = with_overload (is_overloaded_in mt entries e.id.system) e.flags; content = projected_content mt e.content }

-- a live fragment of a router that takes part
abbrev pub is_projected : ℕ → List Entry → Entry → Bool
is_projected mt entries e = (e.id.pseudonode == 0) && (nat_lt 0 e.life && is_member mt entries e.id.system)

unfoldable pub projected_entries : ℕ → List Entry → List Entry
projected_entries mt entries = map (projected_entry mt entries) (filter (is_projected mt entries) entries)

-- An LSDB with only what it says of a topology. Topology 0 is the standard one, whose TLVs are 22 and 135 (RFC 5120, 3).
unfoldable pub projected : ℕ → List Entry → List Entry
projected mt entries = if mt == 0 then entries else projected_entries mt entries
