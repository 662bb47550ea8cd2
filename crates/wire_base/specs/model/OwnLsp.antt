-- The LSP that a router originates: only fragment 0 (ISO/IEC 10589, 7.3.7 and 9.8; RFC 5301, 3;
-- RFC 5305, 3 and 4; RFC 8401, 6.1 and 6.2).
use Rattle.std.specs.Prelude.{ℕ, ◌+◌, Bool, true, false, List, [], ◌∷◌, ◌++◌, length, map, if◌then◌else◌}
use Rattle.std.specs.List.{flat_map}
use Rattle.wire_base.specs.declared.codepoints.TheConstants.{NLPID_IPV4, TLV_AREA_ADDRESSES, TLV_DYNAMIC_HOSTNAME, TLV_EXTENDED_IP_REACH, TLV_EXTENDED_IS_REACH, TLV_PROTOCOLS_SUPPORTED}
use Rattle.wire_base.specs.declared.limits.TheConstants.{FULL_LIFE}
use Rattle.wire_base.specs.declared.conf.Level.{Level}
use Rattle.wire_base.specs.declared.conf.Level.TheVariants.{One, Two}
use Rattle.wire_base.specs.declared.conf.OwnSub.{OwnSub}
use Rattle.wire_base.specs.declared.conf.SubKind.{SubKind}
use Rattle.wire_base.specs.declared.conf.End.{End}
use Rattle.wire_base.specs.declared.conf.RouterConf.{RouterConf}
use Rattle.wire_base.specs.declared.entry.Entry.{Entry}
use Rattle.wire_base.specs.model.Lists.{blocks}
use Rattle.wire_base.specs.model.Place.{kind_of, is_mpls}
use Rattle.wire_base.specs.model.Tlv.{tlv, Tlv, Reach, reach, Prefix, prefix}
use Rattle.wire_base.specs.model.BierInfo.{Info, info_tlv}
use Rattle.wire_base.specs.model.Pdu.{Head, lsp_sum}
use Rattle.wire_base.specs.model.Control.{fragment_0}

-- the elements at whose index a list of truth values has true
abbrev pub picked : {X : Type 0} → List Bool → List X → List X
picked [] xs = []
picked (b ∷ bs) [] = []
picked (true ∷ bs) (x ∷ xs) = x ∷ picked bs xs
picked (false ∷ bs) (x ∷ xs) = picked bs xs

-- area addresses
abbrev pub area_tlv : List ℕ → Tlv
area_tlv area = record { code = TLV_AREA_ADDRESSES; value = length area ∷ area }

-- the protocols supported: IPv4, 0xCC
abbrev pub protocols_tlv : Tlv
protocols_tlv = record { code = TLV_PROTOCOLS_SUPPORTED; value = NLPID_IPV4 ∷ [] }

abbrev pub name_tlv : List ℕ → Tlv
name_tlv name = record { code = TLV_DYNAMIC_HOSTNAME; value = name }

-- a link that is up
abbrev pub reach_of : End → Reach
reach_of e = record { neighbour = e.peer; pseudonode = 0; metric = e.metric; subs = [] }

-- links have 11 octets each, and 23 of them fit a TLV
abbrev pub most_in_tlv : ℕ
most_in_tlv = 23

abbrev pub reach_tlv : List End → Tlv
reach_tlv ends = record { code = TLV_EXTENDED_IS_REACH; value = flat_map (λ e. reach (reach_of e)) ends }

abbrev pub reach_tlvs : List End → List Tlv
reach_tlvs ends = map reach_tlv (blocks most_in_tlv ends)

-- only MPLS sub-domains have label ranges
abbrev pub info_of : List SubKind → OwnSub → Info
info_of kinds s = record { sd = s.sd; id = s.id; ranges = if is_mpls (kind_of kinds s.sd) then s.ranges else [] }

abbrev pub infos_of : List SubKind → List OwnSub → List ℕ
infos_of kinds subs = flat_map (λ s. tlv (info_tlv (info_of kinds s))) subs

-- a prefix of 32 bits; bit 64 indicates that sub-TLVs follow, which a router in no sub-domain does not have
abbrev pub control_for : List OwnSub → ℕ
control_for [] = 32
control_for (s ∷ subs) = 96

abbrev pub own_prefix : RouterConf → Prefix
own_prefix r = record { metric = 0; control = control_for r.subs; octets = r.prefix.0; subs = infos_of r.kinds r.subs }

abbrev pub prefix_tlv : RouterConf → Tlv
prefix_tlv r = record { code = TLV_EXTENDED_IP_REACH; value = prefix (own_prefix r) }

-- the TLVs of a router's own LSP, where those interfaces are up
abbrev pub own_tlvs : RouterConf → List Bool → List Tlv
own_tlvs r up = area_tlv r.area ∷ protocols_tlv ∷ name_tlv r.name ∷ (reach_tlvs (picked up r.ends) ++ prefix_tlv r ∷ [])

-- their octets
unfoldable pub own_content : RouterConf → List Bool → List ℕ
own_content r up = flat_map tlv (own_tlvs r up)

-- the IS type, and whether the overload bit is set
abbrev pub level_bits : Level → ℕ
level_bits One = 1
level_bits Two = 3

abbrev pub own_flags : RouterConf → ℕ
own_flags r = level_bits r.level + (if r.overload then 4 else 0)

-- the initial Remaining Lifetime of an LSP is twenty minutes (ISO/IEC 10589, 7.3.16.3)
abbrev pub full_life : ℕ
full_life = FULL_LIFE

-- its header; the checksum covers everything but the lifetime
abbrev pub own_head : RouterConf → ℕ → Head
own_head r seq = record { life = full_life; id = fragment_0 r.system; seq = seq; sum = 0; flags = own_flags r }

-- a router's own LSP with a sequence number, where those interfaces are up
unfoldable pub own_lsp : RouterConf → List Bool → ℕ → Entry
own_lsp r up seq =
    record {
      id = fragment_0 r.system;
      seq = seq;
      life = full_life;
      hold = 0;
      sum = lsp_sum (own_head r seq) (own_content r up);
      flags = own_flags r;
      content = own_content r up;
    }
