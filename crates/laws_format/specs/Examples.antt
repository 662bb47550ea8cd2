-- PDUs encoded by hand: two routers, A of system 1 and B of system 2, of area 490001, connected by one link.
use Rattle.std.specs.Prelude.{ℕ, List, [], ◌∷◌}
use Rattle.wire_base.specs.declared.addresses.LspId.{LspId}
use Rattle.wire_base.specs.declared.addresses.SystemId.{SystemId}
use Rattle.wire_base.specs.declared.bsl.Bsl.TheVariants.{B64, B256, B512}
use Rattle.wire_base.specs.declared.conf.LabelRange.{LabelRange}
use Rattle.wire_base.specs.declared.triple.Summary.{Summary}
use Rattle.wire_base.specs.model.BierInfo.{Info, info_tlv}
use Rattle.wire_base.specs.model.Pdu.{Head}
use Rattle.wire_base.specs.model.Tlv.{Tlv, tlv, Reach, reach, Prefix, prefix}

abbrev pub system_of : ℕ → SystemId
system_of n = record { 0 = 0 ∷ 0 ∷ 0 ∷ 0 ∷ 0 ∷ n ∷ [] }

abbrev pub fragment_of : ℕ → LspId
fragment_of n = record { system = system_of n; pseudonode = 0; fragment = 0 }

-- A's BFR-id in sub-domain 0 is 1, and its label for BitStrings of 64 bits is 100
abbrev pub a_info : Info
a_info = record { sd = 0; id = 1; ranges = record { bsl = B64; max_si = 0; label = 100 } ∷ [] }

-- B is reachable with the metric 10
abbrev pub a_reach : Reach
a_reach = record { neighbour = system_of 2; pseudonode = 0; metric = 10; subs = [] }

-- A's prefix 10.0.0.1 of 32 bits, followed by sub-TLVs
abbrev pub a_prefix : Prefix
a_prefix = record { metric = 0; control = 96; octets = 10 ∷ 0 ∷ 0 ∷ 1 ∷ []; subs = tlv (info_tlv a_info) }

-- area, protocol IPv4, name A, neighbor and prefix
abbrev pub a_tlvs : List Tlv
a_tlvs = record { code = 1; value = 3 ∷ 73 ∷ 0 ∷ 1 ∷ [] } ∷ record { code = 129; value = 204 ∷ [] } ∷ record { code = 137; value = 65 ∷ [] } ∷ record { code = 22; value = reach a_reach } ∷ record { code = 135; value = prefix a_prefix } ∷ []

abbrev pub a_head : Head
a_head = record { life = 1200; id = fragment_of 1; seq = 1; sum = 21838; flags = 3 }

abbrev pub a_lsp_tlvs : List ℕ
a_lsp_tlvs = 1 ∷ 4 ∷ 3 ∷ 73 ∷ 0 ∷ 1 ∷ 129 ∷ 1 ∷ 204 ∷ 137 ∷ 1 ∷ 65 ∷ 22 ∷ 11 ∷ 0 ∷ 0 ∷ 0 ∷ 0 ∷ 0 ∷ 2 ∷ 0 ∷ 0 ∷ 0 ∷ 10 ∷ 0 ∷ 135 ∷ 23 ∷ 0 ∷ 0 ∷ 0 ∷ 0 ∷ 96 ∷ 10 ∷ 0 ∷ 0 ∷ 1 ∷ 13 ∷ 32 ∷ 11 ∷ 0 ∷ 0 ∷ 0 ∷ 0 ∷ 1 ∷ 1 ∷ 4 ∷ 0 ∷ 16 ∷ 0 ∷ 100 ∷ []

-- A's first LSP
abbrev pub a_lsp : List ℕ
a_lsp = 131 ∷ 27 ∷ 1 ∷ 0 ∷ 20 ∷ 1 ∷ 0 ∷ 0 ∷ 0 ∷ 77 ∷ 4 ∷ 176 ∷ 0 ∷ 0 ∷ 0 ∷ 0 ∷ 0 ∷ 1 ∷ 0 ∷ 0 ∷ 0 ∷ 0 ∷ 0 ∷ 1 ∷ 85 ∷ 78 ∷ 3 ∷ a_lsp_tlvs

abbrev pub a_summary : Summary
a_summary = record { life = 1200; id = fragment_of 1; seq = 1; sum = 21838 }

abbrev pub first_id : LspId
first_id = record { system = record { 0 = 0 ∷ 0 ∷ 0 ∷ 0 ∷ 0 ∷ 0 ∷ [] }; pseudonode = 0; fragment = 0 }

abbrev pub last_id : LspId
last_id = record { system = record { 0 = 255 ∷ 255 ∷ 255 ∷ 255 ∷ 255 ∷ 255 ∷ [] }; pseudonode = 255; fragment = 255 }

-- A's first CSNP
abbrev pub a_csnp : List ℕ
a_csnp = 131 ∷ 33 ∷ 1 ∷ 0 ∷ 25 ∷ 1 ∷ 0 ∷ 0 ∷ 0 ∷ 51 ∷ 0 ∷ 0 ∷ 0 ∷ 0 ∷ 0 ∷ 1 ∷ 0 ∷ 0 ∷ 0 ∷ 0 ∷ 0 ∷ 0 ∷ 0 ∷ 0 ∷ 0 ∷ 255 ∷ 255 ∷ 255 ∷ 255 ∷ 255 ∷ 255 ∷ 255 ∷ 255 ∷ 9 ∷ 16 ∷ 4 ∷ 176 ∷ 0 ∷ 0 ∷ 0 ∷ 0 ∷ 0 ∷ 1 ∷ 0 ∷ 0 ∷ 0 ∷ 0 ∷ 0 ∷ 1 ∷ 85 ∷ 78 ∷ []

-- a BIER Info of sub-domain 0 and BFR-id 1 with a range for BitStrings of 256 bits, and a second sub-sub-TLV
abbrev pub info_with : List ℕ → List ℕ
info_with second = 0 ∷ 0 ∷ 0 ∷ 0 ∷ 1 ∷ 1 ∷ 4 ∷ 0 ∷ 48 ∷ 0 ∷ 100 ∷ second

abbrev pub first_range : LabelRange
first_range = record { bsl = B256; max_si = 0; label = 100 }

abbrev pub second_range : LabelRange
second_range = record { bsl = B512; max_si = 1; label = 256 }
