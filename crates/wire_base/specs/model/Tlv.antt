-- TLVs, and the entries of the TLVs 22, 135 and 9: their values, their encoding, and how they are parsed
-- (ISO/IEC 10589, 9.8 to 9.13; RFC 5305, 3 and 4).
use Rattle.std.specs.Prelude.{◌≡◌, ℕ, zero, suc, ◌+◌, ◌-◌, ◌/◌, ◌%◌, ◌<◌, ◌≤◌, ◌^◌, Bool, true, false, List, [], ◌∷◌, ◌++◌, length, take, drop, replicate, Option, Some, None, Result, Ok, Err, nat_lt, ◌==◌, if◌then◌else◌}
use Rattle.std.specs.List.{flat_map}
use Rattle.byteorder.specs.Endian.{big_bytes}
use Rattle.wire_base.specs.declared.codepoints.TheConstants.{TLV_LSP_ENTRIES}
use Rattle.wire_base.specs.declared.addresses.SystemId.{SystemId}
use Rattle.wire_base.specs.declared.addresses.LspId.{LspId}
use Rattle.wire_base.specs.declared.triple.Summary.{Summary}
use Rattle.wire_base.specs.declared.faults.TlvFault.{TlvFault}
use Rattle.wire_base.specs.declared.faults.TlvFault.TheVariants.{Overrun, EntryShort, PrefixLen}
use Rattle.wire_base.specs.model.Fields.{◌>>=◌, octet_at, octets_at, number_at, counted, counted_at}

-- ---- a TLV or a sub-TLV: a code, the length of the value, and the value

pub record Tlv : Type 0 where
  pub code : ℕ
  pub value : List ℕ

pub record TlvFits (t : Tlv) : Type 0 where
  pub code : t.code < 256
  pub value : length t.value < 256

abbrev pub tlv : Tlv → List ℕ
tlv t = t.code ∷ counted t.value

-- the TLV at the front and the octets after it; none where there are no octets
abbrev pub tlv_at : List ℕ → Result (Option (Tlv × List ℕ)) TlvFault
tlv_at [] = Ok None
tlv_at (code ∷ []) = Err Overrun
tlv_at (code ∷ n ∷ rest) = if nat_lt (length rest) n then Err Overrun else Ok (Some (record { code = code; value = take n rest }, drop n rest))

-- one octet is left, or the length exceeds the octets after it
abbrev pub IsOverrun : List ℕ → Type 0
IsOverrun [] = ⊥
IsOverrun (code ∷ []) = Unit {0}
IsOverrun (code ∷ n ∷ rest) = length rest < n

-- ---- a list of TLVs

abbrev pub then_tlvs : Option (Tlv × List ℕ) → (List ℕ → Result (List Tlv) TlvFault) → Result (List Tlv) TlvFault
then_tlvs None more = Ok []
then_tlvs (Some x) more = do
  ts ← more x.1
  Ok (x.0 ∷ ts)

-- Each TLV has two octets or more, so there are fewer TLVs than octets; the number only bounds the recursion.
unfoldable pub tlvs_within : ℕ → List ℕ → Result (List Tlv) TlvFault
tlvs_within zero octets = Ok []
tlvs_within (suc n) octets = tlv_at octets >>= λ o. then_tlvs o (tlvs_within n)

-- the TLVs that the octets encode, to their end
unfoldable pub tlvs_of : List ℕ → Result (List Tlv) TlvFault
tlvs_of octets = tlvs_within (length octets) octets

-- ---- an entry of TLV 22: a reachable neighbor (RFC 5305, 3)

pub record Reach : Type 0 where
  pub neighbour : SystemId
  pub pseudonode : ℕ
  pub metric : ℕ
  pub subs : List ℕ

pub record ReachFits (r : Reach) : Type 0 where
  pub neighbour : length r.neighbour.0 ≡ 6
  pub pseudonode : r.pseudonode < 256
  pub metric : r.metric < 256 ^ 3
  pub subs : length r.subs < 256

abbrev pub reach : Reach → List ℕ
reach r = r.neighbour.0 ++ (r.pseudonode ∷ (big_bytes 3 r.metric ++ counted r.subs))

unfoldable pub reach_at : List ℕ → Result (Reach × List ℕ) TlvFault
reach_at octets = do
  neighbour ← octets_at EntryShort 6 octets
  pseudonode ← octet_at EntryShort neighbour.1
  metric ← number_at EntryShort 3 pseudonode.1
  subs ← counted_at EntryShort metric.1
  Ok (record { neighbour = record { 0 = neighbour.0 }; pseudonode = pseudonode.0; metric = metric.0; subs = subs.0 }, subs.1)

-- ---- an entry of TLV 135: a reachable prefix (RFC 5305, 4)

-- The prefix is stored in four octets, 0 after those of the prefix length.
pub record Prefix : Type 0 where
  pub metric : ℕ
  pub control : ℕ
  pub octets : List ℕ
  pub subs : List ℕ

-- the prefix length in bits: the low six bits of the control octet
abbrev pub prefix_bits : ℕ → ℕ
prefix_bits control = control % 64

-- the octets of a prefix of that many bits
abbrev pub prefix_octets : ℕ → ℕ
prefix_octets bits = (bits + 7) / 8

-- bit 40 of the control octet indicates that sub-TLVs follow
abbrev pub has_subs : ℕ → Bool
has_subs control = control / 64 % 2 == 1

abbrev pub subs_if : Bool → List ℕ → List ℕ
subs_if true subs = counted subs
subs_if false subs = []

-- four octets, 0 after those of the prefix
abbrev pub padded : List ℕ → List ℕ
padded octets = octets ++ replicate (4 - length octets) 0

abbrev pub NoneUnless : Bool → List ℕ → Type 0
NoneUnless true subs = length subs < 256
NoneUnless false subs = subs ≡ []

pub record PrefixFits (p : Prefix) : Type 0 where
  pub metric : p.metric < 256 ^ 4
  pub control : p.control < 256
  pub bits : prefix_bits p.control ≤ 32
  pub octets : p.octets ≡ padded (take (prefix_octets (prefix_bits p.control)) p.octets)
  pub subs : NoneUnless (has_subs p.control) p.subs

abbrev pub prefix : Prefix → List ℕ
prefix p = big_bytes 4 p.metric ++ (p.control ∷ (take (prefix_octets (prefix_bits p.control)) p.octets ++ subs_if (has_subs p.control) p.subs))

abbrev pub bits_at : ℕ → Result ℕ TlvFault
bits_at control = if nat_lt 32 (prefix_bits control) then Err PrefixLen else Ok (prefix_bits control)

abbrev pub subs_if_at : Bool → List ℕ → Result (List ℕ × List ℕ) TlvFault
subs_if_at true octets = counted_at EntryShort octets
subs_if_at false octets = Ok ([], octets)

unfoldable pub prefix_at : List ℕ → Result (Prefix × List ℕ) TlvFault
prefix_at octets = do
  metric ← number_at EntryShort 4 octets
  control ← octet_at EntryShort metric.1
  bits ← bits_at control.0
  bare ← octets_at EntryShort (prefix_octets bits) control.1
  subs ← subs_if_at (has_subs control.0) bare.1
  Ok (record { metric = metric.0; control = control.0; octets = padded bare.0; subs = subs.0 }, subs.1)

-- ---- an LSP ID (ISO/IEC 10589, 9.8)

pub record LspIdFits (id : LspId) : Type 0 where
  pub system : length id.system.0 ≡ 6
  pub pseudonode : id.pseudonode < 256
  pub fragment : id.fragment < 256

abbrev pub lsp_id : LspId → List ℕ
lsp_id id = id.system.0 ++ (id.pseudonode ∷ id.fragment ∷ [])

abbrev pub lsp_id_at : {E : Type 0} → E → List ℕ → Result (LspId × List ℕ) E
lsp_id_at fault octets = do
  system ← octets_at fault 6 octets
  pseudonode ← octet_at fault system.1
  fragment ← octet_at fault pseudonode.1
  Ok (record { system = record { 0 = system.0 }; pseudonode = pseudonode.0; fragment = fragment.0 }, fragment.1)

-- ---- an entry of TLV 9: a summary (ISO/IEC 10589, 9.10)

pub record SummaryFits (s : Summary) : Type 0 where
  pub life : s.life < 256 ^ 2
  pub id : LspIdFits s.id
  pub seq : s.seq < 256 ^ 4
  pub sum : s.sum < 256 ^ 2

abbrev pub row : Summary → List ℕ
row s = big_bytes 2 s.life ++ (lsp_id s.id ++ (big_bytes 4 s.seq ++ big_bytes 2 s.sum))

unfoldable pub row_at : List ℕ → Result (Summary × List ℕ) TlvFault
row_at octets = do
  life ← number_at EntryShort 2 octets
  id ← lsp_id_at EntryShort life.1
  seq ← number_at EntryShort 4 id.1
  sum ← number_at EntryShort 2 seq.1
  Ok (record { life = life.0; id = id.0; seq = seq.0; sum = sum.0 }, sum.1)

-- ---- the entries of a value, one after the other, to its end or to the first invalid one

abbrev pub then_entries : {X E : Type 0} → Result (X × List ℕ) E → (List ℕ → List X) → List X
then_entries (Ok x) more = x.0 ∷ more x.1
then_entries (Err e) more = []

unfoldable pub entries_within : {X E : Type 0} → (List ℕ → Result (X × List ℕ) E) → ℕ → List ℕ → List X
entries_within read zero octets = []
entries_within read (suc n) octets = then_entries (read octets) (entries_within read n)

unfoldable pub entries_of : {X E : Type 0} → (List ℕ → Result (X × List ℕ) E) → List ℕ → List X
entries_of read octets = entries_within read (length octets) octets

-- the end counts as an invalid TLV
abbrev pub some_tlv : Result (Option (Tlv × List ℕ)) TlvFault → Result (Tlv × List ℕ) TlvFault
some_tlv (Ok (Some x)) = Ok x
some_tlv (Ok None) = Err Overrun
some_tlv (Err e) = Err e

abbrev pub one_tlv_at : List ℕ → Result (Tlv × List ℕ) TlvFault
one_tlv_at octets = some_tlv (tlv_at octets)

-- the TLVs to the end of the octets or to an overrun
abbrev pub tlvs_before : List ℕ → List Tlv
tlvs_before octets = entries_of one_tlv_at octets

-- the LSP entries of TLVs 9
abbrev pub rows_in : Tlv → List Summary
rows_in t = if t.code == TLV_LSP_ENTRIES then entries_of row_at t.value else []

abbrev pub rows_of : List ℕ → List Summary
rows_of octets = flat_map rows_in (tlvs_before octets)
