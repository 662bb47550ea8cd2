-- BIER Info, the value of a sub-TLV 32 of an entry of TLV 135 (RFC 8401, 6.1 and 6.2).
use Rattle.std.specs.Prelude.{◌≡◌, ℕ, zero, suc, ◌+◌, ◌-◌, ◌*◌, ◌/◌, ◌%◌, ◌^◌, ◌<◌, ◌≤◌, Bool, true, false, not, ◌&&◌, ◌||◌, List, [], ◌∷◌, ◌++◌, length, map, drop, replicate, slice_index, get_or, set, Option, Some, None, Result, Ok, Err, nat_lt, nat_le, ◌==◌, slice_get, IsSomeAnd, if◌then◌else◌}
use Rattle.std.specs.List.{flat_map, filter_map, list_any, AllByRecursion}
use Rattle.byteorder.specs.Endian.{big_bytes, big_number}
use Rattle.wire_base.specs.declared.codepoints.TheConstants.{SUB_SUB_TLV_BIER_MPLS, SUB_TLV_BIER_INFO}
use Rattle.wire_base.specs.declared.limits.TheConstants.{LAST_LABEL}
use Rattle.wire_base.specs.declared.faults.TlvFault.{TlvFault}
use Rattle.wire_base.specs.declared.faults.InfoFault.{InfoFault}
use Rattle.wire_base.specs.declared.faults.InfoFault.TheVariants as faults
use Rattle.wire_base.specs.declared.bsl.Bsl.{Bsl}
use Rattle.wire_base.specs.declared.conf.LabelRange.{LabelRange}
use Rattle.wire_base.specs.declared.conf.OwnSub.{OwnSub}
use Rattle.wire_base.specs.model.Fields.{◌>>=◌}
use Rattle.wire_base.specs.model.Place.{code_of, bsl_coded}
use Rattle.wire_base.specs.model.Tlv.{Tlv, tlv, tlv_at}

-- A sub-domain, the BFR-id there, and the label ranges.
pub record Info : Type 0 where
  pub sd : ℕ
  pub id : ℕ
  pub ranges : List LabelRange

-- what a router advertises of a sub-domain of its own
abbrev pub own_of : OwnSub → Info
own_of s = record { sd = s.sd; id = s.id; ranges = s.ranges }

-- ---- encoding

-- the 32-bit word of a range: its Max SI, the BSL code, and its first label
abbrev pub range_word : LabelRange → ℕ
range_word r = r.max_si * 16777216 + code_of r.bsl * 1048576 + r.label

abbrev pub range_tlv : LabelRange → Tlv
range_tlv r = record { code = SUB_SUB_TLV_BIER_MPLS; value = big_bytes 4 (range_word r) }

abbrev pub range : LabelRange → List ℕ
range r = tlv (range_tlv r)

-- algorithms 0 and 0, sub-domain, BFR-id, and the ranges
abbrev pub info : Info → List ℕ
info i = 0 ∷ 0 ∷ i.sd ∷ (big_bytes 2 i.id ++ flat_map range i.ranges)

abbrev pub info_tlv : Info → Tlv
info_tlv i = record { code = SUB_TLV_BIER_INFO; value = info i }

-- The last label of a range has at most 20 bits.
pub record RangeFits (r : LabelRange) : Type 0 where
  pub max_si : r.max_si < 256
  pub last : r.label + r.max_si ≤ LAST_LABEL

-- no two of the BSLs are equal
abbrev pub AreApart : List Bsl → Type 0
AreApart [] = Unit {0}
AreApart (b ∷ bs) = AllByRecursion (λ c. c ≡ b → ⊥) bs × AreApart bs

pub record InfoFits (i : Info) : Type 0 where
  pub sd : i.sd < 256
  pub id : i.id < 256 ^ 2
  pub few : length i.ranges ≤ 7
  pub each : AllByRecursion RangeFits i.ranges
  pub apart : AreApart (map (λ r. r.bsl) i.ranges)

-- ---- grammar: beyond the encoding above, a reader accepts other sub-sub-TLVs

-- the BSL that the word of a range contains
abbrev pub word_bsl : ℕ → Option Bsl
word_bsl word = bsl_coded (word / 1048576 % 16)

-- a range of that BSL, where its last label has at most 20 bits
abbrev pub range_with : Option Bsl → ℕ → Option LabelRange
range_with None word = None
range_with (Some bsl) word = if nat_lt LAST_LABEL (word % 1048576 + word / 16777216) then None else Some (record { bsl = bsl; max_si = word / 16777216; label = word % 1048576 })

abbrev pub is_range : Tlv → Bool
is_range t = t.code == SUB_SUB_TLV_BIER_MPLS

-- the BSL that a sub-sub-TLV contains, and its label range
abbrev pub length_named : Tlv → Option Bsl
length_named t = if is_range t then word_bsl (big_number 4 t.value) else None

abbrev pub range_given : Tlv → Option LabelRange
range_given t = if is_range t then range_with (word_bsl (big_number 4 t.value)) (big_number 4 t.value) else None

abbrev pub IsFour : Tlv → Type 0
IsFour t = is_range t ≡ true → length t.value ≡ 4

-- The value is a BIER Info with the sub-sub-TLVs `parts`: those of type 1 have four octets, no two of them have one
-- BSL, and the ranges are those that they give, in order.
pub record IsInfo (value : List ℕ) (i : Info) : Type 0 where
  pub parts : List Tlv
  pub spelled : value ≡ 0 ∷ 0 ∷ i.sd ∷ (big_bytes 2 i.id ++ flat_map tlv parts)
  pub id : i.id < 256 ^ 2
  pub four : AllByRecursion IsFour parts
  pub apart : AreApart (filter_map length_named parts)
  pub ranges : i.ranges ≡ filter_map range_given parts

-- ---- parsing

-- which of the seven BSLs have occurred, and the ranges that count
pub record Parts : Type 0 where
  pub seen : List Bool
  pub ranges : List LabelRange

abbrev pub no_parts : Parts
no_parts = record { seen = replicate 7 false; ranges = [] }

abbrev pub take_known : Parts → Bsl → ℕ → Result Parts InfoFault
take_known p bsl word =
    let place = code_of bsl - 1 in
    if get_or p.seen place false then Err faults.RepeatedLength
    else Ok (record { seen = set p.seen place true; ranges = if nat_lt LAST_LABEL (word % 1048576 + word / 16777216) then p.ranges else p.ranges ++ record { bsl = bsl; max_si = word / 16777216; label = word % 1048576 } ∷ [] })

abbrev pub take_if : Parts → Option Bsl → ℕ → Result Parts InfoFault
take_if p None word = Ok p
take_if p (Some bsl) word = take_known p bsl word

-- Adds one sub-sub-TLV. A range of an unknown BSL is skipped, and so is another type. A range whose last label
-- has more than 20 bits is skipped, and its BSL counts as seen.
unfoldable pub take_part : Parts → Tlv → Result Parts InfoFault
take_part p t =
    if not (is_range t) then Ok p
    else if not (length t.value == 4) then Err faults.Short
    else take_if p (word_bsl (big_number 4 t.value)) (big_number 4 t.value)

-- an overrun is the error Short
abbrev pub short : {A : Type 0} → Result A TlvFault → Result A InfoFault
short (Ok x) = Ok x
short (Err f) = Err faults.Short

abbrev pub then_parts : Parts → Option (Tlv × List ℕ) → (Parts → List ℕ → Result Parts InfoFault) → Result Parts InfoFault
then_parts p None more = Ok p
then_parts p (Some x) more = do
  q ← take_part p x.0
  more q x.1

unfoldable pub parts_within : ℕ → Parts → List ℕ → Result Parts InfoFault
parts_within zero p octets = Ok p
parts_within (suc n) p octets = short (tlv_at octets) >>= λ o. then_parts p o (parts_within n)

-- the sub-sub-TLVs in octet order, or the first of them that is rejected
abbrev pub parts_of : Parts → List ℕ → Result Parts InfoFault
parts_of p octets = parts_within (length octets) p octets

-- the value of a sub-TLV 32, or the first rule that it breaks
unfoldable pub info_at : List ℕ → Result Info InfoFault
info_at value =
    if nat_lt (length value) 5 then Err faults.Short
    else if not ((slice_index value 0 == 0) && (slice_index value 1 == 0)) then Err faults.Algorithm
    else parts_of no_parts (drop 5 value) >>= λ p. Ok (record { sd = slice_index value 2; id = big_number 2 (drop 3 value); ranges = p.ranges })

-- ---- labels that two ranges share

abbrev pub last_label : LabelRange → ℕ
last_label r = r.label + r.max_si

-- the label belongs to the range
pub record HasLabel (r : LabelRange) (label : ℕ) : Type 0 where
  pub above : r.label ≤ label
  pub below : label ≤ last_label r

-- ranges at two indices share a label
pub record Overlap (ranges : List LabelRange) : Type 0 where
  pub first : ℕ
  pub second : ℕ
  pub label : ℕ
  pub places : first < second
  pub in_first : IsSomeAnd (slice_get ranges first) (λ r. HasLabel r label)
  pub in_second : IsSomeAnd (slice_get ranges second) (λ r. HasLabel r label)

-- the test for one label in both ranges
abbrev pub share_label : LabelRange → LabelRange → Bool
share_label a b = nat_le a.label (last_label b) && nat_le b.label (last_label a)

unfoldable pub any_overlap : List LabelRange → Bool
any_overlap [] = false
any_overlap (r ∷ rs) = list_any (share_label r) rs || any_overlap rs
