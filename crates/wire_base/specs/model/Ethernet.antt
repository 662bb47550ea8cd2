-- Ethernet frames and their contents (IEEE 802.3, 3.1.1 and 3.2.6; RFC 3032, 3.3; RFC 8296, 3; RFC 894). An IS-IS PDU
-- follows the LLC header FE FE 03 (ISO/IEC 8802-2, 5; ISO/IEC 10589, 8.4).
use Rattle.std.specs.Prelude.{◌≡◌, ℕ, ◌<◌, ◌≤◌, ◌⊎◌, Bool, ◌&&◌, List, ◌∷◌, ◌++◌, length, take, drop, slice_index, Result, Ok, Err, nat_lt, nat_le, ◌==◌, if◌then◌else◌}
use Rattle.byteorder.specs.Endian.{big_bytes, big_number}
use Rattle.wire_base.specs.declared.faults.FrameFault.{FrameFault}
use Rattle.wire_base.specs.declared.faults.FrameFault.TheVariants as faults

-- The content of a frame: the octets of an IS-IS PDU, or all octets after the first 14.
pub data Carried : Type 0 where
  IsisPdu : (octets : List ℕ) → Carried
  MplsPacket : (octets : List ℕ) → Carried
  BierPacket : (octets : List ℕ) → Carried
  IpPacket : (octets : List ℕ) → Carried
  OtherFrame : Carried

-- the first 14 octets of a frame: destination, source, and a length or a type
abbrev pub ethernet : List ℕ → List ℕ → ℕ → List ℕ
ethernet to from number = to ++ (from ++ big_bytes 2 number)

-- the largest number that is a length, not an EtherType
abbrev pub most_length : ℕ
most_length = 1500

abbrev pub mpls_type : ℕ
mpls_type = 34887

abbrev pub bier_type : ℕ
bier_type = 43831

abbrev pub ip_type : ℕ
ip_type = 2048

-- an EtherType that is none of the three
abbrev pub IsOtherType : ℕ → Type 0
IsOtherType number = (most_length < number) × (number ≡ mpls_type → ⊥) × (number ≡ bier_type → ⊥) × (number ≡ ip_type → ⊥)

-- a length, of octets that do not begin with the LLC header of IS-IS
abbrev pub IsOtherPacket : ℕ → List ℕ → Type 0
IsOtherPacket number rest = (number ≤ most_length) × (number ≤ length rest) × ((pdu : List ℕ) → take number rest ≡ 254 ∷ 254 ∷ 3 ∷ pdu → ⊥)

-- The content after a length or an EtherType. Octets beyond a length are padding.
abbrev pub IsCarried : ℕ → List ℕ → Carried → Type 0
IsCarried number rest (IsisPdu pdu) = (number ≤ most_length) × (number ≤ length rest) × (take number rest ≡ 254 ∷ 254 ∷ 3 ∷ pdu)
IsCarried number rest (MplsPacket packet) = (number ≡ mpls_type) × (rest ≡ packet)
IsCarried number rest (BierPacket packet) = (number ≡ bier_type) × (rest ≡ packet)
IsCarried number rest (IpPacket packet) = (number ≡ ip_type) × (rest ≡ packet)
IsCarried number rest OtherFrame = IsOtherType number ⊎ IsOtherPacket number rest

-- The grammar of a frame. Destination addresses are ignored.
pub record IsFrame (frame : List ℕ) (carried : Carried) : Type 0 where
  pub to : List ℕ
  pub from : List ℕ
  pub number : ℕ
  pub rest : List ℕ
  pub six_to : length to ≡ 6
  pub six_from : length from ≡ 6
  pub two : number < 65536
  pub spelled : frame ≡ ethernet to from number ++ rest
  pub carries : IsCarried number rest carried

-- the content by an EtherType
abbrev pub typed : ℕ → List ℕ → Carried
typed number octets =
    if number == mpls_type then MplsPacket octets else
    if number == bier_type then BierPacket octets else
    if number == ip_type then IpPacket octets else
    OtherFrame

abbrev pub begins_isis : List ℕ → Bool
begins_isis octets = nat_le 3 (length octets) && ((slice_index octets 0 == 254) && ((slice_index octets 1 == 254) && (slice_index octets 2 == 3)))

-- the content by the octets that a length counts
abbrev pub counted_out : List ℕ → Carried
counted_out octets = if begins_isis octets then IsisPdu (drop 3 octets) else OtherFrame

-- The content of a frame, or the first rule that it breaks: fewer than 14 octets, a length above the octets after it.
unfoldable pub frame_at : List ℕ → Result Carried FrameFault
frame_at frame =
    if nat_lt (length frame) 14 then Err faults.Short else
    if nat_lt most_length (big_number 2 (drop 12 frame)) then Ok (typed (big_number 2 (drop 12 frame)) (drop 14 frame)) else
    if nat_lt (length (drop 14 frame)) (big_number 2 (drop 12 frame)) then Err faults.Length else
    Ok (counted_out (take (big_number 2 (drop 12 frame)) (drop 14 frame)))

-- the source address of a frame
abbrev pub source_at : List ℕ → List ℕ
source_at frame = take 6 (drop 6 frame)
