-- Point-to-point hellos with the three-way adjacency TLV: their encoding, their grammar, and how they are parsed
-- (ISO/IEC 10589, 9.7; RFC 5303, 3).
use Rattle.std.specs.Prelude.{◌≡◌, ℕ, ◌+◌, ◌-◌, ◌%◌, ◌<◌, ◌^◌, ◌⊎◌, Bool, true, not, ◌&&◌, ◌||◌, List, [], ◌∷◌, ◌++◌, length, drop, slice_index, Option, Some, None, Result, Ok, Err, nat_lt, ◌==◌, if◌then◌else◌}
use Rattle.std.specs.List.{list_all, flat_map}
use Rattle.byteorder.specs.Endian.{big_bytes}
use Rattle.wire_base.specs.declared.addresses.SystemId.{SystemId}
use Rattle.wire_base.specs.declared.conf.Level.{Level}
use Rattle.wire_base.specs.declared.conf.Level.TheVariants.{One, Two}
use Rattle.wire_base.specs.declared.faults.TlvFault.{TlvFault}
use Rattle.wire_base.specs.model.Fields.{◌>>=◌, octet_at, octets_at, number_at}
use Rattle.wire_base.specs.model.OwnLsp.{area_tlv, protocols_tlv}
use Rattle.wire_base.specs.model.Pdu.{Free, shaped, common}
use Rattle.wire_base.specs.model.Tlv.{Tlv, tlv, tlvs_of}
use Rattle.isis_hello.specs.declared.codepoints.TheConstants.{HELLO_FRONT, HELLO_TYPE, TLV_THREE_WAY}
use Rattle.isis_hello.specs.declared.fault.HelloFault.{HelloFault}
use Rattle.isis_hello.specs.declared.fault.HelloFault.TheVariants as faults
use Rattle.isis_hello.specs.declared.hello.Tri.{Tri}
use Rattle.isis_hello.specs.declared.hello.Tri.TheVariants.{Up, Initializing, Down}
use Rattle.isis_hello.specs.declared.hello.Hello.{Hello}
use Rattle.isis_hello.specs.declared.way.ThreeWay.{ThreeWay}

-- ---- the three-way adjacency TLV (RFC 5303, 3): the state, the sender's circuit, and the neighbor if one is listed

abbrev pub tri_number : Tri → ℕ
tri_number Up = 0
tri_number Initializing = 1
tri_number Down = 2

abbrev pub named_octets : Option (SystemId × ℕ) → List ℕ
named_octets None = []
named_octets (Some n) = n.0.0 ++ big_bytes 4 n.1

abbrev pub way : ThreeWay → List ℕ
way w = tri_number w.state ∷ (big_bytes 4 w.circuit ++ named_octets w.named)

abbrev pub way_tlv : ThreeWay → Tlv
way_tlv w = record { code = TLV_THREE_WAY; value = way w }

-- what a hello lists in that TLV
abbrev pub way_of : Hello → ThreeWay
way_of h = record { state = h.state; circuit = h.circuit; named = h.named }

-- ---- the encoding

-- the level as the circuit type (ISO/IEC 10589, 9.7)
abbrev pub circuit_type : Level → ℕ
circuit_type One = 1
circuit_type Two = 2

-- what follows the first eight octets; `low` is the local circuit ID, an octet
abbrev pub hello_body : ℕ → ℕ → Hello → List ℕ → List ℕ
hello_body kind low h tlvs = kind ∷ (h.source.0 ++ (big_bytes 2 h.hold ++ (big_bytes 2 (20 + length tlvs) ++ (low ∷ tlvs))))

-- the TLVs of a hello that is written, without padding
abbrev pub hello_tlvs : List ℕ → Hello → List Tlv
hello_tlvs area h = area_tlv area ∷ protocols_tlv ∷ way_tlv (way_of h) ∷ []

-- the hello of a router of that level and area
abbrev pub hello : Level → List ℕ → Hello → List ℕ
hello level area h = common HELLO_FRONT HELLO_TYPE ++ hello_body (circuit_type level) (h.circuit % 256) h (flat_map tlv (hello_tlvs area h))

-- ---- the grammar

abbrev pub NamedFits : Option (SystemId × ℕ) → Type 0
NamedFits None = Unit {0}
NamedFits (Some n) = (length n.0.0 ≡ 6) × (n.1 < 256 ^ 4)

pub record HelloFits (h : Hello) : Type 0 where
  pub source : length h.source.0 ≡ 6
  pub hold : h.hold < 256 ^ 2
  pub circuit : h.circuit < 256 ^ 4
  pub named : NamedFits h.named

abbrev pub is_way : Tlv → Bool
is_way t = t.code == TLV_THREE_WAY

-- the TLVs of a hello: the first three-way adjacency TLV is that of the hello
abbrev pub around : List Tlv → Hello → List Tlv → List ℕ
around before h after = flat_map tlv (before ++ way_tlv (way_of h) ∷ after)

-- The hello is at the front of the octets. A reader does not fix the circuit type, the local circuit ID, and what is free in
-- each PDU: an ID length of 0 or 6, the high bits of the type, the octets 6 and 7.
pub record IsHello (octets : List ℕ) (h : Hello) : Type 0 where
  pub free : Free
  pub kind : ℕ
  pub low : ℕ
  pub before : List Tlv
  pub after : List Tlv
  pub rest : List ℕ
  pub id_length : (free.id_length ≡ 0) ⊎ (free.id_length ≡ 6)
  pub first : list_all (λ t. not (is_way t)) before ≡ true
  pub parts : octets ≡ (shaped free HELLO_FRONT HELLO_TYPE ++ hello_body kind low h (around before h after)) ++ rest
  pub size : 20 + length (around before h after) < 256 ^ 2
  pub fits : HelloFits h

-- ---- parsing

abbrev pub tri_at : ℕ → Result Tri HelloFault
tri_at n = if n == 0 then Ok Up else if n == 1 then Ok Initializing else if n == 2 then Ok Down else Err faults.ThreeWay

-- the neighbor in the octets, to their end
unfoldable pub neighbor_at : List ℕ → Result (Option (SystemId × ℕ)) HelloFault
neighbor_at octets = do
  system ← octets_at faults.ThreeWay 6 octets
  circuit ← number_at faults.ThreeWay 4 system.1
  if length circuit.1 == 0 then Ok (Some (record { 0 = system.0 }, circuit.0)) else Err faults.ThreeWay

unfoldable pub named_at : List ℕ → Result (Option (SystemId × ℕ)) HelloFault
named_at octets = if length octets == 0 then Ok None else neighbor_at octets

-- The value of a three-way adjacency TLV has 5 or 15 octets, and the state is 0, 1 or 2.
unfoldable pub way_at : List ℕ → Result ThreeWay HelloFault
way_at octets = do
  number ← octet_at faults.ThreeWay octets
  state ← tri_at number.0
  circuit ← number_at faults.ThreeWay 4 number.1
  named ← named_at circuit.1
  Ok (record { state = state; circuit = circuit.0; named = named })

-- the first of those TLVs
abbrev pub first_way : List Tlv → Result ThreeWay HelloFault
first_way [] = Err faults.ThreeWay
first_way (t ∷ ts) = if is_way t then way_at t.value else first_way ts

-- what was found up to a TLV, given what was found before it
abbrev pub found_with : Option (Result ThreeWay HelloFault) → Tlv → Option (Result ThreeWay HelloFault)
found_with (Some w) t = Some w
found_with None t = if is_way t then Some (way_at t.value) else None

abbrev pub way_among : Result (List Tlv) TlvFault → Result ThreeWay HelloFault
way_among (Ok ts) = first_way ts
way_among (Err f) = Err faults.Tlv

unfoldable pub way_in : List ℕ → Result ThreeWay HelloFault
way_in octets = way_among (tlvs_of octets)

-- the TLVs of a hello of that length
abbrev pub tlvs_sized : ℕ → List ℕ → Result (List ℕ × List ℕ) HelloFault
tlvs_sized size octets = if nat_lt size 20 then Err faults.PduLength else octets_at faults.PduLength (size - 20) octets

-- from the ninth octet on
unfoldable pub body_at : List ℕ → Result Hello HelloFault
body_at octets = do
  kind ← octet_at faults.PduLength octets
  source ← octets_at faults.PduLength 6 kind.1
  hold ← number_at faults.PduLength 2 source.1
  size ← number_at faults.PduLength 2 hold.1
  low ← octet_at faults.PduLength size.1
  tlvs ← tlvs_sized size.0 low.1
  w ← way_in tlvs.0
  Ok (record { source = record { 0 = source.0 }; hold = hold.0; circuit = w.circuit; state = w.state; named = w.named })

-- the hello at the front, or the first rule that the octets break
unfoldable pub hello_at : List ℕ → Result Hello HelloFault
hello_at octets =
    if nat_lt (length octets) 20 then Err faults.Short
    else if not (slice_index octets 0 == 131) then Err faults.Discriminator
    else if not ((slice_index octets 2 == 1) && (slice_index octets 5 == 1)) then Err faults.Version
    else if not ((slice_index octets 3 == 0) || (slice_index octets 3 == 6)) then Err faults.IdLength
    else if not (slice_index octets 4 % 32 == HELLO_TYPE) then Err faults.Type17
    else if not (slice_index octets 1 == HELLO_FRONT) then Err faults.HeaderLength
    else body_at (drop 8 octets)
