-- The BIER header (RFC 8296, 2): three 32-bit words, whose fields are listed from the highest bit down, and then the
-- BitString, highest position first.
--
--     BIFT-id 20, traffic class 3, S 1, TTL 8
--     nibble 4, version 4, code of the length 4, entropy 20
--     OAM 2, reserved 2, DSCP 6, protocol 6, BFIR-id 16
use Rattle.std.specs.Prelude.{ℕ, ◌+◌, ◌*◌, ◌/◌, ◌%◌, ◌^◌, ◌<◌, ◌==◌, Bool, false, not, List, ◌++◌, length, take, drop, Option, Some, None, Result, Ok, Err, nat_lt, if◌then◌else◌}
use Rattle.byteorder.specs.Endian.{big_number, big_bytes}
use Rattle.wire_base.specs.declared.bsl.Bsl.{Bsl}
use Rattle.wire_base.specs.declared.conf.Kind.{Kind}
use Rattle.wire_base.specs.declared.conf.Kind.TheVariants.{Mpls, Configured}
use Rattle.wire_base.specs.declared.faults.HeadFault.{HeadFault}
use Rattle.wire_base.specs.declared.faults.HeadFault.TheVariants.{Short, Nibble, Version, BslCode}
use Rattle.wire_base.specs.model.Place.{bits_of, bsl_coded}
use Rattle.wire_base.specs.model.BitSet.{IsWithin, set_of, octets_of}

-- The header's fields, the length of its BitString and the positions in it. The version is 0. The BSL code may differ from
-- the length: a router that forwards takes the length from the BIFT-id (RFC 8296, 2.1.2).
pub record BierHeader : Type 0 where
  pub bift : ℕ
  pub tc : ℕ
  pub s : Bool
  pub ttl : ℕ
  pub nibble : ℕ
  pub bsl_code : ℕ
  pub entropy : ℕ
  pub oam : ℕ
  pub rsv : ℕ
  pub dscp : ℕ
  pub proto : ℕ
  pub bfir : ℕ
  pub bsl : Bsl
  pub positions : List ℕ

-- each number fits its field
pub record FieldsFit (h : BierHeader) : Type 0 where
  pub bift : h.bift < 2 ^ 20
  pub tc : h.tc < 2 ^ 3
  pub ttl : h.ttl < 2 ^ 8
  pub nibble : h.nibble < 2 ^ 4
  pub bsl_code : h.bsl_code < 2 ^ 4
  pub entropy : h.entropy < 2 ^ 20
  pub oam : h.oam < 2 ^ 2
  pub rsv : h.rsv < 2 ^ 2
  pub dscp : h.dscp < 2 ^ 6
  pub proto : h.proto < 2 ^ 6
  pub bfir : h.bfir < 2 ^ 16

-- a header: its numbers fit, and its positions are ascending and within its length
pub record IsHeader (h : BierHeader) : Type 0 where
  pub fields : FieldsFit h
  pub positions : IsWithin 0 (bits_of h.bsl) h.positions

-- the length in octets of a header with a BitString of that length
abbrev pub header_length : Bsl → ℕ
header_length bsl = 12 + bits_of bsl / 8

-- the three words
abbrev pub first_word : BierHeader → ℕ
first_word h = h.bift * 2 ^ 12 + h.tc * 2 ^ 9 + (if h.s then 1 else 0) * 2 ^ 8 + h.ttl

abbrev pub second_word : BierHeader → ℕ
second_word h = h.nibble * 2 ^ 28 + h.bsl_code * 2 ^ 20 + h.entropy

abbrev pub third_word : BierHeader → ℕ
third_word h = h.oam * 2 ^ 30 + h.rsv * 2 ^ 28 + h.dscp * 2 ^ 22 + h.proto * 2 ^ 16 + h.bfir

-- the octets of a header
abbrev pub header_octets : BierHeader → List ℕ
header_octets h = big_bytes 4 (first_word h) ++ (big_bytes 4 (second_word h) ++ (big_bytes 4 (third_word h) ++ octets_of (bits_of h.bsl / 8) h.positions))

-- the 32-bit number at an index
abbrev pub word_of : List ℕ → ℕ → ℕ
word_of octets at = big_number 4 (drop at octets)

-- whether the second word has a wrong nibble: after a label it must be 5 (RFC 8296, 2.1.2), and without MPLS it is not tested
abbrev pub has_wrong_nibble : Kind → ℕ → Bool
has_wrong_nibble Mpls word = not (word / 2 ^ 28 == 5)
has_wrong_nibble Configured word = false

-- the version and the BSL code in the second word
abbrev pub version_of : ℕ → ℕ
version_of word = word / 2 ^ 24 % 2 ^ 4

abbrev pub bsl_code_of : ℕ → ℕ
bsl_code_of word = word / 2 ^ 20 % 2 ^ 4

-- the fields of the header at the front, with a BitString of that length
abbrev pub fields_of : Bsl → List ℕ → BierHeader
fields_of bsl octets = record {
  bift = word_of octets 0 / 2 ^ 12;
  tc = word_of octets 0 / 2 ^ 9 % 2 ^ 3;
  s = word_of octets 0 / 2 ^ 8 % 2 == 1;
  ttl = word_of octets 0 % 2 ^ 8;
  nibble = word_of octets 4 / 2 ^ 28;
  bsl_code = bsl_code_of (word_of octets 4);
  entropy = word_of octets 4 % 2 ^ 20;
  oam = word_of octets 8 / 2 ^ 30;
  rsv = word_of octets 8 / 2 ^ 28 % 2 ^ 2;
  dscp = word_of octets 8 / 2 ^ 22 % 2 ^ 6;
  proto = word_of octets 8 / 2 ^ 16 % 2 ^ 6;
  bfir = word_of octets 8 % 2 ^ 16;
  bsl = bsl;
  positions = set_of (take (bits_of bsl / 8) (drop 12 octets));
}

-- The header at the front, with a BitString of that length, or the first rule that the octets break.
unfoldable pub header_at : Kind → Bsl → List ℕ → Result BierHeader HeadFault
header_at kind bsl octets =
    if nat_lt (length octets) (header_length bsl) then Err Short else
    if has_wrong_nibble kind (word_of octets 4) then Err Nibble else
    if not (version_of (word_of octets 4) == 0) then Err Version else
    Ok (fields_of bsl octets)

-- the same where the length is the one with that code
abbrev pub coded_at : Option Bsl → List ℕ → Result BierHeader HeadFault
coded_at None octets = Err BslCode
coded_at (Some bsl) octets = if nat_lt (length octets) (header_length bsl) then Err Short else Ok (fields_of bsl octets)

-- the header at the front, whose own code gives the length
unfoldable pub coded_header_at : Kind → List ℕ → Result BierHeader HeadFault
coded_header_at kind octets =
    if nat_lt (length octets) 12 then Err Short else
    if has_wrong_nibble kind (word_of octets 4) then Err Nibble else
    if not (version_of (word_of octets 4) == 0) then Err Version else
    coded_at (bsl_coded (bsl_code_of (word_of octets 4))) octets
