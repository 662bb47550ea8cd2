-- A header as stored, modeled as the header of the standard.
use Rattle.std.specs.Prelude.{ℕ, ◌/◌, List, take, drop}
use Rattle.wire_base.specs.model.BierHeader.{BierHeader}
use Rattle.wire_base.specs.model.BitSet.{set_of}
use Rattle.wire_base.specs.model.Place.{bits_of}
use Rattle.bier_bits.specs.Any.{bsl_of, positions_of}
use Rattle.bier_head.specs.declared.header.Header.{Header}
use Rattle.bier_head.specs.declared.header.HeaderFields.{HeaderFields}

abbrev pub header_of : Header → BierHeader
header_of h = record {
  bift = h.bift;
  tc = h.tc;
  s = h.s;
  ttl = h.ttl;
  nibble = h.nibble;
  bsl_code = h.bsl_code;
  entropy = h.entropy;
  oam = h.oam;
  rsv = h.rsv;
  dscp = h.dscp;
  proto = h.proto;
  bfir = h.bfir;
  bsl = bsl_of h.bits;
  positions = positions_of h.bits;
}

-- the header with those fields and those positions
abbrev pub fields_with : HeaderFields → List ℕ → BierHeader
fields_with f positions = record {
  bift = f.bift;
  tc = f.tc;
  s = f.s;
  ttl = f.ttl;
  nibble = f.nibble;
  bsl_code = f.bsl_code;
  entropy = f.entropy;
  oam = f.oam;
  rsv = f.rsv;
  dscp = f.dscp;
  proto = f.proto;
  bfir = f.bfir;
  bsl = f.bsl;
  positions = positions;
}

-- the header at the front of octets, which has those fields
abbrev pub header_in : List ℕ → HeaderFields → BierHeader
header_in octets f = fields_with f (set_of (take (bits_of f.bsl / 8) (drop 12 octets)))
