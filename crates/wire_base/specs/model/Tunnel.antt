-- Tunnels: a BIER packet after an IPv4 header and a GRE header (RFC 791, 3.1; RFC 1071; RFC 2784, 2).
use Rattle.std.specs.Prelude.{◌≡◌, ℕ, ◌+◌, ◌-◌, ◌*◌, ◌/◌, ◌%◌, ◌<◌, ◌==◌, not, nat_lt, Bool, List, [], ◌∷◌, ◌++◌, length, take, drop, slice_index, Result, Ok, Err, if◌then◌else◌}
use Rattle.byteorder.specs.Endian.{big_bytes, big_number}
use Rattle.wire_base.specs.declared.addresses.Ipv4.{Ipv4}
use Rattle.wire_base.specs.declared.conf.Kind.{Kind}
use Rattle.wire_base.specs.declared.conf.Kind.TheVariants.{Mpls, Configured}
use Rattle.wire_base.specs.declared.faults.IpFault.{IpFault}
use Rattle.wire_base.specs.declared.faults.IpFault.TheVariants as faults
use Rattle.wire_base.specs.model.Ethernet.{mpls_type, bier_type}

-- The endpoints of a tunnel, its TTL, the kind of the packet inside, and that packet's octets.
pub record TunnelPacket : Type 0 where
  pub src : Ipv4
  pub dst : Ipv4
  pub ttl : ℕ
  pub inner : Kind
  pub carried : List ℕ

-- ---- the checksum

-- the sum of the 16-bit numbers
abbrev pub word_sum : List ℕ → ℕ
word_sum [] = 0
word_sum (x ∷ []) = x * 256
word_sum (x ∷ y ∷ rest) = x * 256 + y + word_sum rest

-- The one's complement sum: the carry above 16 bits is added again. It is 0 only if all octets are 0.
abbrev pub ones_sum : ℕ → ℕ
ones_sum n = if n == 0 then 0 else (n - 1) % 65535 + 1

-- the checksum is right where the sum of the whole header is FFFF
abbrev pub is_right_header : List ℕ → Bool
is_right_header header = ones_sum (word_sum header) == 65535

-- ---- encoding

-- the fields of the header that a writer sets to one value and a reader ignores: the type of service, the
-- identification, and the two bits above "more fragments"
pub record IpFree : Type 0 where
  pub service : ℕ
  pub id : ℕ
  pub high : ℕ

-- as written: don't fragment, and everything else 0
abbrev pub plain_ip : IpFree
plain_ip = record { service = 0; id = 0; high = 1 }

-- the header of 20 octets with that checksum, for a packet with that many octets
abbrev pub ip_header : IpFree → ℕ → ℕ → Ipv4 → Ipv4 → ℕ → List ℕ
ip_header f total ttl src dst checksum =
    69 ∷ f.service ∷ (big_bytes 2 total ++ (big_bytes 2 f.id ++ (big_bytes 2 (f.high * 16384) ++ (ttl ∷ 47 ∷ (big_bytes 2 checksum ++ (src.0 ++ dst.0))))))

-- the checksum that makes it right
abbrev pub ip_checksum : IpFree → ℕ → ℕ → Ipv4 → Ipv4 → ℕ
ip_checksum f total ttl src dst = 65535 - ones_sum (word_sum (ip_header f total ttl src dst 0))

abbrev pub protocol_of : Kind → ℕ
protocol_of Mpls = mpls_type
protocol_of Configured = bier_type

-- no flags, version 0, and what follows
abbrev pub gre : Kind → List ℕ
gre kind = 0 ∷ 0 ∷ big_bytes 2 (protocol_of kind)

-- the octets before the carried ones
unfoldable pub tunnel_head : TunnelPacket → List ℕ
tunnel_head t =
    ip_header plain_ip (24 + length t.carried) t.ttl t.src t.dst (ip_checksum plain_ip (24 + length t.carried) t.ttl t.src t.dst)
    ++ gre t.inner

abbrev pub tunnel : TunnelPacket → List ℕ
tunnel t = tunnel_head t ++ t.carried

pub record TunnelFits (t : TunnelPacket) : Type 0 where
  pub src : length t.src.0 ≡ 4
  pub dst : length t.dst.0 ≡ 4
  pub ttl : t.ttl < 256
  pub size : 24 + length t.carried < 65536

-- The octets are a tunnel packet: with a right checksum, and octets after the total length, which are ignored.
pub record IsTunnel (octets : List ℕ) (t : TunnelPacket) : Type 0 where
  pub free : IpFree
  pub checksum : ℕ
  pub rest : List ℕ
  pub high : free.high < 4
  pub spelled : octets ≡ ip_header free (24 + length t.carried) t.ttl t.src t.dst checksum ++ (gre t.inner ++ (t.carried ++ rest))
  pub right : ones_sum (word_sum (ip_header free (24 + length t.carried) t.ttl t.src t.dst checksum)) ≡ 65535
  pub fits : TunnelFits t

-- ---- parsing

abbrev pub total_of : List ℕ → ℕ
total_of octets = big_number 2 (drop 2 octets)

abbrev pub tunnel_of : Kind → List ℕ → TunnelPacket
tunnel_of kind octets =
    record {
      src = record { 0 = take 4 (drop 12 octets) };
      dst = record { 0 = take 4 (drop 16 octets) };
      ttl = slice_index octets 8;
      inner = kind;
      carried = drop 24 (take (total_of octets) octets);
    }

abbrev pub gre_at : List ℕ → Result TunnelPacket IpFault
gre_at octets =
    if nat_lt (total_of octets) 24 then Err faults.GreShort else
    if not (big_number 2 (drop 20 octets) == 0) then Err faults.GreFlags else
    if big_number 2 (drop 22 octets) == mpls_type then Ok (tunnel_of Mpls octets) else
    if big_number 2 (drop 22 octets) == bier_type then Ok (tunnel_of Configured octets) else
    Err faults.GreType

-- The tunnel packet at the front, or the first rule that the octets break.
unfoldable pub tunnel_at : List ℕ → Result TunnelPacket IpFault
tunnel_at octets =
    if nat_lt (length octets) 20 then Err faults.Short else
    if not (slice_index octets 0 / 16 == 4) then Err faults.Version else
    if not (slice_index octets 0 % 16 == 5) then Err faults.Options else
    if nat_lt (total_of octets) 20 then Err faults.Length else
    if nat_lt (length octets) (total_of octets) then Err faults.Length else
    if not (is_right_header (take 20 octets)) then Err faults.Checksum else
    if not (big_number 2 (drop 6 octets) % 16384 == 0) then Err faults.Fragment else
    if not (slice_index octets 9 == 47) then Err faults.NotGre else
    gre_at octets

-- ---- forwarding

-- the header with another TTL, and the checksum for it
abbrev pub header_with : List ℕ → ℕ → ℕ → List ℕ
header_with octets ttl checksum =
    take 8 octets ++ (ttl ∷ slice_index octets 9 ∷ (big_bytes 2 checksum ++ take 8 (drop 12 octets)))

-- A tunnel packet forwarded with that TTL: within its total length nothing else changes.
unfoldable pub tunnel_on : List ℕ → ℕ → List ℕ
tunnel_on octets ttl =
    header_with octets ttl (65535 - ones_sum (word_sum (header_with octets ttl 0)))
    ++ drop 20 (take (total_of octets) octets)
