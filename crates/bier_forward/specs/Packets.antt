-- How a router parses the octets of a BIER packet, and what it does with packets that enter the domain at it.
use Rattle.std.specs.Prelude.{◌≡◌, ℕ, ◌+◌, ◌*◌, ◌/◌, ◌≤◌, nat_lt, true, is_some, List, map, drop, length, Option, Some, None, unwrap_or, Result, Ok, Err, if◌then◌else◌}
use Rattle.std.specs.List.{AllByRecursion}
use Rattle.byteorder.specs.Endian.{big_number}
use Rattle.wire_base.specs.declared.limits.TheConstants.{MOST_FRAME}
use Rattle.wire_base.specs.declared.cause.Cause.{Cause}
use Rattle.wire_base.specs.declared.cause.Cause.TheVariants as cause
use Rattle.wire_base.specs.declared.conf.Kind.{Kind}
use Rattle.wire_base.specs.declared.conf.RouterConf.{RouterConf}
use Rattle.wire_base.specs.declared.faults.HeadFault.{HeadFault}
use Rattle.wire_base.specs.declared.faults.HeadFault.TheVariants as head_fault
use Rattle.wire_base.specs.declared.triple.Triple.{Triple}
use Rattle.wire_base.specs.declared.view.ViewNode.{ViewNode}
use Rattle.wire_base.specs.model.BierHeader.{BierHeader, FieldsFit, header_at, header_length}
use Rattle.wire_base.specs.model.Control.{Control}
use Rattle.wire_base.specs.model.Graph.{edges_of}
use Rattle.wire_base.specs.model.Ingress.{ingress_kind}
use Rattle.wire_base.specs.model.Item.{ingress_header}
use Rattle.wire_base.specs.model.OnFrame.{Effects, Packet, Positions, dropped, hop_at, hop_in, is_not_last, joined, link_to, node_place}
use Rattle.wire_base.specs.model.Place.{means, own_id}
use Rattle.wire_base.specs.model.BitSet.{set_of}
use Rattle.wire_base.specs.model.Place.{bits_of}
use Rattle.bier_head.specs.declared.header.HeaderFields.{HeaderFields}
use Rattle.bier_head.specs.Views.{fields_with}

-- ---- parsing

-- a packet whose header was parsed, with the octets after it
abbrev pub with_header : Kind → Triple → List ℕ → Result BierHeader HeadFault → Result Packet Cause
with_header kind t octets (Ok h) = Ok (record { triple = t; kind = kind; header = h; payload = drop (header_length t.bsl) octets })
with_header kind t octets (Err fault) = Err (cause.Head fault)

abbrev pub with_meaning : Kind → List ℕ → Option Triple → Result Packet Cause
with_meaning kind octets None = Err cause.Label
with_meaning kind octets (Some t) = with_header kind t octets (header_at kind t.bsl octets)

-- The packet in octets at a router, or why it is dropped, the first of these: fewer than four octets, a label that
-- is not the last, a BIFT-id without a meaning, and an invalid header (RFC 8296, 2.1 and 2.2).
unfoldable pub packet_at : RouterConf → Kind → List ℕ → Result Packet Cause
packet_at r kind octets =
    if nat_lt (length octets) 4 then Err (cause.Head head_fault.Short) else
    if is_not_last kind (big_number 4 octets) then Err cause.Label else
    with_meaning kind octets (means r kind (big_number 4 octets / 4096))

-- what the router does with it
abbrev pub packet_done : Control → Result Packet Cause → Effects
packet_done c (Ok p) = hop_in c p p.header.ttl
packet_done c (Err why) = dropped why

-- It is no longer than a frame that a router accepts, so that a tunnel has room for each copy.
abbrev pub IsShort : Packet → Type 0
IsShort p = header_length p.triple.bsl + length p.payload ≤ MOST_FRAME

-- the invariant of a parsed packet: its numbers fit, and its BitString, of which these are the octets, has its triple's length
pub record IsReadable (t : Triple) (h : HeaderFields) (octets : List ℕ) : Type 0 where
  pub fields : FieldsFit (fields_with h (set_of octets))
  pub bsl : h.bsl ≡ t.bsl
  pub whole : 8 * length octets ≡ bits_of t.bsl

-- ---- the hop

-- Each edge of the router's own node in a view leads to the peer of one of its interfaces. This holds for the view of its own
-- control state.
abbrev pub LeadsToEnds : RouterConf → List ViewNode → Type 0
LeadsToEnds r g = AllByRecursion (λ e. is_some (link_to r g e.to) ≡ true) (edges_of g (node_place g r.system))

-- the hop at the router, by a view
abbrev pub hopped : RouterConf → List ViewNode → Packet → ℕ → Effects
hopped r g p ttl = hop_at r g (node_place g r.system) p ttl

-- ---- ingress

-- a packet that enters with those positions
abbrev pub entering_with : RouterConf → ℕ → ℕ → List ℕ → Positions → Packet
entering_with r ttl entropy payload set =
    record {
      triple = set.triple;
      kind = ingress_kind r set.triple.sd;
      header = ingress_header set.triple set.positions 0 ttl entropy (unwrap_or (own_id r set.triple.sd) 0);
      payload = payload;
    }

-- packets that enter, each processed with one more than the given TTL
unfoldable pub entered : RouterConf → List ViewNode → ℕ → ℕ → List ℕ → List Positions → Effects
entered r g ttl entropy payload sets = joined (map (λ set. hopped r g (entering_with r ttl entropy payload set) (ttl + 1)) sets)
