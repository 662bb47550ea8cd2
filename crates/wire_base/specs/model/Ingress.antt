-- Where a packet enters the domain: the packets for a list of BFR-ids, one for each set identifier, and what the
-- router does with them (RFC 8279, 3 and 6.5; RFC 8296, 3).
use Rattle.std.specs.Prelude.{ℕ, ◌+◌, ◌==◌, ◌&&◌, nat_lt, Bool, false, List, [], ◌∷◌, map, filter, find, is_none, Option, Some, None, unwrap_or, if◌then◌else◌}
use Rattle.std.specs.List.{list_any}
use Rattle.wire_base.specs.declared.bsl.Bsl.{Bsl}
use Rattle.wire_base.specs.declared.conf.Kind.{Kind}
use Rattle.wire_base.specs.declared.conf.Kind.TheVariants.{Mpls, Configured}
use Rattle.wire_base.specs.declared.conf.LabelRange.{LabelRange}
use Rattle.wire_base.specs.declared.conf.TableRow.{TableRow}
use Rattle.wire_base.specs.declared.conf.RouterConf.{RouterConf}
use Rattle.wire_base.specs.declared.faults.EdgeFault.{EdgeFault}
use Rattle.wire_base.specs.declared.faults.EdgeFault.TheVariants.{NoEgress, IdZero, SiLarge, NotBfr, BslUnknown}
use Rattle.wire_base.specs.declared.triple.Triple.{Triple}
use Rattle.wire_base.specs.model.BitSet.{with_member}
use Rattle.wire_base.specs.model.Control.{Control}
use Rattle.wire_base.specs.model.Hop.{distinct}
use Rattle.wire_base.specs.model.Item.{ingress_header, positions_of}
use Rattle.wire_base.specs.model.OnFrame.{Effects, joined, Packet, hop_in}
use Rattle.wire_base.specs.model.Place.{bits_of, code_of, set_identifier, kind_of, ranges_in, own_id}

-- ---- the packets

-- the BFR-ids of a list in ascending order, each once
abbrev pub id_set : List ℕ → List ℕ
id_set [] = []
id_set (k ∷ ks) = with_member k (id_set ks)

-- their set identifiers, ascending
abbrev pub sets_of : Bsl → List ℕ → List ℕ
sets_of bsl ids = distinct (map (set_identifier (bits_of bsl)) (id_set ids))

-- the BFR-ids of one set
abbrev pub ids_of_set : Bsl → List ℕ → ℕ → List ℕ
ids_of_set bsl ids si = filter (λ k. set_identifier (bits_of bsl) k == si) (id_set ids)

-- A packet: a triple and BFR-ids of its set, ascending.
pub record IngressPacket : Type 0 where
  pub triple : Triple
  pub ids : List ℕ

abbrev pub packet_for : ℕ → Bsl → List ℕ → ℕ → IngressPacket
packet_for sd bsl ids si = record { triple = record { sd = sd; bsl = bsl; si = si }; ids = ids_of_set bsl ids si }

-- the packets for a list of BFR-ids, by ascending set identifiers
unfoldable pub packets_for : ℕ → Bsl → List ℕ → List IngressPacket
packets_for sd bsl ids = map (packet_for sd bsl ids) (sets_of bsl ids)

-- ---- rejections

abbrev pub is_large : Bsl → ℕ → Bool
is_large bsl k = nat_lt 255 (set_identifier (bits_of bsl) k)

-- whether a router with those ranges in a sub-domain of that kind has a BIFT-id for some set of that BSL
abbrev pub has_length : Option Kind → List TableRow → ℕ → Bsl → Option (List LabelRange) → Bool
has_length kind table sd bsl None = false
has_length None table sd bsl (Some ranges) = false
has_length (Some Mpls) table sd bsl (Some ranges) = list_any (λ x. code_of x.bsl == code_of bsl) ranges
has_length (Some Configured) table sd bsl (Some ranges) = list_any (λ row. (row.triple.sd == sd) && (code_of row.triple.bsl == code_of bsl)) table

abbrev pub supports_length : RouterConf → ℕ → Bsl → Bool
supports_length r sd bsl = has_length (kind_of r.kinds sd) r.table sd bsl (ranges_in r.subs sd)

abbrev pub router_fault : RouterConf → ℕ → Bsl → Option EdgeFault
router_fault r sd bsl = if is_none (own_id r sd) then Some NotBfr else if supports_length r sd bsl then None else Some BslUnknown

abbrev pub large_fault : RouterConf → ℕ → Bsl → Option ℕ → Option EdgeFault
large_fault r sd bsl (Some k) = Some (SiLarge k)
large_fault r sd bsl None = router_fault r sd bsl

abbrev pub ids_fault : RouterConf → ℕ → Bsl → List ℕ → Option EdgeFault
ids_fault r sd bsl ids = if list_any (λ k. k == 0) ids then Some IdZero else large_fault r sd bsl (find (is_large bsl) ids)

-- The first reason for which a router sends no packets to a list of BFR-ids.
unfoldable pub edge_fault : RouterConf → ℕ → Bsl → List ℕ → Option EdgeFault
edge_fault r sd bsl [] = Some NoEgress
edge_fault r sd bsl (k ∷ ks) = ids_fault r sd bsl (k ∷ ks)

-- ---- what the router does

abbrev pub ingress_kind : RouterConf → ℕ → Kind
ingress_kind r sd = unwrap_or (kind_of r.kinds sd) Mpls

abbrev pub entering : RouterConf → ℕ → ℕ → List ℕ → IngressPacket → Packet
entering r ttl entropy payload p =
    record {
      triple = p.triple;
      kind = ingress_kind r p.triple.sd;
      header = ingress_header p.triple (positions_of p.triple p.ids) 0 ttl entropy (unwrap_or (own_id r p.triple.sd) 0);
      payload = payload;
    }

-- A payload enters for a list of BFR-ids: each packet is processed with one more than the given TTL, so that its copies
-- have that TTL.
unfoldable pub inject : Control → ℕ → Bsl → List ℕ → ℕ → ℕ → List ℕ → Effects
inject c sd bsl ids ttl entropy payload = joined (map (λ p. hop_in c (entering c.conf ttl entropy payload p) (ttl + 1)) (packets_for sd bsl ids))
