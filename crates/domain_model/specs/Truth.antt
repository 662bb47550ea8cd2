-- The invariant of a domain: LSDBs and PDUs match what its routers advertise, and each copy of a packet carries the
-- BIFT-id that its target assigns to the packet's triple (RFC 8279, 6.4; RFC 8296, 2.1.1 and 2.2.1; RFC 8401, 6;
-- ISO/IEC 10589, 7.3.7 and 7.3.16).
--
-- This depends on two facts of a run: a router's BFR-id in a sub-domain never changes, and none of its labels ever has a
-- second meaning. A restart keeps both.
use Rattle.std.specs.Prelude.{◌≡◌, ℕ, ◌+◌, ◌*◌, ◌^◌, ◌<◌, ◌≤◌, ◌⊎◌, Bool, false, List, [], length, map, slice_get, Option, Some, None}
use Rattle.std.specs.List.{AllByRecursion}
use Rattle.wire_base.specs.declared.limits.TheConstants.{MOST_PAYLOAD}
use Rattle.wire_base.specs.declared.addresses.SystemId.{SystemId}
use Rattle.wire_base.specs.declared.addresses.Ipv4.{Ipv4}
use Rattle.wire_base.specs.declared.addresses.LspId.{LspId}
use Rattle.wire_base.specs.declared.cause.Cause.{Cause}
use Rattle.wire_base.specs.declared.cause.Cause.TheVariants as cause
use Rattle.wire_base.specs.declared.conf.RouterConf.{RouterConf}
use Rattle.wire_base.specs.declared.entry.Entry.{Entry}
use Rattle.wire_base.specs.declared.triple.Summary.{Summary}
use Rattle.wire_base.specs.declared.triple.Triple.{Triple}
use Rattle.wire_base.specs.model.BitSet.{IsWithin}
use Rattle.wire_base.specs.model.Configuration.{DomainConf, IsConsistent, IsValid}
use Rattle.wire_base.specs.model.Control.{Control, Flood, entry_in, seq_of, fragment_0, srm}
use Rattle.wire_base.specs.model.Flooding.{last_sequence, most_listed}
use Rattle.wire_base.specs.model.Item.{Item, ControlItem, PacketItem, DataItem, Outer, target_of}
use Rattle.wire_base.specs.model.OwnLsp.{own_content, own_flags, full_life}
use Rattle.wire_base.specs.model.Pdu.{Head, Pdu, LspPdu, CsnpPdu, PsnpPdu, HelloPdu, OtherPdu, lsp_sum, row_tlvs}
use Rattle.wire_base.specs.model.Place.{bits_of, means}
use Rattle.wire_base.specs.model.Tlv.{LspIdFits}
use Rattle.laws_router.specs.Becoming.{IsEarlier, HaveBecome}
use Rattle.laws_router.specs.State.{IsRouter}
use Rattle.replay_text.specs.declared.event.Event.{Event}
use Rattle.replay_text.specs.declared.event.Event.TheVariants.{Inject, Take, Lose, Again, Down, Up, Send, Tick, Restart, Relabel, Leave, Join}
use Rattle.domain_model.specs.declared.lines.DropLine.{DropLine}
use Rattle.domain_model.specs.World.{WorldState, peer_place, queue_at}
use Rattle.domain_model.specs.Faults.{most_events}

-- ---- LSPs

-- one of the routers
pub record IsAmong (confs : List RouterConf) (r : RouterConf) : Type 0 where
  pub place : ℕ
  pub there : slice_get confs place ≡ Some r

-- the LSP ID is that of the fragment 0 of one of the routers
pub record IsNamed (confs : List RouterConf) (id : LspId) : Type 0 where
  pub router : RouterConf
  pub among : IsAmong confs router
  pub is : id ≡ fragment_0 router.system

-- A live LSP contains what its router advertises, or did with an earlier configuration, with some of its interfaces up, and
-- its checksum is right. Here `now` is the router's configuration, and `router` the one when the LSP was originated.
pub record IsOwnLsp (confs : List RouterConf) (h : Head) (tlvs : List ℕ) : Type 0 where
  pub now : RouterConf
  pub among : IsAmong confs now
  pub router : RouterConf
  pub earlier : IsEarlier router now
  pub is : h.id ≡ fragment_0 router.system
  pub up : List Bool
  pub ends : length up ≡ length router.ends
  pub content : tlvs ≡ own_content router up
  pub flags : h.flags ≡ own_flags router
  pub sum : h.sum ≡ lsp_sum h tlvs
  pub live : 0 < h.life
  pub fresh : h.life ≤ full_life
  pub some : 0 < h.seq

-- an expired LSP has no content
pub record IsDeadLsp (h : Head) (tlvs : List ℕ) : Type 0 where
  pub dead : h.life ≡ 0
  pub sum : h.sum ≡ 0
  pub flags : h.flags ≡ 0
  pub empty : tlvs ≡ []

pub record IsTrueLsp (confs : List RouterConf) (h : Head) (tlvs : List ℕ) : Type 0 where
  pub named : IsNamed confs h.id
  pub seq : h.seq ≤ last_sequence
  pub says : IsOwnLsp confs h tlvs ⊎ IsDeadLsp h tlvs

-- ---- LSDBs

abbrev pub head_of : Entry → Head
head_of e = record { life = e.life; id = e.id; seq = e.seq; sum = e.sum; flags = e.flags }

abbrev pub IsTrueEntry : List RouterConf → Entry → Type 0
IsTrueEntry confs e = IsTrueLsp confs (head_of e) e.content

-- what has no entry, or one of sequence number 0, which only requests an LSP, is to be sent nowhere
abbrev pub IsUnsent : Flood → List Entry → Type 0
IsUnsent f entries = (id : LspId) (link : ℕ) → seq_of (entry_in entries id) ≡ 0 → srm f id link ≡ false

pub record IsTrueControl (confs : List RouterConf) (c : Control) : Type 0 where
  pub among : IsAmong confs c.conf
  pub kept : IsRouter c
  pub entries : AllByRecursion (IsTrueEntry confs) c.entries
  pub unsent : IsUnsent c.flood c.entries

-- ---- PDUs in flight

-- a row of a sequence numbers PDU
pub record IsTrueRow (confs : List RouterConf) (s : Summary) : Type 0 where
  pub named : IsNamed confs s.id
  pub life : s.life ≤ full_life
  pub seq : s.seq ≤ last_sequence
  pub sum : s.sum < 2 ^ 16

-- the TLVs list such rows, and no more than fit one PDU
pub record IsTrueList (confs : List RouterConf) (tlvs : List ℕ) : Type 0 where
  pub rows : List Summary
  pub spelled : tlvs ≡ row_tlvs rows
  pub few : length rows ≤ most_listed
  pub each : AllByRecursion (IsTrueRow confs) rows

-- the source system is one of the routers
pub record IsSource (confs : List RouterConf) (system : SystemId) : Type 0 where
  pub router : RouterConf
  pub among : IsAmong confs router
  pub is : system ≡ router.system

pub record IsTrueLspPdu (confs : List RouterConf) (h : Head) (tlvs : List ℕ) : Type 0 where
  pub says : IsTrueLsp confs h tlvs
  pub some : 0 < h.seq

pub record IsTrueCsnp (confs : List RouterConf) (system : SystemId) (start last : LspId) (tlvs : List ℕ) : Type 0 where
  pub source : IsSource confs system
  pub start_fits : LspIdFits start
  pub last_fits : LspIdFits last
  pub lists : IsTrueList confs tlvs

pub record IsTruePsnp (confs : List RouterConf) (system : SystemId) (tlvs : List ℕ) : Type 0 where
  pub source : IsSource confs system
  pub lists : IsTrueList confs tlvs

abbrev pub IsTruePdu : List RouterConf → Pdu → Type 0
IsTruePdu confs (LspPdu h tlvs) = IsTrueLspPdu confs h tlvs
IsTruePdu confs (CsnpPdu system start last tlvs) = IsTrueCsnp confs system start last tlvs
IsTruePdu confs (PsnpPdu system tlvs) = IsTruePsnp confs system tlvs
IsTruePdu confs HelloPdu = ⊥
IsTruePdu confs (OtherPdu number) = ⊥

-- ---- copies of packets in flight

-- at that router the BIFT-id selects the triple
abbrev pub MeansAt : Option RouterConf → DataItem → Type 0
MeansAt None x = ⊥
MeansAt (Some q) x = means q x.kind x.bift ≡ Some x.triple

abbrev pub router_at : List RouterConf → Option ℕ → Option RouterConf
router_at confs None = None
router_at confs (Some place) = slice_get confs place

-- Its BFR-ids, from 1 on, are in ascending order in the triple's set (RFC 8279, 3).
abbrev pub AreOfSet : Triple → List ℕ → Type 0
AreOfSet t ks = IsWithin (t.si * bits_of t.bsl) (t.si * bits_of t.bsl + bits_of t.bsl) ks

-- the prefix of one of the routers
pub record IsPrefixOf (confs : List RouterConf) (p : Ipv4) : Type 0 where
  pub router : RouterConf
  pub among : IsAmong confs router
  pub is : p ≡ router.prefix

-- a tunnel from one router to another, whose TTL has not expired
pub record IsTunnelAmong (confs : List RouterConf) (o : Outer) : Type 0 where
  pub src : IsPrefixOf confs o.src
  pub dst : IsPrefixOf confs o.dst
  pub lives : 1 ≤ o.ttl
  pub ttl : o.ttl < 2 ^ 8

abbrev pub OuterFits : List RouterConf → Option Outer → Type 0
OuterFits confs None = Unit {0}
OuterFits confs (Some o) = IsTunnelAmong confs o

-- A copy in flight to the router at index b, after that many injections: it has a BFR-id and a TTL, its numbers fit
-- their fields, and its BIFT-id selects its triple at its target.
pub record IsTrueCopy (confs : List RouterConf) (injections b : ℕ) (x : DataItem) : Type 0 where
  pub told : 1 ≤ x.number
  pub made : x.number ≤ injections
  pub some : x.ids ≡ [] → ⊥
  pub ids : AreOfSet x.triple x.ids
  pub bfr_ids : AllByRecursion (λ k. k < 2 ^ 16) x.ids
  pub lives : 1 ≤ x.ttl
  pub ttl : x.ttl < 2 ^ 8
  pub entropy : x.entropy < 2 ^ 20
  pub bfir : x.bfir < 2 ^ 16
  pub payload : length x.payload ≤ MOST_PAYLOAD
  pub sd : x.triple.sd < 2 ^ 8
  pub si : x.triple.si < 2 ^ 8
  pub bift : x.bift < 2 ^ 20
  pub outer : OuterFits confs x.outer
  pub means : MeansAt (router_at confs (target_of confs b x)) x

abbrev pub IsTrueItem : List RouterConf → ℕ → ℕ → Item → Type 0
IsTrueItem confs injections b (ControlItem p) = IsTruePdu confs p
IsTrueItem confs injections b (PacketItem x) = IsTrueCopy confs injections b x

-- ---- the domain

-- the domain with its routers as they are configured now
abbrev pub confs_now : WorldState → List RouterConf
confs_now w = map (λ c. c.conf) w.routers

abbrev pub domain_now : WorldState → DomainConf
domain_now w = record w.domain { routers = confs_now w }

-- The invariant that every event preserves, whether or not the routers have learned of each other. What is in LSDBs and in
-- flight is judged by the configurations of now.
pub record IsTruthful (w : WorldState) : Type 0 where
  pub valid : IsValid w.domain
  pub now : IsConsistent (domain_now w)
  pub become : HaveBecome w.domain.routers (confs_now w)
  pub controls : AllByRecursion (IsTrueControl (confs_now w)) w.routers
  pub queues : map (λ qs. length qs) w.flights ≡ map (λ r. length r.ends) w.domain.routers
  pub items : (a link : ℕ) → AllByRecursion (IsTrueItem (confs_now w) w.injections (peer_place w.domain.routers a link)) (queue_at w.flights a link)
  pub injections : w.injections ≤ w.events
  pub events : w.events ≤ most_events

-- ---- events

pub record InjectFits (routers a sd : ℕ) (ks : List ℕ) (ttl entropy : ℕ) (octets : List ℕ) : Type 0 where
  pub place : a < routers
  pub sd_fits : sd < 2 ^ 8
  pub bfr_ids : AllByRecursion (λ k. k < 2 ^ 16) ks
  pub lives : 1 ≤ ttl
  pub ttl_fits : ttl < 2 ^ 8
  pub entropy_fits : entropy < 2 ^ 20
  pub short : length octets ≤ MOST_PAYLOAD

-- the router is in the domain, and the label is not reserved (RFC 3032, 2.1)
pub record RelabelFits (routers a label : ℕ) : Type 0 where
  pub place : a < routers
  pub first : 16 ≤ label

-- the indices are those of routers, and the numbers of an injection fit their fields
abbrev pub EventFits : ℕ → Event → Type 0
EventFits routers (Inject a sd bsl ks ttl entropy octets) = InjectFits routers a sd ks ttl entropy octets
EventFits routers (Take a b i) = (a < routers) × (b < routers)
EventFits routers (Lose a b i) = (a < routers) × (b < routers)
EventFits routers (Again a b i) = (a < routers) × (b < routers)
EventFits routers (Down a b) = (a < routers) × (b < routers)
EventFits routers (Up a b) = (a < routers) × (b < routers)
EventFits routers (Send a b) = (a < routers) × (b < routers)
EventFits routers (Tick a) = a < routers
EventFits routers (Restart a) = a < routers
EventFits routers (Relabel a sd bsl label) = RelabelFits routers a label
EventFits routers (Leave a sd) = a < routers
EventFits routers (Join a sd) = a < routers

-- ---- drops

-- Every frame can be parsed and has a meaning, and no LSDB is full. A drop is for a bit without a row, an expired TTL
-- of the packet or of its tunnel, no route, a loss, or a link that is down.
abbrev pub IsWorldCause : Cause → Type 0
IsWorldCause cause.NoRow = Unit {0}
IsWorldCause cause.Ttl = Unit {0}
IsWorldCause cause.Outer = Unit {0}
IsWorldCause cause.Route = Unit {0}
IsWorldCause cause.Lost = Unit {0}
IsWorldCause cause.Link = Unit {0}
IsWorldCause cause.Label = ⊥
IsWorldCause (cause.Head fault) = ⊥
IsWorldCause (cause.Frame fault) = ⊥
IsWorldCause (cause.Ip fault) = ⊥
IsWorldCause (cause.Pdu fault) = ⊥
IsWorldCause cause.Sequence = ⊥
IsWorldCause cause.Full = ⊥

abbrev pub AreWorldDrops : List DropLine → Type 0
AreWorldDrops drops = AllByRecursion (λ d. IsWorldCause d.cause) drops
