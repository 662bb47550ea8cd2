-- The conditions for a sound router configuration and for a valid domain.
use Rattle.std.specs.Prelude.{◌≡◌, ℕ, ◌+◌, ◌*◌, ◌%◌, ◌<◌, ◌≤◌, Bool, true, false, ◌==◌, ◌&&◌, ◌||◌, nat_le, List, [], ◌∷◌, length, slice_index, slice_get, sum_by, filter_map, Option, Some, None, if◌then◌else◌}
use Rattle.std.specs.List.{AllByRecursion, list_all}
use Rattle.std.specs.Str.{bytes_eq}
use Rattle.wire_base.specs.declared.limits.TheConstants.{LAST_LABEL, MOST_ENDS, MOST_RELABELS, MOST_ROUTERS, MOST_SUB_OCTETS, MOST_SUBDOMAINS, MOST_TABLE_ROWS}
use Rattle.wire_base.specs.declared.addresses.SystemId.{SystemId}
use Rattle.wire_base.specs.declared.conf.Kind.{Kind}
use Rattle.wire_base.specs.declared.conf.Kind.TheVariants.{Mpls, Configured}
use Rattle.wire_base.specs.declared.conf.LabelRange.{LabelRange}
use Rattle.wire_base.specs.declared.conf.OwnSub.{OwnSub}
use Rattle.wire_base.specs.declared.conf.PastRange.{PastRange}
use Rattle.wire_base.specs.declared.conf.SubKind.{SubKind}
use Rattle.wire_base.specs.declared.conf.TableRow.{TableRow}
use Rattle.wire_base.specs.declared.conf.End.{End}
use Rattle.wire_base.specs.declared.conf.LinkConf.{LinkConf}
use Rattle.wire_base.specs.declared.conf.RouterConf.{RouterConf}
use Rattle.wire_base.specs.model.Lists.{AreApart}
use Rattle.wire_base.specs.model.Place.{code_of, same_triple, kind_of, known_subs, known_ranges}

-- ---- values

-- that many octets
pub record IsOctets (n : ℕ) (octets : List ℕ) : Type 0 where
  pub long : length octets ≡ n
  pub each : AllByRecursion (λ o. o < 256) octets

-- an area address has 1 to 13 octets (ISO/IEC 10589, 7.1)
pub record IsArea (octets : List ℕ) : Type 0 where
  pub some : 1 ≤ length octets
  pub few : length octets ≤ 13
  pub each : AllByRecursion (λ o. o < 256) octets

abbrev pub is_between : ℕ → ℕ → ℕ → Bool
is_between low high x = nat_le low x && nat_le x high

abbrev pub is_letter : ℕ → Bool
is_letter x = is_between 65 90 x || is_between 97 122 x

-- a letter, a digit, an underscore or a hyphen
abbrev pub is_name_octet : ℕ → Bool
is_name_octet x = is_letter x || (is_between 48 57 x || ((x == 95) || (x == 45)))

-- a name is a letter and at most 31 letters, digits, underscores or hyphens
abbrev pub is_name : List ℕ → Bool
is_name [] = false
is_name (x ∷ xs) = is_letter x && (list_all is_name_octet xs && nat_le (length xs) 31)

-- a prefix is a unicast address
pub record IsPrefix (octets : List ℕ) : Type 0 where
  pub octets_are : IsOctets 4 octets
  pub first : 1 ≤ slice_index octets 0
  pub one_router : slice_index octets 0 ≤ 223

-- a unicast Ethernet address: its first octet is even (IEEE 802.3, 3.2.3)
pub record IsStation (octets : List ℕ) : Type 0 where
  pub octets_are : IsOctets 6 octets
  pub one_station : slice_index octets 0 % 2 ≡ 0

-- labels below 16 have fixed meanings, and a label has 20 bits (RFC 3032, 2.1)
pub record IsLabelRange (x : LabelRange) : Type 0 where
  pub max_si : x.max_si < 256
  pub first : 16 ≤ x.label
  pub last : x.label + x.max_si ≤ LAST_LABEL

pub record IsTableRow (row : TableRow) : Type 0 where
  pub sd : row.triple.sd < 256
  pub si : row.triple.si < 256
  pub some : 1 ≤ row.bift
  pub last : row.bift ≤ LAST_LABEL

-- the metric is below the one that excludes a link from paths (RFC 5305, 3)
pub record IsEnd (e : End) : Type 0 where
  pub peer : IsOctets 6 e.peer.0
  pub peer_mac : IsStation e.peer_mac.0
  pub own_mac : IsStation e.own_mac.0
  pub some : 1 ≤ e.metric
  pub last : e.metric ≤ 16777214

-- ---- what differs

abbrev pub same_length : LabelRange → LabelRange → Bool
same_length x y = code_of x.bsl == code_of y.bsl

abbrev pub share_label : LabelRange → LabelRange → Bool
share_label x y = nat_le x.label (y.label + y.max_si) && nat_le y.label (x.label + x.max_si)

abbrev pub share_range : PastRange → PastRange → Bool
share_range x y = share_label x.range y.range

abbrev pub same_sub : OwnSub → OwnSub → Bool
same_sub s t = s.sd == t.sd

abbrev pub same_kind : SubKind → SubKind → Bool
same_kind k l = k.sd == l.sd

abbrev pub same_row : TableRow → TableRow → Bool
same_row row other = same_triple row.triple other.triple

abbrev pub same_bift : TableRow → TableRow → Bool
same_bift row other = row.bift == other.bift

abbrev pub same_peer : End → End → Bool
same_peer e f = bytes_eq e.peer.0 f.peer.0

abbrev pub same_peer_mac : End → End → Bool
same_peer_mac e f = bytes_eq e.peer_mac.0 f.peer_mac.0

-- ---- a router

-- the size in octets of a router's sub-domains in its own LSP, beside the prefix
unfoldable pub sub_octets : List OwnSub → ℕ
sub_octets subs = sum_by (λ s. 7 + 6 * length s.ranges) subs

-- a router in a sub-domain
pub record IsOwnSub (s : OwnSub) : Type 0 where
  pub sd : s.sd < 256
  pub id : s.id < 65536
  pub few : length s.ranges ≤ 7
  pub each : AllByRecursion IsLabelRange s.ranges
  pub lengths : AreApart same_length s.ranges

pub record IsPastRange (x : PastRange) : Type 0 where
  pub sd : x.sd < 256
  pub range : IsLabelRange x.range

-- A configuration is sound if each value has its range and form; if what must differ does; if no two label ranges
-- share a label, including those of two sub-domains, those of sub-domains that the router left, and those that it had
-- earlier; and if the router's own LSP has room for its sub-domains, also once it has joined again what it left.
pub record IsSound (r : RouterConf) : Type 0 where
  pub area : IsArea r.area
  pub name : is_name r.name ≡ true
  pub system : IsOctets 6 r.system.0
  pub prefix : IsPrefix r.prefix.0
  pub few_subs : length (known_subs r) ≤ MOST_SUBDOMAINS
  pub subs : AllByRecursion IsOwnSub (known_subs r)
  pub subdomains : AreApart same_sub (known_subs r)
  pub few_past : length r.past ≤ MOST_RELABELS
  pub past : AllByRecursion IsPastRange r.past
  pub labels : AreApart share_range (known_ranges r)
  pub room : sub_octets (known_subs r) ≤ MOST_SUB_OCTETS
  pub kinds : AllByRecursion (λ k. k.sd < 256) r.kinds
  pub kinds_once : AreApart same_kind r.kinds
  pub rows : AllByRecursion IsTableRow r.table
  pub triples : AreApart same_row r.table
  pub bifts : AreApart same_bift r.table
  pub few_ends : length r.ends ≤ MOST_ENDS
  pub ends : AllByRecursion IsEnd r.ends
  pub peers : AreApart same_peer r.ends
  pub peer_macs : AreApart same_peer_mac r.ends

-- ---- a domain

-- A domain: its routers by index, and its links, each given by the indices of the two routers that it connects.
pub record DomainConf : Type 0 where
  pub routers : List RouterConf
  pub links : List LinkConf

abbrev pub same_name : RouterConf → RouterConf → Bool
same_name r q = bytes_eq r.name q.name

abbrev pub same_system : RouterConf → RouterConf → Bool
same_system r q = bytes_eq r.system.0 q.system.0

abbrev pub same_prefix : RouterConf → RouterConf → Bool
same_prefix r q = bytes_eq r.prefix.0 q.prefix.0

-- the values that all routers of a domain have in common
pub record IsAlike (r q : RouterConf) : Type 0 where
  pub level : q.level ≡ r.level
  pub area : q.area ≡ r.area
  pub kinds : q.kinds ≡ r.kinds
  pub table : q.table ≡ r.table

abbrev pub AreAlike : List RouterConf → Type 0
AreAlike [] = Unit {0}
AreAlike (r ∷ rs) = AllByRecursion (IsAlike r) rs

-- only an MPLS sub-domain may have label ranges
abbrev pub MayStand : Option Kind → List LabelRange → Type 0
MayStand None ranges = ⊥
MayStand (Some Mpls) ranges = Unit {0}
MayStand (Some Configured) ranges = ranges ≡ []

-- each sub-domain of a router has a kind, and only non-MPLS sub-domains have entries in the configured table
pub record KeepsKinds (r : RouterConf) : Type 0 where
  pub subs : AllByRecursion (λ s. MayStand (kind_of r.kinds s.sd) s.ranges) (known_subs r)
  pub rows : AllByRecursion (λ row. kind_of r.kinds row.triple.sd ≡ Some Configured) r.table

-- a link connects two different routers
pub record IsLink (routers : ℕ) (l : LinkConf) : Type 0 where
  pub a : l.a < routers
  pub b : l.b < routers
  pub differ : (l.a == l.b) ≡ false

-- whether two links connect the same two routers
abbrev pub same_pair : LinkConf → LinkConf → Bool
same_pair l m = ((l.a == m.a) && (l.b == m.b)) || ((l.a == m.b) && (l.b == m.a))

-- the router at the other side of a link, where one side is that router
abbrev pub other_end : ℕ → LinkConf → Option ℕ
other_end i l = if l.a == i then Some l.b else if l.b == i then Some l.a else None

-- the routers that a router's links lead to, in the order of the links
abbrev pub peers_of : ℕ → List LinkConf → List ℕ
peers_of i links = filter_map (other_end i) links

-- the first interface of a router with that peer
abbrev pub end_to : List End → SystemId → Option End
end_to [] peer = None
end_to (e ∷ es) peer = if bytes_eq e.peer.0 peer.0 then Some e else end_to es peer

-- the two interfaces of a link have each other's Ethernet addresses
abbrev pub IsBack : End → Option End → Type 0
IsBack e None = ⊥
IsBack e (Some f) = (f.peer_mac ≡ e.own_mac) × (f.own_mac ≡ e.peer_mac)

-- an interface has the router that its link leads to as its peer, and that router has an interface toward this one
abbrev pub Faces : RouterConf → End → Option RouterConf → Type 0
Faces r e None = ⊥
Faces r e (Some q) = (e.peer ≡ q.system) × IsBack e (end_to q.ends r.system)

-- the interfaces of a router whose links lead to the routers at those indices
abbrev pub AreEnds : List RouterConf → RouterConf → List ℕ → List End → Type 0
AreEnds routers r [] [] = Unit {0}
AreEnds routers r [] (e ∷ es) = ⊥
AreEnds routers r (p ∷ ps) [] = ⊥
AreEnds routers r (p ∷ ps) (e ∷ es) = Faces r e (slice_get routers p) × AreEnds routers r ps es

-- of each router, from index i on
abbrev pub HaveEnds : DomainConf → ℕ → List RouterConf → Type 0
HaveEnds d i [] = Unit {0}
HaveEnds d i (r ∷ rs) = AreEnds d.routers r (peers_of i d.links) r.ends × HaveEnds d (i + 1) rs

-- The configurations of a domain's routers are sound, and agree and differ where they must. BFR-ids may repeat between
-- routers.
pub record IsConsistent (d : DomainConf) : Type 0 where
  pub some : 1 ≤ length d.routers
  pub few : length d.routers ≤ MOST_ROUTERS
  pub sound : AllByRecursion IsSound d.routers
  pub few_kinds : AllByRecursion (λ r. length r.kinds ≤ MOST_SUBDOMAINS) d.routers
  pub few_rows : AllByRecursion (λ r. length r.table ≤ MOST_TABLE_ROWS) d.routers
  pub names : AreApart same_name d.routers
  pub systems : AreApart same_system d.routers
  pub prefixes : AreApart same_prefix d.routers
  pub alike : AreAlike d.routers
  pub kinds : AllByRecursion KeepsKinds d.routers
  pub links : AllByRecursion (IsLink (length d.routers)) d.links
  pub links_once : AreApart same_pair d.links
  pub ends : HaveEnds d 0 d.routers

-- the router has left no sub-domain, and has had no other label ranges
pub record IsUnchanged (r : RouterConf) : Type 0 where
  pub away : r.away ≡ []
  pub past : r.past ≡ []

-- The conditions for a valid domain, as a domain file describes it.
pub record IsValid (d : DomainConf) : Type 0 where
  pub consistent : IsConsistent d
  pub unchanged : AllByRecursion IsUnchanged d.routers
