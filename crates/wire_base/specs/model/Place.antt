-- The set and the bit position of a BFR-id in a packet (RFC 8279, 3), and the meaning of a BIFT-id at a
-- router (RFC 8279, 6.4; RFC 8296, 2.1.1 and 2.2.1; RFC 8401, 6.2).
use Rattle.std.specs.Prelude.{◌≡◌, ℕ, Bool, true, false, List, [], ◌∷◌, ◌++◌, map, Option, Some, None, ◌==◌, ◌&&◌, nat_le, ◌≤◌, is_some, option_map, ◌+◌, ◌-◌, ◌*◌, ◌/◌, ◌%◌, if◌then◌else◌}
use Rattle.std.specs.List.{Contains, flat_map}
use Rattle.wire_base.specs.declared.bsl.Bsl.{Bsl}
use Rattle.wire_base.specs.declared.bsl.Bsl.TheVariants.{B64, B128, B256, B512, B1024, B2048, B4096}
use Rattle.wire_base.specs.declared.triple.Triple.{Triple}
use Rattle.wire_base.specs.declared.conf.Kind.{Kind}
use Rattle.wire_base.specs.declared.conf.Kind.TheVariants.{Mpls, Configured}
use Rattle.wire_base.specs.declared.conf.LabelRange.{LabelRange}
use Rattle.wire_base.specs.declared.conf.OwnSub.{OwnSub}
use Rattle.wire_base.specs.declared.conf.PastRange.{PastRange}
use Rattle.wire_base.specs.declared.conf.SubKind.{SubKind}
use Rattle.wire_base.specs.declared.conf.TableRow.{TableRow}
use Rattle.wire_base.specs.declared.conf.RouterConf.{RouterConf}
use Rattle.wire_base.specs.model.Lists.{or_else}

-- the length in bits of a BitString (RFC 8296, 2.1.2)
abbrev pub bits_of : Bsl → ℕ
bits_of B64 = 64
bits_of B128 = 128
bits_of B256 = 256
bits_of B512 = 512
bits_of B1024 = 1024
bits_of B2048 = 2048
bits_of B4096 = 4096

-- the BSL with that many bits
abbrev pub bsl_with : ℕ → Option Bsl
bsl_with n =
    if n == 64 then Some B64 else
    if n == 128 then Some B128 else
    if n == 256 then Some B256 else
    if n == 512 then Some B512 else
    if n == 1024 then Some B1024 else
    if n == 2048 then Some B2048 else
    if n == 4096 then Some B4096 else
    None

-- the code of a BSL in headers and advertisements (RFC 8296, 2.1.2; RFC 8401, 6.2)
abbrev pub code_of : Bsl → ℕ
code_of B64 = 1
code_of B128 = 2
code_of B256 = 3
code_of B512 = 4
code_of B1024 = 5
code_of B2048 = 6
code_of B4096 = 7

-- the BSL with that code
abbrev pub bsl_coded : ℕ → Option Bsl
bsl_coded n =
    if n == 1 then Some B64 else
    if n == 2 then Some B128 else
    if n == 3 then Some B256 else
    if n == 4 then Some B512 else
    if n == 5 then Some B1024 else
    if n == 6 then Some B2048 else
    if n == 7 then Some B4096 else
    None

-- the set identifier of a BFR-id, from 0, where BitStrings have that many bits
abbrev pub set_identifier : ℕ → ℕ → ℕ
set_identifier bits k = (k - 1) / bits

-- its bit position, from 1
abbrev pub bit_position : ℕ → ℕ → ℕ
bit_position bits k = (k - 1) % bits + 1

-- both; none for the id 0
abbrev pub place : ℕ → ℕ → Option (ℕ × ℕ)
place bits k = if k == 0 then None else Some (set_identifier bits k, bit_position bits k)

-- the position of a BFR-id in packets of a triple, where it is in the triple's set
abbrev pub position_in : Triple → ℕ → Option ℕ
position_in t k = if k == 0 then None else if set_identifier (bits_of t.bsl) k == t.si then Some (bit_position (bits_of t.bsl) k) else None

-- the BFR-id at a position of a triple; a number above 65,535 is no BFR-id
abbrev pub id_at : Triple → ℕ → ℕ
id_at t p = t.si * bits_of t.bsl + p

-- whether two triples are equal
abbrev pub same_triple : Triple → Triple → Bool
same_triple a b = (a.sd == b.sd) && ((code_of a.bsl == code_of b.bsl) && (a.si == b.si))

-- the kind of a sub-domain
abbrev pub kind_of : List SubKind → ℕ → Option Kind
kind_of [] sd = None
kind_of (k ∷ kinds) sd = if k.sd == sd then Some k.kind else kind_of kinds sd

-- a router's configuration in a sub-domain, where it is in it
abbrev pub sub_in : List OwnSub → ℕ → Option OwnSub
sub_in [] sd = None
sub_in (s ∷ subs) sd = if s.sd == sd then Some s else sub_in subs sd

-- its label ranges there
abbrev pub ranges_in : List OwnSub → ℕ → Option (List LabelRange)
ranges_in subs sd = option_map (λ s. s.ranges) (sub_in subs sd)

-- the label of a set in the range of its BSL
abbrev pub label_in : List LabelRange → Triple → Option ℕ
label_in [] t = None
label_in (x ∷ xs) t = if code_of x.bsl == code_of t.bsl then (if nat_le t.si x.max_si then Some (x.label + t.si) else None) else label_in xs t

-- the BIFT-id of a triple in the configured table
abbrev pub row_in : List TableRow → Triple → Option ℕ
row_in [] t = None
row_in (row ∷ rows) t = if same_triple row.triple t then Some row.bift else row_in rows t

-- in a sub-domain of that kind, at a router with those ranges in it
abbrev pub bift_by : Option Kind → List TableRow → List LabelRange → Triple → Option ℕ
bift_by None table ranges t = None
bift_by (Some Mpls) table ranges t = label_in ranges t
bift_by (Some Configured) table ranges t = row_in table t

-- The BIFT-id of a triple at a router: in an MPLS sub-domain the label of its set, in a non-MPLS one that of the
-- configured table. The kinds and the table are the domain's. The ranges are the router's in the triple's sub-domain,
-- none where it is not in it. Where there is no BIFT-id the router does not cover the triple.
abbrev pub bift_of : List SubKind → List TableRow → Option (List LabelRange) → Triple → Option ℕ
bift_of kinds table None t = None
bift_of kinds table (Some ranges) t = bift_by (kind_of kinds t.sd) table ranges t

-- whether a router with those ranges in the triple's sub-domain covers the triple
abbrev pub covers : List SubKind → List TableRow → Option (List LabelRange) → Triple → Bool
covers kinds table ranges t = is_some (bift_of kinds table ranges t)

-- the BIFT-id of a triple at a router, by its configuration
abbrev pub own_bift : RouterConf → Triple → Option ℕ
own_bift r t = bift_of r.kinds r.table (ranges_in r.subs t.sd) t

-- ---- the meaning of a BIFT-id that arrives

-- the sub-domains that a router is in, and those that it left
abbrev pub known_subs : RouterConf → List OwnSub
known_subs r = r.subs ++ r.away

-- label ranges, each with its sub-domain
abbrev pub placed : ℕ → List LabelRange → List PastRange
placed sd ranges = map (λ x. record { sd = sd; range = x }) ranges

abbrev pub ranges_of : List OwnSub → List PastRange
ranges_of subs = flat_map (λ s. placed s.sd s.ranges) subs

-- All label ranges that have a meaning at a router: those of its sub-domains, those of the sub-domains that it left, and
-- those that it had before it was given others. Packets that were sent with any of their labels may still arrive.
abbrev pub known_ranges : RouterConf → List PastRange
known_ranges r = ranges_of r.subs ++ (ranges_of r.away ++ r.past)

-- the label is that of the triple in one of those ranges
pub record IsLabel (ranges : List PastRange) (label : ℕ) (t : Triple) : Type 0 where
  pub range : PastRange
  pub known : Contains ranges range
  pub sd : range.sd ≡ t.sd
  pub bsl : range.range.bsl ≡ t.bsl
  pub si : t.si ≤ range.range.max_si
  pub is : range.range.label + t.si ≡ label

-- the BIFT-id is that of the triple in the configured table, in a sub-domain that the router is in or left
pub record IsRow (r : RouterConf) (bift : ℕ) (t : Triple) : Type 0 where
  pub sub : is_some (sub_in (known_subs r) t.sd) ≡ true
  pub row : row_in r.table t ≡ Some bift

abbrev pub StandsFor : RouterConf → Kind → ℕ → Triple → Type 0
StandsFor r Mpls bift t = IsLabel (known_ranges r) bift t
StandsFor r Configured bift t = IsRow r bift t

-- the BIFT-id of that kind means the triple at the router
pub record IsMeaning (r : RouterConf) (kind : Kind) (bift : ℕ) (t : Triple) : Type 0 where
  pub kind_is : kind_of r.kinds t.sd ≡ Some kind
  pub bift_is : StandsFor r kind bift t

-- whether a number is among the labels of a range
abbrev pub is_label_of : ℕ → LabelRange → Bool
is_label_of label x = nat_le x.label label && nat_le label (x.label + x.max_si)

-- whether a sub-domain is of that kind
abbrev pub is_mpls : Option Kind → Bool
is_mpls None = false
is_mpls (Some Mpls) = true
is_mpls (Some Configured) = false

abbrev pub is_configured : Option Kind → Bool
is_configured None = false
is_configured (Some Mpls) = false
is_configured (Some Configured) = true

-- the triple of a label in a range of an MPLS sub-domain, where it is in the range
abbrev pub triple_of : List SubKind → PastRange → ℕ → Option Triple
triple_of kinds x label =
    if is_mpls (kind_of kinds x.sd) && is_label_of label x.range
    then Some (record { sd = x.sd; bsl = x.range.bsl; si = label - x.range.label })
    else None

-- the triple of a label in the first of those ranges that has it
abbrev pub labelled : List SubKind → List PastRange → ℕ → Option Triple
labelled kinds [] label = None
labelled kinds (x ∷ xs) label = or_else (triple_of kinds x label) (labelled kinds xs label)

-- whether an entry of the configured table gives the meaning of that BIFT-id in one of those sub-domains
abbrev pub tells : List SubKind → List OwnSub → ℕ → TableRow → Bool
tells kinds subs bift row = (row.bift == bift) && (is_configured (kind_of kinds row.triple.sd) && is_some (sub_in subs row.triple.sd))

-- the triple of a BIFT-id in the configured table
abbrev pub written : List SubKind → List OwnSub → List TableRow → ℕ → Option Triple
written kinds subs [] bift = None
written kinds subs (row ∷ rows) bift = if tells kinds subs bift row then Some row.triple else written kinds subs rows bift

-- The meaning of a BIFT-id of that kind at a router. At a sound one it is the only triple that has the BIFT-id.
unfoldable pub means : RouterConf → Kind → ℕ → Option Triple
means r Mpls bift = labelled r.kinds (known_ranges r) bift
means r Configured bift = written r.kinds (known_subs r) r.table bift

-- the BFR-id of a router in a sub-domain; 0 is none (RFC 8279, 2)
abbrev pub id_of : Option OwnSub → Option ℕ
id_of None = None
id_of (Some s) = if s.id == 0 then None else Some s.id

-- a router's own BFR-id in a sub-domain
abbrev pub own_id : RouterConf → ℕ → Option ℕ
own_id r sd = id_of (sub_in r.subs sd)
