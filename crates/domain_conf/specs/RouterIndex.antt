-- What is kept with the routers read so far, so that a look-up does not scan them.
use Rattle.std.specs.Prelude.{◌≡◌, ℕ, ◌≤◌, List, length, Option, Vec}
use Rattle.std.specs.declared.alloc.Global.{Global}
use Rattle.std.specs.declared.cmp.Ordering.{Ordering}
use Rattle.std.specs.BTreeMap.{BTreeMap, get_by}
use Rattle.std.specs.BTreeSet.{BTreeSet, contains}
use Rattle.std.specs.Cmp.Lexicographic.{slice_cmp}
use Rattle.std.specs.List.{list_any}
use Rattle.std.specs.Ordering.{nat_cmp}
use Rattle.wire_base.specs.declared.limits.TheConstants.{MOST_ROUTERS}
use Rattle.wire_base.specs.declared.addresses.SystemId.{SystemId}
use Rattle.wire_base.specs.declared.addresses.Ipv4.{Ipv4}
use Rattle.domain_conf.specs.declared.routers.RouterEntry.{RouterEntry}
use Rattle.domain_conf.specs.Routers.{has_system, has_prefix, place_of}

-- what a map has at some octets as the key
abbrev pub found_at : BTreeMap (Vec ℕ Global) ℕ → List ℕ → Option ℕ
found_at places octets = get_by (λ (k : Vec ℕ Global). slice_cmp nat_cmp octets k.items) places

abbrev pub system_cmp : SystemId → SystemId → Ordering
system_cmp s t = slice_cmp nat_cmp s.0 t.0

abbrev pub prefix_cmp : Ipv4 → Ipv4 → Ordering
prefix_cmp p q = slice_cmp nat_cmp p.0 q.0

-- the map has the index of each name, and the sets have the system IDs and the prefixes
pub record AreIndexed (entries : List RouterEntry) (places : BTreeMap (Vec ℕ Global) ℕ) (systems : BTreeSet SystemId) (prefixes : BTreeSet Ipv4) : Type 0 where
  pub few : length entries ≤ MOST_ROUTERS
  pub places_are : (name : List ℕ) → found_at places name ≡ place_of entries name
  pub systems_are : (s : SystemId) → contains system_cmp systems s ≡ list_any (has_system s.0) entries
  pub prefixes_are : (p : Ipv4) → contains prefix_cmp prefixes p ≡ list_any (has_prefix p.0) entries
