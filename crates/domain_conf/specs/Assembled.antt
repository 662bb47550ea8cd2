-- The configurations of the routers, built from the entries of the arrays.
use Rattle.std.specs.Prelude.{ℕ, ◌+◌, ◌≤◌, Bool, ◌==◌, ◌&&◌, ◌||◌, nat_lt, List, [], ◌∷◌, length, map, filter, slice_get, Option, Some, None, Result, Ok, Err, codes, if◌then◌else◌}
use Rattle.std.specs.List.{AllByRecursion, filter_map}
use Rattle.wire_base.specs.declared.limits.TheConstants.{MOST_ENDS, MOST_SUB_OCTETS}
use Rattle.wire_base.specs.declared.addresses.SystemId.{SystemId}
use Rattle.wire_base.specs.declared.conf.LabelRange.{LabelRange}
use Rattle.wire_base.specs.declared.conf.OwnSub.{OwnSub}
use Rattle.wire_base.specs.declared.conf.SubKind.{SubKind}
use Rattle.wire_base.specs.declared.conf.TableRow.{TableRow}
use Rattle.wire_base.specs.declared.conf.Level.{Level}
use Rattle.wire_base.specs.declared.conf.End.{End}
use Rattle.wire_base.specs.declared.conf.RouterConf.{RouterConf}
use Rattle.wire_base.specs.model.Configuration.{DomainConf, sub_octets}
use Rattle.wire_base.specs.model.Fields.{◌>>=◌}
use Rattle.domain_conf.specs.declared.fault.ConfFault.{ConfFault}
use Rattle.domain_conf.specs.declared.fault.ConfFault.TheVariants as fault
use Rattle.domain_conf.specs.declared.assemble.Entries.{Entries}
use Rattle.domain_conf.specs.declared.routers.RouterEntry.{RouterEntry}
use Rattle.domain_conf.specs.declared.bier.BierEntry.{BierEntry}
use Rattle.domain_conf.specs.declared.labels.LabelsEntry.{LabelsEntry}
use Rattle.domain_conf.specs.declared.links.LinkEntry.{LinkEntry}
use Rattle.domain_conf.specs.Reading.{refuse_if}
use Rattle.domain_conf.specs.Fields.{place_path}
use Rattle.domain_conf.specs.Forms.{system_of}
use Rattle.domain_conf.specs.Links.{link_of}

-- ---- sub-domains of a router

abbrev pub is_labels_of : ℕ → ℕ → LabelsEntry → Bool
is_labels_of router sd l = (l.router == router) && (l.sd == sd)

-- the label ranges of a router in a sub-domain, in the order of the file
abbrev pub ranges_of : List LabelsEntry → ℕ → ℕ → List LabelRange
ranges_of labels router sd = map (λ l. l.range) (filter (is_labels_of router sd) labels)

abbrev pub sub_of : List LabelsEntry → BierEntry → OwnSub
sub_of labels b = record { sd = b.sd; id = b.id; ranges = ranges_of labels b.router b.sd }

-- the sub-domains of a router, in the order of the file
unfoldable pub subs_of : List BierEntry → List LabelsEntry → ℕ → List OwnSub
subs_of biers labels router = map (sub_of labels) (filter (λ b. b.router == router) biers)

-- ---- interfaces of a router

abbrev pub system_found : Option RouterEntry → SystemId
system_found None = system_of (0 ∷ 0 ∷ 0 ∷ 0 ∷ 0 ∷ 0 ∷ [])
system_found (Some r) = r.system

-- the system ID of the router at an index; each index that a link names is a router's
abbrev pub system_at : List RouterEntry → ℕ → SystemId
system_at routers i = system_found (slice_get routers i)

-- a router's interface on a link, if the link joins that router
abbrev pub end_of : List RouterEntry → ℕ → LinkEntry → Option End
end_of routers i l =
    if l.a == i then Some (record { peer = system_at routers l.b; peer_mac = l.mac_b; own_mac = l.mac_a; metric = l.metric_ab }) else
    if l.b == i then Some (record { peer = system_at routers l.a; peer_mac = l.mac_a; own_mac = l.mac_b; metric = l.metric_ba }) else
    None

-- the interfaces of a router, in the order of the links
unfoldable pub ends_of : List RouterEntry → List LinkEntry → ℕ → List End
ends_of routers links i = filter_map (end_of routers i) links

-- ---- routers

-- the configuration of the router at index i
abbrev pub conf_of : Level → List ℕ → Entries → ℕ → RouterEntry → RouterConf
conf_of level area e i r =
    record {
      level = level;
      area = area;
      name = r.name;
      system = r.system;
      prefix = r.prefix;
      overload = r.overload;
      subs = subs_of e.biers e.labels i;
      away = [];
      past = [];
      kinds = e.kinds;
      table = e.table;
      ends = ends_of e.routers e.links i;
    }

-- those of the routers from index i on
abbrev pub confs_from : Level → List ℕ → Entries → ℕ → List RouterEntry → List RouterConf
confs_from level area e i [] = []
confs_from level area e i (r ∷ rs) = conf_of level area e i r ∷ confs_from level area e (i + 1) rs

-- the bounds under which the octets of a router's sub-domains can be counted
pub record HasFewSubs (r : RouterConf) : Type 0 where
  pub subs : length r.subs ≤ 8
  pub ranges : AllByRecursion (λ s. length s.ranges ≤ 7) r.subs

-- whether a router has more than 64 links, or sub-domains that do not fit its own LSP
abbrev pub is_too_large : RouterConf → Bool
is_too_large r = nat_lt MOST_ENDS (length r.ends) || nat_lt MOST_SUB_OCTETS (sub_octets r.subs)

-- no router from index i on is too large
unfoldable pub within_limits : ℕ → List RouterConf → Result (Unit {0}) ConfFault
within_limits i [] = Ok tt
within_limits i (r ∷ rs) = do
  _ ← refuse_if (is_too_large r) (fault.Limit (place_path (codes "router") i))
  within_limits (i + 1) rs

-- the domain with those routers
abbrev pub with_limits : List RouterConf → Entries → Result DomainConf ConfFault
with_limits confs e = do
  _ ← within_limits 0 confs
  Ok (record { routers = confs; links = map link_of e.links })

unfoldable pub domain_from : Level → List ℕ → Entries → Result DomainConf ConfFault
domain_from level area e = with_limits (confs_from level area e 0 e.routers) e
