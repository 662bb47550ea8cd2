-- The entries of a domain file that describes the generated domain, with a router's index for its name.
use Rattle.std.specs.Prelude.{ℕ, ◌+◌, false, List, [], ◌∷◌, map}
use Rattle.std.specs.List.{range_with_len}
use Rattle.domain_conf.specs.declared.assemble.Entries.{Entries}
use Rattle.domain_conf.specs.declared.bier.BierEntry.{BierEntry}
use Rattle.domain_conf.specs.declared.labels.LabelsEntry.{LabelsEntry}
use Rattle.domain_conf.specs.declared.links.LinkEntry.{LinkEntry}
use Rattle.domain_conf.specs.declared.routers.RouterEntry.{RouterEntry}
use Rattle.domain_conf.specs.Links.{made_mac}
use Rattle.grown_domain.specs.declared.links.Link.{Link}
use Rattle.grown_domain.specs.Routers.{name, system, prefix, range, kind}

abbrev pub router_entry : ℕ → RouterEntry
router_entry i = record { name = name i; system = system i; prefix = prefix i; overload = false }

abbrev pub bier_entry : ℕ → BierEntry
bier_entry i = record { router = i; sd = 0; id = i + 1 }

abbrev pub labels_entry : (n i : ℕ) → LabelsEntry
labels_entry n i = record { router = i; sd = 0; range = range n }

abbrev pub link_entry : Link → LinkEntry
link_entry l = record { a = l.a; b = l.b; metric_ab = l.metric; metric_ba = l.metric; mac_a = made_mac l.a l.b; mac_b = made_mac l.b l.a }

abbrev pub grown_entries : ℕ → List Link → Entries
grown_entries n links =
    record {
      kinds = kind ∷ [];
      table = [];
      routers = map router_entry (range_with_len 0 n);
      biers = map bier_entry (range_with_len 0 n);
      labels = map (labels_entry n) (range_with_len 0 n);
      links = map link_entry links;
    }
