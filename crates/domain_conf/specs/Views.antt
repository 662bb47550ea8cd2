-- The arrays and the domain as contracts see them.
use Rattle.std.specs.Prelude.{map}
use Rattle.toml.specs.View.{view}
use Rattle.wire_base.specs.model.Configuration.{DomainConf}
use Rattle.domain_conf.specs.declared.arrays.Arrays.{Arrays as Slices}
use Rattle.domain_conf.specs.declared.read.Parts.{Parts}
use Rattle.domain_conf.specs.Domain.{Arrays}

-- each entry as the data that it represents
abbrev pub arrays_view : Slices → Arrays
arrays_view s =
    record {
      subdomains = map view s.subdomains.now;
      rows = map view s.rows.now;
      routers = map view s.routers.now;
      biers = map view s.biers.now;
      labels = map view s.labels.now;
      links = map view s.links.now;
    }

-- the domain of those routers and links
abbrev pub domain_view : Parts → DomainConf
domain_view p = record { routers = p.routers; links = p.links }
