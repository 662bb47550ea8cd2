-- The domain that is generated from a number of routers.
use Rattle.std.specs.Prelude.{ℕ, List, map}
use Rattle.std.specs.List.{range_with_len}
use Rattle.wire_base.specs.declared.conf.RouterConf.{RouterConf}
use Rattle.wire_base.specs.model.Configuration.{DomainConf}
use Rattle.grown_domain.specs.declared.links.Link.{Link}
use Rattle.grown_domain.specs.Links.{grown_links, joined}
use Rattle.grown_domain.specs.Routers.{router}

-- n routers with those links
unfoldable pub grown_routers : List Link → ℕ → List RouterConf
grown_routers links n = map (router links n) (range_with_len 0 n)

unfoldable pub grown_domain : ℕ → DomainConf
grown_domain n = record { routers = grown_routers (grown_links n) n; links = map joined (grown_links n) }
