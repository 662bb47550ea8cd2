use Rattle.std.proofs.Common.{◌≡◌, [], drop, map, length}
use Rattle.toml.specs.View.{view}
use Rattle.domain_conf.specs.Arrays.{entries_from}
use Rattle.domain_conf.specs.Routers.{router_at}
use Rattle.domain_conf.proofs.routers.read_routers.Given as goal

-- the entries that are left, after those so far, give what all give
abbrev pub invariant-loop-place : goal.invariant-loop-place
invariant-loop-place l = (entries_from router_at l.earlier l.place (map view (drop l.place l.values)) ≡ entries_from router_at [] 0 (map view l.values)) × (length l.earlier ≡ l.place)
