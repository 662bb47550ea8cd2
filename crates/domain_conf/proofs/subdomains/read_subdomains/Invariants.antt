use Rattle.std.proofs.Common.{◌≡◌, [], drop, map}
use Rattle.toml.specs.View.{view}
use Rattle.domain_conf.specs.Arrays.{entries_from}
use Rattle.domain_conf.specs.Subdomains.{subdomain_at}
use Rattle.domain_conf.proofs.subdomains.read_subdomains.Given as goal

-- the entries that are left, after those so far, give what all give
abbrev pub invariant-loop-place : goal.invariant-loop-place
invariant-loop-place l = entries_from subdomain_at l.earlier l.place (map view (drop l.place l.values)) ≡ entries_from subdomain_at [] 0 (map view l.values)
