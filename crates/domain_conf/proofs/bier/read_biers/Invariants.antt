use Rattle.std.proofs.Common.{◌≡◌, [], drop, map}
use Rattle.toml.specs.View.{view}
use Rattle.domain_conf.specs.Arrays.{entries_from}
use Rattle.domain_conf.specs.Bier.{bier_at}
use Rattle.domain_conf.proofs.bier.read_biers.Given as goal

-- the entries that are left, after those so far, give what all give
abbrev pub invariant-loop-place : goal.invariant-loop-place
invariant-loop-place l = entries_from (bier_at l.kinds l.routers) l.earlier l.place (map view (drop l.place l.values)) ≡ entries_from (bier_at l.kinds l.routers) [] 0 (map view l.values)
