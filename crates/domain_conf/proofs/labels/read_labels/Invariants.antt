use Rattle.std.proofs.Common.{◌≡◌, [], drop, map}
use Rattle.toml.specs.View.{view}
use Rattle.domain_conf.specs.Arrays.{entries_from}
use Rattle.domain_conf.specs.LabelRanges.{labels_at}
use Rattle.domain_conf.proofs.labels.read_labels.Given as goal

-- the entries that are left, after those so far, give what all give
abbrev pub invariant-loop-place : goal.invariant-loop-place
invariant-loop-place l = entries_from (labels_at l.kinds l.routers l.biers) l.earlier l.place (map view (drop l.place l.values)) ≡ entries_from (labels_at l.kinds l.routers l.biers) [] 0 (map view l.values)
