use Rattle.std.proofs.Common.{◌≡◌, ◌+◌, drop, option_map}
use Rattle.wire_base.specs.model.Choice.{end_toward}
use Rattle.wire_base.proofs.conf.end_toward.Given as goal

abbrev pub invariant-loop-place : goal.invariant-loop-place
invariant-loop-place l = option_map (λ n. n + l.place) (end_toward (drop l.place l.ends) l.system) ≡ end_toward l.ends l.system
