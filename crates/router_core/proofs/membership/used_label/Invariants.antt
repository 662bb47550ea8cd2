use Rattle.std.proofs.Common.{◌≡◌, ◌-◌}
use Rattle.std.specs.List.{find, range_with_len}
use Rattle.wire_base.specs.model.Membership.{is_used, used_label}
use Rattle.wire_base.specs.model.Place.{known_ranges}
use Rattle.router_core.proofs.membership.used_label.Given as goal

abbrev pub invariant-loop-label : goal.invariant-loop-label
invariant-loop-label l = find (is_used (known_ranges l.conf)) (range_with_len l.label (l.end - l.label)) ≡ used_label l.conf l.fn.range
