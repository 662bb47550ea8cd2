use Rattle.std.proofs.Common.{◌∙◌, ◌+◌, sym}
use Rattle.wire_base.specs.model.Membership.{is_used}
use Rattle.wire_base.specs.model.Place.{known_ranges}
use Rattle.router_core.proofs.MembershipLaws.{found_later}
use Rattle.router_core.proofs.membership.used_label.Goals as goal

pub loop-label-preserved : goal.loop-label-preserved
loop-label-preserved c = found_later (is_used (known_ranges c.args.conf.now)) c.loop-label.label (c.args.range.label + c.from.result + 1) c.loop-label-test.true (sym c.is_used.ensures ∙ c.if-is_used.false) ∙ c.loop-label.invariant
