use Rattle.std.proofs.Common.{List, ◌++◌, ap, ◌∙◌, arith}
use Rattle.std.proofs.lemmas.List.{take_all}
use Rattle.wire_base.specs.model.View.{all_ranges}
use Rattle.wire_base.specs.declared.view.ViewSub.{ViewSub}
use Rattle.wire_base.specs.declared.conf.LabelRange.{LabelRange}
use Rattle.view_graph.proofs.ListLaws.{flat_one}
use Rattle.view_graph.proofs.known.all_ranges.Goals as goal

pub subs-preserved : goal.subs-preserved
subs-preserved c = flat_one (λ (s : ViewSub). s.ranges) c.args.subs.now c.subs.sub-index c.sub-item.result c.subs.ranges.items c.extend_from_slice.new.self.items c.subs-test.true c.sub-item.is c.subs.invariant (c.in_ok-extend_from_slice.ensures.items ∙ ap (λ (l : List LabelRange). c.subs.ranges.items ++ l) c.as_slice.ensures)

pub returns : goal.returns
returns c = c.subs.invariant ∙ ap all_ranges (take_all c.subs.sub-index c.args.subs.now (omega (arith, c.subs-test.false)))
