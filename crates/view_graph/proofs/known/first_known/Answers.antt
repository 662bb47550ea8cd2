use Rattle.std.proofs.Common.{is_some}
use Rattle.wire_base.specs.model.Place.{kind_of}
use Rattle.view_graph.proofs.ListLaws.{first_step}
use Rattle.view_graph.proofs.known.first_known.Goals as goal

pub subs-preserved : goal.subs-preserved
subs-preserved c = first_step (λ s. is_some (kind_of c.args.kinds.now s.sd)) c.args.subs.now c.subs.sub-index c.sub-item.result c.subs.kept c.keep_first.new.kept c.subs-test.true c.sub-item.is c.subs.invariant c.in_ok-keep_first.ensures
