use Rattle.std.proofs.Common.{is_some, sym, ◌∙◌}
use Rattle.wire_base.specs.model.Place.{kind_of}
use Rattle.view_graph.proofs.ListLaws.{first_kept}
use Rattle.view_graph.proofs.known.are_first_known.Goals as goal

pub subs-preserved : goal.subs-preserved
subs-preserved c = first_kept (λ s. is_some (kind_of c.args.kinds.now s.sd)) c.args.subs.now c.subs.place c.index-subs-place.result c.subs-test.true c.index-subs-place.is (sym c.is_first_known.ensures ∙ c.if-not-is_first_known.false) c.subs.invariant
