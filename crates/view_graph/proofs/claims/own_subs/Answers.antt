use Rattle.std.proofs.Common.{arith, map, ap, ◌∙◌}
use Rattle.std.proofs.lemmas.List.{take_all}
use Rattle.wire_base.specs.model.OwnLsp.{info_of}
use Rattle.wire_base.specs.model.View.{sub_of}
use Rattle.view_graph.proofs.ListLaws.{map_one}
use Rattle.view_graph.proofs.claims.own_subs.Goals as goal

pub subs-preserved : goal.subs-preserved
subs-preserved c = map_one (λ s. sub_of c.args.conf.now.prefix.0 (info_of c.args.conf.now.kinds s)) c.as_slice-sub-items.result.now c.subs.sub-index c.sub-item.result c.in_ok-own_sub.field-0 c.subs.subs c.push.new.self c.subs-test.true c.sub-item.is c.subs.invariant c.in_ok-push.ensures.ok c.in_ok-own_sub.ensures

pub returns : goal.returns
returns c = c.subs.invariant ∙ ap (map (λ s. sub_of c.args.conf.now.prefix.0 (info_of c.args.conf.now.kinds s))) (take_all c.subs.sub-index c.as_slice-sub-items.result.now (omega (arith, c.subs-test.false)) ∙ c.as_slice-sub-items.ensures)
