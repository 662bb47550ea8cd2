use Rattle.domain_conf.specs.Assembled.{end_of}
use Rattle.domain_conf.proofs.GroupLemmas.{some-more}
use Rattle.domain_conf.proofs.assemble.ends_in.Goals as goal

pub loop-link-preserved : goal.loop-link-preserved
loop-link-preserved c =
    some-more (end_of c.args.routers.now c.args.place) c.args.links.now c.loop-link.link-index _ c.end_of.result c.loop-link.ends c.push_some.new.ends c.loop-link-test.true c.loop-link.invariant c.end_of.ensures c.in_ok-push_some.ensures
