use Rattle.domain_conf.proofs.GroupLemmas.{some-more}
use Rattle.grown_domain.specs.Routers.{end_of}
use Rattle.grown_domain.proofs.routers.ends_of.Goals as goal

pub loop-link-preserved : goal.loop-link-preserved
loop-link-preserved c =
    some-more (end_of c.args.place) c.args.links.now c.loop-link.link-index _ c.end_of.result c.loop-link.ends c.push_some.new.ends c.loop-link-test.true c.loop-link.invariant c.end_of.ensures c.in_ok-push_some.ensures
