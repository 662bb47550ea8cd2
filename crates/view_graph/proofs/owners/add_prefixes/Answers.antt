use Rattle.std.proofs.Common.{arith, refl}
use Rattle.view_graph.specs.Owners.{AreAlone}
use Rattle.view_graph.proofs.OwnerLaws.{subs_step, subs_end, alone_step}
use Rattle.view_graph.proofs.owners.add_prefixes.Goals as goal

pub subs-preserved : goal.subs-preserved
subs-preserved c = record {
  owners = λ xs are. subs_step xs c.args.system c.args.subs.now c.subs.sub-index c.sub-item.result c.subs.owners c.add_prefix.new.owners c.subs-test.true c.sub-item.is (c.subs.invariant.owners xs are) c.in_ok-is_any.ensures.owner;
  alone = alone_step (AreAlone c.args.owners.now) (AreAlone c.subs.owners) (AreAlone c.add_prefix.new.owners) c.subs.is_any c.in_ok-is_any.field-0 _ refl c.subs.invariant.alone c.in_ok-is_any.ensures.alone;
}

pub returns-clause-owners : goal.returns-clause-owners
returns-clause-owners c = λ xs are. subs_end xs c.args.system c.args.subs.now c.subs.sub-index c.subs.owners (omega (arith, c.subs-test.false)) (c.subs.invariant.owners xs are)
