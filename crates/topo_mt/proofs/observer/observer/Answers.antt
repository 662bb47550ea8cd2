use Rattle.topo_mt.proofs.ObserverLaws.{made_no_ends}
use Rattle.topo_mt.proofs.observer.observer.Goals as goal

pub returns-clause-ends : goal.returns-clause-ends
returns-clause-ends c = made_no_ends c.built.result c.built.ensures
