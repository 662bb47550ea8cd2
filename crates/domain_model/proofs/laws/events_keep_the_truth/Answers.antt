use Rattle.domain_model.proofs.WorldTruth.{happens_true}
use Rattle.domain_model.proofs.laws.events_keep_the_truth.Goals as goal

pub returns-clause-truth : goal.returns-clause-truth
returns-clause-truth _ w e t fits ok = let k = happens_true w e t fits ok in k.truth

pub returns-clause-domain : goal.returns-clause-domain
returns-clause-domain _ w e t fits ok = let k = happens_true w e t fits ok in k.domain

pub returns-clause-drops : goal.returns-clause-drops
returns-clause-drops _ w e t fits ok = let k = happens_true w e t fits ok in k.made.drops
