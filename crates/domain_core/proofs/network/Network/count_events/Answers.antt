use Rattle.domain_core.proofs.EventLaws.{counted_more}
use Rattle.domain_core.proofs.network.Network.count_events.Goals as goal

pub returns-clause-kept : goal.returns-clause-kept
returns-clause-kept c = counted_more c.args.self.now c.args.events c.requires.few c.requires.truth
