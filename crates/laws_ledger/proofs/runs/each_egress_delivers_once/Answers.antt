use Rattle.laws_ledger.proofs.DeliveryLaws.{one_delivery, delivers_named, once_at}
use Rattle.laws_ledger.proofs.runs.each_egress_delivers_once.Goals as goal

pub returns-clause-egress : goal.returns-clause-egress
returns-clause-egress _ r a n all = once_at r a n all

pub returns-clause-id : goal.returns-clause-id
returns-clause-id _ r n k all = one_delivery r n k all

pub returns-clause-named : goal.returns-clause-named
returns-clause-named _ r all = delivers_named r all
