use Rattle.laws_ledger.proofs.DeliveryLaws.{later_of, first_of_it}
use Rattle.laws_ledger.proofs.events.copies_and_deliveries_are_of_their_injection.Goals as goal

pub returns-clause-first_copies : goal.returns-clause-first_copies
returns-clause-first_copies _ w e n i truth is = let k = first_of_it n i w e truth is in k.copies

pub returns-clause-first_deliveries : goal.returns-clause-first_deliveries
returns-clause-first_deliveries _ w e n i truth is = let k = first_of_it n i w e truth is in k.delivered

pub returns-clause-copies : goal.returns-clause-copies
returns-clause-copies _ w e n i truth made all = let k = later_of n i w e truth made all in k.copies

pub returns-clause-deliveries : goal.returns-clause-deliveries
returns-clause-deliveries _ w e n i truth made all = let k = later_of n i w e truth made all in k.delivered
