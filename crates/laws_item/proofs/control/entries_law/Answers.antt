use Rattle.laws_item.proofs.OwnLaws.{own_fits, dead_fits}
use Rattle.laws_item.proofs.control.entries_law.Goals as goal

pub returns-clause-own : goal.returns-clause-own
returns-clause-own c = own_fits

pub returns-clause-dead : goal.returns-clause-dead
returns-clause-dead c = dead_fits
