use Rattle.examples_domain.proofs.CarriedLaws.{carried_own, carried_b, carried_c}
use Rattle.examples_domain.proofs.once.premises_can_be_met.Goals as goal

pub returns-clause-own : goal.returns-clause-own
returns-clause-own _ = carried_own

pub returns-clause-b : goal.returns-clause-b
returns-clause-b _ = carried_b

pub returns-clause-c : goal.returns-clause-c
returns-clause-c _ = carried_c
