use Rattle.laws_ledger.proofs.FallLaws.{event_weight, first_is, take_weight, takes_weight, takes_end}
use Rattle.laws_ledger.proofs.weights.takes_lower_weights.Goals as goal

pub returns-clause-first : goal.returns-clause-first
returns-clause-first _ w e n i truth fits ok is = first_is n w truth e i fits ok is

pub returns-clause-take : goal.returns-clause-take
returns-clause-take _ w e n truth h = take_weight n w truth e h

pub returns-clause-other : goal.returns-clause-other
returns-clause-other _ w e n truth not = event_weight n w truth e not

pub returns-clause-takes : goal.returns-clause-takes
returns-clause-takes _ w es n truth made allowed = takes_weight n es w truth made allowed

pub returns-clause-end : goal.returns-clause-end
returns-clause-end _ w e n i es truth fits ok is allowed enough = takes_end n w e i es truth fits ok is allowed enough
