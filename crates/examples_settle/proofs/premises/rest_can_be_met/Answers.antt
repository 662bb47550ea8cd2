use Rattle.examples_model.specs.Domains.{pair}
use Rattle.examples_settle.specs.Runs.{after, four_rounds}
use Rattle.examples_settle.proofs.RunLaws.{rests}
use Rattle.examples_settle.proofs.premises.rest_can_be_met.Goals as goal

pub returns-clause-rest : goal.returns-clause-rest
returns-clause-rest c = rests c.pair_is_valid.ensures

pub returns-clause-quiet : goal.returns-clause-quiet
returns-clause-quiet c = c.flooding_at_rest_is_quiet.ensures.same pair four_rounds (after four_rounds) (rests c.pair_is_valid.ensures)
