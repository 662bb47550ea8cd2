use Rattle.wire_base.specs.model.Tlv.{row_at}
use Rattle.laws_format.proofs.TlvListLaws.{row_shortens}
use Rattle.isis_tlv.specs.Walked.{itself}
use Rattle.isis_tlv.proofs.WalkLemmas.{step_gives, step_goes}
use Rattle.isis_tlv.proofs.entries.SummaryWalkIterator.next.Goals as goal

pub returns-clause-steps : goal.returns-clause-steps
returns-clause-steps c = step_gives itself row_at row_shortens c.args.self.now c.step.result c.step.new.self c.step.ensures.exact

pub returns-clause-goes : goal.returns-clause-goes
returns-clause-goes c = step_goes itself row_at c.args.self.now c.step.result c.step.new.self (step_gives itself row_at row_shortens c.args.self.now c.step.result c.step.new.self c.step.ensures.exact)
