use Rattle.wire_base.specs.model.Tlv.{reach_at}
use Rattle.laws_format.proofs.TlvListLaws.{reach_shortens}
use Rattle.isis_tlv.specs.Views.{reach_of}
use Rattle.isis_tlv.proofs.WalkLemmas.{step_gives, step_goes}
use Rattle.isis_tlv.proofs.entries.ReachWalkIterator.next.Goals as goal

pub returns-clause-steps : goal.returns-clause-steps
returns-clause-steps c = step_gives reach_of reach_at reach_shortens c.args.self.now c.step.result c.step.new.self c.step.ensures.exact

pub returns-clause-goes : goal.returns-clause-goes
returns-clause-goes c = step_goes reach_of reach_at c.args.self.now c.step.result c.step.new.self (step_gives reach_of reach_at reach_shortens c.args.self.now c.step.result c.step.new.self c.step.ensures.exact)
