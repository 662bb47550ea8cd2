use Rattle.wire_base.specs.model.Tlv.{one_tlv_at}
use Rattle.laws_format.proofs.TlvListLaws.{tlv_shortens}
use Rattle.isis_tlv.specs.Views.{item}
use Rattle.isis_tlv.proofs.WalkLemmas.{step_gives, step_goes}
use Rattle.isis_tlv.proofs.entries.TlvIterIterator.next.Goals as goal

pub returns-clause-steps : goal.returns-clause-steps
returns-clause-steps c = step_gives item one_tlv_at tlv_shortens c.args.self.now c.step.result c.step.new.self c.step.ensures.exact

pub returns-clause-goes : goal.returns-clause-goes
returns-clause-goes c = step_goes item one_tlv_at c.args.self.now c.step.result c.step.new.self (step_gives item one_tlv_at tlv_shortens c.args.self.now c.step.result c.step.new.self c.step.ensures.exact)
