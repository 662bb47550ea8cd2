use Rattle.wire_base.specs.model.Tlv.{prefix_at}
use Rattle.laws_format.proofs.TlvListLaws.{prefix_shortens}
use Rattle.isis_tlv.specs.Views.{prefix_of}
use Rattle.isis_tlv.proofs.WalkLemmas.{step_gives, step_goes}
use Rattle.isis_tlv.proofs.entries.PrefixWalkIterator.next.Goals as goal

pub returns-clause-steps : goal.returns-clause-steps
returns-clause-steps c = (step_gives prefix_of prefix_at prefix_shortens c.args.self.now c.step.result c.step.new.self c.step.ensures.exact, c.step.ensures.bits)

pub returns-clause-goes : goal.returns-clause-goes
returns-clause-goes c = step_goes prefix_of prefix_at c.args.self.now c.step.result c.step.new.self (step_gives prefix_of prefix_at prefix_shortens c.args.self.now c.step.result c.step.new.self c.step.ensures.exact)
