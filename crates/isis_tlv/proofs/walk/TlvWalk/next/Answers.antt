use Rattle.isis_tlv.proofs.ReadLemmas.{step_found, step_only, step_end, step_overrun, step_fault}
use Rattle.isis_tlv.proofs.walk.TlvWalk.next.Goals as goal

pub returns-clause-found : goal.returns-clause-found
returns-clause-found c = step_found c.args.self.now c.step.result c.step.new.self c.step.ensures.exact

pub returns-clause-only : goal.returns-clause-only
returns-clause-only c = λ t rest e. step_only c.args.self.now c.step.result c.step.new.self t rest c.step.ensures.exact e

pub returns-clause-end : goal.returns-clause-end
returns-clause-end c = step_end c.args.self.now c.step.result c.step.new.self c.step.ensures.exact

pub returns-clause-fault : goal.returns-clause-fault
returns-clause-fault c = step_fault c.args.self.now c.step.result c.step.new.self c.step.ensures.exact

pub returns-clause-overrun : goal.returns-clause-overrun
returns-clause-overrun c = step_overrun c.args.self.now c.step.result c.step.new.self c.step.ensures.exact
