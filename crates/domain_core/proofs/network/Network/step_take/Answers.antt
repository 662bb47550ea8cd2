use Rattle.std.proofs.Common.{sym}
use Rattle.replay_text.specs.declared.event.Event.TheVariants.{Take}
use Rattle.domain_core.specs.Answers.{taken_outcome}
use Rattle.domain_core.specs.Held.{world_in}
use Rattle.domain_model.specs.Faults.{event_fault}
use Rattle.domain_core.proofs.EventLaws.{IsCounted, counted_done, refuses_first}
use Rattle.domain_core.proofs.network.Network.step_take.Goals as goal

pub returns-in-Some-clause-refused : goal.returns-in-Some-clause-refused
returns-in-Some-clause-refused c = refuses_first (event_fault (world_in c.args.self.now) (Take c.args.from c.args.to c.args.i)) c.in-Some.fault (sym c.in-Some.ensures)

taken : (c : goal.After-self-1) → IsCounted c.args.self.now c.take_on_link.new.self (Take c.args.from c.args.to c.args.i) (taken_outcome c.in_ok-some.some c.take_on_link.new.made)
taken c = counted_done c.args.self.now c.take_on_link.new.self (Take c.args.from c.args.to c.args.i) (taken_outcome c.in_ok-some.some c.take_on_link.new.made) c.requires.truth c.requires.places (sym c.in_default.ensures) c.in_ok-some.ensures.done

pub returns-clause-world : goal.returns-clause-world
returns-clause-world c = (taken c).world

pub returns-clause-told : goal.returns-clause-told
returns-clause-told c = (taken c).answer

pub returns-clause-kept : goal.returns-clause-kept
returns-clause-kept c = (taken c).kept
