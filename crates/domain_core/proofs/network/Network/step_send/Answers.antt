use Rattle.std.proofs.Common.{None, true, sym}
use Rattle.replay_text.specs.declared.event.Event.TheVariants.{Send}
use Rattle.domain_core.specs.Answers.{outcome, sent_outcome}
use Rattle.domain_core.specs.Held.{world_in}
use Rattle.domain_model.specs.Faults.{event_fault}
use Rattle.domain_core.proofs.EventLaws.{IsCounted, counted_done, refuses_first}
use Rattle.domain_core.proofs.network.Network.step_send.Goals as goal

pub returns-in-Some-clause-refused : goal.returns-in-Some-clause-refused
returns-in-Some-clause-refused c = refuses_first (event_fault (world_in c.args.self.now) (Send c.args.from c.args.to)) c.in-Some.fault (sym c.in-Some.ensures)

idle : (c : goal.After-self-1) → IsCounted c.args.self.now c.args.self.now (Send c.args.from c.args.to) (outcome None)
idle c = counted_done c.args.self.now c.args.self.now (Send c.args.from c.args.to) (outcome None) c.requires.truth c.requires.places (sym c.in_default.ensures) (c.owes_nothing.ensures c.args.to c.if-owes_nothing.true c.requires.joined)

pub returns-then-owes_nothing-clause-world : goal.returns-then-owes_nothing-clause-world
returns-then-owes_nothing-clause-world c = (idle c).world

pub returns-then-owes_nothing-clause-told : goal.returns-then-owes_nothing-clause-told
returns-then-owes_nothing-clause-told c = (idle c).answer

pub returns-then-owes_nothing-clause-kept : goal.returns-then-owes_nothing-clause-kept
returns-then-owes_nothing-clause-kept c = (idle c).kept

sent : (c : goal.After-self-2-1) → IsCounted c.args.self.now c.send_on_link.new.self (Send c.args.from c.args.to) (sent_outcome true c.send_on_link.new.sent)
sent c = counted_done c.args.self.now c.send_on_link.new.self (Send c.args.from c.args.to) (sent_outcome true c.send_on_link.new.sent) c.requires.truth c.requires.places (sym c.in_default.ensures) c.in_ok-send_on_link.ensures.done

pub returns-clause-world : goal.returns-clause-world
returns-clause-world c = (sent c).world

pub returns-clause-told : goal.returns-clause-told
returns-clause-told c = (sent c).answer

pub returns-clause-kept : goal.returns-clause-kept
returns-clause-kept c = (sent c).kept
