use Rattle.std.proofs.Common.{arith}
use Rattle.domain_core.proofs.EventLaws.{IsCounted, counted_done, as_many}
use Rattle.domain_core.proofs.network.Network.execute.Goals as goal

pub dispatch-requires-clause-routers : goal.dispatch-requires-clause-routers
dispatch-requires-clause-routers c = as_many c.args.self.now c.requires.truth

pub overflow_add-self : goal.overflow_add-self
overflow_add-self c =
    let k = counted_done c.args.self.now c.dispatch.new.self c.args.event.now c.in_ok-out.out c.requires.truth c.requires.fits c.in_ok-out.ensures.refused c.in_ok-out.ensures.done in
    omega (arith, k.low)

counted : (c : goal.After-self-1) → IsCounted c.args.self.now c.dispatch.new.self c.args.event.now c.in_ok-out.out
counted c = counted_done c.args.self.now c.dispatch.new.self c.args.event.now c.in_ok-out.out c.requires.truth c.requires.fits c.in_ok-out.ensures.refused c.in_ok-out.ensures.done

pub returns-clause-world : goal.returns-clause-world
returns-clause-world c = (counted c).world

pub returns-clause-told : goal.returns-clause-told
returns-clause-told c = (counted c).answer

pub returns-clause-drops : goal.returns-clause-drops
returns-clause-drops c = (counted c).drops

pub returns-clause-kept : goal.returns-clause-kept
returns-clause-kept c = (counted c).kept
