use Rattle.router_core.proofs.IssuedLaws.{sent_issued}
use Rattle.router_core.proofs.EventLaws.{sent_keeps}
use Rattle.router_core.proofs.control.Control.sent.Goals as goal

pub invariant_of-self : goal.invariant_of-self
invariant_of-self c =
    record {
      router =
          sent_keeps c.self.inside.conf c.self.inside.flood.flood c.self.inside.store.entries c.self.inside.spent c.self.invariant.router c.args.link c.sent.new.self.flood c.sent.ensures.flood;
      issued =
          sent_issued c.self.inside.conf c.self.inside.flood.flood c.self.inside.store.entries c.self.inside.spent c.self.invariant.router c.self.invariant.issued c.args.link c.sent.new.self.flood c.sent.ensures.flood;
    }
