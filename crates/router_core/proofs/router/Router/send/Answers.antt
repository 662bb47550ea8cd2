use Rattle.router_core.proofs.KeepLaws.{sent_keeps}
use Rattle.router_core.proofs.router.Router.send.Goals as goal

pub invariant_of-self : goal.invariant_of-self
invariant_of-self c = sent_keeps c.self.inside.control c.send.new.self c.args.link c.self.inside.kept c.send.result c.send.ensures.next c.send.ensures.err c.self.invariant
