use Rattle.router_core.proofs.KeepLaws.{went_out}
use Rattle.router_core.proofs.router.Router.sent.Goals as goal

pub invariant_of-self : goal.invariant_of-self
invariant_of-self c = went_out c.self.inside.control c.sent.new.self c.args.link c.self.inside.kept c.sent.ensures c.self.invariant
