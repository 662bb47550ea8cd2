use Rattle.router_core.proofs.KeepLaws.{up_keeps}
use Rattle.router_core.proofs.router.Router.end_up.Goals as goal

pub invariant_of-self : goal.invariant_of-self
invariant_of-self c = up_keeps c.self.inside.control c.end_up.new.self c.args.link c.self.inside.kept c.note_own.new.kept c.end_up.result c.end_up.ensures.ok c.end_up.ensures.err c.self.invariant c.note_own.ensures
