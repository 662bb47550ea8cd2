use Rattle.router_core.proofs.KeepLaws.{down_keeps}
use Rattle.router_core.proofs.router.Router.end_down.Goals as goal

pub invariant_of-self : goal.invariant_of-self
invariant_of-self c = down_keeps c.self.inside.control c.end_down.new.self c.args.link c.self.inside.kept c.note_own.new.kept c.end_down.result c.end_down.ensures.ok c.end_down.ensures.err c.self.invariant c.note_own.ensures
