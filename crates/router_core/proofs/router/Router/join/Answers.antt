use Rattle.router_core.proofs.KeepLaws.{join_keeps}
use Rattle.router_core.proofs.router.Router.join.Goals as goal

pub invariant_of-self : goal.invariant_of-self
invariant_of-self c = join_keeps c.self.inside.control c.join.new.self c.args.sd c.self.inside.kept c.note_own.new.kept c.join.result c.join.ensures.ok c.join.ensures.err c.self.invariant c.note_own.ensures
