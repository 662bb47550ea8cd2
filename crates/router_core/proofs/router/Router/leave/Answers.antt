use Rattle.router_core.proofs.KeepLaws.{leave_keeps}
use Rattle.router_core.proofs.router.Router.leave.Goals as goal

pub invariant_of-self : goal.invariant_of-self
invariant_of-self c = leave_keeps c.self.inside.control c.leave.new.self c.args.sd c.self.inside.kept c.note_own.new.kept c.leave.result c.leave.ensures.ok c.leave.ensures.err c.self.invariant c.note_own.ensures
