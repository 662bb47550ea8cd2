use Rattle.router_core.proofs.KeepLaws.{relabel_keeps}
use Rattle.router_core.proofs.router.Router.relabel.Goals as goal

pub invariant_of-self : goal.invariant_of-self
invariant_of-self c = relabel_keeps c.self.inside.control c.relabel.new.self c.args.sd c.args.bsl c.args.label c.self.inside.kept c.note_own.new.kept c.relabel.result c.relabel.ensures.ok c.relabel.ensures.err c.self.invariant c.note_own.ensures
