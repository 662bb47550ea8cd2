use Rattle.router_core.proofs.control.Control.note_list.Goals as goal

pub returns-else-may_confuse : goal.returns-else-may_confuse
returns-else-may_confuse c = λ next says. c.note_own.ensures c.args.self.now next c.requires (says (c.may_confuse.ensures c.if-may_confuse.false))
