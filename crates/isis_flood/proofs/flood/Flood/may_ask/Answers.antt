use Rattle.isis_flood.proofs.FloodLaws.{past_unasked, unasked_is}
use Rattle.isis_flood.proofs.flood.Flood.may_ask.Goals as goal

pub returns-then-link-self : goal.returns-then-link-self
returns-then-link-self c = λ _. past_unasked c.self.inside.own c.self.inside.links c.self.inside.up c.self.inside.due c.self.inside.table.spare c.self.inside.table.rows c.args.self.now c.self.view_is c.args.link c.if-link-self.true

pub returns : goal.returns
returns c = λ none. unasked_is c.self.inside.own c.self.inside.links c.self.inside.up c.self.inside.due c.self.inside.table.spare c.self.inside.table.rows c.args.self.now c.self.view_is c.args.link (c.may_ask.ensures c.self.inside.links c.if-link-self.false c.self.invariant.most none)
