use Rattle.isis_flood.proofs.FloodLaws.{downs, past_down, same_links}
use Rattle.isis_flood.proofs.flood.Flood.link_down.Goals as goal

pub returns-then-link-self-clause-flood : goal.returns-then-link-self-clause-flood
returns-then-link-self-clause-flood c = past_down c.self.inside.own c.self.inside.links c.self.inside.up c.self.inside.due c.self.inside.table.spare c.self.inside.table.rows c.args.self.now c.self.view_is c.args.link c.if-link-self.true

pub returns-clause-flood : goal.returns-clause-flood
returns-clause-flood c = downs c.self.inside.own c.self.inside.links c.self.inside.up c.self.inside.due c.self.inside.table.spare c.self.inside.table.rows c.args.self.now c.self.view_is c.args.link c.self.invariant.most c.if-link-self.false c.without-self-inside.result c.without-self-inside-2.result c.clear.new.self.rows c.without-self-inside.ensures c.without-self-inside-2.ensures c.clear.ensures.rows

pub returns-clause-links : goal.returns-clause-links
returns-clause-links c = same_links c.self.inside.own c.self.inside.links c.self.inside.up c.self.inside.due c.self.inside.table.spare c.self.inside.table.rows c.args.self.now c.self.view_is c.without-self-inside.result
