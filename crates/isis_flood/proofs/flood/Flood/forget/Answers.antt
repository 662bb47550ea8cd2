use Rattle.isis_flood.proofs.FloodLaws.{forgets, same_links}
use Rattle.isis_flood.proofs.flood.Flood.forget.Goals as goal

pub returns-clause-flood : goal.returns-clause-flood
returns-clause-flood c = forgets c.self.inside.own c.self.inside.links c.self.inside.up c.self.inside.due c.self.inside.table.spare c.self.inside.table.rows c.args.self.now c.self.view_is c.args.id c.remove.new.self.rows c.remove.ensures.rows

pub returns-clause-links : goal.returns-clause-links
returns-clause-links c = same_links c.self.inside.own c.self.inside.links c.self.inside.up c.self.inside.due c.self.inside.table.spare c.self.inside.table.rows c.args.self.now c.self.view_is c.self.inside.up
