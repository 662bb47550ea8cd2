use Rattle.std.proofs.lemmas.Result.{on_ok_weaker}
use Rattle.isis_flood.proofs.FloodLaws.{marks, same_links}
use Rattle.isis_flood.proofs.flood.Flood.mark_all.Goals as goal

pub returns-clause-ok : goal.returns-clause-ok
returns-clause-ok c = on_ok_weaker c.put.result (marks c.self.inside.own c.self.inside.links c.self.inside.up c.self.inside.due c.self.inside.table.spare c.self.inside.table.rows c.args.self.now c.self.view_is c.self.inside.table.narrow c.self.invariant.where_narrow c.args.id c.put.new.self.rows) c.put.ensures.ok

pub returns-clause-links : goal.returns-clause-links
returns-clause-links c = same_links c.self.inside.own c.self.inside.links c.self.inside.up c.self.inside.due c.self.inside.table.spare c.self.inside.table.rows c.args.self.now c.self.view_is c.self.inside.up
