use Rattle.isis_flood.proofs.FloodLaws.{up_is, few_links}
use Rattle.isis_flood.proofs.flood.Flood.up_mask.Goals as goal

pub returns-clause-up : goal.returns-clause-up
returns-clause-up c = up_is c.self.inside.own c.self.inside.links c.self.inside.up c.self.inside.due c.self.inside.table.spare c.self.inside.table.rows c.args.self.now c.self.view_is

pub returns-clause-few : goal.returns-clause-few
returns-clause-few c = few_links c.self.inside.own c.self.inside.links c.self.inside.up c.self.inside.due c.self.inside.table.spare c.self.inside.table.rows c.args.self.now c.self.view_is c.self.invariant.most
