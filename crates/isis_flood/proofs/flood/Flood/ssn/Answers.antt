use Rattle.isis_flood.proofs.FloodLaws.{ssn_is}
use Rattle.isis_flood.proofs.flood.Flood.ssn.Goals as goal

pub returns : goal.returns
returns c = ssn_is c.self.inside.own c.self.inside.links c.self.inside.up c.self.inside.due c.self.inside.table.spare c.self.inside.table.rows c.args.self.now c.self.view_is c.args.link c.args.id c.get.result c.has_of.result c.get.ensures.row c.get.ensures.ascends c.has_of.ensures
