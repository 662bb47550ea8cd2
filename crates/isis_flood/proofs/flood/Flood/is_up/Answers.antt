use Rattle.isis_flood.proofs.FloodLaws.{up_seen}
use Rattle.isis_flood.proofs.flood.Flood.is_up.Goals as goal

pub returns : goal.returns
returns c = up_seen c.self.inside.own c.self.inside.links c.self.inside.up c.self.inside.due c.self.inside.table.spare c.self.inside.table.rows c.args.self.now c.self.view_is c.args.link c.has_of.result c.has_of.ensures
