use Rattle.std.proofs.Common.{arith}
use Rattle.isis_flood.proofs.FloodLaws.{rows_long, id_seen}
use Rattle.isis_flood.proofs.flood.Flood.id_at.Goals as goal

pub id_at-requires : goal.id_at-requires
id_at-requires c = omega (arith, c.requires, rows_long c.self.inside.own c.self.inside.links c.self.inside.up c.self.inside.due c.self.inside.table.spare c.self.inside.table.rows c.args.self.now c.self.view_is)

pub returns : goal.returns
returns c = id_seen c.self.inside.own c.self.inside.links c.self.inside.up c.self.inside.due c.self.inside.table.spare c.self.inside.table.rows c.args.self.now c.self.view_is c.args.place c.id_at.result c.requires c.id_at.ensures
