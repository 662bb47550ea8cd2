use Rattle.std.proofs.Common.{sym, ◌∙◌}
use Rattle.isis_flood.proofs.FloodLaws.{rows_long}
use Rattle.isis_flood.proofs.flood.Flood.rows.Goals as goal

pub returns : goal.returns
returns c = c.len.ensures ∙ sym (rows_long c.self.inside.own c.self.inside.links c.self.inside.up c.self.inside.due c.self.inside.table.spare c.self.inside.table.rows c.args.self.now c.self.view_is)
