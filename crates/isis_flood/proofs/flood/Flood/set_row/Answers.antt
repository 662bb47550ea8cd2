use Rattle.std.proofs.lemmas.Result.{on_ok_weaker}
use Rattle.isis_flood.proofs.FloodLaws.{row_changes}
use Rattle.isis_flood.proofs.flood.Flood.set_row.Goals as goal

pub returns-clause-ok : goal.returns-clause-ok
returns-clause-ok c = λ change changed. on_ok_weaker c.put.result (λ is. row_changes c.self.inside.own c.self.inside.links c.self.inside.up c.self.inside.due c.self.inside.table.spare c.self.inside.table.rows c.args.self.now c.self.view_is c.self.inside.table.narrow c.self.invariant.where_narrow c.args.row change c.put.new.self.rows is changed) c.put.ensures.ok
