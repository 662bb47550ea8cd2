use Rattle.std.proofs.Common.{arith}
use Rattle.std.proofs.lemmas.Result.{on_ok_weaker}
use Rattle.isis_flood.proofs.FloodLaws.{link_of, turns}
use Rattle.isis_flood.proofs.flood.Flood.turn.Goals as goal

pub turned-requires : goal.turned-requires
turned-requires c = let there = link_of c.self.inside.own c.self.inside.links c.self.inside.up c.self.inside.due c.self.inside.table.spare c.self.inside.table.rows c.args.self.now c.self.view_is c.args.link c.requires in omega (arith, there, c.self.invariant.most)

pub turned-requires-2 : goal.turned-requires-2
turned-requires-2 c = let there = link_of c.self.inside.own c.self.inside.links c.self.inside.up c.self.inside.due c.self.inside.table.spare c.self.inside.table.rows c.args.self.now c.self.view_is c.args.link c.requires in omega (arith, there, c.self.invariant.most)

pub returns-clause-ok : goal.returns-clause-ok
returns-clause-ok c =
    on_ok_weaker c.put_at.result
    (λ is. turns c.self.inside.own c.self.inside.links c.self.inside.up c.self.inside.due c.self.inside.table.spare c.self.inside.table.rows c.args.self.now c.self.view_is c.self.inside.table.narrow c.args.link c.self.invariant
    c.requires c.args.srm c.args.ssn c.args.id c.row_at-row.result c.turned.result c.turned-2.result c.put_at.new.self.rows c.row_at-row.ensures c.turned.ensures c.turned-2.ensures is)
    c.put_at.ensures.ok
