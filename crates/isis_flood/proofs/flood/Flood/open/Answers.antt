use Rattle.std.proofs.Common.{arith}
use Rattle.isis_flood.proofs.FloodLaws.{link_of, same_links, opens}
use Rattle.isis_flood.proofs.flood.Flood.open.Goals as goal

pub with-self-inside-requires : goal.with-self-inside-requires
with-self-inside-requires c = let there = link_of c.self.inside.own c.self.inside.links c.self.inside.up c.self.inside.due c.self.inside.table.spare c.self.inside.table.rows c.args.self.now c.self.view_is c.args.link c.requires in omega (arith, there, c.self.invariant.most)

pub with-self-inside-requires-2 : goal.with-self-inside-requires-2
with-self-inside-requires-2 c = let there = link_of c.self.inside.own c.self.inside.links c.self.inside.up c.self.inside.due c.self.inside.table.spare c.self.inside.table.rows c.args.self.now c.self.view_is c.args.link c.requires in omega (arith, there, c.self.invariant.most)

pub returns-clause-flood : goal.returns-clause-flood
returns-clause-flood c =
    opens c.self.inside.own c.self.inside.links c.self.inside.up c.self.inside.due c.self.inside.table.spare c.self.inside.table.rows c.args.self.now c.self.view_is c.args.link c.self.invariant.most (link_of c.self.inside.own c.self.inside.links c.self.inside.up c.self.inside.due c.self.inside.table.spare c.self.inside.table.rows c.args.self.now c.self.view_is c.args.link c.requires) c.with-self-inside.result c.with-self-inside-2.result c.with-self-inside.ensures c.with-self-inside-2.ensures

pub returns-clause-links : goal.returns-clause-links
returns-clause-links c = same_links c.self.inside.own c.self.inside.links c.self.inside.up c.self.inside.due c.self.inside.table.spare c.self.inside.table.rows c.args.self.now c.self.view_is c.with-self-inside.result
