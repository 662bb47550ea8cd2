use Rattle.std.proofs.Common.{arith}
use Rattle.isis_flood.proofs.FloodLaws.{link_of, next_sent_seen}
use Rattle.isis_flood.proofs.flood.Flood.next_sent.Goals as goal

pub next_sent-requires : goal.next_sent-requires
next_sent-requires c = let there = link_of c.self.inside.own c.self.inside.links c.self.inside.up c.self.inside.due c.self.inside.table.spare c.self.inside.table.rows c.args.self.now c.self.view_is c.args.link c.requires in omega (arith, there, c.self.invariant.most)

pub returns : goal.returns
returns c = next_sent_seen c.self.inside.own c.self.inside.links c.self.inside.up c.self.inside.due c.self.inside.table.spare c.self.inside.table.rows c.args.self.now c.self.view_is c.args.link c.args.from c.next_sent.result (link_of c.self.inside.own c.self.inside.links c.self.inside.up c.self.inside.due c.self.inside.table.spare c.self.inside.table.rows c.args.self.now c.self.view_is c.args.link c.requires) c.next_sent.ensures
