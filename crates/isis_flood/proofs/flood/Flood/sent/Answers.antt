use Rattle.std.proofs.Common.{ap, ◌∙◌}
use Rattle.isis_flood.specs.Masks.{rows_of}
use Rattle.isis_flood.proofs.FloodLaws.{sends, past_sent, same_links}
use Rattle.isis_flood.proofs.flood.Flood.sent.Goals as goal

pub returns-then-link-self-clause-flood : goal.returns-then-link-self-clause-flood
returns-then-link-self-clause-flood c = past_sent c.self.inside.own c.self.inside.links c.self.inside.up c.self.inside.due c.self.inside.table.spare c.self.inside.table.rows c.args.self.now c.self.view_is c.args.link c.if-link-self.true

pub returns-clause-flood : goal.returns-clause-flood
returns-clause-flood c = sends c.self.inside.own c.self.inside.links c.self.inside.up c.self.inside.due c.self.inside.table.spare c.self.inside.table.rows c.args.self.now c.self.view_is c.args.link c.self.invariant.most c.if-link-self.false c.without-self-inside.result c.settle.new.self.rows c.without-self-inside.ensures
    (λ m lt few. ap (rows_of m) c.settle.ensures.rows ∙ c.clear.ensures.rows m lt few)

pub returns-clause-links : goal.returns-clause-links
returns-clause-links c = same_links c.self.inside.own c.self.inside.links c.self.inside.up c.self.inside.due c.self.inside.table.spare c.self.inside.table.rows c.args.self.now c.self.view_is c.self.inside.up
