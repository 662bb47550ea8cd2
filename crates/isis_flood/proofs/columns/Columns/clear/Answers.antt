use Rattle.std.proofs.Common.{ap, arith}
use Rattle.isis_flood.specs.Masks.{Held}
use Rattle.isis_flood.specs.MaskLists.{masks_in}
use Rattle.isis_flood.proofs.ColumnLaws.{same_ids, asked_seen, both_seen}
use Rattle.isis_flood.proofs.columns.Columns.clear.Goals as goal

pub returns-then-both-clause-ids : goal.returns-then-both-clause-ids
returns-then-both-clause-ids c = same_ids c.self.inside.ids.items (masks_in c.self.inside.srm) (masks_in c.self.inside.ssn) c.args.self.now.rows c.self.invariant.even (ap (λ (t : Held). t.rows) c.self.view_is) (masks_in c.clear-then-both.new.self) (masks_in c.clear.new.self) (record { sent = omega (arith, c.clear-then-both.ensures.len, c.self.invariant.even.sent); asked = omega (arith, c.clear.ensures.len, c.self.invariant.even.asked) })

pub returns-then-both-clause-rows : goal.returns-then-both-clause-rows
returns-then-both-clause-rows c = λ n lt few. both_seen c.self.inside.ids.items (masks_in c.self.inside.srm) (masks_in c.self.inside.ssn) c.args.self.now.rows c.self.invariant.even (ap (λ (t : Held). t.rows) c.self.view_is) c.args.both c.args.link n (masks_in c.clear-then-both.new.self) (masks_in c.clear.new.self) c.if-both.true (c.clear-then-both.ensures.flags n lt few) (c.clear.ensures.flags n lt few)

pub returns-else-both-clause-ids : goal.returns-else-both-clause-ids
returns-else-both-clause-ids c = same_ids c.self.inside.ids.items (masks_in c.self.inside.srm) (masks_in c.self.inside.ssn) c.args.self.now.rows c.self.invariant.even (ap (λ (t : Held). t.rows) c.self.view_is) (masks_in c.self.inside.srm) (masks_in c.clear.new.self) (record { sent = c.self.invariant.even.sent; asked = omega (arith, c.clear.ensures.len, c.self.invariant.even.asked) })

pub returns-else-both-clause-rows : goal.returns-else-both-clause-rows
returns-else-both-clause-rows c = λ n lt few. asked_seen c.self.inside.ids.items (masks_in c.self.inside.srm) (masks_in c.self.inside.ssn) c.args.self.now.rows c.self.invariant.even (ap (λ (t : Held). t.rows) c.self.view_is) c.args.both c.args.link n (masks_in c.clear.new.self) c.if-both.false (c.clear.ensures.flags n lt few)
