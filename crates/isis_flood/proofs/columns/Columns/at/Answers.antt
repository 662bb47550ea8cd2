use Rattle.std.proofs.Common.{ap, arith}
use Rattle.isis_flood.specs.Masks.{Held}
use Rattle.isis_flood.specs.MaskLists.{masks_in}
use Rattle.isis_flood.proofs.ColumnLaws.{long_seen, row_seen}
use Rattle.isis_flood.proofs.columns.Columns.at.Goals as goal

pub index-requires : goal.index-requires
index-requires c = omega (arith, c.requires, long_seen c.self.inside.ids.items (masks_in c.self.inside.srm) (masks_in c.self.inside.ssn) c.args.self.now.rows c.self.invariant.even (ap (λ (t : Held). t.rows) c.self.view_is), c.self.inside.ids.ok.0)

pub at-requires : goal.at-requires
at-requires c = omega (arith, c.requires, long_seen c.self.inside.ids.items (masks_in c.self.inside.srm) (masks_in c.self.inside.ssn) c.args.self.now.rows c.self.invariant.even (ap (λ (t : Held). t.rows) c.self.view_is), c.self.invariant.even.sent)

pub at-requires-2 : goal.at-requires-2
at-requires-2 c = omega (arith, c.requires, long_seen c.self.inside.ids.items (masks_in c.self.inside.srm) (masks_in c.self.inside.ssn) c.args.self.now.rows c.self.invariant.even (ap (λ (t : Held). t.rows) c.self.view_is), c.self.invariant.even.asked)

pub returns : goal.returns
returns c = row_seen c.self.inside.ids.items (masks_in c.self.inside.srm) (masks_in c.self.inside.ssn) c.args.self.now.rows c.self.invariant.even (ap (λ (t : Held). t.rows) c.self.view_is) c.args.place c.index.result.now c.at.result c.at-2.result c.index.ensures c.at.ensures c.at-2.ensures
