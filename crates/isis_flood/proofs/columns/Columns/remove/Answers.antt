use Rattle.std.proofs.Common.{ap, arith}
use Rattle.isis_flood.specs.Masks.{Held}
use Rattle.isis_flood.specs.MaskLists.{masks_in}
use Rattle.isis_flood.proofs.ColumnLaws.{long_seen, remove_seen}
use Rattle.isis_flood.proofs.columns.Columns.remove.Goals as goal

pub remove-requires : goal.remove-requires
remove-requires c = omega (arith, c.requires, long_seen c.self.inside.ids.items (masks_in c.self.inside.srm) (masks_in c.self.inside.ssn) c.args.self.now.rows c.self.invariant.even (ap (λ (t : Held). t.rows) c.self.view_is), c.self.inside.ids.ok.0)

pub returns-clause-rows : goal.returns-clause-rows
returns-clause-rows c = remove_seen c.self.inside.ids.items (masks_in c.self.inside.srm) (masks_in c.self.inside.ssn) c.args.self.now.rows c.self.invariant.even (ap (λ (t : Held). t.rows) c.self.view_is) c.args.place c.remove.new.self.items (masks_in c.remove-2.new.self) (masks_in c.remove-3.new.self) c.remove.ensures.items c.remove-2.ensures.masks c.remove-3.ensures.masks
