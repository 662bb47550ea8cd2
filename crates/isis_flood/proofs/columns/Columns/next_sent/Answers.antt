use Rattle.std.proofs.Common.{ap}
use Rattle.isis_flood.specs.Masks.{Held}
use Rattle.isis_flood.specs.MaskLists.{masks_in}
use Rattle.isis_flood.proofs.ColumnLaws.{next_sent_seen}
use Rattle.isis_flood.proofs.columns.Columns.next_sent.Goals as goal

pub returns : goal.returns
returns c = next_sent_seen c.self.inside.ids.items (masks_in c.self.inside.srm) (masks_in c.self.inside.ssn) c.args.self.now.rows c.self.invariant.even (ap (λ (t : Held). t.rows) c.self.view_is) c.args.link c.args.from c.next_with.result c.next_with.ensures
