use Rattle.std.proofs.Common.{Bool, set, ap, ◌∙◌, arith}
use Rattle.isis_flood.specs.Masks.{Held, held_mask}
use Rattle.isis_flood.specs.MaskLists.{masks_in}
use Rattle.isis_flood.proofs.ColumnLaws.{long_seen, sent_seen}
use Rattle.isis_flood.proofs.columns.Columns.set_srm.Goals as goal

pub set-requires : goal.set-requires
set-requires c = omega (arith, c.requires, long_seen c.self.inside.ids.items (masks_in c.self.inside.srm) (masks_in c.self.inside.ssn) c.args.self.now.rows c.self.invariant.even (ap (λ (t : Held). t.rows) c.self.view_is), c.self.invariant.even.sent)

pub returns-clause-rows : goal.returns-clause-rows
returns-clause-rows c = λ row.
    sent_seen c.self.inside.ids.items (masks_in c.self.inside.srm) (masks_in c.self.inside.ssn) c.args.self.now.rows c.self.invariant.even (ap (λ (t : Held). t.rows) c.self.view_is) c.args.place (held_mask c.args.self.now.narrow c.args.mask) row (masks_in c.set.new.self)
    (c.set.ensures.masks ∙ ap (λ (b : Bool). set (masks_in c.self.inside.srm) c.args.place (held_mask b c.args.mask)) (ap (λ (t : Held). t.narrow) c.self.view_is))
