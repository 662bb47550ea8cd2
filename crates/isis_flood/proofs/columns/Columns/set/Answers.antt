use Rattle.std.proofs.Common.{Bool, set, ap, ◌∙◌, arith}
use Rattle.isis_flood.specs.Masks.{Held, held_mask, held_row}
use Rattle.isis_flood.specs.MaskLists.{masks_in}
use Rattle.isis_flood.proofs.ColumnLaws.{long_seen, set_seen}
use Rattle.isis_flood.proofs.columns.Columns.set.Goals as goal

pub index_mut-requires : goal.index_mut-requires
index_mut-requires c = omega (arith, c.requires, long_seen c.self.inside.ids.items (masks_in c.self.inside.srm) (masks_in c.self.inside.ssn) c.args.self.now.rows c.self.invariant.even (ap (λ (t : Held). t.rows) c.self.view_is), c.self.inside.ids.ok.0)

pub set-requires : goal.set-requires
set-requires c = omega (arith, c.requires, long_seen c.self.inside.ids.items (masks_in c.self.inside.srm) (masks_in c.self.inside.ssn) c.args.self.now.rows c.self.invariant.even (ap (λ (t : Held). t.rows) c.self.view_is), c.self.invariant.even.sent)

pub set-requires-2 : goal.set-requires-2
set-requires-2 c = omega (arith, c.requires, long_seen c.self.inside.ids.items (masks_in c.self.inside.srm) (masks_in c.self.inside.ssn) c.args.self.now.rows c.self.invariant.even (ap (λ (t : Held). t.rows) c.self.view_is), c.self.invariant.even.asked)

pub returns-clause-rows : goal.returns-clause-rows
returns-clause-rows c =
    let narrow = ap (λ (t : Held). t.narrow) c.self.view_is in
    set_seen c.self.inside.ids.items (masks_in c.self.inside.srm) (masks_in c.self.inside.ssn) c.args.self.now.rows c.self.invariant.even (ap (λ (t : Held). t.rows) c.self.view_is) c.args.place (held_row c.args.self.now.narrow c.args.row) (masks_in c.set.new.self) (masks_in c.set-2.new.self)
    (c.set.ensures.masks ∙ ap (λ (b : Bool). set (masks_in c.self.inside.srm) c.args.place (held_mask b c.args.row.srm)) narrow)
    (c.set-2.ensures.masks ∙ ap (λ (b : Bool). set (masks_in c.self.inside.ssn) c.args.place (held_mask b c.args.row.ssn)) (c.self.invariant.alike ∙ narrow))
