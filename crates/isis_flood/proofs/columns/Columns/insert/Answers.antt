use Rattle.std.proofs.Common.{Bool, ap, ◌∙◌, arith}
use Rattle.std.specs.List.{insert}
use Rattle.isis_flood.specs.Masks.{Held, held_mask, held_row}
use Rattle.isis_flood.specs.MaskLists.{masks_in}
use Rattle.isis_flood.proofs.ColumnLaws.{long_seen, insert_seen}
use Rattle.isis_flood.proofs.columns.Columns.insert.Goals as goal

pub insert_within-requires-clause-place : goal.insert_within-requires-clause-place
insert_within-requires-clause-place c = omega (arith, c.requires, long_seen c.self.inside.ids.items (masks_in c.self.inside.srm) (masks_in c.self.inside.ssn) c.args.self.now.rows c.self.invariant.even (ap (λ (t : Held). t.rows) c.self.view_is ∙ c.reserve.ensures.rows), c.self.inside.ids.ok.0)

pub insert-requires-clause-place : goal.insert-requires-clause-place
insert-requires-clause-place c = omega (arith, c.requires, long_seen c.self.inside.ids.items (masks_in c.self.inside.srm) (masks_in c.self.inside.ssn) c.args.self.now.rows c.self.invariant.even (ap (λ (t : Held). t.rows) c.self.view_is ∙ c.reserve.ensures.rows), c.self.invariant.even.sent)

pub insert-requires-2-clause-place : goal.insert-requires-2-clause-place
insert-requires-2-clause-place c = omega (arith, c.requires, long_seen c.self.inside.ids.items (masks_in c.self.inside.srm) (masks_in c.self.inside.ssn) c.args.self.now.rows c.self.invariant.even (ap (λ (t : Held). t.rows) c.self.view_is ∙ c.reserve.ensures.rows), c.self.invariant.even.asked)

pub returns-clause-ok : goal.returns-clause-ok
returns-clause-ok c =
    let narrow = ap (λ (t : Held). t.narrow) c.self.view_is ∙ c.reserve.ensures.narrow in
    insert_seen c.self.inside.ids.items (masks_in c.self.inside.srm) (masks_in c.self.inside.ssn) c.args.self.now.rows c.self.invariant.even (ap (λ (t : Held). t.rows) c.self.view_is ∙ c.reserve.ensures.rows) c.args.place (held_row c.args.self.now.narrow c.args.row) c.insert_within.new.list.items (masks_in c.insert.new.self) (masks_in c.insert-2.new.self) c.requires c.insert_within.ensures.items
    (c.insert.ensures.masks ∙ ap (λ (b : Bool). insert (masks_in c.self.inside.srm) c.args.place (held_mask b c.args.row.srm)) narrow)
    (c.insert-2.ensures.masks ∙ ap (λ (b : Bool). insert (masks_in c.self.inside.ssn) c.args.place (held_mask b c.args.row.ssn)) (c.self.invariant.alike ∙ narrow))
