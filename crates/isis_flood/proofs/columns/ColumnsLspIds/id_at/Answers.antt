use Rattle.std.proofs.Common.{List, length, get_or, ap, ◌∙◌, arith}
use Rattle.wire_base.specs.declared.addresses.LspId.{LspId}
use Rattle.isis_flood.specs.Masks.{Held}
use Rattle.isis_flood.specs.MaskLists.{masks_in}
use Rattle.isis_flood.proofs.ColumnLaws.{ids_seen}
use Rattle.isis_flood.proofs.columns.ColumnsLspIds.id_at.Goals as goal

pub index-requires : goal.index-requires
index-requires c =
    let seen = ids_seen c.self.inside.ids.items (masks_in c.self.inside.srm) (masks_in c.self.inside.ssn) c.args.self.now.rows c.self.invariant.even (ap (λ (t : Held). t.rows) c.self.view_is) in
    omega (arith, c.requires, ap (λ (ids : List LspId). length ids) seen, c.self.inside.ids.ok.0)

pub returns : goal.returns
returns c =
    c.index.ensures ∙ ap (λ (ids : List LspId). get_or ids c.args.i c.index.result.now) (ids_seen c.self.inside.ids.items (masks_in c.self.inside.srm) (masks_in c.self.inside.ssn) c.args.self.now.rows c.self.invariant.even (ap (λ (t : Held). t.rows) c.self.view_is))
