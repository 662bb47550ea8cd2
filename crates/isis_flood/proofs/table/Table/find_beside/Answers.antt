use Rattle.std.proofs.Common.{◌∙◌, ap}
use Rattle.lsp_store.specs.Places.{place_in}
use Rattle.isis_flood.specs.Masks.{Held, row_ids}
use Rattle.isis_flood.proofs.table.Table.find_beside.Goals as goal

pub returns-then-is_gap-clause-place : goal.returns-then-is_gap-clause-place
returns-then-is_gap-clause-place c = record {
  place = c.is_gap.ensures c.if-is_gap.true ∙ ap (λ (t : Held). place_in (row_ids t.rows) c.args.id.now) c.self.view_is;
  stands = c.requires;
}
