use Rattle.std.proofs.Common.{◌∙◌, sym, ap, subst}
use Rattle.wire_base.specs.model.Control.{AreAscending}
use Rattle.lsp_store.specs.Places.{stands_at}
use Rattle.lsp_store.proofs.PlaceLaws.{stands_placed}
use Rattle.isis_flood.specs.Masks.{Held, row_ids}
use Rattle.isis_flood.proofs.table.Table.find_near.Goals as goal

pub returns-then-stands_at-clause-place : goal.returns-then-stands_at-clause-place
returns-then-stands_at-clause-place c =
    let seen = ap (λ (t : Held). row_ids t.rows) c.self.view_is in
    let stands = ap (λ ids. stands_at ids c.args.guess c.args.id.now) (sym seen) ∙ sym c.stands_at.ensures ∙ c.if-stands_at.true in
    record {
      place = stands_placed (row_ids c.args.self.now.rows) c.args.guess c.args.id.now (subst AreAscending seen c.self.invariant.ascends) stands;
      stands = stands;
    }

pub find_beside-requires : goal.find_beside-requires
find_beside-requires c = ap (λ (t : Held). stands_at (row_ids t.rows) c.args.guess c.args.id.now) (sym c.self.view_is) ∙ sym c.stands_at.ensures ∙ c.if-stands_at.false
