use Rattle.std.proofs.Common.{sym, ◌∙◌, arith}
use Rattle.lsp_store.proofs.PlaceLaws.{stands_read, stands_past}
use Rattle.lsp_store.proofs.places.stands_at.Goals as goal

pub returns-then-place-count : goal.returns-then-place-count
returns-then-place-count g c =
    c.is_same_id.ensures ∙ sym (stands_read (g.T.LspIds.ids c.args.items.now) c.args.place c.id_at.result c.args.id.now (omega (arith, c.count.ensures, c.if-place-count.true)) c.id_at.ensures)

pub returns : goal.returns
returns g c = sym (stands_past (g.T.LspIds.ids c.args.items.now) c.args.place c.args.id.now (omega (arith, c.count.ensures, c.if-place-count.false)))
