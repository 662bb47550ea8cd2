use Rattle.std.proofs.Common.{sym, ◌∙◌, arith}
use Rattle.lsp_store.proofs.PlaceLaws.{above_place}
use Rattle.lsp_store.proofs.places.is_behind.Goals as goal

pub returns : goal.returns
returns g c = λ is.
    let above = above_place (g.T.LspIds.ids c.args.items.now) _ c.id_at.result c.args.id.now c.requires.order (omega (arith, c.requires.within, c.if-place-eq0.false)) c.id_at.ensures (sym c.is_id_above.ensures ∙ is) in
    omega (arith, above, c.if-place-eq0.false)
