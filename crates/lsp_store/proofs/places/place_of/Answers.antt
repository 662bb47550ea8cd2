use Rattle.std.proofs.Common.{sym, ◌∙◌, arith}
use Rattle.lsp_store.proofs.PlaceLaws.{above_place, not_above_place, place_within}
use Rattle.lsp_store.proofs.places.place_of.Goals as goal

pub halves-init : goal.halves-init
halves-init g c =
    let within = place_within (g.T.LspIds.ids c.args.items.now) c.args.id.now in
    record { low = omega arith; high = omega (arith, within, c.count-high.ensures); within = omega (arith, c.count-high.ensures) }

pub halves-preserved-then-is_id_above : goal.halves-preserved-then-is_id_above
halves-preserved-then-is_id_above g c =
    let inv = c.halves.invariant in
    let above = above_place (g.T.LspIds.ids c.args.items.now) _ c.id_at.result c.args.id.now c.requires (omega (arith, inv.within, c.halves-test.true)) c.id_at.ensures (sym c.is_id_above.ensures ∙ c.if-is_id_above.true) in
    record { low = omega (arith, above); high = inv.high; within = inv.within }

pub halves-preserved : goal.halves-preserved
halves-preserved g c =
    let inv = c.halves.invariant in
    let below = not_above_place (g.T.LspIds.ids c.args.items.now) _ c.id_at.result c.args.id.now (omega (arith, inv.within, c.halves-test.true)) c.id_at.ensures (sym c.is_id_above.ensures ∙ c.if-is_id_above.false) in
    record { low = inv.low; high = below; within = omega (arith, inv.within, c.halves-test.true) }
