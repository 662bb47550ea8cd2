use Rattle.std.proofs.Common.{◌≡◌, Bool, true, false, not, refl, sym, ◌∙◌, arith}
use mathlib.Core.Bool.{false≢true}
use Rattle.lsp_store.proofs.PlaceLaws.{not_above_place, place_within}
use Rattle.lsp_store.proofs.places.is_before.Goals as goal

pub returns-then-place-count : goal.returns-then-place-count
returns-then-place-count g c = λ is.
    let within = place_within (g.T.LspIds.ids c.args.items.now) c.args.id.now in
    omega (arith, within, c.count.ensures, c.if-place-count.true)

is_not : (b : Bool) → not b ≡ true → b ≡ false
is_not true h = absurd (false≢true h)
is_not false h = refl

pub returns : goal.returns
returns g c = λ is.
    not_above_place (g.T.LspIds.ids c.args.items.now) c.args.place c.id_at.result c.args.id.now (omega (arith, c.count.ensures, c.if-place-count.false)) c.id_at.ensures (sym c.is_id_above.ensures ∙ is_not c.is_id_above.result is)
