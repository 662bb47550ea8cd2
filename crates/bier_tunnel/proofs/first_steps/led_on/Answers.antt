use Rattle.std.proofs.Common.{ℕ, true, slice_set, ap, ◌∙◌}
use Rattle.bier_tunnel.proofs.StepLemmas.{led-on, both-ok}
use Rattle.bier_tunnel.proofs.first_steps.led_on.Goals as goal

pub returns : goal.returns
returns c =
    let g = c.args.nodes.now in
    let marked = rw c.as_slice.ensures.value at c.in_ok-beyond.ensures.each in
    let beyond = c.as_slice-2.ensures.value ∙ ap (λ (i : ℕ). slice_set c.in_ok-beyond.beyond.items i true) c.from.ensures in
    both-ok _ _ _ c.filled.result
    (λ more rows each. led-on g c.args.u c.args.first c.args.steps.now c.in_ok-known.known.items c.in_ok-beyond.beyond.items c.as_slice-2.result.now c.requires.first c.requires.rows
    c.in_ok-known.ensures.rows c.in_ok-known.ensures.each c.in_ok-beyond.ensures.rows marked beyond more.items rows each)
    c.filled.ensures.rows c.filled.ensures.each
