use Rattle.std.proofs.Common.{◌+◌, List, ℕ, [], ◌∷◌, ◌++◌, sym, ap, ◌∙◌, arith}
use Rattle.grown_domain.proofs.Ranged.{range_more}
use Rattle.grown_domain.proofs.schedule.ids.Goals as goal

pub loop-place-preserved : goal.loop-place-preserved
loop-place-preserved c =
    let i = c.loop-place.place in
    c.in_ok-push.ensures.ok ∙ ap (λ (ids : List ℕ). ids ++ (i + 1) ∷ []) c.loop-place.invariant ∙ sym (range_more 1 i (i + 1) (omega arith))
