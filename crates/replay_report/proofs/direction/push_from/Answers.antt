use Rattle.std.proofs.Common.{◌≡◌, ◌+◌, ◌++◌, ◌∷◌, [], List, ℕ, map, ap, sym, ◌∙◌, append_assoc, arith}
use Rattle.std.specs.List.{range_with_len}
use Rattle.std.proofs.lemmas.List.FromFn.{map-range_with_len_more}
use Rattle.domain_model.specs.Run.{Direction, direction_over}
use Rattle.replay_report.proofs.direction.push_from.Goals as goal

pub loop-link-preserved : goal.loop-link-preserved
loop-link-preserved c =
    let k : 0 + c.loop-link.link ≡ c.loop-link.link = omega arith in
    let over : ℕ → Direction = direction_over c.args.routers.now c.args.from in
    c.in_ok-push.ensures.ok
    ∙ ap (λ (to : ℕ). c.loop-link.out ++ record { from = c.args.from; link = c.loop-link.link; to = to } ∷ []) c.peer_place-to.ensures
    ∙ ap (λ (l : List Direction). l ++ over c.loop-link.link ∷ []) c.loop-link.invariant
    ∙ append_assoc c.args.out.now (map over (range_with_len 0 c.loop-link.link)) (over c.loop-link.link ∷ [])
    ∙ ap (λ (l : List Direction). c.args.out.now ++ l) (sym (map-range_with_len_more over 0 c.loop-link.link c.loop-link.link k))
