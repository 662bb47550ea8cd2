use Rattle.std.proofs.Common.{◌≡◌, ◌+◌, List, [], ◌∷◌, ◌++◌, sym, ap, ◌∙◌, arith}
use Rattle.std.proofs.lemmas.List.FromFn.{map-range_with_len_more}
use Rattle.wire_base.specs.declared.conf.RouterConf.{RouterConf}
use Rattle.grown_domain.specs.Routers.{router}
use Rattle.grown_domain.proofs.domain.routers.Goals as goal

pub loop-place-preserved : goal.loop-place-preserved
loop-place-preserved c =
    let i = c.loop-place.place in
    let k : 0 + i ≡ i = omega arith in
    c.in_ok-push.ensures.ok
    ∙ ap (λ (r : RouterConf). c.loop-place.routers ++ r ∷ []) c.in_ok-router.ensures
    ∙ ap (λ (rs : List RouterConf). rs ++ router c.args.links.now c.args.n i ∷ []) c.loop-place.invariant
    ∙ sym (map-range_with_len_more (router c.args.links.now c.args.n) 0 i i k)
