use Rattle.std.proofs.Common.{◌≡◌, ◌+◌, List, [], ◌∷◌, ◌++◌, sym, ap, ◌∙◌, arith}
use Rattle.std.proofs.lemmas.List.FromFn.{map-range_with_len_more}
use Rattle.grown_domain.specs.declared.links.Link.{Link}
use Rattle.grown_domain.specs.Links.{ring_link}
use Rattle.grown_domain.proofs.links.ring.Goals as goal

pub loop-i-preserved : goal.loop-i-preserved
loop-i-preserved c =
    let i = c.loop-i.i in
    let k : 0 + i ≡ i = omega arith in
    c.in_ok-push.ensures.ok
    ∙ ap (λ (l : Link). c.loop-i.links ++ l ∷ []) c.ring_link.ensures
    ∙ ap (λ (ls : List Link). ls ++ ring_link c.args.n i ∷ []) c.loop-i.invariant
    ∙ sym (map-range_with_len_more (ring_link c.args.n) 0 i i k)
