use Rattle.std.proofs.Common.{◌+◌, length, ap, ◌∙◌, length-append, ◌∷◌, []}
use Rattle.std.proofs.lemmas.Result.{err_from_is_err_and}
use Rattle.domain_conf.specs.Routers.{router_at}
use Rattle.domain_conf.proofs.EntryLemmas.{turn_fails, turn_goes, turns_end}
use Rattle.domain_conf.proofs.routers.read_routers.Goals as goal

pub returns-in_err-next : goal.returns-in_err-next
returns-in_err-next c =
    let p = err_from_is_err_and c.from_residual.result c.from_residual.ensures.1 in
    rw (p.1, p.2) (turn_fails router_at c.loop-place.earlier c.args.values.now c.loop-place.place c.index-values-place.result c.in_err-next.field-0.0 _ c.loop-place-test.true c.index-values-place.is c.in_err-next.ensures.value c.loop-place.invariant.0)

pub loop-place-preserved : goal.loop-place-preserved
loop-place-preserved c = (
  turn_goes router_at c.loop-place.earlier c.in_ok-earlier.earlier c.args.values.now c.loop-place.place c.index-values-place.result c.in_ok-next.next _ c.loop-place-test.true c.index-values-place.is c.in_ok-next.ensures.value c.in_ok-earlier.ensures c.loop-place.invariant.0,
  ap length c.in_ok-earlier.ensures ∙ (length-append c.loop-place.earlier (c.in_ok-next.next ∷ []) ∙ ap (λ n. n + 1) c.loop-place.invariant.1),
)

pub returns : goal.returns
returns c = turns_end router_at c.loop-place.earlier c.args.values.now c.loop-place.place _ c.loop-place-test.false c.loop-place.invariant.0
