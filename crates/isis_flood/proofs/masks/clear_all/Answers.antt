use Rattle.std.proofs.Common.{false, set, arith}
use Rattle.std.proofs.lemmas.List.{get_or_default}
use Rattle.isis_flood.specs.Masks.{links_in}
use Rattle.isis_flood.proofs.MaskLaws.{mapped_step}
use Rattle.isis_flood.proofs.masks.clear_all.Goals as goal

pub masks-preserved : goal.masks-preserved
masks-preserved c = λ n lt few.
    mapped_step (links_in n) (λ flags. set flags c.args.link false) c.args.masks.now c.masks.masks c.masks.i _ c.without.result _ (omega arith) (omega (arith, c.masks-test.true)) (omega (arith, c.masks.auto.masks)) (c.masks.invariant n lt few)
    (get_or_default c.masks.masks c.masks.i _ _ (omega (arith, c.masks-test.true, c.masks.auto.masks))) (c.without.ensures n lt few)
