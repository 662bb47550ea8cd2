use Rattle.std.proofs.Common.{false, set, arith}
use Rattle.std.proofs.lemmas.List.{get_or_default}
use Rattle.isis_flood.specs.Masks.{links_in}
use Rattle.isis_flood.proofs.MaskLaws.{mapped_step}
use Rattle.isis_flood.proofs.octets.clear_octets.Goals as goal

pub masks-preserved : goal.masks-preserved
masks-preserved c = λ n lt few.
    mapped_step (links_in n) (λ flags. set flags c.args.link false) c.args.octets.now c.masks.octets c.masks.i _ c.octet_without.result _ (omega arith) (omega (arith, c.masks-test.true)) (omega (arith, c.masks.auto.octets)) (c.masks.invariant n lt few)
    (get_or_default c.masks.octets c.masks.i _ _ (omega (arith, c.masks-test.true, c.masks.auto.octets))) (c.octet_without.ensures n lt few)
