use Rattle.std.proofs.Common.{true, false, refl, ap, ◌∙◌, length, get_or, arith}
use Rattle.std.proofs.lemmas.List.{take_all}
use Rattle.isis_flood.specs.Masks.{at_bit}
use Rattle.isis_flood.proofs.MaskLaws.{one_more, none_more, links_are}
use Rattle.isis_flood.proofs.masks.mask_of.Goals.{then-values-i, else-values-i}
use Rattle.isis_flood.proofs.masks.mask_of.Goals as goal

pub links-preserved : goal.links-preserved
links-preserved c = elim c.if-values-i.branch [
  | then-values-i w ↦ one_more c.links.mask c.if-values-i.mask c.args.values.now c.links.i _ true (omega arith) c.links.invariant w.if-values-i.true (ap (λ m. at_bit m c.links.i) w.mask-is ∙ w.with_bit-mask.ensures.here) (λ j low apart. ap (λ m. at_bit m j) w.mask-is ∙ w.with_bit-mask.ensures.others j low apart)
  | else-values-i w ↦ one_more c.links.mask c.if-values-i.mask c.args.values.now c.links.i _ false (omega arith) c.links.invariant w.if-values-i.false (ap (λ m. at_bit m c.links.i) w.mask-is ∙ none_more c.links.mask c.args.values.now c.links.i (omega (arith, c.links-test.true, c.requires)) c.links.invariant) (λ j low apart. ap (λ m. at_bit m j) w.mask-is)
]

pub returns : goal.returns
returns c =
    links_are c.links.mask (length c.args.values.now) c.args.values.now refl (λ j lt. c.links.invariant j (omega (arith, lt, c.requires)) ∙ ap (λ xs. get_or xs j false) (take_all c.links.i c.args.values.now c.links-test.false))
