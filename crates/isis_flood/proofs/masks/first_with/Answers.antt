use Rattle.std.proofs.Common.{◌+◌, ◌∙◌, refl, sym, arith}
use Rattle.isis_flood.specs.Masks.{at_bit}
use Rattle.isis_flood.proofs.ChunkLaws.{chunk_passed}
use Rattle.isis_flood.proofs.masks.first_with.Goals as goal

pub eights-preserved : goal.eights-preserved
eights-preserved c = record {
  within = omega (arith, c.eights-test.true);
  passed = chunk_passed (λ mask. at_bit mask c.args.link) c.args.masks.now c.eights.place 8 (c.eights.place + 8) refl (omega (arith, c.eights-test.true)) (sym c.has_eight.ensures ∙ c.if-not-has_eight.true) ∙ c.eights.invariant.passed;
}
