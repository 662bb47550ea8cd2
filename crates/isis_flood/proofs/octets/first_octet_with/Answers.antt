use Rattle.std.proofs.Common.{refl, ◌∙◌, arith}
use Rattle.isis_flood.specs.Masks.{at_bit}
use Rattle.isis_flood.proofs.OctetLaws.{chunk_passes, chunk_stops}
use Rattle.isis_flood.proofs.octets.first_octet_with.Goals as goal

pub chunks-preserved : goal.chunks-preserved
chunks-preserved c = record {
  within = omega (arith, c.chunks-test.true);
  passed = chunk_passes (λ mask. at_bit mask c.args.link) c.args.octets.now c.chunks.place 32 _ refl (omega (arith, c.ahead_in_chunk-ahead.ensures, c.if-ahead-lt32.false)) ∙ c.chunks.invariant.passed;
}

pub returns-then-ahead-lt32 : goal.returns-then-ahead-lt32
returns-then-ahead-lt32 c =
    chunk_stops (λ mask. at_bit mask c.args.link) c.args.octets.now c.chunks.place 32 _ c.ahead_in_chunk-ahead.ensures (omega (arith, c.if-ahead-lt32.true)) ∙ c.chunks.invariant.passed

pub eights-preserved : goal.eights-preserved
eights-preserved c = record {
  within = omega (arith, c.eights-test.true);
  passed = chunk_passes (λ mask. at_bit mask c.args.link) c.args.octets.now c.eights.place 8 _ refl (omega (arith, c.ahead_in_chunk-ahead-in-eights.ensures, c.if-ahead-lt8.false)) ∙ c.eights.invariant.passed;
}

pub returns-then-ahead-lt8 : goal.returns-then-ahead-lt8
returns-then-ahead-lt8 c =
    chunk_stops (λ mask. at_bit mask c.args.link) c.args.octets.now c.eights.place 8 _ c.ahead_in_chunk-ahead-in-eights.ensures (omega (arith, c.if-ahead-lt8.true)) ∙ c.eights.invariant.passed
