use Rattle.std.proofs.Common.{arith}
use Rattle.laws_format.proofs.ChecksumLaws.{sum_step, weighted_step}
use Rattle.isis_pdu.proofs.SumLemmas.{sum_chunk, weighted_chunk}
use Rattle.isis_pdu.proofs.checksum.short_sums.Goals as goal

pub sixteens-preserved : goal.sixteens-preserved
sixteens-preserved c =
    let inv = c.sixteens.invariant in
    let sums = c.sixteen_sums-more.ensures in
    let s = sum_chunk c.args.bytes.now c.sixteens.at 16 in
    let w = weighted_chunk c.args.bytes.now c.sixteens.at 16 (omega (arith, c.sixteens-test.true)) in
    record {
      within = omega (arith, c.sixteens-test.true);
      plain = omega (arith, s, inv.plain, sums.plain, c.from-plain.ensures);
      heavy = omega (arith, w, inv.plain, inv.heavy, sums.heavy, c.from.ensures);
      low = omega (arith, sums.low, inv.low, c.from-plain.ensures);
      small = omega (arith, sums.small, inv.low, inv.small, c.from.ensures, c.sixteens-test.true, c.requires);
    }

pub ones-preserved : goal.ones-preserved
ones-preserved c =
    let inv = c.ones.invariant in
    let s = sum_step c.args.bytes.now c.ones.at c.ones-test.true in
    let w = weighted_step c.args.bytes.now c.ones.at c.ones-test.true in
    let octet = (c.type_inv.bytes c.ones.at).fits in
    record {
      within = omega (arith, c.ones-test.true);
      plain = omega (arith, s, inv.plain, c.from-plain-in-ones.ensures);
      heavy = omega (arith, s, w, inv.plain, inv.heavy, c.from-plain-in-ones.ensures);
      low = omega (arith, octet, inv.low, c.from-plain-in-ones.ensures);
      small = omega (arith, octet, inv.low, inv.small, c.from-plain-in-ones.ensures, c.ones-test.true, c.requires);
    }
