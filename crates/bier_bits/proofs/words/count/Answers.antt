use Rattle.std.proofs.Common.{◌+◌, arith, refl, get_or}
use Rattle.bier_bits.proofs.Counted.{word_more, words_all, ones_small}
use Rattle.bier_bits.proofs.words.count.Goals as goal

pub loop-k-preserved : goal.loop-k-preserved
loop-k-preserved c =
    let fits = (c.type_inv.words c.loop-k.k).fits in
    record {
      counted = word_more c.args.words.now c.loop-k.k (c.loop-k.k + 1) c.loop-k.count fits refl c.loop-k.invariant.counted;
      bound = omega (arith, c.loop-k.invariant.bound, ones_small 64 (get_or c.args.words.now c.loop-k.k 0) fits);
    }

pub returns-clause-value : goal.returns-clause-value
returns-clause-value c = words_all c.args.words.now c.loop-k.k c.loop-k.count (omega (arith, c.loop-k.auto.k-end, c.loop-k-test.false)) c.loop-k.invariant.counted
