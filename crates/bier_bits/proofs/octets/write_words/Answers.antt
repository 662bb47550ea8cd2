use Rattle.std.proofs.Common.{◌-◌, ◌*◌, length, refl, get_or, ◌∙◌}
use Rattle.bier_bits.proofs.OctetLaws.{write_one}
use Rattle.bier_bits.proofs.octets.write_words.Goals as goal

pub loop-k-preserved : goal.loop-k-preserved
loop-k-preserved c =
    let k = c.loop-k.k in
    let n = length c.args.words.now in
    rw c.write_word.ensures (write_one c.args.words.now c.loop-k.out n k (8 * (n - 1 - k)) (get_or c.args.words.now k 0) refl (c.loop-k.auto.out ∙ c.requires) c.loop-k-test.true refl refl (c.type_inv.words k).fits c.loop-k.invariant)
