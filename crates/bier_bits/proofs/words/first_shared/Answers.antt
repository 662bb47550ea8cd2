use Rattle.std.proofs.Common.{◌+◌, ◌*◌, arith, refl, get_or, length, bit_and}
use Rattle.std.proofs.lemmas.Nat.{and_le_l}
use Rattle.bier_bits.specs.Sets.{has_both}
use Rattle.bier_bits.proofs.Places.{both_none, both_word, word_none, word_some}
use Rattle.bier_bits.proofs.words.first_shared.Goals as goal

pub visits-init : goal.visits-init
visits-init c = both_none c.args.a.now c.args.b.now 0 c.args.from c.next_mark-k.result c.requires.none (λ j low lt. c.requires.shared j (c.next_mark-k.ensures.none j low lt))

pub returns-then-both-ne0 : goal.returns-then-both-ne0
returns-then-both-ne0 c =
    let a = c.args.a.now in
    let b = c.args.b.now in
    let k = c.visits.k in
    word_some (has_both a b) 0 k (bit_and (get_or a k 0) (get_or b k 0)) (64 * length a) (both_word a b k) (omega (arith, c.if-both-ne0.true)) (omega (arith, and_le_l (get_or a k 0) (get_or b k 0), (c.type_inv.a k).fits)) (omega arith) (omega (arith, c.visits-test.true)) c.visits.invariant

pub visits-preserved : goal.visits-preserved
visits-preserved c =
    let a = c.args.a.now in
    let b = c.args.b.now in
    let k = c.visits.k in
    both_none a b 0 (k + 1) c.next_mark-k-in-visits.result
    (word_none (has_both a b) 0 k (k + 1) (bit_and (get_or a k 0) (get_or b k 0)) (both_word a b k) c.if-both-ne0.false refl c.visits.invariant)
    (λ j low lt. c.requires.shared j (c.next_mark-k-in-visits.ensures.none j low lt))
