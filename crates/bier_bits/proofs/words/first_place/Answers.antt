use Rattle.std.proofs.Common.{◌*◌, arith, get_or, length}
use Rattle.bier_bits.specs.Sets.{has_place}
use Rattle.bier_bits.proofs.Places.{word_some, words_none}
use Rattle.bier_bits.proofs.WordLaws.{place_at}
use Rattle.bier_bits.proofs.words.first_place.Goals as goal

pub returns : goal.returns
returns c =
    let words = c.args.words.now in
    let k = c.first_word-k.result in
    word_some (has_place words) 0 k (get_or words k 0) (64 * length words) (place_at words k) (c.first_word-k.ensures.found c.if-k-words.false) (c.first_word-k.ensures.fits k) (omega arith) (omega (arith, c.if-k-words.false)) (words_none words k c.first_word-k.ensures.zero)
