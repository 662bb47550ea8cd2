use Rattle.std.proofs.Common.{◌<◌, ◌*◌, arith, get_or, length, w64}
use Rattle.std.specs.Int.{trailing_zeros}
use Rattle.std.proofs.lemmas.Nat.Bits.{bit_at-trailing_zeros}
use Rattle.bier_bits.specs.Sets.{has_place}
use Rattle.bier_bits.proofs.Marks.{rest_all}
use Rattle.bier_bits.proofs.Places.{first_left, word_some, words_none}
use Rattle.bier_bits.proofs.WordLaws.{place_at}
use Rattle.bier_bits.proofs.words.take_place.Goals as goal

pub returns-clause-place : goal.returns-clause-place
returns-clause-place c =
    let words = c.args.words.now in
    let k = c.first_word-k.result in
    word_some (has_place words) 0 k (get_or words k 0) (64 * length words) (place_at words k) (c.first_word-k.ensures.found c.if-k-words.false) (c.first_word-k.ensures.fits k) (omega arith) (omega (arith, c.if-k-words.false)) (words_none words k c.first_word-k.ensures.zero)

pub returns-clause-left : goal.returns-clause-left
returns-clause-left c =
    let words = c.args.words.now in
    let k = c.first_word-k.result in
    let word = get_or words k 0 in
    let few : trailing_zeros w64 word < 64 = (bit_at-trailing_zeros w64 word (c.first_word-k.ensures.found c.if-k-words.false) (c.first_word-k.ensures.fits k)).0 in
    first_left words k (trailing_zeros w64 word) c.without_least-left.result c.if-k-words.false few (words_none words k c.first_word-k.ensures.zero) (c.without_least-left.ensures word 0 (rest_all word)).rest
