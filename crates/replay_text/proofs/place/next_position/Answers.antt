use Rattle.std.proofs.Common.{refl, arith}
use Rattle.replay_text.proofs.PlaceLaws.{word_passed, next_place, none_left, one_left, place_behind, position_low}
use Rattle.replay_text.proofs.place.next_position.Goals as goal

pub words-preserved : goal.words-preserved
words-preserved c =
    let octets = c.args.octets.now in
    let words = c.words.invariant in
    record {
      is = next_place octets c.words.at c.words.from c.words.above c.word_at-above.result words.is (omega (arith, c.if-at-eq0.false)) c.word_at-above.ensures;
      passed = λ i low high. word_passed octets c.args.place.now.from c.words.at c.words.from c.words.above words.is c.words-test.true words.passed i low (omega (arith, high, words.is.within, words.is.word, c.if-at-eq0.false));
      later = omega (arith, words.later, words.is.high, words.is.within, words.is.word, c.if-at-eq0.false);
    }

pub returns-then-at-eq0-clause-next : goal.returns-then-at-eq0-clause-next
returns-then-at-eq0-clause-next c =
    none_left c.args.octets.now c.args.place.now.from c.words.at c.words.from c.words.above (λ k. (c.type_inv.octets k).fits) c.words.invariant.is c.words-test.true c.if-at-eq0.true c.words.invariant.passed

pub returns-clause-place : goal.returns-clause-place
returns-clause-place c = place_behind c.args.octets.now c.words.at c.words.from c.words.above _ (λ k. (c.type_inv.octets k).fits) c.words.invariant.is (omega (arith, c.words-test.false)) refl

pub returns-clause-next : goal.returns-clause-next
returns-clause-next c =
    one_left c.args.octets.now c.args.place.now.from c.words.at c.words.from c.words.above _ (λ k. (c.type_inv.octets k).fits) c.words.invariant.is (omega (arith, c.words-test.false)) c.words.invariant.passed c.words.invariant.later refl

pub returns-clause-high : goal.returns-clause-high
returns-clause-high c = position_low c.args.octets.now c.words.at c.words.from c.words.above _ (λ k. (c.type_inv.octets k).fits) c.words.invariant.is (omega (arith, c.words-test.false)) refl
