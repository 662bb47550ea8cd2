use Rattle.std.proofs.Common.{◌+◌, arith, get_or, bit_and, w64, ap, ◌∙◌, ℕ}
use Rattle.std.specs.Int.{bit_not}
use Rattle.std.specs.Int.Bits.{and_zero_l}
use Rattle.bier_bits.proofs.Joined.{cut_start, cut_more}
use Rattle.bier_bits.proofs.Marks.{kept_marked}
use Rattle.bier_bits.proofs.words.cut.Goals as goal

pub visits-init : goal.visits-init
visits-init c =
    let t = c.take_mark-k.ensures.taken c.args.shared c.args.from c.marks_from-rest.ensures in (
      cut_start c.args.words.now c.args.mask.now c.args.taken.now c.args.shared c.args.from c.take_mark-k.result (λ k. (c.type_inv.words k).fits) (λ k. (c.type_inv.mask k).fits) c.requires.none c.requires.shared t.none c.requires.empty,
      (c.requires.marked, t.rest),
    )

pub visits-preserved : goal.visits-preserved
visits-preserved c =
    let t = c.take_mark-k-in-visits.ensures.taken c.args.shared (c.visits.k + 1) c.visits.invariant.1.1 in (
      cut_more c.args.words.now c.visits.words c.args.mask.now c.visits.taken c.visits.taken_marks c.with_mark-taken_marks.result c.args.shared c.visits.k c.take_mark-k-in-visits.result
          (omega (arith, c.visits-test.true)) (omega (arith, c.visits.auto.words, c.visits.auto.taken, c.requires.taken)) (t.low (omega (arith, c.visits-test.true, c.visits.auto.words, c.requires.few)))
          (λ k. (c.type_inv.mask k).fits) c.requires.shared t.none c.with_mark-taken_marks.ensures.kept c.with_mark-taken_marks.ensures.marked c.visits.invariant.0,
      (
        kept_marked c.visits.words c.visits.left_marks c.kept_mark-left_marks.result c.visits.k _ (omega (arith, c.visits-test.true)) (omega (arith, c.visits.auto.words, c.requires.few))
            c.kept_mark-left_marks.ensures.others c.kept_mark-left_marks.ensures.here
            (λ zero. ap (λ (n : ℕ). bit_and n (bit_not w64 (get_or c.args.mask.now c.visits.k 0))) zero ∙ and_zero_l (bit_not w64 (get_or c.args.mask.now c.visits.k 0))) c.visits.invariant.1.0,
        t.rest,
      ),
    )
