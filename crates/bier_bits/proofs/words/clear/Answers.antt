use Rattle.std.proofs.Common.{◌+◌, arith}
use Rattle.bier_bits.proofs.Marks.{rest_all, cleared_start, cleared_more}
use Rattle.bier_bits.proofs.words.clear.Goals as goal

pub visits-init : goal.visits-init
visits-init c =
    let t = c.take_mark-k.ensures.taken c.args.marks 0 (rest_all c.args.marks) in
    (cleared_start c.args.words.now c.args.marks c.take_mark-k.result c.requires.marked (λ k lt. t.none k (omega arith) lt), t.rest)

pub visits-preserved : goal.visits-preserved
visits-preserved c =
    let t = c.take_mark-k-in-visits.ensures.taken c.args.marks (c.visits.k + 1) c.visits.invariant.1 in
    (cleared_more c.visits.words c.args.marks c.visits.k c.take_mark-k-in-visits.result (omega (arith, c.visits-test.true)) t.none c.visits.invariant.0, t.rest)
