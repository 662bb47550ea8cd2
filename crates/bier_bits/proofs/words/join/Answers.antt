use Rattle.std.proofs.Common.{arith}
use Rattle.bier_bits.proofs.Joined.{eight_more}
use Rattle.bier_bits.proofs.words.join.Goals as goal

pub loop-at-preserved : goal.loop-at-preserved
loop-at-preserved g c = record {
  within = omega arith;
  step = omega arith;
  done = λ k lt. rw c.join_eight.ensures (eight_more g.J.Joint.word c.args.a.now c.args.b.now c.loop-at.out c.loop-at.at (omega arith) c.requires.b (omega arith) c.loop-at.invariant.done k lt);
}
