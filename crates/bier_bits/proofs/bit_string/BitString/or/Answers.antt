use Rattle.std.proofs.Common.{arith, ℕ}
use Rattle.std.proofs.lemmas.List.{length-replicate}
use Rattle.bier_bits.proofs.Joined.{or_is}
use Rattle.bier_bits.proofs.Marks.{marked_or}
use Rattle.bier_bits.proofs.bit_string.BitString.or.Goals as goal

pub returns : goal.returns
returns g c = or_is g.row.W c.self.inside.lanes c.other.inside.lanes c.join.new.out c.args.self.now c.args.other.now c.join.ensures.fits c.self.view_is c.other.view_is (λ k lt. c.join.ensures.joined k (omega (arith, c.self.told, lt)))

pub invariant_of-result : goal.invariant_of-result
invariant_of-result g c = marked_or c.self.inside.marks c.other.inside.marks c.self.inside.lanes c.other.inside.lanes c.join.new.out c.self.invariant c.other.invariant (λ k lt. c.join.ensures.joined k (omega (arith, lt, c.self.told, c.join.auto.out, length-replicate {A = ℕ} g.row.W 0)))
