use Rattle.std.proofs.Common.{◌^◌, arith}
use Rattle.std.proofs.Math.Nat.{div-le_self}
use Rattle.bier_bits.proofs.Marks.{none_above, none_before}
use Rattle.bier_bits.proofs.words.next_mark.Goals as goal

pub returns-then-above-eq0-clause-none : goal.returns-then-above-eq0-clause-none
returns-then-above-eq0-clause-none c k low lt = none_above c.args.marks c.args.from k c.if-above-eq0.true low

pub returns-clause-none : goal.returns-clause-none
returns-clause-none c k low lt = none_before c.args.marks c.args.from k (omega (arith, c.if-above-eq0.false)) (omega (arith, div-le_self c.args.marks (2 ^ c.args.from), c.ranges.marks.fits)) low lt
