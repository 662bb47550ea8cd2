use Rattle.std.proofs.Common.{ℕ, ◌<◌, subst, sym, w64, bit_and, arith}
use Rattle.std.specs.Int.{bit_not}
use Rattle.bier_bits.specs.Sets.{IsRest}
use Rattle.bier_bits.proofs.Marks.{rest_none, rest_from, mask_is, mask_some}
use Rattle.bier_bits.proofs.words.marks_from.Goals as goal

pub returns-then-from-ge64 : goal.returns-then-from-ge64
returns-then-from-ge64 c = rest_none c.args.marks c.args.from (omega (arith, c.if-from-ge64.true))

pub overflow_sub-result : goal.overflow_sub-result
overflow_sub-result c = mask_some c.args.from (omega (arith, c.if-from-ge64.false))

pub returns : goal.returns
returns c =
    let few : c.args.from < 64 = omega (arith, c.if-from-ge64.false) in
    subst (λ (mask : ℕ). IsRest c.args.marks (bit_and c.args.marks (bit_not w64 mask)) c.args.from) (sym (mask_is c.args.from few)) (rest_from c.args.marks c.args.from few)
