use Rattle.std.proofs.Common.{length, ap, List, ℕ, arith}
use Rattle.replay_text.proofs.Digits.{length_many}
use Rattle.command_headers.proofs.line.put_front.Goals as goal

pub number-requires : goal.number-requires
number-requires c = omega (arith, length_many c.args.number c.ranges.number.fits, ap (λ (l : List ℕ). length l) c.requires)

pub append-requires : goal.append-requires
append-requires c = omega (arith, length_many c.args.number c.ranges.number.fits, ap (λ (l : List ℕ). length l) c.requires, c.number.ensures.len, c.kind_text.ensures.six)

pub put_three-requires : goal.put_three-requires
put_three-requires c = omega (arith, length_many c.args.number c.ranges.number.fits, ap (λ (l : List ℕ). length l) c.requires, c.number.ensures.len, c.kind_text.ensures.six, c.append.ensures.len)

pub put_three-requires-2 : goal.put_three-requires-2
put_three-requires-2 c = omega (arith, length_many c.args.number c.ranges.number.fits, ap (λ (l : List ℕ). length l) c.requires, c.number.ensures.len, c.kind_text.ensures.six, c.append.ensures.len, c.put_three.ensures.len)
