use Rattle.std.proofs.Common.{◌≡◌, ◌^◌, ◌*◌, ◌+◌, ◌≤◌, ap, sym, ◌∙◌, arith}
use Rattle.std.proofs.lemmas.Grind.{pow_more}
use Rattle.std.proofs.Math.Nat.{pow-le-pow_right}
use Rattle.pcapng_frames.proofs.moment.power.Goals as goal

pub overflow_mul-product : goal.overflow_mul-product
overflow_mul-product c =
    let made : c.loop-done.product * c.args.base ≡ c.args.base ^ (c.loop-done.done + 1) = ap (λ p. p * c.args.base) c.loop-done.invariant ∙ sym (pow_more c.args.base c.loop-done.done) in
    let below : c.args.base ^ (c.loop-done.done + 1) ≤ c.args.base ^ c.args.exponent = pow-le-pow_right c.requires.some (omega arith) in
    omega (arith, made, below, c.requires.fits)
