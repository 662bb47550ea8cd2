use Rattle.std.proofs.Common.{rules, ◌≡◌, ◌<◌, ◌+◌, ◌-◌, ◌*◌, ℕ, true, Some, get_or, sym, ap, ◌∙◌, arith}
use Rattle.std.proofs.lemmas.Grind.{pow_more}
use Rattle.std.specs.Char.{is_ascii_digit}
use Rattle.replay_text.proofs.FirstIds.{digit_taken}
use Rattle.replay_text.proofs.tokens.front_number.Goals as goal

pub digits-preserved : goal.digits-preserved
digits-preserved c =
    let digit : is_ascii_digit (get_or c.args.text.now c.digits.count 0) ≡ true = sym c.is_ascii_digit.ensures.value ∙ c.if-is_ascii_digit.true in
    let read : get_or c.args.text.now c.digits.count 0 - 48 ≡ c.from.result = omega (arith, c.from.ensures) in
    let small : get_or c.args.text.now c.digits.count 0 - 48 < 10 = search rules in
    (search rules, omega (arith, c.digits.invariant.1, read, small, pow_more 10 c.digits.count), digit_taken c.args.text.now c.digits.count c.digits.value (search rules) c.digits.invariant.2 digit ∙ ap (λ (d : ℕ). Some (c.digits.value * 10 + d)) read)
