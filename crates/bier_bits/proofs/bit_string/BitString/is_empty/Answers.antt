use Rattle.std.proofs.Common.{ℕ, Option, is_some, sym, ap, ◌∙◌}
use Rattle.bier_bits.proofs.Places.{none_first}
use Rattle.bier_bits.proofs.bit_string.BitString.is_empty.Goals as goal

pub returns : goal.returns
returns g c = none_first c.args.self.now c.is_none.result (sym (ap (λ (o : Option ℕ). is_some o) c.first.ensures) ∙ c.is_none.ensures)
