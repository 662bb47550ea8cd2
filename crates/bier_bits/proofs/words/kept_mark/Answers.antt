use Rattle.std.proofs.Common.{w64, sym, ◌∙◌}
use Rattle.std.proofs.lemmas.Nat.Bits.{bit_at_clear_other}
use Rattle.bier_bits.proofs.words.kept_mark.Goals as goal

pub returns-then-word-eq0-clause-others : goal.returns-then-word-eq0-clause-others
returns-then-word-eq0-clause-others c j low apart none = sym (bit_at_clear_other w64 c.args.marks c.args.k c.requires j low apart) ∙ none
