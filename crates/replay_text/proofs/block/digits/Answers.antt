use Rattle.std.proofs.Common.{◌+◌, ◌*◌, ◌∙◌, ℕ, get_or, ap}
use Rattle.replay_text.specs.declared.block.TheConstants.{PAIRS}
use Rattle.replay_text.proofs.Pairs.{PAIRS_at}
use Rattle.replay_text.proofs.block.digits.Goals as goal

pub returns-clause-tens : goal.returns-clause-tens
returns-clause-tens c = ap (λ (n : ℕ). get_or PAIRS (n * 2) 0) c.from-from.ensures ∙ (PAIRS_at c.args.number c.requires).0

pub returns-clause-ones : goal.returns-clause-ones
returns-clause-ones c = ap (λ (n : ℕ). get_or PAIRS (n * 2 + 1) 0) c.from-from.ensures ∙ (PAIRS_at c.args.number c.requires).1
