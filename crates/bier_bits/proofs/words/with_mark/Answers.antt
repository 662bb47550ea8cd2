use Rattle.bier_bits.proofs.Marks.{mark_kept, mark_set}
use Rattle.bier_bits.proofs.words.with_mark.Goals as goal

pub returns-clause-kept : goal.returns-clause-kept
returns-clause-kept c j none = mark_kept c.args.marks _ j none

pub returns-clause-marked : goal.returns-clause-marked
returns-clause-marked c = mark_set c.args.marks c.args.k c.args.word c.requires
