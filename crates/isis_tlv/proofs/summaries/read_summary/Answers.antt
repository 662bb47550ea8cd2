use Rattle.std.proofs.Common.{sym, ◌∙◌}
use Rattle.laws_format.proofs.TlvLaws.{row_once}
use Rattle.isis_tlv.proofs.summaries.read_summary.Goals as goal

pub returns-clause-only : goal.returns-clause-only
returns-clause-only c = λ s fits e. row_once c.summary_whole.result s c.summary_whole.ensures.found.0 fits (sym c.summary_whole.ensures.found.1 ∙ e)
