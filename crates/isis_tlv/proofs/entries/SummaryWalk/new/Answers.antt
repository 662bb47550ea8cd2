use Rattle.std.proofs.Common.{ap, ◌∙◌}
use Rattle.wire_base.specs.declared.faults.TlvFault.TheVariants.{EntryShort}
use Rattle.wire_base.specs.model.Tlv.{SummaryFits, row, row_at}
use Rattle.laws_format.proofs.TlvLaws.{row_again}
use Rattle.laws_format.proofs.TlvListLaws.{row_shortens}
use Rattle.isis_tlv.specs.Walked.{walked}
use Rattle.isis_tlv.proofs.WalkLemmas.{walked_entries, walked_again, row_none}
use Rattle.isis_tlv.proofs.entries.SummaryWalk.new.Goals as goal

pub returns-clause-entries : goal.returns-clause-entries
returns-clause-entries c = walked_entries row_at EntryShort row_shortens row_none c.args.value.now

pub returns-clause-again : goal.returns-clause-again
returns-clause-again c = λ all fits e. ap (walked row_at) e ∙ walked_again row_at row SummaryFits row_shortens row_again all fits
