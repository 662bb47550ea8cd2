use Rattle.std.proofs.Common.{ap, ◌∙◌}
use Rattle.wire_base.specs.declared.faults.TlvFault.TheVariants.{EntryShort}
use Rattle.wire_base.specs.model.Tlv.{PrefixFits, prefix, prefix_at}
use Rattle.laws_format.proofs.TlvLaws.{prefix_again}
use Rattle.laws_format.proofs.TlvListLaws.{prefix_shortens}
use Rattle.isis_tlv.specs.Walked.{walked}
use Rattle.isis_tlv.proofs.WalkLemmas.{walked_entries, walked_again, prefix_none}
use Rattle.isis_tlv.proofs.entries.PrefixWalk.new.Goals as goal

pub returns-clause-entries : goal.returns-clause-entries
returns-clause-entries c = walked_entries prefix_at EntryShort prefix_shortens prefix_none c.args.value.now

pub returns-clause-again : goal.returns-clause-again
returns-clause-again c = λ all fits e. ap (walked prefix_at) e ∙ walked_again prefix_at prefix PrefixFits prefix_shortens prefix_again all fits
