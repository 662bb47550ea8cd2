use Rattle.std.proofs.Common.{ap, ◌∙◌}
use Rattle.wire_base.specs.declared.faults.TlvFault.TheVariants.{EntryShort}
use Rattle.wire_base.specs.model.Tlv.{ReachFits, reach, reach_at}
use Rattle.laws_format.proofs.TlvLaws.{reach_again}
use Rattle.laws_format.proofs.TlvListLaws.{reach_shortens}
use Rattle.isis_tlv.specs.Walked.{walked}
use Rattle.isis_tlv.proofs.WalkLemmas.{walked_entries, walked_again, reach_none}
use Rattle.isis_tlv.proofs.entries.ReachWalk.new.Goals as goal

pub returns-clause-entries : goal.returns-clause-entries
returns-clause-entries c = walked_entries reach_at EntryShort reach_shortens reach_none c.args.value.now

pub returns-clause-again : goal.returns-clause-again
returns-clause-again c = λ all fits e. ap (walked reach_at) e ∙ walked_again reach_at reach ReachFits reach_shortens reach_again all fits
