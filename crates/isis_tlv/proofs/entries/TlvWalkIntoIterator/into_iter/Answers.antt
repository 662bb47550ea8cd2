use Rattle.std.proofs.Common.{refl}
use Rattle.wire_base.specs.declared.faults.TlvFault.TheVariants.{Overrun}
use Rattle.wire_base.specs.model.Tlv.{one_tlv_at}
use Rattle.laws_format.proofs.TlvListLaws.{tlv_shortens}
use Rattle.isis_tlv.proofs.WalkLemmas.{walked_entries}
use Rattle.isis_tlv.proofs.entries.TlvWalkIntoIterator.into_iter.Goals as goal

pub returns-clause-before : goal.returns-clause-before
returns-clause-before c = walked_entries one_tlv_at Overrun tlv_shortens refl c.args.self
