use Rattle.laws_format.proofs.TlvLaws.{tlv_again, tlv_parts, tlv_once}
use Rattle.laws_format.proofs.entries.tlv_law.Goals as goal

pub returns-clause-again : goal.returns-clause-again
returns-clause-again c = tlv_again

pub returns-clause-read : goal.returns-clause-read
returns-clause-read c = tlv_parts

pub returns-clause-one : goal.returns-clause-one
returns-clause-one c = tlv_once
