use Rattle.laws_format.proofs.TlvListLaws.{tlvs_again, tlvs_parts, before_all, passes_are, are_passes, are_spelled}
use Rattle.laws_format.proofs.entries.tlvs_law.Goals as goal

pub returns-clause-again : goal.returns-clause-again
returns-clause-again c = tlvs_again

pub returns-clause-read : goal.returns-clause-read
returns-clause-read c = tlvs_parts

pub returns-clause-before : goal.returns-clause-before
returns-clause-before c = before_all

pub returns-clause-pass : goal.returns-clause-pass
returns-clause-pass c = passes_are

pub returns-clause-all : goal.returns-clause-all
returns-clause-all c = are_passes

pub returns-clause-spelled : goal.returns-clause-spelled
returns-clause-spelled c = are_spelled
