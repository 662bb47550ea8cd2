use Rattle.laws_format.proofs.TlvListLaws.{rows_of_tlvs, row_tlvs_pass, row_tlvs_length}
use Rattle.laws_format.proofs.entries.rows_law.Goals as goal

pub returns-clause-again : goal.returns-clause-again
returns-clause-again c = rows_of_tlvs

pub returns-clause-pass : goal.returns-clause-pass
returns-clause-pass c = row_tlvs_pass

pub returns-clause-short : goal.returns-clause-short
returns-clause-short c = row_tlvs_length
