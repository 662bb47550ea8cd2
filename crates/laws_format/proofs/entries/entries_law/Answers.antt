use Rattle.laws_format.proofs.TlvListLaws.{reaches_again, prefixes_again, rows_again}
use Rattle.laws_format.proofs.entries.entries_law.Goals as goal

pub returns-clause-reaches : goal.returns-clause-reaches
returns-clause-reaches c = reaches_again

pub returns-clause-prefixes : goal.returns-clause-prefixes
returns-clause-prefixes c = prefixes_again

pub returns-clause-rows : goal.returns-clause-rows
returns-clause-rows c = rows_again
