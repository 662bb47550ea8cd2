use Rattle.laws_format.proofs.TlvLaws.{row_again, row_takes, row_once}
use Rattle.laws_format.proofs.entries.row_law.Goals as goal

pub returns-clause-again : goal.returns-clause-again
returns-clause-again c = row_again

pub returns-clause-read : goal.returns-clause-read
returns-clause-read c = λ octets s rest fits e. let t = row_takes octets (s, rest) fits e in (t.1, t.0.parts)

pub returns-clause-one : goal.returns-clause-one
returns-clause-one c = row_once
