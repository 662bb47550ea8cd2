use Rattle.laws_format.proofs.PduLaws.{lsp_sum_right, lsp_sum_fits, lsp_sum_some, lsp_with_sum}
use Rattle.laws_format.proofs.checks.lsp_sum_law.Goals as goal

pub returns-clause-right : goal.returns-clause-right
returns-clause-right c = lsp_sum_right

pub returns-clause-fits : goal.returns-clause-fits
returns-clause-fits c = lsp_sum_fits

pub returns-clause-some : goal.returns-clause-some
returns-clause-some c = lsp_sum_some

pub returns-clause-whole : goal.returns-clause-whole
returns-clause-whole c = lsp_with_sum
