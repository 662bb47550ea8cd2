use Rattle.laws_format.proofs.PduLaws.{lsp_is, lsp_read, lsp_once}
use Rattle.laws_format.proofs.pdus.lsp_law.Goals as goal

pub returns-clause-spelled : goal.returns-clause-spelled
returns-clause-spelled c = lsp_is

pub returns-clause-again : goal.returns-clause-again
returns-clause-again c = lsp_read

pub returns-clause-one : goal.returns-clause-one
returns-clause-one c = lsp_once
