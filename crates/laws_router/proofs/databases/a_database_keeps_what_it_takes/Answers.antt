use Rattle.laws_router.proofs.KeptLaws.{lsp_kept, csnp_kept, psnp_kept}
use Rattle.laws_router.proofs.databases.a_database_keeps_what_it_takes.Goals as goal

pub returns-clause-lsp : goal.returns-clause-lsp
returns-clause-lsp _ own up spent f es k link open_ h tlvs short = (lsp_kept own up spent f es k link open_ h tlvs short).kept

pub returns-clause-csnp : goal.returns-clause-csnp
returns-clause-csnp _ own up spent link open_ f es start last tlvs k = (csnp_kept own up spent link open_ f es start last tlvs k).kept

pub returns-clause-psnp : goal.returns-clause-psnp
returns-clause-psnp _ own up spent link open_ f es tlvs k = (psnp_kept own up spent link open_ f es tlvs k).kept
