use Rattle.isis_pdu.proofs.WriteLemmas.{csnp_read_again}
use Rattle.isis_pdu.proofs.writer.write_csnp.Goals as goal

pub returns-clause-again : goal.returns-clause-again
returns-clause-again c = csnp_read_again c.args.level c.args.source c.args.start c.args.last c.args.rows.now c.csnp_whole.result c.requires c.csnp_whole.ensures.spelled c.csnp_whole.ensures.source c.csnp_whole.ensures.fits c.csnp_whole.ensures.rows
