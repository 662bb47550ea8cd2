use Rattle.isis_pdu.proofs.WriteLemmas.{psnp_read_again}
use Rattle.isis_pdu.proofs.writer.write_psnp.Goals as goal

pub returns-clause-again : goal.returns-clause-again
returns-clause-again c = psnp_read_again c.args.level c.args.source c.args.rows.now c.psnp_whole.result c.requires c.psnp_whole.ensures.spelled c.psnp_whole.ensures.source c.psnp_whole.ensures.rows
