use Rattle.isis_pdu.proofs.WriteLemmas.{block_done}
use Rattle.isis_pdu.proofs.writer.append_block.Goals as goal

pub returns-clause-ok : goal.returns-clause-ok
returns-clause-ok c = block_done c.loop-s.out c.args.out.now c.args.entries.now c.loop-s.s-index c.loop-s-test.false c.loop-s.invariant.text c.loop-s.invariant.fits
