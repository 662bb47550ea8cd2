use Rattle.isis_pdu.proofs.WriteLemmas.{rows_short}
use Rattle.isis_pdu.proofs.writer.write_rows.Goals as goal

pub returns-clause-short : goal.returns-clause-short
returns-clause-short c = rows_short c.append_rows.new.out c.args.rows.now c.requires (rw c.in_ok-out.ensures at c.in_ok-append_rows.ensures.ok) c.in_ok-append_rows.ensures.fits
