use Rattle.isis_hello.proofs.FrameLemmas.{frame_from}
use Rattle.isis_hello.proofs.writer.hello_frame.Goals as goal

pub returns-clause-parsed : goal.returns-clause-parsed
returns-clause-parsed c = frame_from c.args.conf.now c.args.end.now c.args.h.now c.frame_octets.result c.requires c.frame_octets.ensures.spelled c.frame_octets.ensures.fits
