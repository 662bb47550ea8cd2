use Rattle.pcapng_frames.proofs.AgainLaws.{head_again}
use Rattle.pcapng_frames.proofs.write.write_ng_head.Goals as goal

pub returns-clause-again : goal.returns-clause-again
returns-clause-again c = head_again c.append_whole_head.result c.args.out.now c.append_whole_head.new.out c.args.interfaces c.append_whole_head.ensures.ok
