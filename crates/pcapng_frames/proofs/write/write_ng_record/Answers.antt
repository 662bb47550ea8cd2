use Rattle.std.proofs.Common.{arith}
use Rattle.pcapng_frames.proofs.AgainLaws.{packet_again}
use Rattle.pcapng_frames.proofs.write.write_ng_record.Goals as goal

pub returns-clause-again : goal.returns-clause-again
returns-clause-again c =
    packet_again c.append_whole_packet.result c.args.out.now c.append_whole_packet.new.out c.args.interface c.args.sec c.args.usec c.args.frame.now
    (omega (arith, c.ranges.interface.fits)) (omega (arith, c.ranges.sec.fits)) c.requires.part c.requires.short c.append_whole_packet.ensures.ok
