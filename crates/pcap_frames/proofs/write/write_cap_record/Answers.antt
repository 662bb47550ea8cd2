use Rattle.std.proofs.Common.{arith}
use Rattle.pcap_frames.proofs.Spelled.{record_written}
use Rattle.pcap_frames.proofs.write.write_cap_record.Goals as goal

pub returns-clause-again : goal.returns-clause-again
returns-clause-again c = record_written c.append_record.result c.args.out.now c.append_record.new.out c.args.sec c.args.usec c.args.frame.now (omega (arith, c.ranges.sec.fits)) (omega (arith, c.ranges.usec.fits)) c.requires c.append_record.ensures.ok
