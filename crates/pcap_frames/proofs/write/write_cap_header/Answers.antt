use Rattle.pcap_frames.proofs.Spelled.{header_written}
use Rattle.pcap_frames.proofs.write.write_cap_header.Goals as goal

pub returns-clause-again : goal.returns-clause-again
returns-clause-again c = header_written c.append.result c.args.out.now c.append.new.self c.append.ensures.ok
