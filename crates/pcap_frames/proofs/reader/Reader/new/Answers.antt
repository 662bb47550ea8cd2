use Rattle.std.proofs.Common.{List, ℕ, ap}
use Rattle.wire_base.specs.model.Capture.{HeaderToCome}
use Rattle.pcap_frames.proofs.Drained.{any_pieces}
use Rattle.pcap_frames.proofs.Spelled.{captures_are_read}
use Rattle.pcap_frames.proofs.reader.Reader.new.Goals as goal

pub returns-clause-pieces : goal.returns-clause-pieces
returns-clause-pieces c = any_pieces _ (ap (λ (l : List ℕ). record { stage = HeaderToCome; octets = l }) c.new.ensures.items)

pub returns-clause-captures : goal.returns-clause-captures
returns-clause-captures c = captures_are_read
