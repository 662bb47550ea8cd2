use Rattle.std.proofs.Common.{◌≡◌, length}
use Rattle.pcapng_frames.specs.Reading.{ng_next}
use Rattle.pcapng_frames.proofs.reader.NgReader.next.Given as goal

abbrev pub invariant-walk : goal.invariant-walk
invariant-walk l = ng_next l.self ≡ ng_next l.initial.self

abbrev pub decreases-walk : goal.decreases-walk
decreases-walk l = length l.self.octets
