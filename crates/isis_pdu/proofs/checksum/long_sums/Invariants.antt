use Rattle.std.proofs.Common.{◌≡◌, ◌%◌, sum, take}
use Rattle.wire_base.specs.model.Checksum.{weighted}
use Rattle.isis_pdu.proofs.checksum.long_sums.Given as goal

abbrev pub invariant-loop-byte : goal.invariant-loop-byte
invariant-loop-byte l = (l.plain ≡ sum (take l.byte-index l.bytes) % 255) × (l.heavy ≡ weighted (take l.byte-index l.bytes) % 255)
