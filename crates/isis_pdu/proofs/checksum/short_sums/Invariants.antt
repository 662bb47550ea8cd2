use Rattle.std.proofs.Common.{◌≡◌, ◌≤◌, ◌-◌, ◌*◌, length, sum, take}
use Rattle.wire_base.specs.model.Checksum.{weighted}
use Rattle.isis_pdu.proofs.checksum.short_sums.Given as goal

-- the sums so far, and that neither outgrows 64 bits
abbrev pub invariant-sixteens : goal.invariant-sixteens
invariant-sixteens l = record {
  within : l.at ≤ length l.bytes;
  plain : l.plain ≡ sum (take l.at l.bytes);
  heavy : l.heavy ≡ weighted (take l.at l.bytes);
  low : l.plain ≤ 255 * l.at;
  small : l.heavy ≤ 16727745 * l.at;
}

abbrev pub decreases-sixteens : goal.decreases-sixteens
decreases-sixteens l = length l.bytes - l.at

abbrev pub invariant-ones : goal.invariant-ones
invariant-ones l = record {
  within : l.at ≤ length l.bytes;
  plain : l.plain ≡ sum (take l.at l.bytes);
  heavy : l.heavy ≡ weighted (take l.at l.bytes);
  low : l.plain ≤ 255 * l.at;
  small : l.heavy ≤ 16727745 * l.at;
}

abbrev pub decreases-ones : goal.decreases-ones
decreases-ones l = length l.bytes - l.at
