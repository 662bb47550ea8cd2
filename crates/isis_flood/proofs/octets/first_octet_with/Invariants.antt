use Rattle.std.proofs.Common.{◌≡◌, ◌+◌, ◌-◌, ◌≤◌, length, drop}
use Rattle.std.specs.List.{position_or_len}
use Rattle.isis_flood.specs.Masks.{at_bit}
use Rattle.isis_flood.proofs.octets.first_octet_with.Given as goal

-- none of those that were passed has the link
abbrev pub invariant-chunks : goal.invariant-chunks
invariant-chunks l = record {
  within : l.place ≤ length l.octets;
  passed : l.place + position_or_len (λ mask. at_bit mask l.link) (drop l.place l.octets) ≡ l.from + position_or_len (λ mask. at_bit mask l.link) (drop l.from l.octets);
}

abbrev pub decreases-chunks : goal.decreases-chunks
decreases-chunks l = length l.octets - l.place

abbrev pub invariant-eights : goal.invariant-eights
invariant-eights l = record {
  within : l.place ≤ length l.octets;
  passed : l.place + position_or_len (λ mask. at_bit mask l.link) (drop l.place l.octets) ≡ l.from + position_or_len (λ mask. at_bit mask l.link) (drop l.from l.octets);
}

abbrev pub decreases-eights : goal.decreases-eights
decreases-eights l = length l.octets - l.place

abbrev pub invariant-masks : goal.invariant-masks
invariant-masks l = record {
  within : l.place ≤ length l.octets;
  passed : l.place + position_or_len (λ mask. at_bit mask l.link) (drop l.place l.octets) ≡ l.from + position_or_len (λ mask. at_bit mask l.link) (drop l.from l.octets);
}

abbrev pub decreases-masks : goal.decreases-masks
decreases-masks l = length l.octets - l.place
