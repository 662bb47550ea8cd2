use Rattle.std.proofs.Common.{◌≡◌, ◌+◌, ◌-◌, ◌≤◌, length, drop}
use Rattle.std.specs.List.{position_or_len}
use Rattle.isis_flood.specs.Masks.{at_bit}
use Rattle.isis_flood.proofs.masks.first_with.Given as goal

-- none of those that were passed has the link
abbrev pub invariant-eights : goal.invariant-eights
invariant-eights l = record {
  within : l.place ≤ length l.masks;
  passed : l.place + position_or_len (λ mask. at_bit mask l.link) (drop l.place l.masks) ≡ l.from + position_or_len (λ mask. at_bit mask l.link) (drop l.from l.masks);
}

abbrev pub decreases-eights : goal.decreases-eights
decreases-eights l = length l.masks - l.place

abbrev pub invariant-masks : goal.invariant-masks
invariant-masks l = record {
  within : l.place ≤ length l.masks;
  passed : l.place + position_or_len (λ mask. at_bit mask l.link) (drop l.place l.masks) ≡ l.from + position_or_len (λ mask. at_bit mask l.link) (drop l.from l.masks);
}

abbrev pub decreases-masks : goal.decreases-masks
decreases-masks l = length l.masks - l.place
