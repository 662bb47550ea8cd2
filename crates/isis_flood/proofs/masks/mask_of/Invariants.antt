use Rattle.std.proofs.Common.{◌≡◌, ℕ, ◌<◌, false, take, get_or}
use Rattle.isis_flood.specs.Masks.{at_bit}
use Rattle.isis_flood.proofs.masks.mask_of.Given as goal

-- the links so far, and no other
abbrev pub invariant-links : goal.invariant-links
invariant-links l = (j : ℕ) → j < 64 → at_bit l.mask j ≡ get_or (take l.i l.values) j false
