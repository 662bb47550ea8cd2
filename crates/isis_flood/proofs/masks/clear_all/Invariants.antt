use Rattle.std.proofs.Common.{◌≡◌, ℕ, ◌<◌, ◌≤◌, ◌++◌, false, map, set, take, drop}
use Rattle.isis_flood.specs.Masks.{links_in}
use Rattle.isis_flood.proofs.masks.clear_all.Given as goal

-- the masks so far are without the link, and the others are unchanged
abbrev pub invariant-masks : goal.invariant-masks
invariant-masks l = (n : ℕ) → l.link < n → n ≤ 64 → map (links_in n) l.masks ≡ map (λ flags. set flags l.link false) (take l.i (map (links_in n) l.fn.masks)) ++ drop l.i (map (links_in n) l.fn.masks)
