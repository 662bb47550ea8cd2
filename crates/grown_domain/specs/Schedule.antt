-- The schedule for that domain: it settles, router 0 injects packets for all routers, and it settles again.
use Rattle.std.specs.Prelude.{ℕ, ◌+◌, ◌-◌, ◌/◌, ◌==◌, if◌then◌else◌, List, [], ◌∷◌, ◌++◌, map}
use Rattle.std.specs.List.{range_with_len}
use Rattle.wire_base.specs.declared.bsl.Bsl.TheVariants.{B256}
use Rattle.replay_text.specs.declared.event.Event.TheVariants.{Inject}
use Rattle.replay_text.specs.declared.event.Line.{Line}
use Rattle.replay_text.specs.declared.event.Line.TheVariants.{One, Settle}
use Rattle.grown_domain.specs.declared.schedule.GrownLine.{GrownLine}
use Rattle.grown_domain.specs.declared.schedule.GrownLine.TheVariants as lines

-- as many rounds as the LSPs of the farthest routers need: halfway around the ring, and a few more
abbrev pub settling : ℕ → Line
settling n = Settle (n / 2 + 4)

-- A packet of one octet is injected at router 0 for all n BFR-ids, with that entropy.
abbrev pub sending : ℕ → ℕ → Line
sending n entropy = One (Inject 0 0 B256 (range_with_len 1 n) 255 entropy (0 ∷ []))

unfoldable pub grown_lines : ℕ → List Line
grown_lines n = settling n ∷ (map (sending n) (range_with_len 0 16) ++ settling n ∷ [])

-- ---- the same, line by line

-- a line in the domain of n routers
abbrev pub line_of : ℕ → GrownLine → Line
line_of n lines.Settle = settling n
line_of n (lines.Send entropy) = sending n entropy

-- the line at an index
abbrev pub line_at : ℕ → GrownLine
line_at i = if i == 0 then lines.Settle else if i == 17 then lines.Settle else lines.Send (i - 1)
