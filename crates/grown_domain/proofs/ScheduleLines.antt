-- The schedule, line by line.
use Rattle.std.proofs.Common.{◌≡◌, ◌<◌, ℕ, map, refl, subst, sym, arith}
use Rattle.std.specs.Prelude.{Result, Ok, Err, IfOk}
use Rattle.std.specs.List.{range_with_len}
use Rattle.replay_text.specs.declared.event.Line.{Line}
use Rattle.replay_text.specs.Events.{LineFits}
use Rattle.grown_domain.specs.Schedule.{grown_lines, sending, line_of, line_at}

pub lines_are : (n : ℕ) → map (line_of n) (map line_at (range_with_len 0 18)) ≡ grown_lines n
unfolding grown_lines
lines_are n = refl

-- a packet enters at a router that is there
pub sending_fits : {E : Type 0} (n entropy : ℕ) (result : Result Line E) → 0 < n → entropy < 65536 → IfOk result (λ line. line ≡ sending n entropy) → IfOk result (λ line. LineFits n line)
sending_fits n entropy (Ok line) some few is = subst (LineFits n) (sym is) (record { within = some; ttl_left = omega arith; entropy_fits = omega (arith, few); short = omega arith })
sending_fits n entropy (Err e) some few is = tt
