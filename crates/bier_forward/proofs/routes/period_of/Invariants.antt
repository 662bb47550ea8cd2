use Rattle.std.proofs.Common.{ℕ, ◌<◌, [], length, get_or}
use Rattle.bier_forward.specs.Kept.{FitsSize}
use Rattle.bier_forward.proofs.routes.period_of.Given as goal

abbrev pub invariant-loop-place : goal.invariant-loop-place
invariant-loop-place l = (i : ℕ) → i < l.place → FitsSize l.period (length (get_or l.stored i []))
