-- Bounds on an optional length.
use Rattle.std.specs.Prelude.{ℕ, ◌≤◌, Option, Some, None}

-- there is a length, at most n
abbrev pub IsAtMost : Option ℕ → ℕ → Type 0
IsAtMost None n = ⊥
IsAtMost (Some m) n = m ≤ n
