-- Files that are opened at their first call, and the results of their calls.
use Rattle.std.specs.Prelude.{ℕ, ◌≡◌, List, Option, None, Some, Result, Ok, MatchResult, IsErr}

-- what is specified is true; if nothing is specified, anything may be
abbrev pub Tells : Option (List ℕ) → Option (List ℕ) → Type 0
Tells None known = Unit {0}
Tells (Some octets) known = known ≡ Some octets

-- the octets that a file specifies of itself; before it is opened, those that are specified of it
abbrev pub told : {F : Type 0} → (F → Option (List ℕ)) → Option (List ℕ) → Option F → Option (List ℕ)
told tells before None = before
told tells before (Some file) = tells file

-- a result is passed on: its value, or that there is none
abbrev pub IsPassedOn : {T E G : Type 0} → Result T E → Result T G → Type 0
IsPassedOn answer passed = MatchResult answer (λ value. passed ≡ Ok value) (λ error. IsErr passed)
