-- Schedules as text, and lines of reports.
use Rattle.std.specs.Prelude.{ℕ, List, [], ◌∷◌, ◌++◌, codes}

-- a line with its LF
abbrev pub said : List ℕ → List ℕ
said text = text ++ 10 ∷ []

-- a frame that does not exist
abbrev pub too_few : List (List ℕ)
too_few = codes "send A B" ∷ codes "send A B" ∷ codes "take A B 5" ∷ codes "tick A" ∷ []

-- a router that does not exist, after a comment
abbrev pub nobody : List (List ℕ)
nobody = codes "# Z isn't there" ∷ codes "tick Z" ∷ codes "jump" ∷ []
